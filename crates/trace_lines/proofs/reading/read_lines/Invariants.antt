use Rattle.std.proofs.Common.{length}
use Rattle.trace_lines.proofs.Following.{Follows}
use Rattle.trace_lines.proofs.reading.read_lines.Given as goal

abbrev pub invariant-lines : goal.invariant-lines
invariant-lines g l = Follows g.G.Grammar.test g.G.Grammar.shows l.text l.rest l.number l.grammar × g.G.Grammar.kept l.grammar

abbrev pub decreases-lines : goal.decreases-lines
decreases-lines g l = length l.rest
