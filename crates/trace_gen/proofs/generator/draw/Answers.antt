use Rattle.std.proofs.Common.{ℕ, ◌%◌, List, ap}
use Rattle.trace_gen.specs.Generator.{draw}
use Rattle.trace_gen.proofs.generator.draw.Goals as goal

pub returns-clause-drawn : goal.returns-clause-drawn
unfolding draw
returns-clause-drawn c = ap (λ (word : ℕ × List ℕ). (word.0 % c.args.n, word.1)) c.next_word.ensures
