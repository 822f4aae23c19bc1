-- A field of six bytes, each of which is known, is that text.
use Rattle.std.proofs.Common.{rules, ◌≡◌, refl, arith}
use Rattle.std.specs.Prelude.{codes}
use Rattle.std.proofs.lemmas.Slice.Eq.{text_from_reads}
use Rattle.command_line.proofs.command.Command.named.Goals as goal

pub returns-in-replay-clause-is : goal.returns-in-replay-clause-is
returns-in-replay-clause-is c =
    let is : c.args.word.now ≡ codes "replay" = text_from_reads c.args.word.now (codes "replay") (omega (arith, c.in-replay.len_at_least, c.in-replay.len_below)) (search rules) in
    rw is refl
