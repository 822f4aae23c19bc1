use Rattle.std.proofs.Common.{◌≡◌, sym, ◌∙◌}
use Rattle.name_rows.specs.declared.entry.EntryState.TheVariants.{Clean, Written}
use Rattle.name_rows.specs.Moving.{taken}
use Rattle.name_rows.proofs.SeatMoves.{join_keeps, takes_in}
use Rattle.name_rows.proofs.row_steps.take_in.Goals as goal

pub seat_join-requires-clause-keeps : goal.seat_join-requires-clause-keeps
seat_join-requires-clause-keeps c =
    join_keeps _ _ _ _ _ taken c.requires.here.1 c.args.words.seat.is_note
    (takes_in _ _ c.args.words.kept c.args.words.no_rows c.args.words.owns (λ e. let f : Written ≡ Clean = sym c.requires.written ∙ e in cc))
