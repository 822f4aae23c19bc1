use Rattle.std.proofs.Common.{sym, ◌∙◌}
use Rattle.smr_clock.specs.Belongs.{view}
use Rattle.smr_hold.proofs.LookLemmas.{held_value}
use Rattle.smr_hold.proofs.holds.read.Goals as goal

pub returns-clause-held : goal.returns-clause-held
returns-clause-held c =
    held_value (view c.args.pass.now) c.args.hold.now.cell c.args.hold.now.slot c.load_value.result c.requires.holds (λ r h e f. c.load_value.ensures.reads.held r h (e ∙ sym c.cell.ensures) (f ∙ sym c.slot.ensures))
