use Rattle.std.proofs.Common.{ap, sym, ◌∙◌, arith}
use Rattle.uma_life.specs.Hook.{ZoneFini, tally_after}
use Rattle.uma_life.specs.Life.{Life}
use Rattle.uma_life.specs.declared.tally.BodyPhase.TheVariants.{Kept}
use Rattle.uma_item.specs.declared.trail.Trailed.{Trailed}
use Rattle.uma_item.specs.Counts.{tally_by, kept_stays}
use Rattle.uma_item.proofs.item.Item.leave.Goals as goal
use Rattle.uma_item.proofs.Passing.{leave_tally}

-- src/trail.rt:50:5
pub returns-clause-life : goal.returns-clause-life
returns-clause-life g c =
    let was : Trailed g.row.B.Denot = c.args.self.now.whole.value in
    let then : Trailed g.row.B.Denot → Life = λ whole. record { no = whole.no; phase = Kept; tally = tally_by Kept whole.ctors (kept_stays whole.stays) } in
    ap then c.deref_mut.ensures.value ∙ (λ i. record { no = was.no; phase = Kept; tally = (leave_tally c.args.zone was.ctors (kept_stays was.stays) c.requires.zone.1 (let h = c.requires.zone.0 in omega arith) ∙ ap (λ phase. tally_after (ZoneFini c.args.zone) (tally_by phase was.ctors (kept_stays was.stays))) (sym c.requires.phase)) i })
