use Rattle.std.proofs.Common.{ap, sym, ◌∙◌, length}
use Rattle.uma_life.specs.Hook.{Dtor, tally_after}
use Rattle.uma_life.specs.Life.{Life}
use Rattle.uma_life.specs.Trail.{open_stays}
use Rattle.uma_item.specs.declared.item.Item.{Item}
use Rattle.uma_item.specs.declared.trail.Trailed.{Trailed}
use Rattle.uma_item.specs.Counts.{tally_by, kept_stays}
use Rattle.uma_item.proofs.item.Item.end_use.Goals as goal
use Rattle.uma_item.proofs.Passing.{dtor-tally, stays_kept}

-- src/trail.rt:46:9
pub invariant_of-self : goal.invariant_of-self
invariant_of-self g c =
    let item : Item g.row.B.Denot = c.args.self.now in
    record { counted = λ zone stays. ap (λ (whole : Trailed g.row.B.Denot). length (kept_stays whole.stays)) c.deref_mut.ensures.value ∙ item.counted zone (ap (λ phase. open_stays phase zone) c.requires.phase ∙ stays_kept c.args.zone zone ∙ ap (λ phase. open_stays phase zone) (sym c.unbuilt.ensures) ∙ stays) }

-- src/trail.rt:41:5
pub returns-clause-life : goal.returns-clause-life
returns-clause-life g c =
    let was : Trailed g.row.B.Denot = c.args.self.now.whole.value in
    let then : Trailed g.row.B.Denot → Life = λ whole. record { no = whole.no; phase = c.unbuilt.result; tally = tally_by c.unbuilt.result whole.ctors (kept_stays whole.stays) } in
    ap then c.deref_mut.ensures.value ∙ (λ i. record { no = was.no; phase = c.unbuilt.ensures i; tally = (ap (λ phase. tally_by phase was.ctors (kept_stays was.stays)) c.unbuilt.ensures ∙ dtor-tally c.args.zone was.ctors (kept_stays was.stays) c.requires.zone ∙ ap (λ phase. tally_after (Dtor c.args.zone) (tally_by phase was.ctors (kept_stays was.stays))) (sym c.requires.phase)) i })
