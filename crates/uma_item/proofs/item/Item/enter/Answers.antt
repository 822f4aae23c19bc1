use Rattle.std.proofs.Common.{◌<◌, ◌-◌, ℕ, ap, sym, subst, ◌∙◌, arith, length, slice_set}
use Rattle.std.proofs.lemmas.List.{length-set}
use Rattle.uma_life.specs.Hook.{ZoneInit, tally_after}
use Rattle.uma_life.specs.Life.{Life}
use Rattle.uma_life.specs.declared.tally.BodyPhase.TheVariants.{Zoned}
use Rattle.uma_item.specs.declared.trail.Trailed.{Trailed}
use Rattle.uma_item.specs.Counts.{tally_by, stay_at, with_init, kept_stays}
use Rattle.uma_item.proofs.item.Item.enter.Goals as goal
use Rattle.uma_item.proofs.Passing.{enter_tally}

-- src/trail.rt:100:9
pub invariant_of-self : goal.invariant_of-self
invariant_of-self g c =
    let zone : ℕ = c.args.zone in
    record { counted = λ other stays. ap (λ (whole : Trailed g.row.B.Denot). length (kept_stays whole.stays)) c.deref_mut-2.ensures.value ∙ ap length c.count_init.ensures ∙ length-set (kept_stays c.deref_mut.result.now.stays) (zone - 1) (with_init (stay_at (kept_stays c.deref_mut.result.now.stays) zone)) ∙ ap (λ (whole : Trailed g.row.B.Denot). length (kept_stays whole.stays)) c.deref_mut.ensures.value ∙ c.requires.counts }

-- src/trail.rt:91:5
pub returns-clause-life : goal.returns-clause-life
returns-clause-life g c =
    let was : Trailed g.row.B.Denot = c.args.self.now.whole.value in
    let zone : ℕ = c.args.zone in
    let from_one = c.requires.free.zone.0 in
    let small = c.requires.free.zone.1 in
    let seven = c.requires.counts in
    let within : zone - 1 < length (kept_stays was.stays) = subst (λ n. zone - 1 < n) (sym seven) (omega arith) in
    let then : Trailed g.row.B.Denot → Life = λ whole. record { no = whole.no; phase = Zoned zone; tally = tally_by (Zoned zone) whole.ctors (slice_set (kept_stays whole.stays) (zone - 1) (with_init (stay_at (kept_stays whole.stays) zone))) } in
    let last : Trailed g.row.B.Denot → Life = λ whole. record { no = whole.no; phase = Zoned zone; tally = tally_by (Zoned zone) whole.ctors (kept_stays whole.stays) } in
    ap last c.deref_mut-2.ensures.value
    ∙ (λ i. record { no = c.deref_mut.result.now.no; phase = Zoned zone; tally = tally_by (Zoned zone) c.deref_mut.result.now.ctors (c.count_init.ensures i) })
    ∙ ap then c.deref_mut.ensures.value
    ∙ (λ i. record { no = was.no; phase = Zoned zone; tally = (enter_tally zone was.ctors (kept_stays was.stays) small (λ e. absurd (omega arith)) within ∙ ap (λ phase. tally_after (ZoneInit zone) (tally_by phase was.ctors (kept_stays was.stays))) (sym c.requires.free.phase)) i })
