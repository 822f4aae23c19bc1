use Rattle.std.proofs.Common.{◌≡◌, ◌≢◌, ◌<◌, ◌-◌, ℕ, cond, ap, sym, subst, ◌∙◌, arith, length, slice_set}
use Rattle.std.proofs.lemmas.Bool.{ne_eqb}
use Rattle.std.proofs.lemmas.List.{length-set}
use Rattle.uma_life.specs.Hook.{Ctor, tally_after}
use Rattle.uma_life.specs.Life.{Life}
use Rattle.uma_life.specs.declared.tally.BodyPhase.TheVariants.{Zoned, Built, Kept}
use Rattle.uma_item.specs.declared.item.Item.{Item}
use Rattle.uma_item.specs.declared.trail.Trailed.{Trailed}
use Rattle.uma_item.specs.Counts.{tally_by, stay_at, with_ctor, kept_stays}
use Rattle.uma_item.proofs.item.Item.begin_use_in_stay.Goals as goal
use Rattle.uma_item.proofs.Passing.{ctor_tally-staying, staying}

-- src/trail.rt:130:9
pub invariant_of-self : goal.invariant_of-self
invariant_of-self g c =
    let item : Item g.row.B.Denot = c.args.self.now in
    let was : Trailed g.row.B.Denot = item.whole.value in
    let zone : ℕ = c.args.zone in
    let from_one = c.requires.secondary in
    record { counted = λ other stays. ap (λ (whole : Trailed g.row.B.Denot). length (kept_stays whole.stays)) c.deref_mut-2.ensures.value ∙ ap length c.count_ctor.ensures ∙ length-set (kept_stays c.deref_mut.result.now.stays) (zone - 1) (with_ctor (stay_at (kept_stays c.deref_mut.result.now.stays) zone)) ∙ ap (λ (whole : Trailed g.row.B.Denot). length (kept_stays whole.stays)) c.deref_mut.ensures.value ∙ staying was.phase zone (kept_stays was.stays) item.counted (λ e. absurd (omega arith)) c.requires.free.phase }

-- src/trail.rt:121:5
pub returns-clause-life : goal.returns-clause-life
returns-clause-life g c =
    let item : Item g.row.B.Denot = c.args.self.now in
    let was : Trailed g.row.B.Denot = item.whole.value in
    let zone : ℕ = c.args.zone in
    let from_one = c.requires.secondary in
    let small = c.requires.free.zone in
    let not_zero : zone ≢ 0 = λ e. absurd (omega arith) in
    let seven = staying was.phase zone (kept_stays was.stays) item.counted not_zero c.requires.free.phase in
    let zoned : was.phase ≡ Zoned zone = c.requires.free.phase ∙ (λ i. cond (ne_eqb zone 0 not_zero i) Kept (Zoned zone)) in
    let within : zone - 1 < length (kept_stays was.stays) = subst (λ n. zone - 1 < n) (sym seven) (omega arith) in
    let then : Trailed g.row.B.Denot → Life = λ whole. record { no = whole.no; phase = Built zone; tally = tally_by (Built zone) whole.ctors (slice_set (kept_stays whole.stays) (zone - 1) (with_ctor (stay_at (kept_stays whole.stays) zone))) } in
    let last : Trailed g.row.B.Denot → Life = λ whole. record { no = whole.no; phase = Built zone; tally = tally_by (Built zone) whole.ctors (kept_stays whole.stays) } in
    ap last c.deref_mut-2.ensures.value
    ∙ (λ i. record { no = c.deref_mut.result.now.no; phase = Built zone; tally = tally_by (Built zone) c.deref_mut.result.now.ctors (c.count_ctor.ensures i) })
    ∙ ap then c.deref_mut.ensures.value
    ∙ (λ i. record { no = was.no; phase = Built zone; tally = (ctor_tally-staying zone was.ctors (kept_stays was.stays) small not_zero within ∙ ap (λ phase. tally_after (Ctor zone) (tally_by phase was.ctors (kept_stays was.stays))) (sym zoned)) i })
