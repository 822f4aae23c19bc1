use Rattle.std.proofs.Common.{ℕ, ap, refl, sym, subst, ◌∙◌}
use Rattle.uma_life.specs.Hook.{ZoneFini, after}
use Rattle.uma_life.specs.Life.{Life}
use Rattle.uma_item.specs.declared.trail.Trailed.{Trailed}
use Rattle.uma_item.specs.Counts.{tally_by, kept_stays, KeepsItsStays}
use Rattle.uma_item.proofs.trail.TrailHooksHooksItem.zone_fini.Goals as goal
use Rattle.uma_item.proofs.Same.{both_same}

pub invariant_of-item : goal.invariant_of-item
invariant_of-item g c = record { counted = subst (λ (whole : Trailed g.row.B.Denot). KeepsItsStays whole.phase (kept_stays whole.stays)) (sym c.deref_mut.ensures.value) c.args.item.now.counted }

pub leave-requires : goal.leave-requires
leave-requires g c = record { zone = c.requires.zone; phase = ap (λ (whole : Trailed g.row.B.Denot). whole.phase) c.deref_mut.ensures.value ∙ c.requires.phase }

pub returns : goal.returns
returns g c =
    let zone : ℕ = c.args.zone in
    let then : Trailed g.row.B.Denot → Life = λ whole. after (ZoneFini zone) (record { no = whole.no; phase = whole.phase; tally = tally_by whole.phase whole.ctors (kept_stays whole.stays) }) in
    let leaves : g.row.B.Denot → g.row.B.Denot → Type 0 = λ was left. g.K.ItemHooks.leaves_fini c.args.self.now.hooks was zone left in
    record {
      passed = c.leave.ensures.life ∙ ap then c.deref_mut.ensures.value;
      same_origin = refl;
      left = both_same leaves _ _ _ _ (ap (λ (whole : Trailed g.row.B.Denot). whole.data) c.deref_mut.ensures.value) c.leave.ensures.data c.fini.ensures;
    }
