use Rattle.std.proofs.Common.{ℕ, Option, ap, refl, sym, subst, ◌∙◌}
use Rattle.uma_life.specs.Hook.{Ctor, after}
use Rattle.uma_life.specs.Life.{Life}
use Rattle.uma_item.specs.declared.trail.Trailed.{Trailed}
use Rattle.uma_item.specs.Counts.{tally_by, kept_stays, KeepsItsStays}
use Rattle.uma_item.proofs.trail.TrailHooksHooksItem.ctor.Goals as goal
use Rattle.uma_item.proofs.Same.{both_same, data_back, refused_by}

pub invariant_of-item : goal.invariant_of-item
invariant_of-item g c = record { counted = subst (λ (whole : Trailed g.row.B.Denot). KeepsItsStays whole.phase (kept_stays whole.stays)) (sym c.deref_mut.ensures.value) c.args.item.now.counted }

pub begin_use-requires : goal.begin_use-requires
begin_use-requires g c = record { zone = c.requires.zone; phase = ap (λ (whole : Trailed g.row.B.Denot). whole.phase) c.deref_mut.ensures.value ∙ c.requires.phase }

pub returns-in_err-ctor : goal.returns-in_err-ctor
returns-in_err-ctor g c =
    let refusal : Trailed g.row.B.Denot → Option ℕ = λ whole. g.K.ItemHooks.refuses_ctor c.args.self.now.hooks whole.data c.args.zone c.args.arg in
    let told = c.in_err-ctor.ensures.refuses in
    refused_by _ _ _ _ _ _ _ c.from_residual.result c.in_err-ctor.field-0.0 c.from_residual.ensures.1 (ap refusal (sym c.deref_mut.ensures.value) ∙ told.0) told.1 (data_back c.args.item.now _ c.deref_mut.result.now c.ctor.new.item c.deref_mut.ensures.value c.in_err-ctor.ensures.unchanged refl)

pub returns : goal.returns
returns g c =
    let refusal : Trailed g.row.B.Denot → Option ℕ = λ whole. g.K.ItemHooks.refuses_ctor c.args.self.now.hooks whole.data c.args.zone c.args.arg in
    let then : Trailed g.row.B.Denot → Life = λ whole. after (Ctor c.args.zone) (record { no = whole.no; phase = whole.phase; tally = tally_by whole.phase whole.ctors (kept_stays whole.stays) }) in
    let leaves : g.row.B.Denot → g.row.B.Denot → Type 0 = λ was left. g.K.ItemHooks.leaves_ctor c.args.self.now.hooks was c.args.zone c.args.arg left in
    record {
      passed = c.begin_use.ensures.life ∙ ap then c.deref_mut.ensures.value;
      same_origin = refl;
      left = both_same leaves _ _ _ _ (ap (λ (whole : Trailed g.row.B.Denot). whole.data) c.deref_mut.ensures.value) c.begin_use.ensures.data c.in_ok-ctor.ensures.left;
      accepts = ap refusal (sym c.deref_mut.ensures.value) ∙ c.in_ok-ctor.ensures.accepts;
      refuses = tt;
      unchanged = tt;
    }
