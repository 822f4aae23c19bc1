use Rattle.std.proofs.Common.{ℕ, Option, ap, refl, sym, subst, ◌∙◌}
use Rattle.uma_life.specs.Hook.{KegInit, after}
use Rattle.uma_life.specs.Life.{Life}
use Rattle.uma_item.specs.declared.trail.Trailed.{Trailed}
use Rattle.uma_item.specs.Counts.{tally_by, kept_stays, KeepsItsStays}
use Rattle.uma_item.proofs.trail.TrailHooksHooksItem.keg_init.Goals as goal
use Rattle.uma_item.proofs.Same.{both_same, data_back, refused_by}

pub invariant_of-item : goal.invariant_of-item
invariant_of-item g c = record { counted = subst (λ (whole : Trailed g.row.B.Denot). KeepsItsStays whole.phase (kept_stays whole.stays)) (sym c.deref_mut.ensures.value) c.args.item.now.counted }

pub come-requires : goal.come-requires
come-requires g c = record { zone = c.requires.zone; phase = ap (λ (whole : Trailed g.row.B.Denot). whole.phase) c.deref_mut.ensures.value ∙ c.requires.phase }

pub returns-in_err-init : goal.returns-in_err-init
returns-in_err-init g c =
    let refusal : Trailed g.row.B.Denot → Option ℕ = λ whole. g.K.ItemHooks.refuses_init c.args.self.now.hooks whole.data 0 in
    let told = c.in_err-init.ensures.refuses in
    refused_by _ _ _ _ _ _ _ c.from_residual.result c.in_err-init.field-0.0 c.from_residual.ensures.1 (ap refusal (sym c.deref_mut.ensures.value) ∙ told.0) told.1 (data_back c.args.item.now _ c.deref_mut.result.now c.init.new.item c.deref_mut.ensures.value c.in_err-init.ensures.unchanged refl)

pub returns : goal.returns
returns g c =
    let refusal : Trailed g.row.B.Denot → Option ℕ = λ whole. g.K.ItemHooks.refuses_init c.args.self.now.hooks whole.data 0 in
    let then : Trailed g.row.B.Denot → Life = λ whole. after KegInit (record { no = whole.no; phase = whole.phase; tally = tally_by whole.phase whole.ctors (kept_stays whole.stays) }) in
    let leaves : g.row.B.Denot → g.row.B.Denot → Type 0 = λ was left. g.K.ItemHooks.leaves_init c.args.self.now.hooks was 0 left in
    record {
      passed = c.come.ensures.life ∙ ap then c.deref_mut.ensures.value;
      same_origin = refl;
      left = both_same leaves _ _ _ _ (ap (λ (whole : Trailed g.row.B.Denot). whole.data) c.deref_mut.ensures.value) c.come.ensures.data c.in_ok-init.ensures.left;
      accepts = ap refusal (sym c.deref_mut.ensures.value) ∙ c.in_ok-init.ensures.accepts;
      refuses = tt;
      unchanged = tt;
    }
