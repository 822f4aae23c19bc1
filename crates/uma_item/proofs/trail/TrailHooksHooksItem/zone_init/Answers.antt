use Rattle.std.proofs.Common.{ℕ, Option, ap, refl, sym, subst, ◌∙◌, arith, length}
use Rattle.uma_life.specs.Hook.{ZoneInit, after}
use Rattle.uma_life.specs.Life.{Life}
use Rattle.uma_item.specs.declared.trail.Trailed.{Trailed}
use Rattle.uma_item.specs.Counts.{tally_by, kept_stays, KeepsItsStays}
use Rattle.uma_item.specs.Item.{item_data, item_stays}
use Rattle.uma_item.proofs.trail.TrailHooksHooksItem.zone_init.Goals as goal
use Rattle.uma_item.proofs.Passing.{refusal-kept, refusal-unkept}
use Rattle.uma_item.proofs.Same.{both_same, data_back, refused_by}

pub returns-then-not-keeps_stays : goal.returns-then-not-keeps_stays
returns-then-not-keeps_stays g c =
    let from_one = c.requires.zone.0 in
    let by_data : Option ℕ = g.K.ItemHooks.refuses_init c.args.self.now.hooks (item_data c.args.item.now) c.args.zone in
    refused_by _ _ _ _ _ _ _ _ 255 refl (refusal-unkept c.args.zone (item_stays c.args.item.now) by_data (λ e. absurd (omega arith)) (c.if-not-keeps_stays.ensures.none refl)) (omega arith, omega arith) refl

pub enter-requires-clause-free : goal.enter-requires-clause-free
enter-requires-clause-free g c = record { zone = c.requires.zone; phase = ap (λ (whole : Trailed g.row.B.Denot). whole.phase) c.deref_mut.ensures.value ∙ c.requires.phase }

pub enter-requires-clause-counts : goal.enter-requires-clause-counts
enter-requires-clause-counts g c = ap (λ (whole : Trailed g.row.B.Denot). length (kept_stays whole.stays)) c.deref_mut.ensures.value ∙ c.if-not-keeps_stays.ensures.all refl

pub invariant_of-item : goal.invariant_of-item
invariant_of-item g c = record { counted = subst (λ (whole : Trailed g.row.B.Denot). KeepsItsStays whole.phase (kept_stays whole.stays)) (sym c.deref_mut.ensures.value) c.args.item.now.counted }

pub returns-in_err-init : goal.returns-in_err-init
returns-in_err-init g c =
    let from_one = c.requires.zone.0 in
    let refusal : Trailed g.row.B.Denot → Option ℕ = λ whole. g.K.ItemHooks.refuses_init c.args.self.now.hooks whole.data c.args.zone in
    let kept = refusal-kept c.args.zone (item_stays c.args.item.now) (refusal c.args.item.now.whole.value) (λ e. absurd (omega arith)) (c.if-not-keeps_stays.ensures.all refl) in
    let told = c.in_err-init.ensures.refuses in
    refused_by _ _ _ _ _ _ _ c.from_residual.result c.in_err-init.field-0.0 c.from_residual.ensures.1 (kept ∙ ap refusal (sym c.deref_mut.ensures.value) ∙ told.0) told.1 (data_back c.args.item.now _ c.deref_mut.result.now c.init.new.item c.deref_mut.ensures.value c.in_err-init.ensures.unchanged refl)

pub returns : goal.returns
returns g c =
    let from_one = c.requires.zone.0 in
    let refusal : Trailed g.row.B.Denot → Option ℕ = λ whole. g.K.ItemHooks.refuses_init c.args.self.now.hooks whole.data c.args.zone in
    let kept = refusal-kept c.args.zone (item_stays c.args.item.now) (refusal c.args.item.now.whole.value) (λ e. absurd (omega arith)) (c.if-not-keeps_stays.ensures.all refl) in
    let then : Trailed g.row.B.Denot → Life = λ whole. after (ZoneInit c.args.zone) (record { no = whole.no; phase = whole.phase; tally = tally_by whole.phase whole.ctors (kept_stays whole.stays) }) in
    let leaves : g.row.B.Denot → g.row.B.Denot → Type 0 = λ was left. g.K.ItemHooks.leaves_init c.args.self.now.hooks was c.args.zone left in
    record {
      passed = c.enter.ensures.life ∙ ap then c.deref_mut.ensures.value;
      same_origin = refl;
      left = both_same leaves _ _ _ _ (ap (λ (whole : Trailed g.row.B.Denot). whole.data) c.deref_mut.ensures.value) c.enter.ensures.data c.in_ok-init.ensures.left;
      accepts = kept ∙ ap refusal (sym c.deref_mut.ensures.value) ∙ c.in_ok-init.ensures.accepts;
      refuses = tt;
      unchanged = tt;
    }
