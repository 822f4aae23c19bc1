-- Each hook keeps an item on its trail.
use Rattle.std.proofs.Common.{◌≡◌, ◌<◌, ◌==◌, ◌+◌, ◌≢◌, ℕ, ◌^◌, Bool, true, false, cond, length, refl, sym, ◌∙◌, ap, subst, arith, eq-eqb, inl, inr}
use Rattle.std.proofs.lemmas.Bool.Decides.{eqb_tells}
use Rattle.std.proofs.lemmas.Bool.{ne_eqb}
use Rattle.std.proofs.lemmas.Grind.{common_steps}
use Rattle.std.proofs.lemmas.List.{get_or-set_same, get_or-set_other, length-set}
use Rattle.uma_life.specs.declared.tally.BodyPhase.TheVariants.{Raw, Kept, Zoned, Built}
use Rattle.uma_life.specs.declared.tally.ZoneTally.{ZoneTally}
use Rattle.uma_life.specs.declared.tally.Tally.{Tally}
use Rattle.uma_life.specs.Life.{no_counts, no_tally}
use Rattle.uma_life.specs.Hook.{Hook, KegInit, ZoneInit, Ctor, Dtor, ZoneFini, KegFini, HasItsZone, base_phase, first_phase, last_phase, counts_of, with_counts, raised, tally_after}
use Rattle.uma_life.specs.Sum.{AreCounts}
use Rattle.uma_life.specs.Trail.{OnTrail, ShowsSame, open_stays, open_builds, keg_inits_by, keg_finis_by}

-- what holds of the counts of the other zones still does where one zone's are replaced by others of which it holds
each_zone : (P : ℕ → ZoneTally → Type 0) (tally : Tally) (zone : ℕ) (counts : ZoneTally) → zone < length tally.zones → P zone counts → ((other : ℕ) → other ≢ zone → other < 8 → P other (counts_of tally other)) → (other : ℕ) → other < 8 → P other (counts_of (with_counts tally zone counts) other)
each_zone P tally zone counts inside here others other small =
    let Q : ℕ → Type 0 = λ o. P o (counts_of (with_counts tally zone counts) o) in
    elim (eqb_tells other zone) [
      | inl same ↦ subst Q (sym same.1) (subst (P zone) (sym (get_or-set_same tally.zones zone counts no_counts inside)) here)
      | inr apart ↦ subst (P other) (sym (get_or-set_other tally.zones zone other counts no_counts apart.1)) (others other apart.1 small)
    ]

-- of the phase of an item that isn't built

base_keg_inits : (is_primary : Bool) (zone : ℕ) → keg_inits_by (cond is_primary Kept (Zoned zone)) ≡ 1
base_keg_inits true zone = refl
base_keg_inits false zone = refl

base_keg_finis : (is_primary : Bool) (zone : ℕ) → keg_finis_by (cond is_primary Kept (Zoned zone)) ≡ 0
base_keg_finis true zone = refl
base_keg_finis false zone = refl

base_builds : (is_primary : Bool) (zone other : ℕ) → open_builds (cond is_primary Kept (Zoned zone)) other ≡ 0
base_builds true zone other = refl
base_builds false zone other = refl

cond_same : (b : Bool) (n : ℕ) → cond b n n ≡ n
cond_same true n = refl
cond_same false n = refl

base_stays : (is_primary : Bool) (zone other : ℕ) → open_stays (cond is_primary Kept (Zoned zone)) other ≡ cond (zone == other) (cond is_primary 0 1) 0
base_stays true zone other = sym (cond_same (zone == other) 0)
base_stays false zone other = refl

base_is_not_raw : (is_primary : Bool) (zone : ℕ) → cond is_primary Kept (Zoned zone) ≡ Raw → ⊥
base_is_not_raw true zone is_raw = cc
base_is_not_raw false zone is_raw = cc

one_more : (m n : ℕ) → ShowsSame m (n + 0) → ShowsSame (raised m) (n + 1)
one_more m n same = grind (arith, common_steps)

one_less : (m n : ℕ) → ShowsSame m (n + 1) → ShowsSame m (raised n + 0)
one_less m n same = grind (arith, common_steps)

-- a raised count is one of 64 bits
raised_count : (n : ℕ) → raised n < 2 ^ 64
raised_count n = grind (arith, common_steps)

one_here : (zone : ℕ) → open_builds (Built zone) zone ≡ 1
one_here zone = let open_if : Bool → ℕ = λ b. cond b 1 0 in ap open_if (eq-eqb zone zone refl)

none_apart : (zone other : ℕ) → other ≢ zone → open_builds (Built zone) other ≡ 0
none_apart zone other apart = let open_if : Bool → ℕ = λ b. cond b 1 0 in ap open_if (ne_eqb zone other (λ same. apart (sym same)))

on_trail-ctor : (zone : ℕ) (tally : Tally) → zone < 8 → OnTrail (base_phase zone) tally → OnTrail (Built zone) (tally_after (Ctor zone) tally)
on_trail-ctor zone tally small on_trail =
    let inside : zone < length tally.zones = omega arith in
    let counts : ZoneTally = counts_of tally zone in
    let built : ZoneTally = record counts { ctors = raised counts.ctors } in
    let Stays : ℕ → ZoneTally → Type 0 = λ z c. ShowsSame c.inits (c.finis + open_stays (Built zone) z) in
    let Builds : ℕ → ZoneTally → Type 0 = λ z c. ShowsSame c.ctors (c.dtors + open_builds (Built zone) z) in
    let stays : (z : ℕ) → z < 8 → Stays z (counts_of tally z) = λ z below.
    let Shows : ℕ → Type 0 = λ k. ShowsSame (counts_of tally z).inits ((counts_of tally z).finis + k) in
    subst Shows (base_stays (zone == 0) zone z) (on_trail.stays z below) in
    let no_build : (z : ℕ) → z < 8 → ShowsSame (counts_of tally z).ctors ((counts_of tally z).dtors + 0) = λ z below.
    let Shows : ℕ → Type 0 = λ k. ShowsSame (counts_of tally z).ctors ((counts_of tally z).dtors + k) in
    subst Shows (base_builds (zone == 0) zone z) (on_trail.builds z below) in
    let Here : ℕ → Type 0 = λ k. ShowsSame built.ctors (built.dtors + k) in
    record {
      keg_inits = on_trail.keg_inits ∙ base_keg_inits (zone == 0) zone;
      keg_finis = on_trail.keg_finis ∙ base_keg_finis (zone == 0) zone;
      eight_zones = length-set tally.zones zone built ∙ on_trail.eight_zones;
      stays = each_zone Stays tally zone built inside (stays zone small) (λ z apart below. stays z below);
      builds = each_zone Builds tally zone built inside (subst Here (sym (one_here zone)) (one_more counts.ctors counts.dtors (no_build zone small)))
          (λ z apart below.
          let Shows : ℕ → Type 0 = λ k. ShowsSame (counts_of tally z).ctors ((counts_of tally z).dtors + k) in
          subst Shows (sym (none_apart zone z apart)) (no_build z below));
      raw = λ is_raw. cc;
      counts = let before = on_trail.counts zone small in
          each_zone (λ z c. AreCounts c) tally zone built inside
          (record { inits = before.inits; ctors = raised_count counts.ctors; dtors = before.dtors; finis = before.finis })
          (λ z apart below. on_trail.counts z below);
    }

on_trail-dtor : (zone : ℕ) (tally : Tally) → zone < 8 → OnTrail (Built zone) tally → OnTrail (base_phase zone) (tally_after (Dtor zone) tally)
on_trail-dtor zone tally small on_trail =
    let inside : zone < length tally.zones = omega arith in
    let counts : ZoneTally = counts_of tally zone in
    let finished : ZoneTally = record counts { dtors = raised counts.dtors } in
    let Stays : ℕ → ZoneTally → Type 0 = λ z c. ShowsSame c.inits (c.finis + open_stays (base_phase zone) z) in
    let Builds : ℕ → ZoneTally → Type 0 = λ z c. ShowsSame c.ctors (c.dtors + open_builds (base_phase zone) z) in
    let stays : (z : ℕ) → z < 8 → Stays z (counts_of tally z) = λ z below.
    let Shows : ℕ → Type 0 = λ k. ShowsSame (counts_of tally z).inits ((counts_of tally z).finis + k) in
    subst Shows (sym (base_stays (zone == 0) zone z)) (on_trail.stays z below) in
    let Before : ℕ → Type 0 = λ k. ShowsSame counts.ctors (counts.dtors + k) in
    let Here : ℕ → Type 0 = λ k. ShowsSame finished.ctors (finished.dtors + k) in
    record {
      keg_inits = on_trail.keg_inits ∙ sym (base_keg_inits (zone == 0) zone);
      keg_finis = on_trail.keg_finis ∙ sym (base_keg_finis (zone == 0) zone);
      eight_zones = length-set tally.zones zone finished ∙ on_trail.eight_zones;
      stays = each_zone Stays tally zone finished inside (stays zone small) (λ z apart below. stays z below);
      builds = each_zone Builds tally zone finished inside
          (subst Here (sym (base_builds (zone == 0) zone zone)) (one_less counts.ctors counts.dtors (subst Before (one_here zone) (on_trail.builds zone small))))
          (λ z apart below.
          let Shows : ℕ → Type 0 = λ k. ShowsSame (counts_of tally z).ctors ((counts_of tally z).dtors + k) in
          subst Shows (none_apart zone z apart ∙ sym (base_builds (zone == 0) zone z)) (on_trail.builds z below));
      raw = λ is_raw. absurd (base_is_not_raw (zone == 0) zone is_raw);
      counts = let before = on_trail.counts zone small in
          each_zone (λ z c. AreCounts c) tally zone finished inside
          (record { inits = before.inits; ctors = before.ctors; dtors = raised_count counts.dtors; finis = before.finis })
          (λ z apart below. on_trail.counts z below);
    }

pub on_trail-after : (hook : Hook) (tally : Tally) → HasItsZone hook → OnTrail (first_phase hook) tally → OnTrail (last_phase hook) (tally_after hook tally)
on_trail-after KegInit tally has on_trail = grind (arith, common_steps)
on_trail-after (ZoneInit zone) tally has on_trail = grind (arith, common_steps)
on_trail-after (Ctor zone) tally has on_trail = on_trail-ctor zone tally has on_trail
on_trail-after (Dtor zone) tally has on_trail = on_trail-dtor zone tally has on_trail
on_trail-after (ZoneFini zone) tally has on_trail = grind (arith, common_steps)
on_trail-after KegFini tally has on_trail = grind (arith, common_steps)

pub on_trail-raw : OnTrail Raw no_tally
on_trail-raw = grind (arith, common_steps)
