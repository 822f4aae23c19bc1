-- The sums of a keg's buried items have room for those at home.
use Rattle.std.proofs.Common.{◌≡◌, ◌≤◌, ◌<◌, ◌+◌, ◌*◌, ◌^◌, ℕ, suc, replicate, refl, inl, inr, arith, ap}
use Rattle.std.proofs.lemmas.Bool.{cases_lt}
use Rattle.std.proofs.lemmas.List.{get_or_past, get_or-replicate, length-replicate}
use Rattle.uma_life.specs.declared.tally.TallySum.{TallySum}
use Rattle.uma_life.specs.declared.tally.ZoneTallySum.{ZoneTallySum}
use Rattle.uma_life.specs.Hook.{Hook, KegInit, ZoneInit, Ctor, Dtor, ZoneFini, KegFini}
use Rattle.uma_life.specs.Sum.{sum_of, zone_sums, no_sums, no_zone_sums, AreBelow}
use Rattle.std.proofs.Math.Nat.{mul-le-mul}
use Rattle.uma_slabs.specs.Places.{KegPlaces, IsSound, slab_count}
use Rattle.uma_keg.specs.Tallies.{TallyLaw, AddsVain, times_in_vain, sum_below}

no_sums_at : (zone : ℕ) → zone_sums (replicate 8 no_zone_sums) zone ≡ no_zone_sums
no_sums_at zone = elim (cases_lt zone 8) [
  | inl within ↦ get_or-replicate 8 zone no_zone_sums no_zone_sums within
  | inr past ↦ get_or_past (replicate 8 no_zone_sums) zone no_zone_sums (rw (length-replicate {A = ZoneTallySum} 8 no_zone_sums) past)
]

pub none_summed : (hook : Hook) → sum_of no_sums hook ≡ 0
none_summed KegInit = refl
none_summed (ZoneInit zone) = ap (λ (s : ZoneTallySum). s.inits) (no_sums_at zone)
none_summed (Ctor zone) = ap (λ (s : ZoneTallySum). s.ctors) (no_sums_at zone)
none_summed (Dtor zone) = ap (λ (s : ZoneTallySum). s.dtors) (no_sums_at zone)
none_summed (ZoneFini zone) = ap (λ (s : ZoneTallySum). s.finis) (no_sums_at zone)
none_summed KegFini = refl

no_slab : (slabs per_slab : ℕ) → slabs ≡ 0 → slabs * per_slab * 2 ^ 64 ≡ 0
no_slab slabs per_slab none = rw none (omega arith)

pub TallyLaw-new : (buried : TallySum) (places : KegPlaces) → buried ≡ no_sums → slab_count places ≡ 0 → TallyLaw buried places
TallyLaw-new buried places none empty = rw none (record { each = λ hook. omega (arith, none_summed hook, no_slab (slab_count places) places.per_slab empty) })

-- as many slabs are in, and nothing was buried
pub TallyLaw-kept : (buried : TallySum) (places now : KegPlaces) → TallyLaw buried places → slab_count now ≡ slab_count places → now.per_slab ≡ places.per_slab → TallyLaw buried now
TallyLaw-kept buried places now law slabs each = record { each = λ hook. rw (slabs, each) (law.each hook) }

-- the buried are few
pub buried_few : (buried : TallySum) (places : KegPlaces) (hook : Hook) → TallyLaw buried places → sum_of buried hook ≤ 2 ^ 120 + 2 ^ 82
buried_few buried places hook law = omega (arith, law.each hook)

pub buried_below : (buried : TallySum) (places : KegPlaces) → TallyLaw buried places → AreBelow (2 ^ 126) buried
buried_below buried places law hook = omega (arith, law.each hook)

pub sum_below-more : (f : ℕ → ℕ) (n : ℕ) → sum_below f (n + 1) ≡ sum_below f n + f n
unfolding sum_below
sum_below-more f n = let next : n + 1 ≡ suc n = omega arith in ap (sum_below f) next

pub sum_below-none : (f : ℕ → ℕ) → sum_below f 0 ≡ 0
unfolding sum_below
sum_below-none f = refl

few_items : (slabs per_slab most each : ℕ) → slabs ≤ most → per_slab ≤ each → slabs * per_slab ≤ most * each
few_items slabs per_slab most each few small = mul-le-mul few small

-- as many items as a keg has numbers add little to the buried
pub totals_below : (sum items cap per_slab : ℕ) → cap ≤ 1024 → per_slab ≤ 256 → items ≤ cap * per_slab → sum ≤ 2 ^ 120 + 2 ^ 82 + items * 2 ^ 64 → sum < 2 ^ 121
totals_below sum items cap per_slab few small within below = omega (arith, few_items cap per_slab 1024 256 few small)

-- one slab more is in, and there were few slabs
pub TallyLaw-brought : (buried : TallySum) (places now : KegPlaces) → AreBelow (2 ^ 120) buried → IsSound places → slab_count places < places.cap → slab_count now ≡ slab_count places + 1 → now.per_slab ≡ places.per_slab → TallyLaw buried now
TallyLaw-brought buried places now below sound room one_more each = record {
  each = λ hook. rw (one_more, each) (omega (arith, below hook, few_items (slab_count places + 1) places.per_slab 1024 256 (omega (arith, sound.few_slabs)) sound.few_places));
}

few_hooks : (hook : Hook) → times_in_vain hook ≤ 1
few_hooks KegInit = omega arith
few_hooks (ZoneInit zone) = omega arith
few_hooks (Ctor zone) = omega arith
few_hooks (Dtor zone) = omega arith
few_hooks (ZoneFini zone) = omega arith
few_hooks KegFini = omega arith

-- some items of one slab more were made and ended
pub TallyLaw-vain : (old new : TallySum) (places : KegPlaces) (ended : ℕ) → AreBelow (2 ^ 120) old → AddsVain old ended new → ended < places.per_slab → IsSound places → slab_count places < places.cap → TallyLaw new places
TallyLaw-vain old new places ended below added few sound room = record {
  each = λ hook. omega (
    arith,
    below hook,
    added.each hook,
    few_items ended (times_in_vain hook) 256 1 (omega (arith, sound.few_places)) (few_hooks hook),
    few_items (slab_count places) places.per_slab 1023 256 (omega (arith, sound.few_slabs)) sound.few_places,
  );
}
