-- Hooks come in pairs in the sums over a keg's own items.
use Rattle.std.proofs.Common.{◌≡◌, ◌<◌, ◌+◌, ◌*◌, ◌%◌, ◌^◌, ℕ, zero, suc, List, [], ◌∷◌, sum_by, Option, Some, None, refl, arith, sym, ap, ◌∙◌}
use Rattle.std.proofs.Math.Nat.{mod-add-mod, add-mod-mod}
use Rattle.std.proofs.lemmas.List.Sums.{sum_by-cons}
use Rattle.uma_life.specs.declared.states.Stored.{Stored}
use Rattle.uma_life.specs.declared.tally.TallySum.{TallySum}
use Rattle.uma_life.specs.Hook.{Hook, ZoneInit, Ctor, Dtor, ZoneFini}
use Rattle.uma_life.specs.Sum.{sum_of, no_sums}
use Rattle.uma_life.specs.Trail.{ShowsSame}
use Rattle.uma_keg.specs.Tallies.{ended_times, home_times, sum_below, AddsVain}
use Rattle.uma_life.specs.declared.hooks.BringRefused.{BringRefused}
use Rattle.uma_life.specs.declared.hooks.BringRefused.TheVariants.{Init, Memory}
use Rattle.uma_keg.specs.NewItems.{RefusesItems}
use Rattle.uma_keg.specs.Paired.{ArePaired}
use Rattle.uma_keg.proofs.TallyLaws.{none_summed}

both_show : (a b c d : ℕ) → ShowsSame a b → ShowsSame c d → ShowsSame (a + c) (b + d)
both_show a b c d first second =
    sym (mod-add-mod a (2 ^ 64) c) ∙ ap (λ m. (m + c) % 2 ^ 64) first ∙ mod-add-mod b (2 ^ 64) c
    ∙ sym (add-mod-mod b c (2 ^ 64)) ∙ ap (λ m. (b + m) % 2 ^ 64) second ∙ add-mod-mod b d (2 ^ 64)

sums_show : (f h : ℕ → ℕ) (n : ℕ) → ((i : ℕ) → ShowsSame (f i) (h i)) → ShowsSame (sum_below f n) (sum_below h n)
unfolding sum_below
sums_show f h zero same = refl
sums_show f h (suc n) same = both_show (sum_below f n) (sum_below h n) (f n) (h n) (sums_show f h n same) (same n)

no_more : (m n : ℕ) → ShowsSame m (n + 0) → ShowsSame m n
no_more m n same = let none : n + 0 ≡ n = omega arith in same ∙ ap (λ k. k % 2 ^ 64) none

stays_at_home : {T : Type 0} {g : _} (zone : ℕ) → zone < 8 → (o : Option (Stored T g)) → ShowsSame (home_times (ZoneInit zone) o) (home_times (ZoneFini zone) o)
stays_at_home zone below None = refl
stays_at_home {g = g} zone below (Some item) = no_more _ _ (item.kept.trail.stays zone below)

builds_at_home : {T : Type 0} {g : _} (zone : ℕ) → zone < 8 → (o : Option (Stored T g)) → ShowsSame (home_times (Ctor zone) o) (home_times (Dtor zone) o)
builds_at_home zone below None = refl
builds_at_home {g = g} zone below (Some item) = no_more _ _ (item.kept.trail.builds zone below)

-- the sums over the items at home and the buried
pub paired_total : {T : Type 0} {g : _} (buried total : TallySum) (item : ℕ → Option (Stored T g)) (n : ℕ) → ArePaired buried → ((hook : Hook) → sum_of total hook ≡ sum_of buried hook + sum_below (λ i. home_times hook (item i)) n) → ArePaired total
paired_total buried total item n paired is = record {
  stays = λ zone below.
      rw (is (ZoneInit zone), is (ZoneFini zone)) (both_show _ _ _ _ (paired.stays zone below) (sums_show (λ i. home_times (ZoneInit zone) (item i)) (λ i. home_times (ZoneFini zone) (item i)) n (λ i. stays_at_home zone below (item i))));
  builds = λ zone below.
      rw (is (Ctor zone), is (Dtor zone)) (both_show _ _ _ _ (paired.builds zone below) (sums_show (λ i. home_times (Ctor zone) (item i)) (λ i. home_times (Dtor zone) (item i)) n (λ i. builds_at_home zone below (item i))));
}

pub paired_none : (buried : TallySum) → buried ≡ no_sums → ArePaired buried
paired_none buried none = rw none (record {
  stays = λ zone below. ap (λ k. k % 2 ^ 64) (none_summed (ZoneInit zone) ∙ sym (none_summed (ZoneFini zone)));
  builds = λ zone below. ap (λ k. k % 2 ^ 64) (none_summed (Ctor zone) ∙ sym (none_summed (Dtor zone)));
})

as_before : (old new items : ℕ) → new ≡ old + items * 0 → new ≡ old
as_before old new items is = omega (arith, is)

-- items that were made and ended passed no hook of a zone
pub paired_vain : (old new : TallySum) (items : ℕ) → ArePaired old → AddsVain old items new → ArePaired new
paired_vain old new items paired added = record {
  stays = λ zone below. rw (as_before _ _ items (added.each (ZoneInit zone)), as_before _ _ items (added.each (ZoneFini zone))) (paired.stays zone below);
  builds = λ zone below. rw (as_before _ _ items (added.each (Ctor zone)), as_before _ _ items (added.each (Dtor zone))) (paired.builds zone below);
}

pub paired_refused : (old new : TallySum) (per_slab : ℕ) (Refuses : ℕ → ℕ → Type 0) (Accepts : ℕ → Type 0) (why : BringRefused) → ArePaired old → RefusesItems per_slab Refuses Accepts old new why → ArePaired new
paired_refused old new per_slab Refuses Accepts (Init code) paired is = paired_vain old new is.0 paired is.1.buried
paired_refused old new per_slab Refuses Accepts Memory paired is = paired_vain old new is.0 paired is.1.buried

-- ---- items that were at home and are ended

ended_stays : {T : Type 0} {g : _} (zone : ℕ) → zone < 8 → (o : Option (Stored T g)) → ShowsSame (ended_times (ZoneInit zone) o) (ended_times (ZoneFini zone) o)
ended_stays zone below None = refl
ended_stays {g = g} zone below (Some item) = no_more _ _ (item.kept.trail.stays zone below)

ended_builds : {T : Type 0} {g : _} (zone : ℕ) → zone < 8 → (o : Option (Stored T g)) → ShowsSame (ended_times (Ctor zone) o) (ended_times (Dtor zone) o)
ended_builds zone below None = refl
ended_builds {g = g} zone below (Some item) = no_more _ _ (item.kept.trail.builds zone below)

each_shows : {X : Type 0} (f h : X → ℕ) (xs : List X) → ((x : X) → ShowsSame (f x) (h x)) → ShowsSame (sum_by f xs) (sum_by h xs)
each_shows f h [] same = refl
each_shows f h (x ∷ xs) same = rw (sum_by-cons f x xs, sum_by-cons h x xs) (both_show (f x) (h x) (sum_by f xs) (sum_by h xs) (same x) (each_shows f h xs same))

pub paired_gone : {T : Type 0} {g : _} (old new : TallySum) (items : List (Option (Stored T g))) → ArePaired old → ((hook : Hook) → sum_of new hook ≡ sum_of old hook + sum_by (ended_times hook) items) → ArePaired new
paired_gone old new items paired is = record {
  stays = λ zone below.
      rw (is (ZoneInit zone), is (ZoneFini zone)) (both_show _ _ _ _ (paired.stays zone below) (each_shows (ended_times (ZoneInit zone)) (ended_times (ZoneFini zone)) items (λ o. ended_stays zone below o)));
  builds = λ zone below.
      rw (is (Ctor zone), is (Dtor zone)) (both_show _ _ _ _ (paired.builds zone below) (each_shows (ended_times (Ctor zone)) (ended_times (Dtor zone)) items (λ o. ended_builds zone below o)));
}
