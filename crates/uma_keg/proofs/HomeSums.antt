-- The items at home add little to the sums of the buried: each of their counts is one of 64 bits.
use Rattle.std.proofs.Common.{◌≡◌, ◌≤◌, ◌<◌, ◌+◌, ◌*◌, ◌^◌, ℕ, zero, suc, Option, None, Some, inl, inr, arith, sym, subst}
use Rattle.std.proofs.lemmas.Bool.{cases_lt}
use Rattle.std.proofs.lemmas.List.{get_or_past}
use Rattle.uma_life.specs.declared.states.Stored.{Stored}
use Rattle.uma_life.specs.declared.tally.Tally.{Tally}
use Rattle.uma_life.specs.declared.tally.ZoneTally.{ZoneTally}
use Rattle.uma_life.specs.Hook.{Hook, KegInit, ZoneInit, Ctor, Dtor, ZoneFini, KegFini, counts_of}
use Rattle.uma_life.specs.Life.{no_counts}
use Rattle.uma_life.specs.Sum.{times_of, AreCounts}
use Rattle.uma_life.specs.Trail.{OnTrail}
use Rattle.uma_life.specs.declared.tally.BodyPhase.TheVariants.{Kept}
use Rattle.uma_keg.specs.Tallies.{home_times, sum_below}

no_counts_few : AreCounts no_counts
no_counts_few = record { inits = omega arith; ctors = omega arith; dtors = omega arith; finis = omega arith }

-- the counts of a zone are of 64 bits; there are none past the eighth
counts_few : (tally : Tally) → OnTrail Kept tally → (zone : ℕ) → AreCounts (counts_of tally zone)
counts_few tally trail zone = elim (cases_lt zone 8) [
  | inl below ↦ trail.counts zone below
  | inr past ↦ let P : ZoneTally → Type 0 = λ counts. AreCounts counts in
      subst P (sym (get_or_past tally.zones zone no_counts (omega (arith, trail.eight_zones)))) no_counts_few
]

times_few : (hook : Hook) (tally : Tally) → OnTrail Kept tally → times_of tally hook < 2 ^ 64
times_few KegInit tally trail = omega (arith, trail.keg_inits)
times_few (ZoneInit zone) tally trail = (counts_few tally trail zone).inits
times_few (Ctor zone) tally trail = (counts_few tally trail zone).ctors
times_few (Dtor zone) tally trail = (counts_few tally trail zone).dtors
times_few (ZoneFini zone) tally trail = (counts_few tally trail zone).finis
times_few KegFini tally trail = omega (arith, trail.keg_finis)

home_few : {T : Type 0} {g : _} (hook : Hook) (item : Option (Stored T g)) → home_times hook item ≤ 2 ^ 64
home_few hook None = omega arith
home_few {g = g} hook (Some item) = let few = times_few hook (g.life item.body).tally item.kept.trail in omega arith

one_more : (n each : ℕ) → suc n * each ≡ n * each + each
one_more n each = omega arith

sum_few : (f : ℕ → ℕ) (n each : ℕ) → ((i : ℕ) → f i ≤ each) → sum_below f n ≤ n * each
unfolding sum_below
sum_few f zero each few = omega arith
sum_few f (suc n) each few = omega (arith, sum_few f n each few, few n, one_more n each)

-- so the sums are below a bound where those of the buried leave room for as many items
pub totals_have_room : {T : Type 0} {g : _} (buried items bound : ℕ) (hook : Hook) (item : ℕ → Option (Stored T g)) → buried + items * 2 ^ 64 < bound
    → buried + sum_below (λ n. home_times hook (item n)) items < bound
totals_have_room buried items bound hook item room =
    let sum = sum_few (λ n. home_times hook (item n)) items (2 ^ 64) (λ n. home_few hook (item n)) in
    omega arith
