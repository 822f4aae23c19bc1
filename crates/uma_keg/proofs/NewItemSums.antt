-- New items, one after another, and what their ends add to the sums.
use Rattle.std.proofs.Common.{◌≡◌, ◌+◌, ◌*◌, ℕ, suc, List, [], ◌∷◌, ◌++◌, Option, Some, None, length, get_or, replicate, sum_by, inl, inr, refl, arith, ap, ◌∙◌}
use Rattle.std.specs.Option.{IsSomeAnd}
use Rattle.std.proofs.lemmas.Bool.{cases_lt}
use Rattle.std.proofs.lemmas.List.{get_or_past, get_or-replicate, length-replicate, get_or_append_left, length_push, get_or_push}
use Rattle.std.proofs.lemmas.List.Sums.{sum_by-cons}
use Rattle.uma_life.specs.declared.states.Stored.{Stored}
use Rattle.uma_life.specs.declared.tally.ZoneTally.{ZoneTally}
use Rattle.uma_life.specs.declared.tally.TallySum.{TallySum}
use Rattle.uma_life.specs.Life.{Life, raw_life, no_counts}
use Rattle.uma_life.specs.Hook.{Hook, KegInit, ZoneInit, Ctor, Dtor, ZoneFini, KegFini, after}
use Rattle.uma_life.specs.Sum.{times_of, sum_of}
use Rattle.uma_keg.specs.Tallies.{ended_times, times_in_vain, AddsVain}
use Rattle.uma_life.specs.declared.hooks.BringRefused.{BringRefused}
use Rattle.uma_life.specs.declared.hooks.BringRefused.TheVariants.{Init, Memory}
use Rattle.uma_life.specs.Bring.{RefusesToBring}
use Rattle.uma_keg.specs.NewItems.{IsNewItem, AreNewItems, StopsAt, RefusesItems}

no_counts_at : (zone : ℕ) → get_or (replicate 8 no_counts) zone no_counts ≡ no_counts
no_counts_at zone = elim (cases_lt zone 8) [
  | inl within ↦ get_or-replicate 8 zone no_counts no_counts within
  | inr past ↦ get_or_past (replicate 8 no_counts) zone no_counts (rw (length-replicate {A = ZoneTally} 8 no_counts) past)
]

vain_times : (n : ℕ) (hook : Hook) → times_of (after KegFini (after KegInit (raw_life n))).tally hook ≡ times_in_vain hook
vain_times n KegInit = refl
vain_times n (ZoneInit zone) = ap (λ (c : ZoneTally). c.inits) (no_counts_at zone)
vain_times n (Ctor zone) = ap (λ (c : ZoneTally). c.ctors) (no_counts_at zone)
vain_times n (Dtor zone) = ap (λ (c : ZoneTally). c.dtors) (no_counts_at zone)
vain_times n (ZoneFini zone) = ap (λ (c : ZoneTally). c.finis) (no_counts_at zone)
vain_times n KegFini = refl

one_ended : {T : Type 0} {g : _} (n : ℕ) (hook : Hook) (o : Option (Stored T g)) → IsSomeAnd o (IsNewItem n) → ended_times hook o ≡ times_in_vain hook
one_ended n hook None is = absurd is
one_ended n hook (Some item) is = ap (λ (life : Life). times_of (after KegFini life).tally hook) is.life ∙ vain_times n hook

new_rest : {T : Type 0} {g : _} (first : ℕ) (o : Option (Stored T g)) (items : List (Option (Stored T g))) → AreNewItems first (o ∷ items) → AreNewItems (first + 1) items
new_rest first o items new = record {
  each = λ place below.
      let next : first + suc place ≡ (first + 1) + place = omega arith in
      rw (← next) (new.each (suc place) (omega arith));
}

new_first : {T : Type 0} {g : _} (first : ℕ) (o : Option (Stored T g)) (items : List (Option (Stored T g))) → AreNewItems first (o ∷ items) → IsSomeAnd o (IsNewItem first)
new_first first o items new = let none : first + 0 ≡ first = omega arith in rw (← none) (new.each 0 (omega arith))

one_more : (n v : ℕ) → suc n * v ≡ n * v + v
one_more n v = omega arith

pub all_ended : {T : Type 0} {g : _} (first : ℕ) (items : List (Option (Stored T g))) (hook : Hook) → AreNewItems first items → sum_by (ended_times hook) items ≡ length items * times_in_vain hook
all_ended first [] hook new = omega arith
all_ended {T} {g} first (o ∷ items) hook new =
    let rest = all_ended (first + 1) items hook (new_rest first o items new) in
    let here = one_ended first hook o (new_first first o items new) in
    omega (arith, rest, here, sum_by-cons (ended_times {T = T} {g = g} hook) o items, one_more (length items) (times_in_vain hook))

-- one item more
pub new_pushed : {T : Type 0} {g : _} (first n : ℕ) (items now : List (Option (Stored T g))) (item : Stored T g) → AreNewItems first items → length items ≡ n → IsNewItem (first + n) item → now ≡ items ++ Some item ∷ [] → AreNewItems first now
new_pushed first n items now item are len new is = rw is (record {
  each = λ place below.
      elim (cases_lt place n) [
        | inl earlier ↦ rw (get_or_append_left items (Some item ∷ []) None place (omega (arith, len))) (are.each place (omega (arith, len)))
        | inr last ↦
            let at : place ≡ n = omega (arith, length_push items (Some item), len) in
            rw (at, get_or_push items (Some item) None n len) new
      ];
})

-- what was made was ended
pub adds_vain : {T : Type 0} {g : _} (first n : ℕ) (items : List (Option (Stored T g))) (old new : TallySum) → AreNewItems first items → length items ≡ n → ((hook : Hook) → sum_of new hook ≡ sum_of old hook + sum_by (ended_times hook) items) → AddsVain old n new
adds_vain first n items old new are len added = record { each = λ hook. added hook ∙ ap (λ t. sum_of old hook + t) (all_ended first items hook are ∙ ap (λ m. m * times_in_vain hook) len) }

pub refuses_items : (per_slab place : ℕ) (Refuses : ℕ → ℕ → Type 0) (Accepts : ℕ → Type 0) (old new : TallySum) → StopsAt per_slab place Accepts old new → (why : BringRefused) → RefusesToBring (Refuses place) why → RefusesItems per_slab Refuses Accepts old new why
refuses_items per_slab place Refuses Accepts old new stops (Init code) is = (place, stops, is.0, is.1)
refuses_items per_slab place Refuses Accepts old new stops Memory is = (place, stops)
