-- The sums of a cache's items, row by row.
use Rattle.std.proofs.Common.{◌≡◌, ℕ, ◌+◌, ◌^◌, ◌≤◌, ◌==◌, Bool, true, false, cond, Option, Some, None, is_some, ◌∙◌, sym, ap, subst, refl, arith, add-zero}
use Rattle.std.proofs.lemmas.Bool.{false≢true}
use Rattle.smr_clock.specs.declared.clock.Setup.{Setup}
use Rattle.smr_clock.specs.Belongs.{TableId}
use Rattle.uma_life.specs.Hook.{Hook, Ctor, Dtor}
use Rattle.uma_life.specs.Sum.{sum_of, times_of, AreBelow}
use Rattle.uma_life.specs.Trail.{ShowsSame, OnTrail}
use Rattle.uma_life.specs.declared.tally.BodyPhase.TheVariants.{Built}
use Rattle.uma_life.specs.declared.tally.Tally.{Tally}
use Rattle.uma_bucket.specs.declared.shelved.Sums.{Sums}
use Rattle.uma_bucket.specs.Home.{Home}
use Rattle.uma_bucket.specs.Sums.{Balance, AreOfAtMost}
use Rattle.uma_bucket.proofs.Tallied.{both_show, trail_times}
use Rattle.name_rows.specs.declared.root.Guest.{Guest}
use Rattle.name_cache.specs.declared.locked_row.LinkedItem.{LinkedItem}
use Rattle.name_cache.specs.LinkedItem.{IsLinkedAs}
use Rattle.name_cache.specs.Sums.{AddsLinked, HasLinked}

pub linked_none : (sums : Sums) → Balance 0 sums → HasLinked 0 sums
linked_none sums balance zone small =
    subst (λ (n : ℕ). ShowsSame (sum_of sums.tally (Ctor zone)) (sum_of sums.tally (Dtor zone) + cond (0 == zone) n 0)) (sym (add-zero sums.deferred)) (balance zone small)

one_more : (test : Bool) (s t d l s' d' : ℕ) → s' ≡ s + t → d' ≡ d → s + cond test (d + l) 0 + (t + cond test 1 0) ≡ s' + cond test (d' + (l + 1)) 0
one_more true s t d l s' d' e f = omega (arith, e, f)
one_more false s t d l s' d' e f = omega (arith, e, f)

-- a linked entry is built: its ctors exceed its dtors by one, in the primary zone
pub linked_one : (linked : ℕ) (was is : Sums) (guest : Guest) → AddsLinked (Some guest) was is → OnTrail (Built 0) guest.tally → HasLinked linked was → HasLinked (linked + 1) is
linked_one linked was is guest adds trail have zone small =
    let both = both_show _ _ _ _ (have zone small) (trail.builds zone small) in
    let right = one_more (0 == zone) (sum_of was.tally (Dtor zone)) (times_of guest.tally (Dtor zone)) was.deferred linked (sum_of is.tally (Dtor zone)) is.deferred (adds.1 (Dtor zone)) adds.0 in
    subst (λ (n : ℕ). ShowsSame n (sum_of is.tally (Dtor zone) + cond (0 == zone) (is.deferred + (linked + 1)) 0)) (sym (adds.1 (Ctor zone)))
    (subst (λ (n : ℕ). ShowsSame (sum_of was.tally (Ctor zone) + times_of guest.tally (Ctor zone)) n) right both)

-- ---- the entry of one row

-- it is built in the primary zone
pub guest_trail : (id : TableId × Setup) (home : Home) (guest : Option Guest) (linked : Option LinkedItem) → is_some linked ≡ is_some guest → ((g : Guest) (i : LinkedItem) → guest ≡ Some g → linked ≡ Some i → IsLinkedAs id home g i) → home.zone ≡ 0
    → (g : Guest) → guest ≡ Some g → OnTrail (Built 0) g.tally
guest_trail id home guest None both fits primary g is = absurd (false≢true (both ∙ ap is_some is))
guest_trail id home guest (Some i) both fits primary g is =
    let linked = fits g i is refl in
    subst (λ (n : ℕ). OnTrail (Built n) g.tally) (linked.at_home.1 ∙ primary) linked.built.trail

pub adds_few : (guest : Option Guest) (was is : Sums) → ((g : Guest) → guest ≡ Some g → OnTrail (Built 0) g.tally) → AddsLinked guest was is → (count : ℕ) → AreOfAtMost count was → AreOfAtMost (count + 1) is
adds_few None was is trail adds count few = record {
  tally = λ hook.
      let same : sum_of is.tally hook ≡ sum_of was.tally hook = ap (λ (s : Sums). sum_of s.tally hook) adds in
      let low = few.tally hook in
      omega (arith, same, low);
  deferred =
      let same : is.deferred ≡ was.deferred = ap (λ (s : Sums). s.deferred) adds in
      let low = few.deferred in
      omega (arith, same, low);
}
adds_few (Some g) was is trail adds count few = record {
  tally = λ hook.
      let same = adds.1 hook in
      let low = few.tally hook in
      let one = trail_times (Built 0) g.tally (trail g refl) hook in
      omega (arith, same, low, one);
  deferred =
      let same = adds.0 in
      let low = few.deferred in
      omega (arith, same, low);
}

pub adds_linked : (guest : Option Guest) (was is : Sums) → ((g : Guest) → guest ≡ Some g → OnTrail (Built 0) g.tally) → AddsLinked guest was is → (linked : ℕ) → HasLinked linked was → (more : ℕ) × (more ≤ 1) × HasLinked (linked + more) is
adds_linked None was is trail adds linked have = (0, omega arith, subst (λ (n : ℕ). HasLinked n is) (sym (add-zero linked)) (subst (λ (s : Sums). HasLinked linked s) (sym adds) have))
adds_linked (Some g) was is trail adds linked have = (1, omega arith, linked_one linked was is g adds (trail g refl) have)

-- few enough for one more
pub below_room : (sums : Sums) → AreOfAtMost (2 ^ 35) sums → AreBelow (2 ^ 127) sums.tally
below_room sums few hook = let low = few.tally hook in omega (arith, low)

-- what was added is the tally of the row's entry
pub adds_item : (id : TableId × Setup) (home : Home) (guest : Option Guest) (linked : Option LinkedItem) (item : LinkedItem) (was is : Sums) → is_some linked ≡ is_some guest → ((g : Guest) (i : LinkedItem) → guest ≡ Some g → linked ≡ Some i → IsLinkedAs id home g i)
    → linked ≡ Some item → is.deferred ≡ was.deferred → ((hook : Hook) → sum_of is.tally hook ≡ sum_of was.tally hook + times_of item.tally hook) → AddsLinked guest was is
adds_item id home None linked item was is both fits there deferred sums = absurd (false≢true (sym both ∙ ap is_some there))
adds_item id home (Some g) linked item was is both fits there deferred sums = (deferred, λ hook. sums hook ∙ ap (λ (t : Tally). sum_of was.tally hook + times_of t hook) (fits g item refl there).tally)

pub few_more : (count more : ℕ) (sums : Sums) → count ≤ more → AreOfAtMost count sums → AreOfAtMost more sums
few_more count more sums low few = record { tally = λ hook. let one = few.tally hook in omega (arith, low, one); deferred = let one = few.deferred in omega (arith, low, one) }
