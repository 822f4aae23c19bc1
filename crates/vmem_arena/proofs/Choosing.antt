-- The range that a take chooses.
use Rattle.std.proofs.Common.{◌≡◌, ℕ, ◌+◌, ◌%◌, ◌<◌, ◌≤◌, Bool, true, false, not, ◌&&◌, List, [], ◌∷◌, ◌++◌, find, Some, refl, ap, sym, subst, arith}
use Rattle.std.specs.List.{AllByRecursion}
use Rattle.std.proofs.lemmas.Bool.Decides.{nat_tests}
use Rattle.std.proofs.lemmas.List.Elements.{recursion_from_All}
use Rattle.vmem_arena.specs.declared.free.Range.{Range}
use Rattle.vmem_arena.specs.declared.free.Fit.{Fit}
use Rattle.vmem_arena.specs.declared.arena.Arena.TheInside.{Inside}
use Rattle.vmem_arena.specs.Fits.{passing, Ascend}
use Rattle.vmem_arena.specs.Kept.{IsKept, fit_of, free_passing}
use Rattle.vmem_arena.specs.Take.{IsBestFit, TakesRange}
use Rattle.vmem_arena.specs.ByBase.{IsAt, NoneAt}
use Rattle.vmem_arena.specs.Steps.{IsPartOf, StandsIn, TakesFront, Spaced}
use Rattle.vmem_arena.specs.Tags.{Tags, range_end, greatest_free}
use Rattle.vmem_arena.specs.TagsLaw.{IsMeasured}
use Rattle.vmem_arena.proofs.FitOrder.{is_fit}
use Rattle.vmem_arena.proofs.FreeCounts.{holds, found, one_at_least, range_of_fit, best_fit, free_le_greatest}
use Rattle.vmem_arena.proofs.Spaced.{each_at, begin_below, begin_sooner, spaced_back}
use Rattle.vmem_arena.proofs.Merging.{Lawful}
use Rattle.vmem_arena.proofs.Keeping.{lawful, spaced_of}

pub first_there : (n : ℕ) (fits : List Fit) (f : Fit) → find (holds n) fits ≡ Some f → 1 ≤ passing (is_fit f) fits
first_there n fits f is =
    let h = found (holds n) fits f is in
    let t : is_fit f f ≡ true = grind (arith, nat_tests) in
    subst (λ l. 1 ≤ passing (is_fit f) l) (sym h.is) (one_at_least (is_fit f) h.before f h.after t)

base_not : (f : Fit) (r : Range) → (r.base ≡ f.base → ⊥) → (not r.taken && is_fit f (fit_of r)) ≡ false
base_not f r h = by_case (not r.taken && is_fit f (fit_of r)) refl
  where
    by_case : (b : Bool) → (not r.taken && is_fit f (fit_of r)) ≡ b → (not r.taken && is_fit f (fit_of r)) ≡ false
    by_case true e = absurd (h (grind (arith, nat_tests)))
    by_case false e = e

none_free : (f : Fit) (rs : List Range) → AllByRecursion (λ (r : Range). r.base ≡ f.base → ⊥) rs → free_passing (is_fit f) rs ≡ 0
none_free f [] h = refl
none_free f (r ∷ rs) h = rw (base_not f r h.0) (omega (arith, none_free f rs h.1))

-- a range begins where the chosen fit does
pub fit_has_range : (a : Inside) (n : ℕ) (f : Fit) → IsKept a → find (holds n) a.free.by_size ≡ Some f → NoneAt a.by_base f.base → ⊥
fit_has_range a n f k is none =
    let one = first_there n a.free.by_size f is in
    let zero = none_free f a.by_base (recursion_from_All _ _ none) in
    omega (arith, one, zero, k.free (is_fit f))

pub record Chosen (a : Inside) (n : ℕ) (r : Range) : Type 0 where
  pub stands : StandsIn a.by_base r
  pub best : IsBestFit a.by_base n r

pub chosen : (a : Inside) (n : ℕ) (f : Fit) (r : Range) → IsKept a → Ascend a.free.by_size → find (holds n) a.free.by_size ≡ Some f → IsAt a.by_base f.base r → Chosen a n r
chosen a n f r k order is at =
    let s = subst Spaced at.is (spaced_of a k) in
    let some = (spaced_back at.before (r ∷ at.after) s).0 in
    let high = begin_sooner (r.base + 1) (range_end r) at.after (omega arith) (spaced_back at.before (r ∷ at.after) s).1 in
    let same = subst (λ l. (test : Fit → Bool) → passing test a.free.by_size ≡ free_passing test l) at.is k.free in
    let of = range_of_fit a.free.by_size at.before r at.after f same (begin_below at.before r at.after s) high (first_there n a.free.by_size f is) at.begins in
    record {
      stands = record { before = at.before; after = at.after; is = at.is };
      best = best_fit n a.free.by_size a.by_base f r order k.free is of;
    }

pub part_of : (a : Inside) (n : ℕ) (r : Range) → Chosen a n r → 0 < n → n % a.quantum ≡ 0 → IsPartOf a.quantum n r
part_of a n r h some multiple = record { free = h.best.holds.free; some = some; multiple = multiple; within = h.best.holds.holds }

pub whole_of : (a : Inside) (n : ℕ) (r : Range) → IsKept a → Chosen a n r → IsPartOf a.quantum r.size r
whole_of a n r k h =
    let s = h.stands in
    let m = each_at (IsMeasured a.quantum) s.before r s.after (subst (Lawful a.quantum) s.is (lawful a k)).measured in
    record { free = h.best.holds.free; some = m.some; multiple = m.size; within = omega arith }

pub some_fit : (a : Inside) (n : ℕ) (r : Range) → Chosen a n r → n ≤ greatest_free a.by_base
some_fit a n r h =
    let s = h.stands in
    let g = free_le_greatest s.before r s.after h.best.holds.free in
    let holds = h.best.holds.holds in
    let e : greatest_free a.by_base ≡ greatest_free (s.before ++ r ∷ s.after) = ap greatest_free s.is in
    omega arith

pub takes : (old : Tags) (n : ℕ) (r : Range) (new : Tags) → IsBestFit old.ranges n r → TakesFront old r n new → TakesRange old n r.base new
takes old n r new best t = record { before = t.before; range = r; after = t.after; begins = refl; best = best; was = t.was; is = t.is }
