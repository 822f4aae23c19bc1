-- A list of ranges in which a taken one becomes free, and one with its free neighbours.
use Rattle.std.proofs.Common.{◌≡◌, ℕ, ◌+◌, ◌<◌, ◌≤◌, Bool, true, false, not, ◌&&◌, List, [], ◌∷◌, ◌++◌, Option, Some, None, if◌then◌else◌, refl, ap, sym, subst, ◌∙◌, append_assoc, arith}
use Rattle.std.specs.List.{AllByRecursion}
use Rattle.std.proofs.lemmas.List.Elements.{recursion_from_All}
use Rattle.vmem_arena.specs.declared.free.Range.{Range}
use Rattle.vmem_arena.specs.declared.free.Fit.{Fit}
use Rattle.vmem_arena.specs.Fits.{passing, HasOneMore, HasOneLess}
use Rattle.vmem_arena.specs.Kept.{fit_of, free_passing, taken_count}
use Rattle.vmem_arena.specs.Steps.{AreFits, BeginBelow, Spaced, NextJoined, LastJoined, joined_behind}
use Rattle.vmem_arena.specs.Tags.{range_end, free_size, free_total}
use Rattle.vmem_arena.specs.TagsLaw.{IsMeasured, TileOn}
use Rattle.vmem_arena.specs.Give.{are_one, joined, merged}
use Rattle.vmem_arena.specs.TakenBases.{taken_bases}
use Rattle.vmem_arena.specs.ByBase.{IsAt, NoneAt, IsLastBelow, NoneBelow, written, without}
use Rattle.vmem_arena.proofs.FitLists.{passing-append, one_if}
use Rattle.vmem_arena.proofs.FreeCounts.{free_total-append}
use Rattle.vmem_arena.proofs.Spaced.{Next, next_is, Last, last_is, none_before, begin_below, without_at, written_at, each_front, each_back}
use Rattle.vmem_arena.proofs.Tiling.{TileFrom, last_of, front_of_tile, back_of_tile}
use Rattle.vmem_arena.proofs.Merging.{one_of, not_one_apart, joined_not, joined_one, merged_after, merged_front, joined_behind_push, Lawful}
use Rattle.vmem_arena.proofs.Taking.{fit_is_there, free_counts, taken_bases-append}

abbrev freed : Range → Range
freed r = record r { taken = false }

push_is : {X : Type 0} (xs : List X) (x : X) (ys : List X) → (xs ++ x ∷ []) ++ ys ≡ xs ++ x ∷ ys
push_is xs x ys = append_assoc xs (x ∷ []) ys

-- ---- the neighbour behind
-- none is, or it isn't free and of the span
pub next_stays : (before : List Range) (r : Range) (after : List Range) (ranges : List Range) (fits : List Fit) → joined (freed r) after ≡ freed r ∷ after → ranges ≡ before ++ r ∷ after → AreFits fits ranges → NextJoined before r after ranges fits (freed r)
next_stays before r after ranges fits stays e same =
    record { gone = []; rest = after; parts = refl; is = stays; base = refl; free = refl; left = e; fit = same }

not_next_by : (r : Range) (before : List Range) (after : List Range) → AllByRecursion (λ (x : Range). x.base ≡ range_end r → ⊥) (before ++ r ∷ after) → joined (freed r) after ≡ freed r ∷ after
not_next_by r before [] h = refl
not_next_by r before (n ∷ after) h =
    let apart = (each_back (λ (x : Range). x.base ≡ range_end r → ⊥) before (r ∷ n ∷ after) h).1.0 in
    joined_not (freed r) n after (not_one_apart (freed r) n apart)

pub no_next : (before : List Range) (r : Range) (after : List Range) → NoneAt (before ++ r ∷ after) (range_end r) → joined (freed r) after ≡ freed r ∷ after
no_next before r after h = not_next_by r before after (recursion_from_All _ _ h)

pub at_next : (before : List Range) (r : Range) (after : List Range) (ranges : List Range) (next : Range) → ranges ≡ before ++ r ∷ after → Spaced ranges → IsAt ranges (range_end r) next → Next r after next
at_next before r after ranges next e s h = next_is before r after h.before next h.after (subst Spaced e s) (sym e ∙ h.is) h.begins

pub other_next : (r : Range) (after : List Range) (next : Range) → Next r after next → are_one (freed r) next ≡ false → joined (freed r) after ≡ freed r ∷ after
other_next r after next n h = ap (joined (freed r)) n.is ∙ joined_not (freed r) next n.rest h ∙ ap (λ l. freed r ∷ l) (sym n.is)

fits_without : (fits new : List Fit) (front : List Range) (x : Range) (back : List Range) → AreFits fits (front ++ x ∷ back) → x.taken ≡ false → HasOneLess fits (fit_of x) new → (test : Fit → Bool) → passing test new ≡ free_passing test front + free_passing test back
fits_without fits new front x back same free less test =
    let one = less (fit_is_there fits front x back same free) test in
    let a = passing-append (λ y. not y.taken && test (fit_of y)) front (x ∷ back) in
    let c = rw (free_counts test x free) at a in
    omega (arith, one, c, same test)

-- it is free and of the span, and goes
pub next_goes : (before : List Range) (r : Range) (after : List Range) (ranges new : List Range) (fits less : List Fit) (next : Range) → ranges ≡ before ++ r ∷ after → Spaced ranges → AreFits fits ranges → Next r after next → are_one (freed r) next ≡ true → new ≡ without next.base ranges → HasOneLess fits (fit_of next) less → r.taken ≡ true → NextJoined before r after new less (record r { size = r.size + next.size; taken = false })
next_goes before r after ranges new fits less next e s same n h w out taken =
    let one = one_of (freed r) next h in
    let whole : ranges ≡ (before ++ r ∷ []) ++ next ∷ n.rest = e ∙ ap (λ l. before ++ r ∷ l) n.is ∙ sym (push_is before r (next ∷ n.rest)) in
    let s2 = subst Spaced whole s in
    let low = begin_below (before ++ r ∷ []) next n.rest s2 in
    let gone = without_at next.base (before ++ r ∷ []) next n.rest low refl in
    let fit = fits_without fits less (before ++ r ∷ []) next n.rest (subst (AreFits fits) whole same) one.second out in
    let left : new ≡ before ++ r ∷ n.rest = w ∙ ap (without next.base) whole ∙ gone ∙ push_is before r n.rest in
    record {
      gone = next ∷ [];
      rest = n.rest;
      parts = n.is;
      is = ap (joined (freed r)) n.is ∙ joined_one (freed r) next n.rest h;
      base = refl;
      free = refl;
      left = left;
      fit = λ test.
          let a = passing-append (λ y. not y.taken && test (fit_of y)) (before ++ r ∷ []) n.rest in
          fit test ∙ sym a ∙ ap (free_passing test) (push_is before r n.rest ∙ sym left);
    }

-- ---- the neighbour before
behind_by : (before : List Range) (ys : List Range) → before ≡ [] → joined_behind before ys ≡ before ++ ys
behind_by before ys e = rw e refl

taken_fits : (fits : List Fit) (front : List Range) (x : Range) (back : List Range) → AreFits fits (front ++ x ∷ back) → x.taken ≡ true → (test : Fit → Bool) → passing test fits ≡ free_passing test front + free_passing test back
taken_fits fits front x back same taken test =
    let a = passing-append (λ y. not y.taken && test (fit_of y)) front (x ∷ back) in
    let z : (not x.taken && test (fit_of x)) ≡ false = rw taken refl in
    let c = rw z at a in
    omega (arith, c, same test)

last_stays : (before : List Range) (r : Range) (rest : List Range) (ranges : List Range) (fits : List Fit) (f : Range) → joined_behind before (f ∷ rest) ≡ before ++ f ∷ rest → ranges ≡ before ++ r ∷ rest → Spaced ranges → r.base ≡ f.base → r.taken ≡ true → f.taken ≡ false → AreFits fits ranges → LastJoined before f rest ranges fits f
last_stays before r rest ranges fits f stays e s base taken free same =
    record {
      front = before;
      under = r;
      is = stays;
      left = e;
      at = base;
      free = free;
      below = subst (λ k. BeginBelow k before) base (begin_below before r rest (subst Spaced e s));
      fit = taken_fits fits before r rest (subst (AreFits fits) e same) taken;
    }

-- there is none
pub no_last : (before : List Range) (r : Range) (rest : List Range) (ranges : List Range) (fits : List Fit) (f : Range) → NoneBelow ranges f.base → ranges ≡ before ++ r ∷ rest → Spaced ranges → r.base ≡ f.base → r.taken ≡ true → f.taken ≡ false → AreFits fits ranges → LastJoined before f rest ranges fits f
no_last before r rest ranges fits f none e s base taken free same =
    let n = subst (λ l. AllByRecursion (λ (x : Range). f.base ≤ x.base) l) e (recursion_from_All (λ (x : Range). f.base ≤ x.base) ranges none) in
    let m = subst (λ k. AllByRecursion (λ (x : Range). k ≤ x.base) (before ++ r ∷ rest)) (sym base) n in
    let first = none_before before r rest (subst Spaced e s) m in
    last_stays before r rest ranges fits f (behind_by before (f ∷ rest) first) e s base taken free same

pub at_last : (before : List Range) (r : Range) (rest : List Range) (ranges : List Range) (f last : Range) → ranges ≡ before ++ r ∷ rest → Spaced ranges → r.base ≡ f.base → IsLastBelow ranges f.base last → Last before last
at_last before r rest ranges f last e s base h =
    let later = subst (λ k. AllByRecursion (λ (x : Range). k ≤ x.base) h.after) (sym base) (recursion_from_All (λ (x : Range). f.base ≤ x.base) h.after h.later) in
    let below = subst (λ k. last.base < k) (sym base) h.below in
    last_is before r rest h.before last h.after (subst Spaced e s) (sym e ∙ h.is) below later

-- it isn't free and of the span
pub other_last : (before : List Range) (r : Range) (rest : List Range) (ranges : List Range) (fits : List Fit) (f last : Range) → Last before last → are_one last f ≡ false → ranges ≡ before ++ r ∷ rest → Spaced ranges → r.base ≡ f.base → r.taken ≡ true → f.taken ≡ false → AreFits fits ranges → LastJoined before f rest ranges fits f
other_last before r rest ranges fits f last l h e s base taken free same =
    let stays : joined_behind before (f ∷ rest) ≡ before ++ f ∷ rest =
    ap (λ b. joined_behind b (f ∷ rest)) l.is ∙ joined_behind_push l.front last (f ∷ rest) ∙ ap (λ x. l.front ++ x) (joined_not last f rest h) ∙ sym (push_is l.front last (f ∷ rest)) ∙ ap (λ b. b ++ f ∷ rest) (sym l.is) in
    last_stays before r rest ranges fits f stays e s base taken free same

-- it is free and of the span, and the range goes
pub last_goes : (before : List Range) (r : Range) (rest : List Range) (ranges new : List Range) (fits less : List Fit) (f last : Range) → Last before last → are_one last f ≡ true → ranges ≡ before ++ r ∷ rest → Spaced ranges → r.base ≡ f.base → r.taken ≡ true → AreFits fits ranges → new ≡ without f.base ranges → HasOneLess fits (fit_of last) less → LastJoined before f rest new less (record last { size = last.size + f.size })
last_goes before r rest ranges new fits less f last l h e s base taken same w out =
    let one = one_of last f h in
    let whole : ranges ≡ l.front ++ last ∷ r ∷ rest = e ∙ ap (λ b. b ++ r ∷ rest) l.is ∙ push_is l.front last (r ∷ rest) in
    let s2 = subst Spaced e s in
    let gone : without f.base (before ++ r ∷ rest) ≡ before ++ rest = without_at f.base before r rest (subst (λ k. BeginBelow k before) base (begin_below before r rest s2)) base in
    let left : new ≡ l.front ++ last ∷ rest = w ∙ ap (without f.base) e ∙ gone ∙ ap (λ b. b ++ rest) l.is ∙ push_is l.front last rest in
    record {
      front = l.front;
      under = last;
      is = ap (λ b. joined_behind b (f ∷ rest)) l.is ∙ joined_behind_push l.front last (f ∷ rest) ∙ ap (λ x. l.front ++ x) (joined_one last f rest h);
      left = left;
      at = refl;
      free = one.first;
      below = begin_below l.front last (r ∷ rest) (subst Spaced whole s);
      fit = λ test.
          let g = fits_without fits less l.front last (r ∷ rest) (subst (AreFits fits) whole same) one.first out test in
          let z : (not r.taken && test (fit_of r)) ≡ false = rw taken refl in
          let k = rw z at g in
          omega (arith, k);
    }

tile_behind : (o : Option Range) (r : Range) (after : List Range) → TileFrom o (r ∷ after) → TileOn r after
tile_behind None r after t = t.1
tile_behind (Some l) r after t = t.1

-- ---- what the two steps make of the whole
pub record Given (q : ℕ) (before : List Range) (r : Range) (after : List Range) (ranges : List Range) (fits : List Fit) (result : Range) : Type 0 where
  pub is : written result ranges ≡ merged (before ++ freed r ∷ after)
  pub free : result.taken ≡ false
  pub fit : (new : List Fit) → HasOneMore fits (fit_of result) new → AreFits new (written result ranges)

pub given : (q : ℕ) (before : List Range) (r : Range) (after middle : List Range) (fits : List Fit) (f : Range) (ranges : List Range) (less : List Fit) (result : Range) → Lawful q (before ++ r ∷ after) → (n : NextJoined before r after middle fits f) → LastJoined before f n.rest ranges less result → Given q before r after ranges less result
given q before r after middle fits f ranges less result law n l =
    let put : written result ranges ≡ l.front ++ result ∷ n.rest = ap (written result) l.left ∙ written_at result l.front l.under n.rest l.below l.at in
    let t = back_of_tile None before (r ∷ after) law.tile in
    let m = each_back (IsMeasured q) before (r ∷ after) law.measured in
    let on = tile_behind (last_of None before) r after t in
    let back : merged (freed r ∷ after) ≡ f ∷ n.rest = ap (joined (freed r)) (merged_after q r after m.1 on) ∙ n.is in
    let all : merged (before ++ freed r ∷ after) ≡ l.front ++ result ∷ n.rest = merged_front q before (freed r ∷ after) (each_front (IsMeasured q) before (r ∷ after) law.measured) (front_of_tile None before (r ∷ after) law.tile) ∙ ap (joined_behind before) back ∙ l.is in
    record {
      is = put ∙ sym all;
      free = l.free;
      fit = λ new more test.
          let a = passing-append (λ y. not y.taken && test (fit_of y)) l.front (result ∷ n.rest) in
          let c = rw (free_counts test result l.free) at a in
          let d : passing test new ≡ free_passing test (l.front ++ result ∷ n.rest) = omega (arith, more test, l.fit test, c) in
          d ∙ ap (free_passing test) (sym put);
    }

-- ---- merging changes neither what is taken nor how much is free
taken_joined : (r : Range) (rs : List Range) → taken_bases (joined r rs) ≡ taken_bases (r ∷ rs)
taken_joined r [] = refl
taken_joined r (s ∷ rs) = by_case (are_one r s) refl
  where
    by_case : (b : Bool) → are_one r s ≡ b → taken_bases (joined r (s ∷ rs)) ≡ taken_bases (r ∷ s ∷ rs)
    by_case true e =
        let one = one_of r s e in
        ap taken_bases (joined_one r s rs e) ∙ rw (one.first, one.second) refl
    by_case false e = ap taken_bases (joined_not r s rs e)

cons_bases : (r : Range) (xs ys : List Range) → taken_bases xs ≡ taken_bases ys → taken_bases (r ∷ xs) ≡ taken_bases (r ∷ ys)
cons_bases r xs ys e = ap (λ l. if r.taken then r.base ∷ l else l) e

pub taken_bases-merged : (rs : List Range) → taken_bases (merged rs) ≡ taken_bases rs
taken_bases-merged [] = refl
taken_bases-merged (r ∷ rs) = taken_joined r (merged rs) ∙ cons_bases r (merged rs) rs (taken_bases-merged rs)

total_joined : (r : Range) (rs : List Range) → free_total (joined r rs) ≡ free_total (r ∷ rs)
total_joined r [] = refl
total_joined r (s ∷ rs) = by_case (are_one r s) refl
  where
    by_case : (b : Bool) → are_one r s ≡ b → free_total (joined r (s ∷ rs)) ≡ free_total (r ∷ s ∷ rs)
    by_case true e =
        let one = one_of r s e in
        let a : free_size r ≡ r.size = rw one.first refl in
        let c : free_size s ≡ s.size = rw one.second refl in
        let u : Range = record r { size = r.size + s.size } in
        let d : free_size u ≡ r.size + s.size = rw one.first refl in
        ap free_total (joined_one r s rs e) ∙ omega (arith, a, c, d)
    by_case false e = ap free_total (joined_not r s rs e)

pub total-merged : (rs : List Range) → free_total (merged rs) ≡ free_total rs
total-merged [] = refl
total-merged (r ∷ rs) = total_joined r (merged rs) ∙ ap (λ n. free_size r + n) (total-merged rs)

taken_count_joined : (r : Range) (rs : List Range) → taken_count (joined r rs) ≡ taken_count (r ∷ rs)
taken_count_joined r [] = refl
taken_count_joined r (s ∷ rs) = by_case (are_one r s) refl
  where
    by_case : (b : Bool) → are_one r s ≡ b → taken_count (joined r (s ∷ rs)) ≡ taken_count (r ∷ s ∷ rs)
    by_case true e =
        let one = one_of r s e in
        let a : one_if r.taken ≡ 0 = rw one.first refl in
        let c : one_if s.taken ≡ 0 = rw one.second refl in
        ap taken_count (joined_one r s rs e) ∙ omega (arith, a, c)
    by_case false e = ap taken_count (joined_not r s rs e)

pub taken_count-merged : (rs : List Range) → taken_count (merged rs) ≡ taken_count rs
taken_count-merged [] = refl
taken_count-merged (r ∷ rs) = taken_count_joined r (merged rs) ∙ ap (λ n. one_if r.taken + n) (taken_count-merged rs)

pub taken_freed : (before : List Range) (r : Range) (after : List Range) → r.taken ≡ true → taken_count (before ++ freed r ∷ after) + 1 ≡ taken_count (before ++ r ∷ after)
taken_freed before r after taken =
    let a = passing-append (λ (x : Range). x.taken) before (r ∷ after) in
    let b = passing-append (λ (x : Range). x.taken) before (freed r ∷ after) in
    let z : one_if r.taken ≡ 1 = rw taken refl in
    omega (arith, a, b, z)

pub total_freed : (before : List Range) (r : Range) (after : List Range) → r.taken ≡ true → free_total (before ++ freed r ∷ after) ≡ free_total (before ++ r ∷ after) + r.size
total_freed before r after taken =
    let z : free_size r ≡ 0 = rw taken refl in
    omega (arith, free_total-append before (r ∷ after), free_total-append before (freed r ∷ after), z)

pub bases_freed : (before : List Range) (r : Range) (after : List Range) → taken_bases (before ++ freed r ∷ after) ≡ taken_bases before ++ taken_bases after
bases_freed before r after = taken_bases-append before (freed r ∷ after)

pub bases_taken : (before : List Range) (r : Range) (after : List Range) → r.taken ≡ true → taken_bases (before ++ r ∷ after) ≡ taken_bases before ++ r.base ∷ taken_bases after
bases_taken before r after taken = taken_bases-append before (r ∷ after) ∙ rw taken refl
