-- A list of ranges in which the front of a free one is taken.
use Rattle.std.proofs.Common.{◌≡◌, ◌≢◌, ℕ, ◌+◌, ◌-◌, ◌<◌, Bool, true, false, not, ◌&&◌, ◌==◌, List, [], ◌∷◌, ◌++◌, None, All, inl, if◌then◌else◌, refl, ap, sym, subst, ◌∙◌, append_assoc, arith}
use Rattle.std.specs.List.{AllByRecursion}
use Rattle.std.proofs.lemmas.Bool.{eq-eqb, ne_eqb}
use Rattle.std.proofs.lemmas.Bool.Decides.{nat_tests}
use Rattle.std.proofs.lemmas.List.Elements.{All-from_recursion}
use Rattle.vmem_arena.specs.declared.free.Range.{Range}
use Rattle.vmem_arena.specs.declared.free.Fit.{Fit}
use Rattle.vmem_arena.specs.Fits.{HasOneLess, HasNone, Exchanges}
use Rattle.vmem_arena.specs.Kept.{fit_of, taken_count}
use Rattle.vmem_arena.specs.Steps.{AreFits, BeginFrom, BeginBelow, Spaced, IsPartOf}
use Rattle.vmem_arena.specs.Tags.{range_end, free_range, free_size, free_total}
use Rattle.vmem_arena.specs.TagsLaw.{IsMeasured, GoesOn, TileOn}
use Rattle.vmem_arena.specs.Take.{front_of, rest_of}
use Rattle.vmem_arena.specs.TakenBases.{taken_bases, HasOneMore as HasOneMoreBase}
use Rattle.vmem_arena.specs.ByBase.{put_in, written, NoneAt}
use Rattle.vmem_arena.proofs.FitOrder.{is_fit}
use Rattle.vmem_arena.proofs.FitLists.{passing-append, one_if}
use Rattle.vmem_arena.proofs.FreeCounts.{free_total-append, one_at_least}
use Rattle.vmem_arena.proofs.Multiples.{mod-add, mod-sub}
use Rattle.vmem_arena.proofs.Spaced.{begin_below, begin_sooner, below_further, below_push, spaced_back, written_at, put_at, none_by_recursion, each_front, each_back, each_append}
use Rattle.vmem_arena.proofs.Tiling.{last_of, front_of_tile, back_of_tile, tile_of, tile_on_as, tile_with}
use Rattle.vmem_arena.proofs.Merging.{Lawful}

-- what is left behind a front that isn't all
pub rest_part : (r : Range) (n : ℕ) → n < r.size → rest_of r n ≡ free_range (r.base + n) (r.size - n) r.span ∷ []
rest_part r n l =
    let t : (r.size == n) ≡ false = ne_eqb r.size n (λ e. omega arith) in
    rw t refl

pub rest_whole : (r : Range) (n : ℕ) → n ≡ r.size → rest_of r n ≡ []
rest_whole r n e =
    let t : (r.size == n) ≡ true = eq-eqb r.size n (sym e) in
    rw t refl

-- ---- the law
measured_front : (q n : ℕ) (r : Range) → IsMeasured q r → IsPartOf q n r → IsMeasured q (front_of r n)
measured_front q n r m p =
    let within = p.within in
    let high = m.high in
    record { some = p.some; base = m.base; size = p.multiple; low = m.low; high = omega arith; within = m.within }

measured_rest : (q n : ℕ) (r : Range) → IsMeasured q r → IsPartOf q n r → n < r.size → IsMeasured q (free_range (r.base + n) (r.size - n) r.span)
measured_rest q n r m p l =
    let high = m.high in
    let low = m.low in
    record {
      some = omega arith;
      base = mod-add q r.base n m.base p.multiple;
      size = mod-sub q r.size n m.size p.multiple p.within;
      low = omega arith;
      high = omega arith;
      within = m.within;
    }

lawful_by : (q : ℕ) (before : List Range) (r : Range) (after us : List Range) (u : Range) → Lawful q (before ++ r ∷ after) → u.base ≡ r.base → u.span ≡ r.span → (r.taken ≡ true → u.taken ≡ true) → AllByRecursion (IsMeasured q) (u ∷ us) → (TileOn r after → TileOn u us) → Lawful q (before ++ u ∷ us)
lawful_by q before r after us u l base span taken m on =
    record {
      measured = each_append (IsMeasured q) before (u ∷ us) (each_front (IsMeasured q) before (r ∷ after) l.measured) m;
      tile = tile_of None before (u ∷ us) (front_of_tile None before (r ∷ after) l.tile) (tile_with (last_of None before) r u after us base span taken (back_of_tile None before (r ∷ after) l.tile) on);
    }

pub lawful_whole : (q : ℕ) (before : List Range) (r : Range) (after : List Range) (n : ℕ) → Lawful q (before ++ r ∷ after) → IsPartOf q n r → n ≡ r.size → Lawful q (before ++ front_of r n ∷ after)
lawful_whole q before r after n l p e =
    let m = each_back (IsMeasured q) before (r ∷ after) l.measured in
    let ends : range_end (front_of r n) ≡ range_end r = omega arith in
    lawful_by q before r after after (front_of r n) l refl refl (λ t. refl) (measured_front q n r m.0 p, m.1) (tile_on_as r (front_of r n) after ends refl (λ t. refl))

pub lawful_part : (q : ℕ) (before : List Range) (r : Range) (after : List Range) (n : ℕ) → Lawful q (before ++ r ∷ after) → IsPartOf q n r → n < r.size → Lawful q (before ++ front_of r n ∷ free_range (r.base + n) (r.size - n) r.span ∷ after)
lawful_part q before r after n l p less =
    let m = each_back (IsMeasured q) before (r ∷ after) l.measured in
    let u = free_range (r.base + n) (r.size - n) r.span in
    let ends : range_end u ≡ range_end r = omega arith in
    let goes : GoesOn (front_of r n) u = record { span = refl; base = refl; apart = refl } in
    let taken : r.taken ≡ true → u.taken ≡ true = λ t. cc (t, p.free) in
    lawful_by q before r after (u ∷ after) (front_of r n) l refl refl (λ t. refl) (measured_front q n r m.0 p, (measured_rest q n r m.0 p less, m.1)) (λ t. (inl goes, tile_on_as r u after ends refl taken t))

-- ---- the lists
pub whole_is : (before : List Range) (r : Range) (after : List Range) (n : ℕ) → Spaced (before ++ r ∷ after) → written (front_of r n) (before ++ r ∷ after) ≡ before ++ front_of r n ∷ after
whole_is before r after n s = written_at (front_of r n) before r after (begin_below before r after s) refl

push_is : {X : Type 0} (xs : List X) (x : X) (ys : List X) → (xs ++ x ∷ []) ++ ys ≡ xs ++ x ∷ ys
push_is xs x ys = append_assoc xs (x ∷ []) ys

-- of the rest, between the range and those behind it
after_rest : (before : List Range) (r : Range) (after : List Range) (n : ℕ) → Spaced (before ++ r ∷ after) → n < r.size → BeginFrom (r.base + n + 1) after
after_rest before r after n s l = begin_sooner (r.base + n + 1) (range_end r) after (omega arith) (spaced_back before (r ∷ after) s).1

before_rest : (before : List Range) (r : Range) (after : List Range) (n : ℕ) → Spaced (before ++ r ∷ after) → 0 < n → BeginBelow (r.base + n) (before ++ r ∷ [])
before_rest before r after n s p = below_push (r.base + n) before r (below_further r.base (r.base + n) before (omega arith) (begin_below before r after s)) (omega arith)

pub none_at_rest : (before : List Range) (r : Range) (after : List Range) (n : ℕ) → Spaced (before ++ r ∷ after) → 0 < n → n < r.size → NoneAt (before ++ r ∷ after) (r.base + n)
none_at_rest before r after n s p l =
    let each = none_by_recursion (r.base + n) (before ++ r ∷ []) after (before_rest before r after n s p) (after_rest before r after n s l) in
    All-from_recursion _ _ (subst (AllByRecursion (λ (x : Range). x.base ≡ r.base + n → ⊥)) (push_is before r after) each)

pub part_is : (before : List Range) (r : Range) (after : List Range) (n : ℕ) (u : Range) → Spaced (before ++ r ∷ after) → 0 < n → n < r.size → u.base ≡ r.base + n → written (front_of r n) (put_in u (before ++ r ∷ after)) ≡ before ++ front_of r n ∷ u ∷ after
part_is before r after n u s p l e =
    let low = subst (λ k. BeginBelow k (before ++ r ∷ [])) (sym e) (before_rest before r after n s p) in
    let high = subst (λ k. BeginFrom (k + 1) after) (sym e) (after_rest before r after n s l) in
    let put : put_in u (before ++ r ∷ after) ≡ before ++ r ∷ u ∷ after = ap (put_in u) (sym (push_is before r after)) ∙ put_at u (before ++ r ∷ []) after low high ∙ push_is before r (u ∷ after) in
    ap (written (front_of r n)) put ∙ written_at (front_of r n) before r (u ∷ after) (begin_below before r after s) refl

-- ---- the fits
pub fit_is_there : (fits : List Fit) (before : List Range) (r : Range) (after : List Range) → AreFits fits (before ++ r ∷ after) → r.taken ≡ false → HasNone fits (fit_of r) → ⊥
fit_is_there fits before r after same free none =
    let k = fit_of r in
    let t : (not r.taken && is_fit k (fit_of r)) ≡ true = grind (arith, nat_tests) in
    let one = one_at_least (λ x. not x.taken && is_fit k (fit_of x)) before r after t in
    omega (arith, one, same (is_fit k), none)

pub free_counts : (test : Fit → Bool) (r : Range) → r.taken ≡ false → (not r.taken && test (fit_of r)) ≡ test (fit_of r)
free_counts test r f = rw f refl

pub fits_whole : (fits new : List Fit) (before : List Range) (r : Range) (after : List Range) (n : ℕ) → AreFits fits (before ++ r ∷ after) → r.taken ≡ false → HasOneLess fits (fit_of r) new → AreFits new (before ++ front_of r n ∷ after)
fits_whole fits new before r after n same free less test =
    let one = less (fit_is_there fits before r after same free) test in
    let a = passing-append (λ x. not x.taken && test (fit_of x)) before (r ∷ after) in
    let b = passing-append (λ x. not x.taken && test (fit_of x)) before (front_of r n ∷ after) in
    let c = rw (free_counts test r free) at a in
    omega (arith, one, b, c, same test)

pub fits_part : (fits new : List Fit) (before : List Range) (r : Range) (after : List Range) (n : ℕ) (u : Range) → AreFits fits (before ++ r ∷ after) → r.taken ≡ false → u.taken ≡ false → Exchanges fits (fit_of r) (fit_of u) new → AreFits new (before ++ front_of r n ∷ u ∷ after)
fits_part fits new before r after n u same free ufree less test =
    let one = less (fit_is_there fits before r after same free) test in
    let a = passing-append (λ x. not x.taken && test (fit_of x)) before (r ∷ after) in
    let b = passing-append (λ x. not x.taken && test (fit_of x)) before (front_of r n ∷ u ∷ after) in
    let c = rw (free_counts test r free) at a in
    let d = rw (free_counts test u ufree) at b in
    omega (arith, one, d, c, same test)

-- ---- the taken ones
pub taken_whole : (before : List Range) (r : Range) (after : List Range) (n : ℕ) → r.taken ≡ false → taken_count (before ++ front_of r n ∷ after) ≡ taken_count (before ++ r ∷ after) + 1
taken_whole before r after n free =
    let a = passing-append (λ (x : Range). x.taken) before (r ∷ after) in
    let b = passing-append (λ (x : Range). x.taken) before (front_of r n ∷ after) in
    let z : one_if r.taken ≡ 0 = rw free refl in
    omega (arith, a, b, z)

pub taken_part : (before : List Range) (r : Range) (after : List Range) (n : ℕ) (u : Range) → r.taken ≡ false → u.taken ≡ false → taken_count (before ++ front_of r n ∷ u ∷ after) ≡ taken_count (before ++ r ∷ after) + 1
taken_part before r after n u free ufree =
    let a = passing-append (λ (x : Range). x.taken) before (r ∷ after) in
    let b = passing-append (λ (x : Range). x.taken) before (front_of r n ∷ u ∷ after) in
    let z : one_if r.taken ≡ 0 = rw free refl in
    let y : one_if u.taken ≡ 0 = rw ufree refl in
    omega (arith, a, b, z, y)

-- ---- what is free
free_is : (r : Range) → r.taken ≡ false → free_size r ≡ r.size
free_is r f = rw f refl

pub total_whole : (before : List Range) (r : Range) (after : List Range) (n : ℕ) → r.taken ≡ false → n ≡ r.size → free_total (before ++ front_of r n ∷ after) + n ≡ free_total (before ++ r ∷ after)
total_whole before r after n free e =
    let f = free_is r free in
    omega (arith, free_total-append before (r ∷ after), free_total-append before (front_of r n ∷ after), f)

pub total_part : (before : List Range) (r : Range) (after : List Range) (n : ℕ) (u : Range) → r.taken ≡ false → u.taken ≡ false → u.size + n ≡ r.size → free_total (before ++ front_of r n ∷ u ∷ after) + n ≡ free_total (before ++ r ∷ after)
total_part before r after n u free ufree e =
    let f = free_is r free in
    let g = free_is u ufree in
    omega (arith, free_total-append before (r ∷ after), free_total-append before (front_of r n ∷ u ∷ after), f, g)

-- ---- the bases of the taken ones
pub taken_bases-append : (xs ys : List Range) → taken_bases (xs ++ ys) ≡ taken_bases xs ++ taken_bases ys
taken_bases-append [] ys = refl
taken_bases-append (x ∷ xs) ys = by_case x.taken x.base (taken_bases xs) (taken_bases ys) _ (taken_bases-append xs ys)
  where
    by_case : (b : Bool) (k : ℕ) (us vs ws : List ℕ) → ws ≡ us ++ vs → (if b then k ∷ ws else ws) ≡ (if b then k ∷ us else us) ++ vs
    by_case true k us vs ws e = ap (λ l. k ∷ l) e
    by_case false k us vs ws e = e

bases_below : (e : ℕ) (xs : List Range) → BeginBelow e xs → AllByRecursion (λ k. k ≢ e) (taken_bases xs)
bases_below e [] h = tt
bases_below e (x ∷ xs) h = by_case (λ k. k ≢ e) x.taken x.base (taken_bases xs) (let l = h.0 in λ s. omega arith) (bases_below e xs h.1)
  where
    by_case : (P : ℕ → Type 0) (b : Bool) (k : ℕ) (us : List ℕ) → P k → AllByRecursion P us → AllByRecursion P (if b then k ∷ us else us)
    by_case P true k us p h = (p, h)
    by_case P false k us p h = h

bases_from : (e : ℕ) (xs : List Range) → BeginFrom (e + 1) xs → AllByRecursion (λ k. k ≢ e) (taken_bases xs)
bases_from e [] h = tt
bases_from e (x ∷ xs) h = by_case (λ k. k ≢ e) x.taken x.base (taken_bases xs) (let l = h.0 in λ s. omega arith) (bases_from e xs h.1)
  where
    by_case : (P : ℕ → Type 0) (b : Bool) (k : ℕ) (us : List ℕ) → P k → AllByRecursion P us → AllByRecursion P (if b then k ∷ us else us)
    by_case P true k us p h = (p, h)
    by_case P false k us p h = h

-- none of the others' bases is that of a range
pub bases_apart : (before : List Range) (r : Range) (after : List Range) → Spaced (before ++ r ∷ after) → AllByRecursion (λ k. k ≢ r.base) (taken_bases before ++ taken_bases after)
bases_apart before r after s =
    let some = (spaced_back before (r ∷ after) s).0 in
    let high = begin_sooner (r.base + 1) (range_end r) after (omega arith) (spaced_back before (r ∷ after) s).1 in
    each_append (λ k. k ≢ r.base) (taken_bases before) (taken_bases after) (bases_below r.base before (begin_below before r after s)) (bases_from r.base after high)

-- the bases of a list with a taken range, and of one without
pub one_more_base : (before : List Range) (r : Range) (after with_it without : List Range) → Spaced (before ++ r ∷ after) → taken_bases with_it ≡ taken_bases before ++ r.base ∷ taken_bases after → taken_bases without ≡ taken_bases before ++ taken_bases after → HasOneMoreBase (taken_bases without) r.base (taken_bases with_it)
one_more_base before r after with_it without s more fewer =
    let each = bases_apart before r after s in
    record {
      lower = taken_bases before;
      higher = taken_bases after;
      fewer = fewer;
      more = more;
      new = subst (All (λ k. k ≢ r.base)) (sym fewer) (All-from_recursion (λ k. k ≢ r.base) _ each);
    }

pub bases_whole : (before : List Range) (r : Range) (after : List Range) (n : ℕ) → taken_bases (before ++ front_of r n ∷ after) ≡ taken_bases before ++ r.base ∷ taken_bases after
bases_whole before r after n = taken_bases-append before (front_of r n ∷ after)

pub bases_part : (before : List Range) (r : Range) (after : List Range) (n : ℕ) (u : Range) → u.taken ≡ false → taken_bases (before ++ front_of r n ∷ u ∷ after) ≡ taken_bases before ++ r.base ∷ taken_bases after
bases_part before r after n u free = taken_bases-append before (front_of r n ∷ u ∷ after) ∙ rw free refl

pub bases_free : (before : List Range) (r : Range) (after : List Range) → r.taken ≡ false → taken_bases (before ++ r ∷ after) ≡ taken_bases before ++ taken_bases after
bases_free before r after free = taken_bases-append before (r ∷ after) ∙ rw free refl
