-- What each call keeps of an arena.
use Rattle.std.proofs.Common.{◌≡◌, ◌≢◌, ℕ, ◌+◌, ◌-◌, ◌^◌, ◌<◌, ◌≤◌, Bool, true, false, List, [], ◌∷◌, ◌++◌, Contains, vec_len, if◌then◌else◌, refl, ap, sym, subst, ◌∙◌, append_assoc, arith}
use Rattle.std.specs.List.{AllByRecursion}
use Rattle.std.proofs.lemmas.List.Elements.{All-from_recursion, recursion_from_All, All-contains, Contains-append_right}
use Rattle.vmem_arena.specs.declared.free.Range.{Range}
use Rattle.vmem_arena.specs.declared.free.Span.{Span}
use Rattle.vmem_arena.specs.declared.free.Fit.{Fit}
use Rattle.vmem_arena.specs.declared.arena.Arena.TheInside.{Inside}
use Rattle.vmem_arena.specs.Fits.{HasOneMore, HasOneLess, Exchanges}
use Rattle.vmem_arena.specs.Kept.{IsKept, tags_of, fit_of, taken_count}
use Rattle.vmem_arena.specs.Add.{IsSpanShape, MeetsNone, Adds}
use Rattle.vmem_arena.specs.Take.{front_of}
use Rattle.vmem_arena.specs.Give.{merged, Gives}
use Rattle.vmem_arena.specs.ByBase.{IsAt, NoneAt, put_in, written}
use Rattle.vmem_arena.specs.Steps.{AreFits, BeginFrom, Spaced, EndLow, StandsIn, IsPartOf, TakesFront, NextJoined, LastJoined}
use Rattle.vmem_arena.specs.Tags.{Tags, range_end, free_range, free_total}
use Rattle.vmem_arena.specs.TagsLaw.{TagsLaw, IsQuantum, IsMeasured}
use Rattle.vmem_arena.specs.TakenBases.{taken_bases, HasOneMore as HasOneMoreBase}
use Rattle.vmem_arena.proofs.FreeCounts.{each_weaker, total_within, free_le_total}
use Rattle.vmem_arena.proofs.Spaced.{each_at, each_front, each_back, each_append, spaced_back, begin_back}
use Rattle.vmem_arena.proofs.Tiling.{spaced}
use Rattle.vmem_arena.proofs.Merging.{Lawful, lawful_give}
use Rattle.vmem_arena.proofs.Adding.{Parted, parted, lawful_add, put_span_is, fits_add, taken_add, total_add, bases_add}
use Rattle.vmem_arena.proofs.Taking.{lawful_whole, lawful_part, whole_is, part_is, fits_whole, fits_part, taken_whole, taken_part, total_whole, total_part, rest_whole, rest_part, one_more_base, bases_whole, bases_part, bases_free, bases_apart, none_at_rest}
use Rattle.vmem_arena.proofs.Giving.{given, taken_bases-merged, total-merged, taken_count-merged, taken_freed, total_freed, bases_freed, bases_taken}

pub lawful : (a : Inside) → IsKept a → Lawful a.quantum a.by_base
lawful a k = record { measured = recursion_from_All (IsMeasured a.quantum) a.by_base k.law.measured; tile = k.law.tile }

law_of : (t : Tags) → IsQuantum t.quantum → Lawful t.quantum t.ranges → TagsLaw t
law_of t q l = record { quantum = q; measured = All-from_recursion (IsMeasured t.quantum) t.ranges l.measured; tile = l.tile }

pub spaced_of : (a : Inside) → IsKept a → Spaced a.by_base
spaced_of a k = let l = lawful a k in spaced a.quantum a.by_base l.measured l.tile

ends_each : (q : ℕ) (rs : List Range) → AllByRecursion (IsMeasured q) rs → AllByRecursion (λ (r : Range). range_end r ≤ 2 ^ 63) rs
ends_each q rs m = each_weaker (IsMeasured q) (λ (r : Range). range_end r ≤ 2 ^ 63) (λ r h. let a = h.high in let b = h.within in omega arith) rs m

begin_zero : (rs : List Range) → BeginFrom 0 rs
begin_zero [] = tt
begin_zero (r ∷ rs) = (omega arith, begin_zero rs)

-- no more is free than there are numbers
pub total_low : (a : Inside) → IsKept a → a.free_total ≤ 2 ^ 63
total_low a k =
    let l = lawful a k in
    let z : 0 ≤ 2 ^ 63 = omega arith in
    let t = total_within 0 (2 ^ 63) a.by_base (begin_zero a.by_base) (spaced_of a k) (ends_each a.quantum a.by_base l.measured) z in
    let e = k.total in
    omega arith

-- ---- a span comes
span_parts : (a : Inside) (span : Span) → IsKept a → 0 < span.size → MeetsNone span a.by_base → Parted a.quantum a.by_base span
span_parts a span k size none = parted a.quantum a.by_base span (lawful a k).measured (spaced_of a k) size (recursion_from_All _ _ none)

pub kept_add : (a b : Inside) (span : Span) → IsKept a → IsSpanShape a.quantum span → MeetsNone span a.by_base → b.quantum ≡ a.quantum → b.by_base ≡ put_in (free_range span.base span.size span) a.by_base → HasOneMore a.free.by_size (record { size = span.size; base = span.base }) b.free.by_size → vec_len b.free.spares ≡ vec_len a.free.spares → b.free_total ≡ a.free_total + span.size → IsKept b
kept_add a b span k shape none quantum ranges more spares total =
    let p = span_parts a span k shape.some none in
    let u = free_range span.base span.size span in
    let is : b.by_base ≡ p.before ++ u ∷ p.after = ranges ∙ put_span_is a.quantum a.by_base span shape.some p in
    let l = lawful_add a.quantum a.by_base span (lawful a k) shape p in
    let m : Lawful b.quantum b.by_base = rw (quantum, is) l in
    let f = fits_add a.free.by_size b.free.by_size p.before p.after u (subst (AreFits a.free.by_size) p.is k.free) refl more in
    let c : taken_count b.by_base ≡ taken_count a.by_base = ap taken_count is ∙ taken_add p.before p.after span ∙ ap taken_count (sym p.is) in
    let t : free_total b.by_base ≡ free_total a.by_base + span.size = ap free_total is ∙ total_add p.before p.after span ∙ ap (λ l. free_total l + span.size) (sym p.is) in
    let s = k.spares in
    let e = k.total in
    record {
      law = law_of (tags_of b) (subst IsQuantum (sym quantum) k.law.quantum) m;
      free = subst (AreFits b.free.by_size) (sym is) f;
      spares = omega arith;
      total = omega arith;
    }

pub adds : (a : Inside) (b : Tags) (span : Span) → IsKept a → 0 < span.size → MeetsNone span a.by_base → b.quantum ≡ a.quantum → b.ranges ≡ put_in (free_range span.base span.size span) a.by_base → Adds (tags_of a) span b
adds a b span k size none quantum ranges =
    let p = span_parts a span k size none in
    let is = ranges ∙ put_span_is a.quantum a.by_base span size p in
    record {
      before = p.before;
      after = p.after;
      below = All-from_recursion _ p.before p.below;
      above = All-from_recursion _ p.after p.above;
      was = p.is;
      is = λ i. record { quantum = quantum i; ranges = is i };
    }

pub bases_of_add : (a : Inside) (span : Span) → IsKept a → 0 < span.size → MeetsNone span a.by_base → taken_bases (put_in (free_range span.base span.size span) a.by_base) ≡ taken_bases a.by_base
bases_of_add a span k size none =
    let p = span_parts a span k size none in
    ap taken_bases (put_span_is a.quantum a.by_base span size p) ∙ bases_add p.before p.after span ∙ ap taken_bases (sym p.is)

-- ---- all of a free range is taken
spaced_at : (a : Inside) (r : Range) → IsKept a → (s : StandsIn a.by_base r) → Spaced (s.before ++ r ∷ s.after)
spaced_at a r k s = subst Spaced s.is (spaced_of a k)

lawful_at : (a : Inside) (r : Range) → IsKept a → (s : StandsIn a.by_base r) → Lawful a.quantum (s.before ++ r ∷ s.after)
lawful_at a r k s = subst (Lawful a.quantum) s.is (lawful a k)

pub size_le_total : (a : Inside) (r : Range) → IsKept a → StandsIn a.by_base r → r.taken ≡ false → r.size ≤ a.free_total
size_le_total a r k s free =
    let h = free_le_total s.before r s.after free in
    let e = k.total in
    let t : free_total a.by_base ≡ free_total (s.before ++ r ∷ s.after) = ap free_total s.is in
    omega arith

whole_at : (a : Inside) (r : Range) → IsKept a → (s : StandsIn a.by_base r) → written (front_of r r.size) a.by_base ≡ s.before ++ front_of r r.size ∷ s.after
whole_at a r k s = ap (written (front_of r r.size)) s.is ∙ whole_is s.before r s.after r.size (spaced_at a r k s)

pub kept_whole : (a b : Inside) (r : Range) → IsKept a → StandsIn a.by_base r → IsPartOf a.quantum r.size r → b.quantum ≡ a.quantum → b.by_base ≡ written (front_of r r.size) a.by_base → HasOneLess a.free.by_size (record { size = r.size; base = r.base }) b.free.by_size → vec_len b.free.spares ≡ vec_len a.free.spares + 1 → b.free_total ≡ a.free_total - r.size → IsKept b
kept_whole a b r k s part quantum ranges less spares total =
    let is = ranges ∙ whole_at a r k s in
    let l = lawful_whole a.quantum s.before r s.after r.size (lawful_at a r k s) part refl in
    let m : Lawful b.quantum b.by_base = rw (quantum, is) l in
    let f = fits_whole a.free.by_size b.free.by_size s.before r s.after r.size (subst (AreFits a.free.by_size) s.is k.free) part.free less in
    let c = ap taken_count is ∙ taken_whole s.before r s.after r.size part.free in
    let d : taken_count a.by_base ≡ taken_count (s.before ++ r ∷ s.after) = ap taken_count s.is in
    let t = total_whole s.before r s.after r.size part.free refl in
    let u : free_total b.by_base ≡ free_total (s.before ++ front_of r r.size ∷ s.after) = ap free_total is in
    let v : free_total a.by_base ≡ free_total (s.before ++ r ∷ s.after) = ap free_total s.is in
    let g = k.spares in
    let e = k.total in
    record {
      law = law_of (tags_of b) (subst IsQuantum (sym quantum) k.law.quantum) m;
      free = subst (AreFits b.free.by_size) (sym is) f;
      spares = omega arith;
      total = omega arith;
    }

pub takes_whole : (a : Inside) (b : Tags) (r : Range) → IsKept a → StandsIn a.by_base r → b.quantum ≡ a.quantum → b.ranges ≡ written (front_of r r.size) a.by_base → TakesFront (tags_of a) r r.size b
takes_whole a b r k s quantum ranges =
    let rest = rest_whole r r.size refl in
    let is = ranges ∙ whole_at a r k s ∙ ap (λ l. s.before ++ front_of r r.size ∷ (l ++ s.after)) (sym rest) in
    record { before = s.before; after = s.after; was = s.is; is = λ i. record { quantum = quantum i; ranges = is i } }

pub bases_of_whole : (a : Inside) (r : Range) → IsKept a → StandsIn a.by_base r → r.taken ≡ false → HasOneMoreBase (taken_bases a.by_base) r.base (taken_bases (written (front_of r r.size) a.by_base))
bases_of_whole a r k s free =
    one_more_base s.before r s.after (written (front_of r r.size) a.by_base) a.by_base (spaced_at a r k s)
    (ap taken_bases (whole_at a r k s) ∙ bases_whole s.before r s.after r.size)
    (ap taken_bases s.is ∙ bases_free s.before r s.after free)

-- ---- the front of a free range is taken
part_at : (a : Inside) (r : Range) (n : ℕ) → IsKept a → (s : StandsIn a.by_base r) → 0 < n → n < r.size → written (front_of r n) (put_in (free_range (r.base + n) (r.size - n) r.span) a.by_base) ≡ s.before ++ front_of r n ∷ free_range (r.base + n) (r.size - n) r.span ∷ s.after
part_at a r n k s some less =
    ap (λ l. written (front_of r n) (put_in (free_range (r.base + n) (r.size - n) r.span) l)) s.is ∙ part_is s.before r s.after n (free_range (r.base + n) (r.size - n) r.span) (spaced_at a r k s) some less refl

pub none_at_part : (a : Inside) (r : Range) (n : ℕ) → IsKept a → StandsIn a.by_base r → 0 < n → n < r.size → NoneAt a.by_base (r.base + n)
none_at_part a r n k s some less = subst (λ l. NoneAt l (r.base + n)) (sym s.is) (none_at_rest s.before r s.after n (spaced_at a r k s) some less)

pub end_of_part : (a : Inside) (r : Range) → IsKept a → StandsIn a.by_base r → range_end r ≤ 2 ^ 63
end_of_part a r k s = each_at (λ (x : Range). range_end x ≤ 2 ^ 63) s.before r s.after (ends_each a.quantum (s.before ++ r ∷ s.after) (lawful_at a r k s).measured)

pub kept_part : (a b : Inside) (r : Range) (n : ℕ) → IsKept a → StandsIn a.by_base r → IsPartOf a.quantum n r → n < r.size → b.quantum ≡ a.quantum → b.by_base ≡ written (front_of r n) (put_in (free_range (r.base + n) (r.size - n) r.span) a.by_base) → Exchanges a.free.by_size (record { size = r.size; base = r.base }) (record { size = r.size - n; base = r.base + n }) b.free.by_size → vec_len b.free.spares ≡ vec_len a.free.spares + 1 → b.free_total ≡ a.free_total - n → IsKept b
kept_part a b r n k s part less quantum ranges exchange spares total =
    let w = free_range (r.base + n) (r.size - n) r.span in
    let is = ranges ∙ part_at a r n k s part.some less in
    let l = lawful_part a.quantum s.before r s.after n (lawful_at a r k s) part less in
    let m : Lawful b.quantum b.by_base = rw (quantum, is) l in
    let f = fits_part a.free.by_size b.free.by_size s.before r s.after n w (subst (AreFits a.free.by_size) s.is k.free) part.free refl exchange in
    let c = ap taken_count is ∙ taken_part s.before r s.after n w part.free refl in
    let d : taken_count a.by_base ≡ taken_count (s.before ++ r ∷ s.after) = ap taken_count s.is in
    let sizes : (r.size - n) + n ≡ r.size = omega arith in
    let t = total_part s.before r s.after n w part.free refl sizes in
    let u : free_total b.by_base ≡ free_total (s.before ++ front_of r n ∷ w ∷ s.after) = ap free_total is in
    let v : free_total a.by_base ≡ free_total (s.before ++ r ∷ s.after) = ap free_total s.is in
    let g = k.spares in
    let e = k.total in
    record {
      law = law_of (tags_of b) (subst IsQuantum (sym quantum) k.law.quantum) m;
      free = subst (AreFits b.free.by_size) (sym is) f;
      spares = omega arith;
      total = omega arith;
    }

pub takes_part : (a : Inside) (b : Tags) (r : Range) (n : ℕ) → IsKept a → StandsIn a.by_base r → 0 < n → n < r.size → b.quantum ≡ a.quantum → b.ranges ≡ written (front_of r n) (put_in (free_range (r.base + n) (r.size - n) r.span) a.by_base) → TakesFront (tags_of a) r n b
takes_part a b r n k s some less quantum ranges =
    let rest = rest_part r n less in
    let is = ranges ∙ part_at a r n k s some less ∙ ap (λ l. s.before ++ front_of r n ∷ (l ++ s.after)) (sym rest) in
    record { before = s.before; after = s.after; was = s.is; is = λ i. record { quantum = quantum i; ranges = is i } }

pub bases_of_part : (a : Inside) (r : Range) (n : ℕ) → IsKept a → StandsIn a.by_base r → r.taken ≡ false → 0 < n → n < r.size → HasOneMoreBase (taken_bases a.by_base) r.base (taken_bases (written (front_of r n) (put_in (free_range (r.base + n) (r.size - n) r.span) a.by_base)))
bases_of_part a r n k s free some less =
    one_more_base s.before r s.after (written (front_of r n) (put_in (free_range (r.base + n) (r.size - n) r.span) a.by_base)) a.by_base (spaced_at a r k s)
    (ap taken_bases (part_at a r n k s some less) ∙ bases_part s.before r s.after n (free_range (r.base + n) (r.size - n) r.span) refl)
    (ap taken_bases s.is ∙ bases_free s.before r s.after free)

-- ---- whether a range is taken
contains_here : (xs : List ℕ) (x : ℕ) (ys : List ℕ) → Contains (xs ++ x ∷ ys) x
contains_here xs x ys =
    let here : Contains (x ∷ ys) x = (0, omega arith, refl) in
    Contains-append_right xs (x ∷ ys) x here

pub is_among : (a : Inside) (base : ℕ) (r : Range) → IsAt a.by_base base r → r.taken ≡ true → Contains (taken_bases a.by_base) base
is_among a base r h taken =
    let e = ap taken_bases h.is ∙ bases_taken h.before r h.after taken in
    let c : Contains (taken_bases a.by_base) r.base = subst (λ l. Contains l r.base) (sym e) (contains_here (taken_bases h.before) r.base (taken_bases h.after)) in
    subst (Contains (taken_bases a.by_base)) h.begins c

pub not_among : (a : Inside) (base : ℕ) (r : Range) → IsKept a → IsAt a.by_base base r → r.taken ≡ false → Contains (taken_bases a.by_base) base → ⊥
not_among a base r k h free c =
    let e = ap taken_bases h.is ∙ bases_free h.before r h.after free in
    let apart = bases_apart h.before r h.after (subst Spaced h.is (spaced_of a k)) in
    let d = subst (λ l. Contains l base) e c in
    All-contains (λ n. n ≢ r.base) _ base (All-from_recursion _ _ apart) d (sym h.begins)

none_bases : (base : ℕ) (rs : List Range) → AllByRecursion (λ (r : Range). r.base ≡ base → ⊥) rs → AllByRecursion (λ n. n ≢ base) (taken_bases rs)
none_bases base [] h = tt
none_bases base (r ∷ rs) h = by_case r.taken (none_bases base rs h.1)
  where
    by_case : (b : Bool) → AllByRecursion (λ n. n ≢ base) (taken_bases rs) → AllByRecursion (λ n. n ≢ base) (if b then r.base ∷ taken_bases rs else taken_bases rs)
    by_case true g = (h.0, g)
    by_case false g = g

pub none_among : (a : Inside) (base : ℕ) → NoneAt a.by_base base → Contains (taken_bases a.by_base) base → ⊥
none_among a base h c = All-contains (λ n. n ≢ base) _ base (All-from_recursion _ _ (none_bases base a.by_base (recursion_from_All _ _ h))) c refl

-- ---- a taken range is given back
pub stands_at : (a : Inside) (base : ℕ) (r : Range) → IsAt a.by_base base r → StandsIn a.by_base r
stands_at a base r h = record { before = h.before; after = h.after; is = h.is }

-- what the two joinings and the write make of the ranges and the fits
pub record Freed (a : Inside) (r : Range) (s : StandsIn a.by_base r) (ranges : List Range) (fits : List Fit) (result : Range) : Type 0 where
  pub is : written result ranges ≡ merged (s.before ++ record r { taken = false } ∷ s.after)
  pub fit : (new : List Fit) → HasOneMore fits (fit_of result) new → AreFits new (written result ranges)

begin_gone : (e : ℕ) (xs gone rest : List Range) → BeginFrom e (xs ++ (gone ++ rest)) → BeginFrom e (xs ++ rest)
begin_gone e [] gone rest h = begin_back e gone rest h
begin_gone e (x ∷ xs) gone rest h = (h.0, begin_gone e xs gone rest h.1)

-- without the range that comes next, the others still lie apart
spaced_gone : (xs gone rest : List Range) → Spaced (xs ++ (gone ++ rest)) → Spaced (xs ++ rest)
spaced_gone [] gone rest s = spaced_back gone rest s
spaced_gone (x ∷ xs) gone rest s = (s.0, begin_gone (range_end x) xs gone rest s.1, spaced_gone xs gone rest s.2)

pub spaced_left : (a : Inside) (r : Range) (k : IsKept a) (s : StandsIn a.by_base r) {middle : List Range} {fits : List Fit} {f : Range} → NextJoined s.before r s.after middle fits f → Spaced middle
spaced_left a r k s n =
    let whole = subst (λ l. Spaced (s.before ++ r ∷ l)) n.parts (spaced_at a r k s) in
    let e = append_assoc s.before (r ∷ []) (n.gone ++ n.rest) in
    let h = spaced_gone (s.before ++ r ∷ []) n.gone n.rest (subst Spaced (sym e) whole) in
    subst Spaced (append_assoc s.before (r ∷ []) n.rest ∙ sym n.left) h

pub end_low_left : (a : Inside) (r : Range) (k : IsKept a) (s : StandsIn a.by_base r) {middle : List Range} {fits : List Fit} {f : Range} → NextJoined s.before r s.after middle fits f → EndLow middle
end_low_left a r k s n =
    let P : Range → Type 0 = λ x. range_end x ≤ 2 ^ 63 in
    let each = ends_each a.quantum (s.before ++ r ∷ s.after) (lawful_at a r k s).measured in
    let back = each_back P s.before (r ∷ s.after) each in
    let rest = each_back P n.gone n.rest (subst (AllByRecursion P) n.parts back.1) in
    let all = each_append P s.before (r ∷ n.rest) (each_front P s.before (r ∷ s.after) each) (back.0, rest) in
    subst EndLow (sym n.left) (All-from_recursion P _ all)

pub freed_at : (a : Inside) (r : Range) (k : IsKept a) (s : StandsIn a.by_base r) (middle : List Range) (fits : List Fit) (f : Range) (ranges : List Range) (less : List Fit) (result : Range) → r.taken ≡ true
    → ((before after : List Range) → a.by_base ≡ before ++ r ∷ after → r.taken ≡ true → Spaced a.by_base → AreFits a.free.by_size a.by_base → NextJoined before r after middle fits f)
    → ((before : List Range) (u : Range) (rest : List Range) → middle ≡ before ++ u ∷ rest → u.base ≡ f.base → u.taken ≡ true → f.taken ≡ false → Spaced middle → AreFits fits middle → LastJoined before f rest ranges less result)
    → Freed a r s ranges less result
freed_at a r k s middle fits f ranges less result taken next last =
    let n = next s.before s.after s.is taken (spaced_of a k) k.free in
    let m = spaced_left a r k s n in
    let l = last s.before r n.rest n.left (sym n.base) taken n.free m n.fit in
    let g = given a.quantum s.before r s.after middle fits f ranges less result (lawful_at a r k s) n l in
    record { is = g.is; fit = g.fit }

pub kept_give : (a b : Inside) (r : Range) (s : StandsIn a.by_base r) (ranges : List Range) (fits : List Fit) (result : Range) → IsKept a → r.taken ≡ true → Freed a r s ranges fits result → b.quantum ≡ a.quantum → b.by_base ≡ written result ranges → HasOneMore fits (record { size = result.size; base = result.base }) b.free.by_size → vec_len b.free.spares + 1 ≡ vec_len a.free.spares → b.free_total ≡ a.free_total + r.size → IsKept b
kept_give a b r s ranges fits result k taken g quantum is more spares total =
    let whole = is ∙ g.is in
    let l = lawful_give a.quantum s.before r s.after (lawful_at a r k s) in
    let m : Lawful b.quantum b.by_base = rw (quantum, whole) l in
    let free = record r { taken = false } in
    let c = ap taken_count whole ∙ taken_count-merged (s.before ++ free ∷ s.after) in
    let d = taken_freed s.before r s.after taken in
    let u : taken_count a.by_base ≡ taken_count (s.before ++ r ∷ s.after) = ap taken_count s.is in
    let t = ap free_total whole ∙ total-merged (s.before ++ free ∷ s.after) ∙ total_freed s.before r s.after taken in
    let v : free_total a.by_base ≡ free_total (s.before ++ r ∷ s.after) = ap free_total s.is in
    let h = k.spares in
    let e = k.total in
    record {
      law = law_of (tags_of b) (subst IsQuantum (sym quantum) k.law.quantum) m;
      free = subst (AreFits b.free.by_size) (sym is) (g.fit b.free.by_size more);
      spares = omega arith;
      total = omega arith;
    }

-- a taken range has a spare node
pub spare_of : (a : Inside) (r : Range) → IsKept a → StandsIn a.by_base r → r.taken ≡ true → 0 < vec_len a.free.spares
spare_of a r k s taken =
    let d = taken_freed s.before r s.after taken in
    let u : taken_count a.by_base ≡ taken_count (s.before ++ r ∷ s.after) = ap taken_count s.is in
    let h = k.spares in
    omega arith

pub gives : (a : Inside) (b : Tags) (r : Range) (s : StandsIn a.by_base r) (ranges : List Range) (fits : List Fit) (result : Range) (base : ℕ) → r.base ≡ base → r.taken ≡ true → Freed a r s ranges fits result → b.quantum ≡ a.quantum → b.ranges ≡ written result ranges → Gives (tags_of a) base r.size b
gives a b r s ranges fits result base begins taken g quantum is =
    let whole = is ∙ g.is in
    record {
      before = s.before;
      range = r;
      after = s.after;
      begins = begins;
      taken = taken;
      long = refl;
      was = s.is;
      is = λ i. record { quantum = quantum i; ranges = whole i };
    }

pub bases_of_give : (a : Inside) (r : Range) (s : StandsIn a.by_base r) (ranges : List Range) (fits : List Fit) (result : Range) (base : ℕ) → IsKept a → r.base ≡ base → r.taken ≡ true → Freed a r s ranges fits result → HasOneMoreBase (taken_bases (written result ranges)) base (taken_bases a.by_base)
bases_of_give a r s ranges fits result base k begins taken g =
    let h = one_more_base s.before r s.after a.by_base (written result ranges) (spaced_at a r k s)
    (ap taken_bases s.is ∙ bases_taken s.before r s.after taken)
    (ap taken_bases g.is ∙ taken_bases-merged (s.before ++ record r { taken = false } ∷ s.after) ∙ bases_freed s.before r s.after) in
    subst (λ n. HasOneMoreBase (taken_bases (written result ranges)) n (taken_bases a.by_base)) begins h

pub is_true_by : (b : Bool) → (b ≡ false → ⊥) → b ≡ true
is_true_by true h = refl
is_true_by false h = absurd (h refl)
