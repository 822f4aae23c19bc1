-- Ranges with their free neighbours as one.
use Rattle.std.proofs.Common.{◌≡◌, ℕ, ◌+◌, ◌≤◌, ◌⊎◌, inl, inr, Bool, true, false, not, cond, ◌||◌, ◌&&◌, ◌==◌, List, [], ◌∷◌, ◌++◌, Some, None, refl, ap, sym, subst, ◌∙◌, arith}
use Rattle.std.specs.List.{AllByRecursion}
use Rattle.std.proofs.lemmas.Bool.{eqb-true, eq-eqb, ne_eqb}
use Rattle.vmem_arena.specs.declared.free.Range.{Range}
use Rattle.vmem_arena.specs.declared.free.Span.{Span}
use Rattle.vmem_arena.specs.Tags.{range_end, span_end}
use Rattle.vmem_arena.specs.TagsLaw.{IsMeasured, BeginsAnew, TileOn, Tile}
use Rattle.vmem_arena.specs.Give.{are_one, joined, merged}
use Rattle.vmem_arena.specs.Steps.{joined_behind}
use Rattle.vmem_arena.proofs.Multiples.{mod-add}
use Rattle.vmem_arena.proofs.Tiling.{Follows, Front, tile_on_as}

-- ---- when two are one
pub record AreOne (r s : Range) : Type 0 where
  pub first : r.taken ≡ false
  pub second : s.taken ≡ false
  pub span : r.span.base ≡ s.span.base
  pub touch : range_end r ≡ s.base

one_cases : (a b c d : Bool) → (not a && not b && c && d) ≡ true → (a ≡ false) × (b ≡ false) × (c ≡ true) × (d ≡ true)
one_cases true b c d h = cc h
one_cases false true c d h = cc h
one_cases false false true true h = (refl, refl, refl, refl)
one_cases false false true false h = cc h
one_cases false false false d h = cc h

pub one_of : (r s : Range) → are_one r s ≡ true → AreOne r s
one_of r s h =
    let g = one_cases r.taken s.taken (r.span.base == s.span.base) (range_end r == s.base) h in
    record { first = g.0; second = g.1; span = eqb-true r.span.base s.span.base g.2; touch = eqb-true (range_end r) s.base g.3 }

taken_not : (a b c d : Bool) → (a || b) ≡ true → (not a && not b && c && d) ≡ false
taken_not true b c d h = refl
taken_not false true c d h = refl
taken_not false false c d h = cc h

other_not : (a b c d : Bool) → c ≡ false → (not a && not b && c && d) ≡ false
other_not true b c d h = refl
other_not false true c d h = refl
other_not false false true d h = cc h
other_not false false false d h = refl

apart_not : (a b c d : Bool) → d ≡ false → (not a && not b && c && d) ≡ false
apart_not true b c d h = refl
apart_not false true c d h = refl
apart_not false false true true h = cc h
apart_not false false true false h = refl
apart_not false false false d h = refl

apart_of : (a b c d : Bool) → c ≡ true → d ≡ true → (not a && not b && c && d) ≡ false → (a || b) ≡ true
apart_of true b c d e f h = refl
apart_of false true c d e f h = refl
apart_of false false true true e f h = cc h
apart_of false false true false e f h = cc f
apart_of false false false d e f h = cc e

-- the base of the next span isn't that of this one
spans_differ : (q : ℕ) (r s : Range) → IsMeasured q r → BeginsAnew r s → r.span.base ≡ s.span.base → ⊥
spans_differ q r s m g e = let some = m.some in let low = m.low in let first = g.first in let behind = g.behind in omega arith

pub not_one : (q : ℕ) (r s : Range) → IsMeasured q r → Follows r s → are_one r s ≡ false
not_one q r s m (inl g) = taken_not r.taken s.taken (r.span.base == s.span.base) (range_end r == s.base) g.apart
not_one q r s m (inr g) = other_not r.taken s.taken (r.span.base == s.span.base) (range_end r == s.base) (ne_eqb r.span.base s.span.base (spans_differ q r s m g))

-- one that doesn't begin at the end isn't one with the range before it
pub not_one_apart : (r s : Range) → (s.base ≡ range_end r → ⊥) → are_one r s ≡ false
not_one_apart r s h = apart_not r.taken s.taken (r.span.base == s.span.base) (range_end r == s.base) (ne_eqb (range_end r) s.base (λ e. h (sym e)))

pub joined_not : (r s : Range) (rs : List Range) → are_one r s ≡ false → joined r (s ∷ rs) ≡ r ∷ s ∷ rs
joined_not r s rs h = rw h refl

pub joined_one : (r s : Range) (rs : List Range) → are_one r s ≡ true → joined r (s ∷ rs) ≡ record r { size = r.size + s.size } ∷ rs
joined_one r s rs h = rw h refl

-- ---- what has no free neighbours stays
pub merged_same : (q : ℕ) (r : Range) (rs : List Range) → AllByRecursion (IsMeasured q) (r ∷ rs) → TileOn r rs → merged (r ∷ rs) ≡ r ∷ rs
merged_same q r [] m t = refl
merged_same q r (s ∷ rs) m t = ap (joined r) (merged_same q s rs m.1 t.1) ∙ joined_not r s rs (not_one q r s m.0 t.0)

pub merged_after : (q : ℕ) (r : Range) (rs : List Range) → AllByRecursion (IsMeasured q) rs → TileOn r rs → merged rs ≡ rs
merged_after q r [] m t = refl
merged_after q r (s ∷ rs) m t = merged_same q s rs m t.1

-- a list that begins as a range does
record BeginsAs (r : Range) (rs : List Range) : Type 0 where
  head : Range
  tail : List Range
  is : rs ≡ head ∷ tail
  base : head.base ≡ r.base
  span : head.span ≡ r.span
  taken : head.taken ≡ r.taken

joined_begins_by : (b : Bool) (r s : Range) (rs : List Range) → BeginsAs r (cond b (record r { size = r.size + s.size } ∷ rs) (r ∷ s ∷ rs))
joined_begins_by true r s rs = record { head = record r { size = r.size + s.size }; tail = rs; is = refl; base = refl; span = refl; taken = refl }
joined_begins_by false r s rs = record { head = r; tail = s ∷ rs; is = refl; base = refl; span = refl; taken = refl }

joined_begins : (r : Range) (rs : List Range) → BeginsAs r (joined r rs)
joined_begins r [] = record { head = r; tail = []; is = refl; base = refl; span = refl; taken = refl }
joined_begins r (s ∷ rs) = joined_begins_by (are_one r s) r s rs

behind_begins : (r : Range) (rs ys : List Range) → BeginsAs r (joined_behind (r ∷ rs) ys)
behind_begins r [] ys = joined_begins r ys
behind_begins r (s ∷ rs) ys = record { head = r; tail = joined_behind (s ∷ rs) ys; is = refl; base = refl; span = refl; taken = refl }

one_as : (l r u : Range) → u.base ≡ r.base → u.span ≡ r.span → u.taken ≡ r.taken → are_one l u ≡ are_one l r
one_as l r u base span taken = rw (base, span, taken) refl

step_behind : (l m : Range) (ys : List Range) → BeginsAs m ys → are_one l m ≡ false → joined l ys ≡ l ∷ ys
step_behind l m ys h n =
    let same = one_as l m h.head h.base h.span h.taken in
    ap (joined l) h.is ∙ joined_not l h.head h.tail (same ∙ n) ∙ ap (λ x. l ∷ x) (sym h.is)

front_behind : (q : ℕ) (l : Range) (ls xs : List Range) → AllByRecursion (IsMeasured q) (l ∷ ls) → Front (Some l) ls → merged (l ∷ (ls ++ xs)) ≡ joined_behind (l ∷ ls) (merged xs)
front_behind q l [] xs m f = refl
front_behind q l (r ∷ ls) xs m f =
    ap (joined l) (front_behind q r ls xs m.1 f.1) ∙ step_behind l r (joined_behind (r ∷ ls) (merged xs)) (behind_begins r ls (merged xs)) (not_one q l r m.0 f.0)

-- in front of a list only its own last one is joined
pub merged_front : (q : ℕ) (ls xs : List Range) → AllByRecursion (IsMeasured q) ls → Front None ls → merged (ls ++ xs) ≡ joined_behind ls (merged xs)
merged_front q [] xs m f = refl
merged_front q (l ∷ ls) xs m f = front_behind q l ls xs m f.1

pub joined_behind_push : (ls : List Range) (l : Range) (ys : List Range) → joined_behind (ls ++ l ∷ []) ys ≡ ls ++ joined l ys
joined_behind_push [] l ys = refl
joined_behind_push (k ∷ []) l ys = refl
joined_behind_push (k ∷ m ∷ ls) l ys = ap (λ x. k ∷ x) (joined_behind_push (m ∷ ls) l ys)

-- ---- a tiling in which free ranges may touch
pub record GoesBehind (r s : Range) : Type 0 where
  pub span : s.span ≡ r.span
  pub base : s.base ≡ range_end r

abbrev pub Comes : Range → Range → Type 0
Comes r s = GoesBehind r s ⊎ BeginsAnew r s

abbrev pub ComeOn : Range → List Range → Type 0
ComeOn r [] = range_end r ≡ span_end r.span
ComeOn r (s ∷ rs) = Comes r s × ComeOn s rs

comes : (r s : Range) → Follows r s → Comes r s
comes r s (inl g) = inl (record { span = g.span; base = g.base })
comes r s (inr g) = inr g

comes_free : (r s : Range) → Comes r s → Comes r (record s { taken = false })
comes_free r s (inl g) = inl (record { span = g.span; base = g.base })
comes_free r s (inr g) = inr (record { last = g.last; first = g.first; behind = g.behind })

free_comes : (r s : Range) → Comes r s → Comes (record r { taken = false }) s
free_comes r s (inl g) = inl (record { span = g.span; base = g.base })
free_comes r s (inr g) = inr (record { last = g.last; first = g.first; behind = g.behind })

come_on : (r : Range) (rs : List Range) → TileOn r rs → ComeOn r rs
come_on r [] t = t
come_on r (s ∷ rs) t = (comes r s t.0, come_on s rs t.1)

free_come_on : (r : Range) (rs : List Range) → ComeOn r rs → ComeOn (record r { taken = false }) rs
free_come_on r [] t = t
free_come_on r (s ∷ rs) t = (free_comes r s t.0, t.1)

-- with one of them free
come_on_freed : (l : Range) (pre : List Range) (r : Range) (rs : List Range) → TileOn l (pre ++ r ∷ rs) → ComeOn l (pre ++ record r { taken = false } ∷ rs)
come_on_freed l [] r rs t = (comes_free l r (comes l r t.0), free_come_on r rs (come_on r rs t.1))
come_on_freed l (x ∷ pre) r rs t = (comes l x t.0, come_on_freed x pre r rs t.1)

-- ---- merged, it is a tiling again
record Merges (q : ℕ) (r : Range) (rs : List Range) : Type 0 where
  head : Range
  tail : List Range
  is : merged (r ∷ rs) ≡ head ∷ tail
  base : head.base ≡ r.base
  span : head.span ≡ r.span
  taken : head.taken ≡ r.taken
  measured : AllByRecursion (IsMeasured q) (head ∷ tail)
  tile : TileOn head tail

one_span : (q : ℕ) (r s h : Range) → IsMeasured q r → Comes r s → h.base ≡ s.base → h.span ≡ s.span → AreOne r h → h.span ≡ r.span
one_span q r s h m (inl g) base span one = span ∙ g.span
one_span q r s h m (inr g) base span one =
    let e : r.span.base ≡ s.span.base = one.span ∙ ap (λ (x : Span). x.base) span in
    absurd (spans_differ q r s m g e)

measured_one : (q : ℕ) (r h : Range) → IsMeasured q r → IsMeasured q h → AreOne r h → h.span ≡ r.span → IsMeasured q (record r { size = r.size + h.size })
measured_one q r h m n one span =
    let some = m.some in
    let touch = one.touch in
    let high = n.high in
    let ends : span_end h.span ≡ span_end r.span = ap span_end span in
    record {
      some = omega arith;
      base = m.base;
      size = mod-add q r.size h.size m.size n.size;
      low = m.low;
      high = omega arith;
      within = m.within;
    }

merge_one : (q : ℕ) (r s : Range) (rs : List Range) → IsMeasured q r → Comes r s → (h : Merges q s rs) → are_one r h.head ≡ true → Merges q r (s ∷ rs)
merge_one q r s rs m c h e =
    let one = one_of r h.head e in
    let span = one_span q r s h.head m c h.base h.span one in
    let touch = one.touch in
    let u : Range = record r { size = r.size + h.head.size } in
    let ends : range_end u ≡ range_end h.head = omega arith in
    let taken : h.head.taken ≡ true → u.taken ≡ true = λ t. cc (t, one.second) in
    record {
      head = u;
      tail = h.tail;
      is = ap (joined r) h.is ∙ joined_one r h.head h.tail e;
      base = refl;
      span = refl;
      taken = refl;
      measured = (measured_one q r h.head m h.measured.0 one span, h.measured.1);
      tile = tile_on_as h.head u h.tail ends (sym span) taken h.tile;
    }

follows_head : (r s h : Range) → Comes r s → h.base ≡ s.base → h.span ≡ s.span → are_one r h ≡ false → Follows r h
follows_head r s h (inl g) base span n =
    let spans : h.span ≡ r.span = span ∙ g.span in
    let bases : h.base ≡ range_end r = base ∙ g.base in
    let c = eq-eqb r.span.base h.span.base (sym (ap (λ (x : Span). x.base) spans)) in
    let d = eq-eqb (range_end r) h.base (sym bases) in
    inl (record { span = spans; base = bases; apart = apart_of r.taken h.taken _ _ c d n })
follows_head r s h (inr g) base span n =
    inr (record { last = g.last; first = base ∙ g.first ∙ sym (ap (λ (x : Span). x.base) span); behind = subst (λ k. range_end r ≤ k) (sym base) g.behind })

merge_two : (q : ℕ) (r s : Range) (rs : List Range) → IsMeasured q r → Comes r s → (h : Merges q s rs) → are_one r h.head ≡ false → Merges q r (s ∷ rs)
merge_two q r s rs m c h n =
    record {
      head = r;
      tail = h.head ∷ h.tail;
      is = ap (joined r) h.is ∙ joined_not r h.head h.tail n;
      base = refl;
      span = refl;
      taken = refl;
      measured = (m, h.measured);
      tile = (follows_head r s h.head c h.base h.span n, h.tile);
    }

merge_step : (q : ℕ) (r s : Range) (rs : List Range) → IsMeasured q r → Comes r s → (h : Merges q s rs) → (b : Bool) → are_one r h.head ≡ b → Merges q r (s ∷ rs)
merge_step q r s rs m c h true e = merge_one q r s rs m c h e
merge_step q r s rs m c h false e = merge_two q r s rs m c h e

merges : (q : ℕ) (r : Range) (rs : List Range) → AllByRecursion (IsMeasured q) (r ∷ rs) → ComeOn r rs → Merges q r rs
merges q r [] m t = record { head = r; tail = []; is = refl; base = refl; span = refl; taken = refl; measured = m; tile = t }
merges q r (s ∷ rs) m t = let h = merges q s rs m.1 t.1 in merge_step q r s rs m.0 t.0 h (are_one r h.head) refl

pub record Lawful (q : ℕ) (rs : List Range) : Type 0 where
  pub measured : AllByRecursion (IsMeasured q) rs
  pub tile : Tile rs

lawful_merged : (q : ℕ) (r : Range) (rs : List Range) → r.base ≡ r.span.base → Merges q r rs → Lawful q (merged (r ∷ rs))
lawful_merged q r rs first h =
    let e : h.head.base ≡ h.head.span.base = h.base ∙ first ∙ sym (ap (λ (x : Span). x.base) h.span) in
    subst (Lawful q) (sym h.is) (record { measured = h.measured; tile = (e, h.tile) })

freed_measured : (q : ℕ) (pre : List Range) (r : Range) (rs : List Range) → AllByRecursion (IsMeasured q) (pre ++ r ∷ rs) → AllByRecursion (IsMeasured q) (pre ++ record r { taken = false } ∷ rs)
freed_measured q [] r rs m =
    let h = m.0 in
    (record { some = h.some; base = h.base; size = h.size; low = h.low; high = h.high; within = h.within }, m.1)
freed_measured q (x ∷ pre) r rs m = (m.0, freed_measured q pre r rs m.1)

-- what a give leaves is lawful
pub lawful_give : (q : ℕ) (pre : List Range) (r : Range) (rs : List Range) → Lawful q (pre ++ r ∷ rs) → Lawful q (merged (pre ++ record r { taken = false } ∷ rs))
lawful_give q [] r rs l =
    lawful_merged q (record r { taken = false }) rs l.tile.0 (merges q (record r { taken = false }) rs (freed_measured q [] r rs l.measured) (free_come_on r rs (come_on r rs l.tile.1)))
lawful_give q (x ∷ pre) r rs l =
    lawful_merged q x (pre ++ record r { taken = false } ∷ rs) l.tile.0 (merges q x (pre ++ record r { taken = false } ∷ rs) (freed_measured q (x ∷ pre) r rs l.measured) (come_on_freed x pre r rs l.tile.1))
