-- A list of ranges to which a span comes.
use Rattle.std.proofs.Common.{◌≡◌, ℕ, ◌+◌, ◌<◌, ◌≤◌, ◌⊎◌, inl, inr, Bool, true, false, not, ◌&&◌, nat_lt, List, [], ◌∷◌, ◌++◌, Option, Some, None, All, Contains, refl, ap, sym, subst, ◌∙◌, arith}
use Rattle.std.specs.List.{AllByRecursion}
use Rattle.std.proofs.lemmas.Bool.{ltb-true, ltb-false}
use Rattle.std.proofs.lemmas.List.Elements.{All-from_recursion, recursion_from_All, Contains-append_right}
use Rattle.vmem_arena.specs.declared.free.Range.{Range}
use Rattle.vmem_arena.specs.declared.free.Span.{Span}
use Rattle.vmem_arena.specs.declared.free.Fit.{Fit}
use Rattle.vmem_arena.specs.Fits.{HasOneMore}
use Rattle.vmem_arena.specs.Kept.{fit_of, taken_count}
use Rattle.vmem_arena.specs.Add.{IsSpanShape, Meet, MeetsNone, IsFirstMet}
use Rattle.vmem_arena.specs.ByBase.{IsLastBelow, IsFirstFrom, put_in}
use Rattle.vmem_arena.specs.Steps.{AreFits, BeginFrom, BeginBelow, Spaced, NoneReaches}
use Rattle.vmem_arena.specs.Tags.{range_end, span_end, free_range, free_total}
use Rattle.vmem_arena.specs.TagsLaw.{IsMeasured, BeginsAnew, TileOn, Tile}
use Rattle.vmem_arena.specs.TakenBases.{taken_bases}
use Rattle.vmem_arena.proofs.FitLists.{passing-append}
use Rattle.vmem_arena.proofs.FreeCounts.{each_weaker, free_total-append}
use Rattle.vmem_arena.proofs.Spaced.{each_at, each_front, each_back, each_append, begin_sooner, put_at}
use Rattle.vmem_arena.proofs.Tiling.{Follows, TileFrom, last_of, back_of_tile}
use Rattle.vmem_arena.proofs.Merging.{Lawful}
use Rattle.vmem_arena.proofs.Taking.{taken_bases-append}

-- r and s are of one span, or that of r ends before that of s begins
abbrev pub SpanLe : Range → Range → Type 0
SpanLe r s = (r.span ≡ s.span) ⊎ (span_end r.span ≤ s.span.base)

span_le : (r s : Range) → Follows r s → SpanLe r s
span_le r s (inl g) = inl (sym g.span)
span_le r s (inr g) = let a = g.last in let b = g.first in let d = g.behind in inr (omega arith)

span_le_on : (q : ℕ) (r s x : Range) → IsMeasured q s → SpanLe r s → SpanLe s x → SpanLe r x
span_le_on q r s x m (inl e) (inl f) = inl (e ∙ f)
span_le_on q r s x m (inl e) (inr f) = inr (subst (λ (y : Span). span_end y ≤ x.span.base) (sym e) f)
span_le_on q r s x m (inr e) (inl f) = inr (subst (λ (y : Span). span_end r.span ≤ y.base) f e)
span_le_on q r s x m (inr e) (inr f) = let a = m.some in let b = m.low in let d = m.high in inr (omega arith)

spans_on : (q : ℕ) (r : Range) (rs : List Range) → AllByRecursion (IsMeasured q) (r ∷ rs) → TileOn r rs → AllByRecursion (SpanLe r) rs
spans_on q r [] m t = tt
spans_on q r (s ∷ rs) m t =
    let h = span_le r s t.0 in
    (h, each_weaker (SpanLe s) (SpanLe r) (λ x g. span_le_on q r s x m.1.0 h g) rs (spans_on q s rs m.1 t.1))

tile_behind : (o : Option Range) (r : Range) (after : List Range) → TileFrom o (r ∷ after) → TileOn r after
tile_behind None r after t = t.1
tile_behind (Some l) r after t = t.1

pub spans_behind : (q : ℕ) (before : List Range) (r : Range) (after : List Range) → Lawful q (before ++ r ∷ after) → AllByRecursion (SpanLe r) after
spans_behind q before r after l =
    spans_on q r after (each_back (IsMeasured q) before (r ∷ after) l.measured) (tile_behind (last_of None before) r after (back_of_tile None before (r ∷ after) l.tile))

spans_before_on : (q : ℕ) (l : Range) (before : List Range) (r : Range) (after : List Range) → AllByRecursion (IsMeasured q) (l ∷ (before ++ r ∷ after)) → TileOn l (before ++ r ∷ after) → AllByRecursion (λ x. SpanLe x r) (l ∷ before)
spans_before_on q l [] r after m t = (span_le l r t.0, tt)
spans_before_on q l (x ∷ before) r after m t =
    (each_at (SpanLe l) (x ∷ before) r after (spans_on q l (x ∷ (before ++ r ∷ after)) m t), spans_before_on q x before r after m.1 t.1)

pub spans_before : (q : ℕ) (before : List Range) (r : Range) (after : List Range) → Lawful q (before ++ r ∷ after) → AllByRecursion (λ x. SpanLe x r) before
spans_before q [] r after l = tt
spans_before q (x ∷ before) r after l = spans_before_on q x before r after l.measured l.tile.1

-- a range begins its span, or one before it is of that
abbrev pub FrontOr : ℕ → Range → Type 0
FrontOr k r = (r.base ≡ r.span.base) ⊎ (span_end r.span ≤ k)

front_or_on : (k : ℕ) (l : Range) (before : List Range) (r : Range) (after : List Range) → AllByRecursion (λ x. span_end x.span ≤ k) (l ∷ before) → TileOn l (before ++ r ∷ after) → FrontOr k r
front_or_on k l [] r after h t = by_step t.0
  where
    by_step : Follows l r → FrontOr k r
    by_step (inl g) = inr (subst (λ (y : Span). span_end y ≤ k) (sym g.span) h.0)
    by_step (inr g) = inl g.first
front_or_on k l (x ∷ before) r after h t = front_or_on k x before r after h.1 t.1

pub front_or : (k : ℕ) (before : List Range) (r : Range) (after : List Range) → AllByRecursion (λ x. span_end x.span ≤ k) before → Tile (before ++ r ∷ after) → FrontOr k r
front_or k [] r after h t = inl t.0
front_or k (x ∷ before) r after h t = front_or_on k x before r after h t.1

-- ---- which span is met first
contains_at : {X : Type 0} (xs : List X) (x : X) (ys : List X) → Contains (xs ++ x ∷ ys) x
contains_at xs x ys =
    let here : Contains (x ∷ ys) x = (0, omega arith, refl) in
    Contains-append_right xs (x ∷ ys) x here

span_size : (q : ℕ) (r : Range) → IsMeasured q r → r.span.base < span_end r.span
span_size q r m = let a = m.some in let b = m.low in let d = m.high in omega arith

lower_by : (span : Span) (last x : Range) → last.span.base < span.base → SpanLe x last → Meet x.span span → last.span.base ≤ x.span.base
lower_by span last x l (inl e) m = let f : x.span.base ≡ last.span.base = ap (λ (s : Span). s.base) e in omega arith
lower_by span last x l (inr h) m = let e = m.ends in absurd (omega arith)

higher_by : (q : ℕ) (first x : Range) → IsMeasured q first → SpanLe first x → first.span.base ≤ x.span.base
higher_by q first x m (inl e) = let f : first.span.base ≡ x.span.base = ap (λ (s : Span). s.base) e in omega arith
higher_by q first x m (inr h) = let s = span_size q first m in omega arith

first_parts : (ranges before : List Range) (r : Range) (after : List Range) (span : Span) → ranges ≡ before ++ r ∷ after → Meet r.span span → AllByRecursion (λ x. Meet x.span span → r.span.base ≤ x.span.base) before → AllByRecursion (λ x. Meet x.span span → r.span.base ≤ x.span.base) after → IsFirstMet ranges span r.span
first_parts ranges before r after span e m b a =
    let P : Range → Type 0 = λ x. Meet x.span span → r.span.base ≤ x.span.base in
    let each = each_append P before (r ∷ after) b ((λ h. omega arith), a) in
    record {
      range = r;
      among = subst (λ l. Contains l r) (sym e) (contains_at before r after);
      is = refl;
      meets = m;
      first = subst (All P) (sym e) (All-from_recursion P (before ++ r ∷ after) each);
    }

pub met_last : (q : ℕ) (ranges : List Range) (span : Span) (last : Range) → Lawful q ranges → 0 < span.size → IsLastBelow ranges span.base last → span.base < span_end last.span → IsFirstMet ranges span last.span
met_last q ranges span last law size h test =
    let l = subst (Lawful q) h.is law in
    let m = each_at (IsMeasured q) h.before last h.after l.measured in
    let low = m.low in
    let below = h.below in
    let under : last.span.base < span.base = omega arith in
    first_parts ranges h.before last h.after span h.is (record { begins = omega arith; ends = test })
    (each_weaker (λ x. SpanLe x last) _ (λ x g. lower_by span last x under g) h.before (spans_before q h.before last h.after l))
    (each_weaker (SpanLe last) _ (λ x g _. higher_by q last x m g) h.after (spans_behind q h.before last h.after l))

reach_by : (k : ℕ) (last x : Range) → span_end last.span ≤ k → last.span.base ≤ k → SpanLe x last → x.base < k → span_end x.span ≤ k
reach_by k last x e l (inl s) b = subst (λ (y : Span). span_end y ≤ k) (sym s) e
reach_by k last x e l (inr h) b = omega arith

pub none_reaches : (q : ℕ) (ranges : List Range) (span : Span) (last : Range) → Lawful q ranges → IsLastBelow ranges span.base last → span_end last.span ≤ span.base → NoneReaches span ranges
none_reaches q ranges span last law h test =
    let P : Range → Type 0 = λ x. x.base < span.base → span_end x.span ≤ span.base in
    let l = subst (Lawful q) h.is law in
    let m = each_at (IsMeasured q) h.before last h.after l.measured in
    let low = m.low in
    let below = h.below in
    let under : last.span.base ≤ span.base = omega arith in
    let a = each_weaker (λ (x : Range). span.base ≤ x.base) P (λ x g b. absurd (omega arith)) h.after (recursion_from_All _ _ h.later) in
    let b = each_weaker (λ x. SpanLe x last) P (λ x g. reach_by span.base last x test under g) h.before (spans_before q h.before last h.after l) in
    subst (All P) (sym h.is) (All-from_recursion P _ (each_append P h.before (last ∷ h.after) b ((λ _. test), a)))

-- of those that begin below, none is met
earlier_ends : (span : Span) (before rest : List Range) → AllByRecursion (λ (s : Range). s.base < span.base) before → AllByRecursion (λ x. x.base < span.base → span_end x.span ≤ span.base) (before ++ rest) → AllByRecursion (λ x. span_end x.span ≤ span.base) before
earlier_ends span [] rest b h = tt
earlier_ends span (x ∷ before) rest b h = (h.0 b.0, earlier_ends span before rest b.1 h.1)

pub met_first : (q : ℕ) (ranges : List Range) (span : Span) (first : Range) → Lawful q ranges → NoneReaches span ranges → IsFirstFrom ranges span.base first → first.base < span_end span → IsFirstMet ranges span first.span
met_first q ranges span first law none h test =
    let l = subst (Lawful q) h.is law in
    let m = each_at (IsMeasured q) h.before first h.after l.measured in
    let low = m.low in
    let high = m.high in
    let some = m.some in
    let from = h.from in
    let reach = subst (AllByRecursion (λ x. x.base < span.base → span_end x.span ≤ span.base)) h.is (recursion_from_All _ _ none) in
    let ends = earlier_ends span h.before (first ∷ h.after) (recursion_from_All _ _ h.earlier) reach in
    first_parts ranges h.before first h.after span h.is (record { begins = omega arith; ends = omega arith })
    (each_weaker (λ (x : Range). span_end x.span ≤ span.base) _ (λ x g n. let e = n.ends in absurd (omega arith)) h.before ends)
    (each_weaker (SpanLe first) _ (λ x g _. higher_by q first x m g) h.after (spans_behind q h.before first h.after l))

apart_by : (q : ℕ) (span : Span) (first : Range) → IsMeasured q first → span.base ≤ first.base → span_end span ≤ first.base → FrontOr span.base first → (x : Range) → SpanLe first x → Meet x.span span → ⊥
apart_by q span first m from test (inl e) x (inl s) n =
    let f : first.span.base ≡ x.span.base = ap (λ (y : Span). y.base) s in
    let b = n.begins in
    omega arith
apart_by q span first m from test (inl e) x (inr g) n =
    let b = n.begins in
    let z = span_size q first m in
    omega arith
apart_by q span first m from test (inr e) x g n =
    let a = m.some in
    let d = m.high in
    omega arith

pub meets_none : (q : ℕ) (ranges : List Range) (span : Span) (first : Range) → Lawful q ranges → NoneReaches span ranges → IsFirstFrom ranges span.base first → span_end span ≤ first.base → MeetsNone span ranges
meets_none q ranges span first law none h test =
    let P : Range → Type 0 = λ x. Meet x.span span → ⊥ in
    let l = subst (Lawful q) h.is law in
    let m = each_at (IsMeasured q) h.before first h.after l.measured in
    let reach = subst (AllByRecursion (λ x. x.base < span.base → span_end x.span ≤ span.base)) h.is (recursion_from_All _ _ none) in
    let ends = earlier_ends span h.before (first ∷ h.after) (recursion_from_All _ _ h.earlier) reach in
    let front = front_or span.base h.before first h.after ends l.tile in
    let apart = apart_by q span first m h.from test front in
    let b = each_weaker (λ (x : Range). span_end x.span ≤ span.base) P (λ x g n. let e = n.ends in omega arith) h.before ends in
    let a = each_weaker (SpanLe first) P (λ x g. apart x g) h.after (spans_behind q h.before first h.after l) in
    subst (All P) (sym h.is) (All-from_recursion P _ (each_append P h.before (first ∷ h.after) b (apart first (inl refl), a)))

-- ---- the parts below and above a span that meets none
pub record Parted (q : ℕ) (ranges : List Range) (span : Span) : Type 0 where
  pub before : List Range
  pub after : List Range
  pub is : ranges ≡ before ++ after
  pub low : BeginBelow span.base before
  pub high : BeginFrom (span_end span) after
  pub below : AllByRecursion (λ r. range_end r ≤ span.base) before
  pub above : AllByRecursion (λ r. span_end span ≤ r.base) after

above_of : (q : ℕ) (span : Span) (r : Range) → IsMeasured q r → 0 < span.size → span.base ≤ r.base → (Meet r.span span → ⊥) → span_end span ≤ r.base
above_of q span r m size from none = by_test (nat_lt r.base (span_end span)) refl
  where
    by_test : (b : Bool) → nat_lt r.base (span_end span) ≡ b → span_end span ≤ r.base
    by_test true e =
        let l = ltb-true r.base (span_end span) e in
        let low = m.low in
        let high = m.high in
        let some = m.some in
        absurd (none (record { begins = omega arith; ends = omega arith }))
    by_test false e = ltb-false r.base (span_end span) e

below_of : (q : ℕ) (span : Span) (r : Range) → IsMeasured q r → 0 < span.size → r.base < span.base → (Meet r.span span → ⊥) → range_end r ≤ span.base
below_of q span r m size under none = by_test (nat_lt span.base (span_end r.span)) refl
  where
    by_test : (b : Bool) → nat_lt span.base (span_end r.span) ≡ b → range_end r ≤ span.base
    by_test true e =
        let l = ltb-true span.base (span_end r.span) e in
        let low = m.low in
        absurd (none (record { begins = omega arith; ends = l }))
    by_test false e = let l = ltb-false span.base (span_end r.span) e in let high = m.high in omega arith

all_above : (q : ℕ) (span : Span) (rs : List Range) → AllByRecursion (IsMeasured q) rs → 0 < span.size → BeginFrom span.base rs → AllByRecursion (λ (r : Range). Meet r.span span → ⊥) rs → AllByRecursion (λ (r : Range). span_end span ≤ r.base) rs
all_above q span [] m size f n = tt
all_above q span (r ∷ rs) m size f n = (above_of q span r m.0 size f.0 n.0, all_above q span rs m.1 size f.1 n.1)

from_all : (e : ℕ) (rs : List Range) → AllByRecursion (λ (r : Range). e ≤ r.base) rs → BeginFrom e rs
from_all e [] h = tt
from_all e (r ∷ rs) h = (h.0, from_all e rs h.1)

pub parted : (q : ℕ) (ranges : List Range) (span : Span) → AllByRecursion (IsMeasured q) ranges → Spaced ranges → 0 < span.size → AllByRecursion (λ (r : Range). Meet r.span span → ⊥) ranges → Parted q ranges span
parted q [] span m s size none = record { before = []; after = []; is = refl; low = tt; high = tt; below = tt; above = tt }
parted q (r ∷ rs) span m s size none = by_test (nat_lt r.base span.base) refl (parted q rs span m.1 s.2 size none.1)
  where
    by_test : (b : Bool) → nat_lt r.base span.base ≡ b → Parted q rs span → Parted q (r ∷ rs) span
    by_test true e h =
        let under = ltb-true r.base span.base e in
        record {
          before = r ∷ h.before;
          after = h.after;
          is = ap (λ l. r ∷ l) h.is;
          low = (under, h.low);
          high = h.high;
          below = (below_of q span r m.0 size under none.0, h.below);
          above = h.above;
        }
    by_test false e h =
        let over = ltb-false r.base span.base e in
        let some = s.0 in
        let from : BeginFrom span.base (r ∷ rs) = (over, begin_sooner span.base (range_end r) rs (omega arith) s.1) in
        let up = all_above q span (r ∷ rs) m size from none in
        record { before = []; after = r ∷ rs; is = refl; low = tt; high = from_all (span_end span) (r ∷ rs) up; below = tt; above = up }

-- ---- the span among them
abbrev EndsBy : ℕ → Option Range → Type 0
EndsBy k None = Unit {0}
EndsBy k (Some l) = range_end l ≤ k

anew : (l s : Range) (span : Span) → 0 < span.size → range_end l ≤ span.base → span_end span ≤ s.base → Follows l s → BeginsAnew l s
anew l s span size e h (inl g) = let b = g.base in absurd (omega arith)
anew l s span size e h (inr g) = g

tile_insert : (o : Option Range) (before after : List Range) (span : Span) → 0 < span.size → EndsBy span.base o → AllByRecursion (λ (r : Range). range_end r ≤ span.base) before → AllByRecursion (λ (r : Range). span_end span ≤ r.base) after → TileFrom o (before ++ after) → TileFrom o (before ++ free_range span.base span.size span ∷ after)
tile_insert None [] [] span size e b a t = (refl, refl)
tile_insert None [] (s ∷ after) span size e b a t = (refl, (inr (record { last = refl; first = t.0; behind = a.0 }), t.1))
tile_insert (Some l) [] [] span size e b a t = (inr (record { last = t; first = refl; behind = e }), refl)
tile_insert (Some l) [] (s ∷ after) span size e b a t =
    let g = anew l s span size e a.0 t.0 in
    (inr (record { last = g.last; first = refl; behind = e }), (inr (record { last = refl; first = g.first; behind = a.0 }), t.1))
tile_insert None (x ∷ before) after span size e b a t = (t.0, tile_insert (Some x) before after span size b.0 b.1 a t.1)
tile_insert (Some l) (x ∷ before) after span size e b a t = (t.0, tile_insert (Some x) before after span size b.0 b.1 a t.1)

measured_span : (q : ℕ) (span : Span) → IsSpanShape q span → IsMeasured q (free_range span.base span.size span)
measured_span q span h = record { some = h.some; base = h.base; size = h.size; low = omega arith; high = omega arith; within = h.within }

pub lawful_add : (q : ℕ) (ranges : List Range) (span : Span) → Lawful q ranges → IsSpanShape q span → (p : Parted q ranges span) → Lawful q (p.before ++ free_range span.base span.size span ∷ p.after)
lawful_add q ranges span law shape p =
    let l = subst (Lawful q) p.is law in
    record {
      measured = each_append (IsMeasured q) p.before (free_range span.base span.size span ∷ p.after) (each_front (IsMeasured q) p.before p.after l.measured) (measured_span q span shape, each_back (IsMeasured q) p.before p.after l.measured);
      tile = tile_insert None p.before p.after span shape.some tt p.below p.above l.tile;
    }

pub put_span_is : (q : ℕ) (ranges : List Range) (span : Span) → 0 < span.size → (p : Parted q ranges span) → put_in (free_range span.base span.size span) ranges ≡ p.before ++ free_range span.base span.size span ∷ p.after
put_span_is q ranges span size p =
    let high = begin_sooner (span.base + 1) (span_end span) p.after (omega arith) p.high in
    ap (put_in (free_range span.base span.size span)) p.is ∙ put_at (free_range span.base span.size span) p.before p.after p.low high

pub fits_add : (fits new : List Fit) (before after : List Range) (u : Range) → AreFits fits (before ++ after) → u.taken ≡ false → HasOneMore fits (fit_of u) new → AreFits new (before ++ u ∷ after)
fits_add fits new before after u same free more test =
    let a = passing-append (λ x. not x.taken && test (fit_of x)) before after in
    let b = passing-append (λ x. not x.taken && test (fit_of x)) before (u ∷ after) in
    let z : (not u.taken && test (fit_of u)) ≡ test (fit_of u) = rw free refl in
    let c = rw z at b in
    omega (arith, more test, same test, a, c)

pub taken_add : (before after : List Range) (span : Span) → taken_count (before ++ free_range span.base span.size span ∷ after) ≡ taken_count (before ++ after)
taken_add before after span = omega (arith, passing-append (λ (x : Range). x.taken) before after, passing-append (λ (x : Range). x.taken) before (free_range span.base span.size span ∷ after))

pub total_add : (before after : List Range) (span : Span) → free_total (before ++ free_range span.base span.size span ∷ after) ≡ free_total (before ++ after) + span.size
total_add before after span = omega (arith, free_total-append before after, free_total-append before (free_range span.base span.size span ∷ after))

pub bases_add : (before after : List Range) (span : Span) → taken_bases (before ++ free_range span.base span.size span ∷ after) ≡ taken_bases (before ++ after)
bases_add before after span = taken_bases-append before (free_range span.base span.size span ∷ after) ∙ sym (taken_bases-append before after)
