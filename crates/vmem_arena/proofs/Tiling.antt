-- Ranges that tile their spans, parted in the middle.
use Rattle.std.proofs.Common.{◌≡◌, ℕ, ◌≤◌, ◌⊎◌, inl, inr, Bool, true, false, ◌||◌, List, [], ◌∷◌, ◌++◌, Option, Some, None, refl, ap, sym, subst, ◌∙◌, arith}
use Rattle.std.specs.List.{AllByRecursion}
use Rattle.vmem_arena.specs.declared.free.Range.{Range}
use Rattle.vmem_arena.specs.declared.free.Span.{Span}
use Rattle.vmem_arena.specs.Tags.{range_end, span_end}
use Rattle.vmem_arena.specs.TagsLaw.{IsMeasured, GoesOn, BeginsAnew, TileOn, Tile}
use Rattle.vmem_arena.specs.Steps.{BeginFrom, Spaced}
use Rattle.vmem_arena.proofs.Spaced.{begin_sooner}

abbrev pub Follows : Range → Range → Type 0
Follows r s = GoesOn r s ⊎ BeginsAnew r s

-- what comes after the last range so far, if there is one
abbrev pub TileFrom : Option Range → List Range → Type 0
TileFrom None rs = Tile rs
TileFrom (Some r) rs = TileOn r rs

-- the front part of a tiling
abbrev pub Front : Option Range → List Range → Type 0
Front o [] = Unit {0}
Front None (r ∷ rs) = (r.base ≡ r.span.base) × Front (Some r) rs
Front (Some l) (r ∷ rs) = Follows l r × Front (Some r) rs

abbrev pub last_of : Option Range → List Range → Option Range
last_of o [] = o
last_of o (r ∷ rs) = last_of (Some r) rs

pub front_of_tile : (o : Option Range) (xs ys : List Range) → TileFrom o (xs ++ ys) → Front o xs
front_of_tile o [] ys t = tt
front_of_tile None (x ∷ xs) ys t = (t.0, front_of_tile (Some x) xs ys t.1)
front_of_tile (Some l) (x ∷ xs) ys t = (t.0, front_of_tile (Some x) xs ys t.1)

pub back_of_tile : (o : Option Range) (xs ys : List Range) → TileFrom o (xs ++ ys) → TileFrom (last_of o xs) ys
back_of_tile o [] ys t = t
back_of_tile None (x ∷ xs) ys t = back_of_tile (Some x) xs ys t.1
back_of_tile (Some l) (x ∷ xs) ys t = back_of_tile (Some x) xs ys t.1

pub tile_of : (o : Option Range) (xs ys : List Range) → Front o xs → TileFrom (last_of o xs) ys → TileFrom o (xs ++ ys)
tile_of o [] ys f t = t
tile_of None (x ∷ xs) ys f t = (f.0, tile_of (Some x) xs ys f.1 t)
tile_of (Some l) (x ∷ xs) ys f t = (f.0, tile_of (Some x) xs ys f.1 t)

-- ---- one range in the place of another
pub follows_as : (l r u : Range) → u.base ≡ r.base → u.span ≡ r.span → (r.taken ≡ true → u.taken ≡ true) → Follows l r → Follows l u
follows_as l r u base span taken (inl g) =
    inl (record { span = span ∙ g.span; base = base ∙ g.base; apart = either_taken l.taken r.taken u.taken taken g.apart })
  where
    either_taken : (a b d : Bool) → (b ≡ true → d ≡ true) → (a || b) ≡ true → (a || d) ≡ true
    either_taken true b d h e = refl
    either_taken false b d h e = h e
follows_as l r u base span taken (inr g) =
    inr (record { last = g.last; first = base ∙ g.first ∙ sym (ap (λ (s : Span). s.base) span); behind = subst (λ n. range_end l ≤ n) (sym base) g.behind })

pub followed_as : (r u s : Range) → range_end u ≡ range_end r → u.span ≡ r.span → (r.taken ≡ true → u.taken ≡ true) → Follows r s → Follows u s
followed_as r u s ends span taken (inl g) =
    inl (record { span = g.span ∙ sym span; base = g.base ∙ sym ends; apart = either_taken r.taken u.taken s.taken taken g.apart })
  where
    either_taken : (a d b : Bool) → (a ≡ true → d ≡ true) → (a || b) ≡ true → (d || b) ≡ true
    either_taken true d b h e = let f : d ≡ true = h refl in rw f refl
    either_taken false true b h e = refl
    either_taken false false b h e = e
followed_as r u s ends span taken (inr g) =
    inr (record { last = ends ∙ g.last ∙ sym (ap span_end span); first = g.first; behind = subst (λ n. n ≤ s.base) (sym ends) g.behind })

pub tile_on_as : (r u : Range) (rs : List Range) → range_end u ≡ range_end r → u.span ≡ r.span → (r.taken ≡ true → u.taken ≡ true) → TileOn r rs → TileOn u rs
tile_on_as r u [] ends span taken t = ends ∙ t ∙ sym (ap span_end span)
tile_on_as r u (s ∷ rs) ends span taken t = (followed_as r u s ends span taken t.0, t.1)

-- ---- what a tiling says of the order
behind : (r s : Range) → Follows r s → range_end r ≤ s.base
behind r s (inl g) = let b = g.base in omega arith
behind r s (inr g) = g.behind

begin_on : (q : ℕ) (r : Range) (rs : List Range) → AllByRecursion (IsMeasured q) rs → TileOn r rs → BeginFrom (range_end r) rs
begin_on q r [] m t = tt
begin_on q r (s ∷ rs) m t =
    let b = behind r s t.0 in
    let l : range_end r ≤ range_end s = omega arith in
    (b, begin_sooner (range_end r) (range_end s) rs l (begin_on q s rs m.1 t.1))

spaced_on : (q : ℕ) (r : Range) (rs : List Range) → AllByRecursion (IsMeasured q) (r ∷ rs) → TileOn r rs → Spaced (r ∷ rs)
spaced_on q r [] m t = (m.0.some, tt, tt)
spaced_on q r (s ∷ rs) m t = (m.0.some, begin_on q r (s ∷ rs) m.1 t, spaced_on q s rs m.1 t.1)

pub spaced : (q : ℕ) (rs : List Range) → AllByRecursion (IsMeasured q) rs → Tile rs → Spaced rs
spaced q [] m t = tt
spaced q (r ∷ rs) m t = spaced_on q r rs m t.1

-- one range in the place of another, with other ranges behind it
pub tile_with : (o : Option Range) (r u : Range) (rs us : List Range) → u.base ≡ r.base → u.span ≡ r.span → (r.taken ≡ true → u.taken ≡ true) → TileFrom o (r ∷ rs) → (TileOn r rs → TileOn u us) → TileFrom o (u ∷ us)
tile_with None r u rs us base span taken t on = (base ∙ t.0 ∙ sym (ap (λ (s : Span). s.base) span), on t.1)
tile_with (Some l) r u rs us base span taken t on = (follows_as l r u base span taken t.0, on t.1)
