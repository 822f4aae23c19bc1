-- The free ranges in order of size, and those of one size in order of base.
use Rattle.std.specs.Prelude.{◌≡◌, ℕ, ◌+◌, max, Bool, true, false, ◌&&◌, ◌||◌, ◌==◌, nat_lt, List, [], ◌∷◌, cond, ⊤}
use Rattle.vmem_arena.specs.declared.free.Fit.{Fit}

-- a is smaller than b, or as large and lower
abbrev pub is_before : Fit → Fit → Bool
is_before a b = nat_lt a.size b.size || (a.size == b.size && nat_lt a.base b.base)

-- how many pass the test
abbrev pub passing : {X : Type 0} → (X → Bool) → List X → ℕ
passing test [] = 0
passing test (x ∷ xs) = cond (test x) 1 0 + passing test xs

-- none is before one that stands before it
abbrev pub Ascend : List Fit → Type 0
Ascend [] = ⊤
Ascend (x ∷ xs) = (passing (λ y. is_before y x) xs ≡ 0) × Ascend xs

-- with_it has the fits of without and this one
abbrev pub HasOneMore : List Fit → Fit → List Fit → Type 0
HasOneMore without fit with_it = (test : Fit → Bool) → passing test with_it ≡ cond (test fit) 1 0 + passing test without

-- this fit isn't among them
abbrev pub HasNone : List Fit → Fit → Type 0
HasNone fits fit = passing (λ f. f.size == fit.size && f.base == fit.base) fits ≡ 0

-- this fit, if it was among them, is taken out
abbrev pub HasOneLess : List Fit → Fit → List Fit → Type 0
HasOneLess old fit new = (HasNone old fit → ⊥) → HasOneMore new fit old

-- and another is put in
abbrev pub Exchanges : List Fit → Fit → Fit → List Fit → Type 0
Exchanges old fit by new = (HasNone old fit → ⊥) → (test : Fit → Bool) → cond (test fit) 1 0 + passing test new ≡ cond (test by) 1 0 + passing test old

-- this fit is taken out where it was among them, and otherwise all stays
abbrev pub Removal : Bool → List Fit → Fit → List Fit → Type 0
Removal true old fit new = HasOneMore new fit old
Removal false old fit new = HasNone old fit × (new ≡ old)

-- the greatest size, or 0
abbrev pub largest_size : List Fit → ℕ
largest_size [] = 0
largest_size (f ∷ fs) = max f.size (largest_size fs)
