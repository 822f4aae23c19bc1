-- What the importer of the tests means.
use Rattle.std.specs.Prelude.{◌≡◌, ℕ, Bool, true, List, [], ◌∷◌, cond}

-- the bases that are outside
abbrev pub sevens : Bool → List ℕ
sevens is_out = cond is_out (7 ∷ []) []

abbrev pub LacksSeven : Bool → ℕ → ℕ → Type 0
LacksSeven is_out size greatest = (is_out ≡ true) × (size ≡ 1) × (greatest ≡ 0)
