-- Fields that are taken off from the left, one after another, are those that there are.
use Rattle.std.proofs.Common.{◌≡◌, ℕ, List, [], ◌∷◌, Ok, refl}
use Rattle.trace_lines.specs.Fields.{◌>>=◌, no_field, one_field, two_fields, three_fields, four_fields, five_fields}

pub one_by : (fields rest : List (List ℕ)) (a : List ℕ) → fields ≡ a ∷ rest → one_field fields ≡ (no_field rest >>= λ none. Ok a)
one_by fields [] a e = rw e refl
one_by fields (b ∷ rest) a e = rw e refl

pub two_by : (fields rest : List (List ℕ)) (a : List ℕ) → fields ≡ a ∷ rest → two_fields fields ≡ (one_field rest >>= λ b. Ok (a, b))
two_by fields [] a e = rw e refl
two_by fields (b ∷ []) a e = rw e refl
two_by fields (b ∷ c ∷ rest) a e = rw e refl

pub three_by : (fields rest : List (List ℕ)) (a : List ℕ) → fields ≡ a ∷ rest → three_fields fields ≡ (two_fields rest >>= λ b. Ok (a, b.0, b.1))
three_by fields [] a e = rw e refl
three_by fields (b ∷ []) a e = rw e refl
three_by fields (b ∷ c ∷ []) a e = rw e refl
three_by fields (b ∷ c ∷ d ∷ rest) a e = rw e refl

pub four_by : (fields rest : List (List ℕ)) (a : List ℕ) → fields ≡ a ∷ rest → four_fields fields ≡ (three_fields rest >>= λ b. Ok (a, b.0, b.1, b.2))
four_by fields [] a e = rw e refl
four_by fields (b ∷ []) a e = rw e refl
four_by fields (b ∷ c ∷ []) a e = rw e refl
four_by fields (b ∷ c ∷ d ∷ []) a e = rw e refl
four_by fields (b ∷ c ∷ d ∷ f ∷ rest) a e = rw e refl

pub five_by : (fields rest : List (List ℕ)) (a : List ℕ) → fields ≡ a ∷ rest → five_fields fields ≡ (four_fields rest >>= λ b. Ok (a, b.0, b.1, b.2, b.3))
five_by fields [] a e = rw e refl
five_by fields (b ∷ []) a e = rw e refl
five_by fields (b ∷ c ∷ []) a e = rw e refl
five_by fields (b ∷ c ∷ d ∷ []) a e = rw e refl
five_by fields (b ∷ c ∷ d ∷ f ∷ []) a e = rw e refl
five_by fields (b ∷ c ∷ d ∷ f ∷ g ∷ rest) a e = rw e refl
