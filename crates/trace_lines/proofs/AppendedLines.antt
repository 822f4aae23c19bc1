-- What functions append to a text, field after field, against the line that it is to have.
use Rattle.std.proofs.Common.{◌≡◌, ℕ, List, [], ◌∷◌, ◌++◌, map, sym, ap, ◌∙◌, append_assoc, decimal}
use Rattle.std.specs.List.{flat_map, join_with_byte}
use Rattle.std.proofs.lemmas.List.{append-nil}
use Rattle.trace_lines.specs.CanonicalLine.{line}

-- fields joined by one space: the first, and each of the others after a space
pub spaced : (word : List ℕ) (fields : List (List ℕ))
    → join_with_byte 32 (word ∷ fields) ≡ word ++ flat_map (λ (field : List ℕ). 32 ∷ field) fields
spaced word [] = sym (append-nil word)
spaced word (field ∷ fields) = ap (λ (l : List ℕ). word ++ 32 ∷ l) (spaced field fields)

-- the same of a word and numbers
pub joined : (word : List ℕ) (numbers : List ℕ)
    → join_with_byte 32 (word ∷ map decimal numbers) ≡ word ++ flat_map (λ (n : ℕ). 32 ∷ decimal n) numbers
joined word [] = sym (append-nil word)
joined word (n ∷ numbers) = ap (λ (l : List ℕ). word ++ 32 ∷ l) (joined (decimal n) numbers)

-- what a line of a word and numbers appends
pub line_appended : (old word numbers : List ℕ)
    → ((old ++ word) ++ flat_map (λ (n : ℕ). 32 ∷ decimal n) numbers) ++ 10 ∷ [] ≡ old ++ line (word ∷ map decimal numbers)
line_appended old word numbers =
    ap (λ (l : List ℕ). l ++ 10 ∷ []) (append_assoc old word (flat_map (λ (n : ℕ). 32 ∷ decimal n) numbers))
    ∙ append_assoc old (word ++ flat_map (λ (n : ℕ). 32 ∷ decimal n) numbers) (10 ∷ [])
    ∙ ap (λ (l : List ℕ). old ++ (l ++ 10 ∷ [])) (sym (joined word numbers))
