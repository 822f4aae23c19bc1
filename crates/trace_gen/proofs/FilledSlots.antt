-- The filled slots of those that are left, of which the first one is looked at.
use Rattle.std.proofs.Common.{◌≡◌, ◌+◌, ◌<◌, ℕ, Bool, true, false, cond, List, ◌∷◌, drop, get_or, length, refl, sym, ap, ◌∙◌, add-one, drop-cons}
use Rattle.trace_gen.specs.Generator.{filled_from}

pub left_drop : (slots : List Bool) (slot : ℕ) → slot < length slots
    → filled_from slot (drop slot slots) ≡ cond (get_or slots slot false) (slot ∷ filled_from (slot + 1) (drop (slot + 1) slots)) (filled_from (slot + 1) (drop (slot + 1) slots))
left_drop slots slot lt =
    let rest : ℕ → List ℕ = λ k. filled_from (slot + 1) (drop k slots) in
    ap (filled_from slot) (drop-cons slots slot false lt) ∙ ap (λ (k : ℕ). cond (get_or slots slot false) (slot ∷ rest k) (rest k)) (sym (add-one slot))

pub left_full : (slots : List Bool) (slot : ℕ) → slot < length slots → get_or slots slot false ≡ true
    → filled_from slot (drop slot slots) ≡ slot ∷ filled_from (slot + 1) (drop (slot + 1) slots)
left_full slots slot lt full = left_drop slots slot lt ∙ rw full refl

pub left_empty : (slots : List Bool) (slot : ℕ) → slot < length slots → get_or slots slot false ≡ false
    → filled_from slot (drop slot slots) ≡ filled_from (slot + 1) (drop (slot + 1) slots)
left_empty slots slot lt empty = left_drop slots slot lt ∙ rw empty refl
