-- An empty slot more at the end of a table leaves each place as it was.
use Rattle.std.proofs.Common.{◌≡◌, ℕ, ◌++◌, ◌∷◌, [], List, Bool, false, get_or, length, inl, inr, sym, ◌∙◌, arith}
use Rattle.std.proofs.lemmas.Bool.{cases_lt}
use Rattle.std.proofs.lemmas.List.{get_or_append_left, get_or_push, get_or_past, length_push}

pub one_more : (table : List Bool) (i : ℕ) → get_or (table ++ false ∷ []) i false ≡ get_or table i false
one_more table i = elim (cases_lt i (length table)) [
  | inl within ↦ get_or_append_left table (false ∷ []) false i within
  | inr past ↦ elim (cases_lt (length table) i) [
    | inl beyond ↦ get_or_past (table ++ false ∷ []) i false (omega (arith, length_push table false)) ∙ sym (get_or_past table i false past)
    | inr at ↦ get_or_push table false false i (omega arith) ∙ sym (get_or_past table i false past)
  ]
]
