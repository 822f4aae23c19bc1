-- The test of a name is what a name is.
use Rattle.std.proofs.Common.{◌≡◌, ℕ, List, [], ◌∷◌, length, Bool, true, refl, leb}
use Rattle.std.specs.Prelude.{◌&&◌, IsTrue}
use Rattle.std.specs.List.{list_all, AllByRecursion}
use Rattle.std.proofs.lemmas.Bool.{leb-true, le-leb, and_parts, and_from}
use Rattle.std.proofs.lemmas.List.Elements.{All-from_recursion, recursion_from_All}
use Rattle.zone_stats.specs.Name.{IsName, is_name_character}
use Rattle.trace_text.specs.TraceLine.{is_name}

list_all_by_recursion : (test : ℕ → Bool) (xs : List ℕ) → list_all test xs ≡ true → AllByRecursion (λ x. IsTrue (test x)) xs
list_all_by_recursion test [] e = tt
list_all_by_recursion test (x ∷ xs) e = let both = and_parts (test x) (list_all test xs) e in (both.0, list_all_by_recursion test xs both.1)

list_all_from_recursion : (test : ℕ → Bool) (xs : List ℕ) → AllByRecursion (λ x. IsTrue (test x)) xs → list_all test xs ≡ true
list_all_from_recursion test [] h = refl
list_all_from_recursion test (x ∷ xs) h = and_from (test x) (list_all test xs) h.0 (list_all_from_recursion test xs h.1)

pub IsName-from_is_name : (text : List ℕ) → is_name text ≡ true → IsName text
IsName-from_is_name text e =
    let both = and_parts (leb 1 (length text) && leb (length text) 16) (list_all is_name_character text) e in
    let sizes = and_parts (leb 1 (length text)) (leb (length text) 16) both.0 in
    record { nonempty = leb-true _ _ sizes.0; fits = leb-true _ _ sizes.1; characters = All-from_recursion _ text (list_all_by_recursion is_name_character text both.1) }

pub is_name_from_IsName : (text : List ℕ) → IsName text → is_name text ≡ true
is_name_from_IsName text h =
    and_from _ _ (and_from _ _ (le-leb _ _ h.nonempty) (le-leb _ _ h.fits)) (list_all_from_recursion is_name_character text (recursion_from_All _ text h.characters))
