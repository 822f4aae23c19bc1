-- The reading on worked rows: which slots the lines fill, and who is away.
use Rattle.std.proofs.Common.{◌≡◌, List, [], ◌∷◌, Some, None, refl, true, false}
use Rattle.trace_text.specs.declared.trace.Op.TheVariants.{Alloc, Free, Away, Back}
use Rattle.trace_text.specs.declared.trace.Between.TheVariants.{Give, SetMax}
use Rattle.trace_text.specs.Lines.{Line, Does, Moves}
use Rattle.trace_text.specs.Reading.{held, is_away}

given : List Line
given = Moves (Give 0 0 1 7) ∷ Does 0 (Alloc 5 0 0 false) ∷ []

-- a limit leaves the slots; the slot that was given from is empty, and the one that was given to holds what the zone's alloc put in
held_after_a_give : (held (Moves (SetMax 5 1) ∷ given) 1 7 ≡ Some 5) × (held given 0 0 ≡ None) × (held given 1 7 ≡ Some 5) × (held (Does 1 (Free 7) ∷ given) 1 7 ≡ None)
unfolding given
held_after_a_give = (refl, refl, refl, refl)

left : List Line
left = Moves (Give 0 0 1 7) ∷ Does 1 Away ∷ Does 0 (Alloc 5 0 0 false) ∷ []

-- the worker's own last away or back decides, and a `give` to it changes nothing
away_after_lines : (is_away left 1 ≡ true) × (is_away left 0 ≡ false) × (is_away (Does 0 Back ∷ left) 1 ≡ true) × (is_away (Does 1 Back ∷ left) 1 ≡ false)
unfolding left
away_after_lines = (refl, refl, refl, refl)
