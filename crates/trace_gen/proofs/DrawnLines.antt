-- The lines of the steps that are left, and their `give` lines.
use Rattle.std.proofs.Common.{◌≡◌, ℕ, zero, suc, true, false, List, [], ◌∷◌, ◌++◌, Some, None, refl, sym, ap, ◌∙◌}
use Rattle.trace_text.specs.declared.trace_reading.fields.Entry.{Entry}
use Rattle.trace_text.specs.declared.trace_reading.fields.Entry.TheVariants as entries
use Rattle.std.proofs.lemmas.Bool.{false≢true}
use Rattle.trace_text.proofs.TraceParts.{BetweensStand}
use Rattle.trace_gen.specs.declared.generator.Drawn.{Drawn}
use Rattle.trace_gen.specs.declared.generator.Drawn.TheVariants as drawn
use Rattle.trace_gen.specs.Generator.{State, drawn_lines, entries_of, step}

-- the lines of one step, and those of the steps behind it
pub lines_more : (workers left next : ℕ) (s t : State) (d : Drawn) → left ≡ suc next → (d, t) ≡ step workers s
    → drawn_lines workers left s ≡ entries_of d ++ drawn_lines workers next t
lines_more workers left next s t d is e =
    ap (λ (n : ℕ). drawn_lines workers n s) is ∙ ap (λ (r : Drawn × State). entries_of r.0 ++ drawn_lines workers next r.1) (sym e)

-- lines that begin without a `give` line may stand behind a `round` line too
behind_round : (lines : List Entry) → BetweensStand false lines → BetweensStand true lines
behind_round [] stand = tt
behind_round (entries.Does w op ∷ more) stand = stand
behind_round (entries.Moves between ∷ more) stand = absurd (false≢true stand.0)
behind_round (entries.Round ∷ more) stand = stand

drawn_stand : (d : Drawn) (rest : List Entry) → BetweensStand false rest → BetweensStand false (entries_of d ++ rest)
drawn_stand (drawn.Does w op) rest stand = stand
drawn_stand (drawn.Round (Some between)) rest stand = (refl, behind_round rest stand)
drawn_stand (drawn.Round None) rest stand = behind_round rest stand

pub lines_stand : (workers left : ℕ) (s : State) → BetweensStand false (drawn_lines workers left s)
lines_stand workers zero s = tt
lines_stand workers (suc left) s = drawn_stand (step workers s).0 (drawn_lines workers left (step workers s).1) (lines_stand workers left (step workers s).1)
