-- Lines of two workers may change places: what a line needs, and what it changes, is its own worker's.
use Rattle.std.proofs.Common.{◌≡◌, ℕ, Bool, true, false, cond, List, [], ◌∷◌, ◌++◌, map, Option, None, refl, sym, ap, ap₂, ◌∙◌, eqb-true, ne_eqb}
use Rattle.std.specs.Prelude.{is_some, ◌==◌, ◌&&◌}
use Rattle.trace_text.specs.declared.trace.Between.TheVariants.{Give, SetMax}
use Rattle.trace_text.specs.declared.trace.Op.{Op}
use Rattle.trace_text.specs.declared.trace.Op.TheVariants.{Alloc, Free, Enter, Exit, Bind, Unbind, Look, Trim, Drain, DrainSeat, Prealloc, Away, Back}
use Rattle.trace_text.specs.Lines.{Line, Does, Moves}
use Rattle.trace_text.specs.Reading.{held, held_after, in_section, open_after, is_away, away_after}
use Rattle.trace_text.specs.Valid.{SlotFits, LineFits, LinesFit}

-- ---- the same slots, sections and workers that are away

-- After both lists of lines, of which the last one comes first, the worker's slots hold the same, and it is in a section, and away, after both or neither.
record SameOf (w : ℕ) (a b : List Line) : Type 0 where
  pub slots : (slot : ℕ) → held a w slot ≡ held b w slot
  pub inside : in_section a w ≡ in_section b w
  pub away : is_away a w ≡ is_away b w

-- so of each worker
abbrev Same : List Line → List Line → Type 0
Same a b = (w : ℕ) → SameOf w a b

turned : (w : ℕ) (a b : List Line) → SameOf w a b → SameOf w b a
turned w a b same = record { slots = λ slot. sym (same.slots slot); inside = sym same.inside; away = sym same.away }

-- an operation needs only what its worker's slots hold, and whether it is in a section or away
slot_fits : (w : ℕ) (op : Op) (a b : List Line) → SameOf w a b → SlotFits a w op → SlotFits b w op
slot_fits w (Alloc zone slot arg reserve) a b same fits = sym (same.slots slot) ∙ fits
slot_fits w (Free slot) a b same fits = ap is_some (sym (same.slots slot)) ∙ fits
slot_fits w Enter a b same fits = sym same.inside ∙ fits
slot_fits w Exit a b same fits = sym same.inside ∙ fits
slot_fits w (Bind key value) a b same fits = tt
slot_fits w (Unbind key) a b same fits = tt
slot_fits w (Look key) a b same fits = tt
slot_fits w (Trim zone) a b same fits = tt
slot_fits w (Drain zone) a b same fits = tt
slot_fits w (DrainSeat zone) a b same fits = tt
slot_fits w (Prealloc zone items) a b same fits = tt
slot_fits w Away a b same fits = sym same.inside ∙ fits
slot_fits w Back a b same fits = tt

does_fit : (w : ℕ) (op : Op) (a b : List Line) → SameOf w a b → LineFits a (Does w op) → LineFits b (Does w op)
does_fit w op a b same fits = (slot_fits w op a b same fits.0, sym same.away ∙ fits.1)

line_fits : (line : Line) (a b : List Line) → Same a b → LineFits a line → LineFits b line
line_fits (Does w op) a b same fits = does_fit w op a b (same w) fits
line_fits (Moves (Give giver from taker to)) a b same fits =
    (ap is_some (sym ((same giver).slots from)) ∙ fits.0, sym ((same taker).slots to) ∙ fits.1)
line_fits (Moves (SetMax zone limit)) a b same fits = tt

-- one line more leaves the same after both
next_same : (line : Line) (a b : List Line) → Same a b → Same (line ∷ a) (line ∷ b)
next_same (Does v op) a b same = λ w. record {
  slots = λ slot. ap (λ (h : Option ℕ). cond (v == w) (held_after op slot h) h) ((same w).slots slot);
  inside = ap (λ (o : Bool). cond (v == w) (open_after op o) o) (same w).inside;
  away = ap (λ (o : Bool). cond (v == w) (away_after op o) o) (same w).away;
}
next_same (Moves (Give giver from taker to)) a b same = λ w. record {
  slots = λ slot. ap₂ (λ (h k : Option ℕ). cond ((taker == w) && (to == slot)) h (cond ((giver == w) && (from == slot)) None k)) ((same giver).slots from) ((same w).slots slot);
  inside = (same w).inside;
  away = (same w).away;
}
next_same (Moves (SetMax zone limit)) a b same = λ w. record { slots = λ slot. (same w).slots slot; inside = (same w).inside; away = (same w).away }

lines_fit : (lines a b : List Line) → Same a b → LinesFit a lines → LinesFit b lines
lines_fit [] a b same fits = tt
lines_fit (line ∷ lines) a b same fits = (line_fits line a b same fits.0, lines_fit lines (line ∷ a) (line ∷ b) (next_same line a b same) fits.1)

-- ---- two operations of two workers

-- of two changes of which one at most is made, either may come first
one_at_most : {X : Type 0} (p q : Bool) (f g : X → X) (x : X) → (p ≡ true → q ≡ true → ⊥)
    → cond p (f (cond q (g x) x)) (cond q (g x) x) ≡ cond q (g (cond p (f x) x)) (cond p (f x) x)
one_at_most true true f g x never = absurd (never refl refl)
one_at_most true false f g x never = refl
one_at_most false true f g x never = refl
one_at_most false false f g x never = refl

either_first : (v w : ℕ) (p q : Op) (earlier : List Line) → (v ≡ w → ⊥) → Same (Does v p ∷ Does w q ∷ earlier) (Does w q ∷ Does v p ∷ earlier)
either_first v w p q earlier ne = λ x.
    let never : (v == x) ≡ true → (w == x) ≡ true → ⊥ = λ a b. ne (eqb-true v x a ∙ sym (eqb-true w x b)) in
    record {
      slots = λ slot. one_at_most (v == x) (w == x) (held_after p slot) (held_after q slot) (held earlier x slot) never;
      inside = one_at_most (v == x) (w == x) (open_after p) (open_after q) (in_section earlier x) never;
      away = one_at_most (v == x) (w == x) (away_after p) (away_after q) (is_away earlier x) never;
    }

-- an operation of another worker leaves all as it was
of_another : (v w : ℕ) (op : Op) (earlier : List Line) → (v ≡ w → ⊥) → SameOf w (Does v op ∷ earlier) earlier
of_another v w op earlier ne = record { slots = λ slot. rw (ne_eqb v w ne) refl; inside = rw (ne_eqb v w ne) refl; away = rw (ne_eqb v w ne) refl }

-- ---- lines that still fit in another order

-- Wherever these lines fit, so do those.
abbrev pub StillFit : List Line → List Line → Type 0
StillFit lines other = (before : List Line) → LinesFit before lines → LinesFit before other

change_places : (v w : ℕ) (p q : Op) (rest : List Line) → (v ≡ w → ⊥) → StillFit (Does v p ∷ Does w q ∷ rest) (Does w q ∷ Does v p ∷ rest)
change_places v w p q rest ne before fits =
    let other : w ≡ v → ⊥ = λ e. ne (sym e) in (
      does_fit w q (Does v p ∷ before) before (of_another v w p before ne) fits.1.0,
      (
        does_fit v p before (Does w q ∷ before) (turned v (Does w q ∷ before) before (of_another w v q before other)) fits.0,
        lines_fit rest (Does w q ∷ Does v p ∷ before) (Does v p ∷ Does w q ∷ before) (either_first w v q p before other) fits.1.1,
      ),
    )

-- behind the same lines
pub behind : (front lines other : List Line) → StillFit lines other → StillFit (front ++ lines) (front ++ other)
behind [] lines other still before fits = still before fits
behind (line ∷ front) lines other still before fits = (fits.0, behind front lines other still (line ∷ before) fits.1)

-- an operation goes behind those of another worker
pub goes_behind : (v : ℕ) (p : Op) (w : ℕ) (ops : List Op) (rest : List Line) → (v ≡ w → ⊥) → StillFit (Does v p ∷ (map (Does w) ops ++ rest)) (map (Does w) ops ++ Does v p ∷ rest)
goes_behind v p w [] rest ne before fits = fits
goes_behind v p w (q ∷ ops) rest ne before fits =
    let first = change_places v w p q (map (Does w) ops ++ rest) ne before fits in
    (first.0, goes_behind v p w ops rest ne (Does w q ∷ before) first.1)
