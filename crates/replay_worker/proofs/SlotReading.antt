-- The reading of a worker's slots and section with one line of the worker more.
use Rattle.std.proofs.Common.{◌≡◌, ◌≢◌, ℕ, List, ◌∷◌, Bool, None, Some, refl, sym, ◌∙◌, eq-eqb}
use Rattle.std.proofs.lemmas.Bool.{ne_eqb, cond-true, cond-false}
use Rattle.std.specs.Prelude.{◌==◌}
use Rattle.trace_text.specs.declared.trace.Op.{Op}
use Rattle.trace_text.specs.declared.trace.Op.TheVariants.{Alloc, Free}
use Rattle.trace_text.specs.Lines.{Line, Does}
use Rattle.trace_text.specs.Reading.{held, held_after, in_section, open_after, is_away, away_after}

-- a line of the worker itself
pub held-own : (lines : List Line) (n slot : ℕ) (op : Op) → held (Does n op ∷ lines) n slot ≡ held_after op slot (held lines n slot)
held-own lines n slot op = cond-true (n == n) (held_after op slot (held lines n slot)) (held lines n slot) (eq-eqb n n refl)

pub in_section-own : (lines : List Line) (n : ℕ) (op : Op) → in_section (Does n op ∷ lines) n ≡ open_after op (in_section lines n)
in_section-own lines n op = cond-true (n == n) (open_after op (in_section lines n)) (in_section lines n) (eq-eqb n n refl)

pub is_away-own : (lines : List Line) (n : ℕ) (op : Op) → is_away (Does n op ∷ lines) n ≡ away_after op (is_away lines n)
is_away-own lines n op = cond-true (n == n) (away_after op (is_away lines n)) (is_away lines n) (eq-eqb n n refl)

-- a line of another worker
pub held-others : (lines : List Line) (n v slot : ℕ) (op : Op) → v ≢ n → held (Does v op ∷ lines) n slot ≡ held lines n slot
held-others lines n v slot op apart = cond-false (v == n) (held_after op slot (held lines n slot)) (held lines n slot) (ne_eqb v n apart)

pub in_section-others : (lines : List Line) (n v : ℕ) (op : Op) → v ≢ n → in_section (Does v op ∷ lines) n ≡ in_section lines n
in_section-others lines n v op apart = cond-false (v == n) (open_after op (in_section lines n)) (in_section lines n) (ne_eqb v n apart)

pub is_away-others : (lines : List Line) (n v : ℕ) (op : Op) → v ≢ n → is_away (Does v op ∷ lines) n ≡ is_away lines n
is_away-others lines n v op apart = cond-false (v == n) (away_after op (is_away lines n)) (is_away lines n) (ne_eqb v n apart)

-- an alloc fills its slot and no other
pub held-alloc_same : (lines : List Line) (n z slot arg : ℕ) (reserve : Bool) → held (Does n (Alloc z slot arg reserve) ∷ lines) n slot ≡ Some z
held-alloc_same lines n z slot arg reserve =
    held-own lines n slot (Alloc z slot arg reserve) ∙ cond-true (slot == slot) (Some z) (held lines n slot) (eq-eqb slot slot refl)

pub held-alloc_other : (lines : List Line) (n z slot arg other : ℕ) (reserve : Bool) → other ≢ slot
    → held (Does n (Alloc z slot arg reserve) ∷ lines) n other ≡ held lines n other
held-alloc_other lines n z slot arg other reserve apart =
    held-own lines n other (Alloc z slot arg reserve) ∙ cond-false (slot == other) (Some z) (held lines n other) (ne_eqb slot other (λ e. apart (sym e)))

-- a free empties its slot and no other
pub held-free_other : (lines : List Line) (n slot other : ℕ) → other ≢ slot → held (Does n (Free slot) ∷ lines) n other ≡ held lines n other
held-free_other lines n slot other apart =
    held-own lines n other (Free slot) ∙ cond-false (slot == other) None (held lines n other) (ne_eqb slot other (λ e. apart (sym e)))
