-- Which slots are filled, who is in a section and who is away after one line more.
use Rattle.std.proofs.Common.{◌≡◌, ℕ, Bool, true, false, cond, List, [], ◌∷◌, ◌++◌, Option, Some, None, refl}
use Rattle.std.specs.Prelude.{is_some, ◌&&◌, ◌==◌}
use Rattle.trace_text.specs.declared.trace.Between.TheVariants.{Give, SetMax}
use Rattle.trace_text.specs.declared.trace.Op.{Op}
use Rattle.trace_text.specs.declared.trace.Op.TheVariants.{Alloc, Free, Enter, Exit, Bind, Unbind, Look, Trim, Drain, DrainSeat, Prealloc, Away, Back}
use Rattle.trace_text.specs.declared.trace_reading.fields.Entry.{Entry}
use Rattle.trace_text.specs.declared.trace_reading.fields.Entry.TheVariants as entries
use Rattle.trace_text.specs.Grammar.{line_of}
use Rattle.trace_text.specs.Lines.{Line}
use Rattle.trace_text.specs.Reading.{held, held_after, in_section, is_away}
use Rattle.trace_text.specs.TraceShown.{filled_by, filled_after, opened_after, left_after}

some_if : (b : Bool) (x y : Option ℕ) → is_some (cond b x y) ≡ cond b (is_some x) (is_some y)
some_if true x y = refl
some_if false x y = refl

filled_by_op : (op : Op) (slot : ℕ) (h : Option ℕ) → is_some (held_after op slot h) ≡ filled_by op slot (is_some h)
filled_by_op (Alloc zone at arg reserve) slot h = some_if (at == slot) (Some zone) h
filled_by_op (Free at) slot h = some_if (at == slot) None h
filled_by_op Enter slot h = refl
filled_by_op Exit slot h = refl
filled_by_op (Bind key value) slot h = refl
filled_by_op (Unbind key) slot h = refl
filled_by_op (Look key) slot h = refl
filled_by_op (Trim zone) slot h = refl
filled_by_op (Drain zone) slot h = refl
filled_by_op (DrainSeat zone) slot h = refl
filled_by_op (Prealloc zone items) slot h = refl
filled_by_op Away slot h = refl
filled_by_op Back slot h = refl

pub filled_next : (e : Entry) (lines : List Line) (w slot : ℕ) → is_some (held (line_of (e ∷ []) ++ lines) w slot) ≡ filled_after e (λ v t. is_some (held lines v t)) w slot
filled_next (entries.Does v op) lines w slot =
    rw (some_if (v == w) (held_after op slot (held lines w slot)) (held lines w slot), filled_by_op op slot (held lines w slot)) refl
filled_next (entries.Moves (Give giver from taker to)) lines w slot =
    rw (
      some_if ((taker == w) && (to == slot)) (held lines giver from) (cond ((giver == w) && (from == slot)) None (held lines w slot)),
      some_if ((giver == w) && (from == slot)) None (held lines w slot),
    ) refl
filled_next (entries.Moves (SetMax zone limit)) lines w slot = refl
filled_next entries.Round lines w slot = refl

pub opened_next : (e : Entry) (lines : List Line) (w : ℕ) → in_section (line_of (e ∷ []) ++ lines) w ≡ opened_after e (λ v. in_section lines v) w
opened_next (entries.Does v op) lines w = refl
opened_next (entries.Moves between) lines w = refl
opened_next entries.Round lines w = refl

pub left_next : (e : Entry) (lines : List Line) (w : ℕ) → is_away (line_of (e ∷ []) ++ lines) w ≡ left_after e (λ v. is_away lines v) w
left_next (entries.Does v op) lines w = refl
left_next (entries.Moves between) lines w = refl
left_next entries.Round lines w = refl
