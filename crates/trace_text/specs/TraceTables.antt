-- The tables of a trace's reading (own): which slots are filled, which workers are in a section, and which are away.
use Rattle.std.specs.Prelude.{ℕ, ◌≡◌, ◌<◌, ◌≤◌, All, length, false}
use Rattle.trace_text.specs.declared.trace.Between.TheVariants.{Give, SetMax}
use Rattle.trace_text.specs.declared.trace_reading.fields.Entry.{Entry}
use Rattle.trace_text.specs.declared.trace_reading.fields.Entry.TheVariants as entries
use Rattle.trace_text.specs.declared.trace_reading.tables.Tables.{Tables}
pub use Rattle.trace_text.specs.Limits.{most_workers}
use Rattle.trace_text.specs.Limits.{last_slot}
pub use Rattle.trace_text.specs.TraceShown.{OpSlotFits}
use Rattle.trace_text.specs.TraceShown.{slot_at, is_marked, filled_after, opened_after, left_after}

-- each worker has a place in the two tables of workers; that of the slots grows
pub record AreWhole (tables : Tables) : Type 0 where
  pub sections_whole : length tables.sections.items ≡ most_workers
  pub away_whole : length tables.away.items ≡ most_workers

-- all slots are empty, no section is open, and no worker is away
pub record AreEmpty (tables : Tables) : Type 0 where
  pub empty : All (λ filled. filled ≡ false) tables.slots.items
  pub closed : All (λ is_open. is_open ≡ false) tables.sections.items
  pub there : All (λ is_away. is_away ≡ false) tables.away.items

-- there is room for the workers and the slots that a line names
abbrev pub EntryFits : Entry → Type 0
EntryFits (entries.Does worker op) = (worker < most_workers) × OpSlotFits op
EntryFits (entries.Moves (Give giver slot taker slot2)) = (giver < most_workers) × (slot ≤ last_slot) × (taker < most_workers) × (slot2 ≤ last_slot)
EntryFits (entries.Moves (SetMax zone limit)) = Unit {0}
EntryFits entries.Round = Unit {0}

-- the line was done to the tables
pub record Marks (entry : Entry) (old new : Tables) : Type 0 where
  pub filled : (w slot : ℕ) → slot ≤ last_slot → slot_at new.slots.items w slot ≡ filled_after entry (slot_at old.slots.items) w slot
  pub opened : (w : ℕ) → is_marked new.sections.items w ≡ opened_after entry (is_marked old.sections.items) w
  pub left : (w : ℕ) → is_marked new.away.items w ≡ left_after entry (is_marked old.away.items) w
