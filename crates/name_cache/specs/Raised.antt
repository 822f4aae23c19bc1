-- What contracts see of a raised entry, and what hooks leave of it.
use Rattle.std.specs.Prelude.{◌≡◌, ℕ, zero, suc, List, Option, Some, None}
use Rattle.std.specs.Arc.{arc_value}
use Rattle.uma_life.specs.Life.{Life}
use Rattle.name_rows.specs.declared.entry.Entry.{Entry}
use Rattle.name_rows.specs.declared.words.Words.{Words}
use Rattle.name_rows.specs.Entries.{IsEntryOf, entry_life}
use Rattle.name_cache.specs.declared.home.Home.{Home}
use Rattle.name_cache.specs.declared.entry_hooks.RaisedEntry.{RaisedEntry}
use Rattle.name_cache.specs.Homes.{home_clock, home_origin}

abbrev pub raised_entry : RaisedEntry → Entry
raised_entry raised = raised.entry

abbrev pub raised_home : RaisedEntry → Home
raised_home raised = arc_value raised.home

-- the clock of its home, as numbers
abbrev pub raised_origin : RaisedEntry → List ℕ
raised_origin raised = home_origin (raised_home raised)

abbrev pub raised_life : RaisedEntry → Life
raised_life raised = entry_life raised.entry

-- a hook leaves the words as they were, and the home
abbrev pub KeepsWords : RaisedEntry → RaisedEntry → Type 0
KeepsWords before left = (left.entry.words ≡ before.entry.words) × (raised_home left ≡ raised_home before)

-- keg_init refuses an entry without words, with 255
abbrev pub refusal_of : ℕ → Option Words → Option ℕ
refusal_of zero None = Some 255
refusal_of zero (Some w) = None
refusal_of (suc zone) words = None

-- these are the entry and its home, and the entry is of the home's clock
pub record AreHalvesOf (raised : RaisedEntry) (one : Entry) (other : Home) : Type 0 where
  pub entry : one ≡ raised_entry raised
  pub home : other ≡ raised_home raised
  pub here : IsEntryOf (home_clock (raised_home raised)) one

-- this is the entry, which is of its home's clock
pub record IsEntryIn (raised : RaisedEntry) (one : Entry) : Type 0 where
  pub entry : one ≡ raised_entry raised
  pub here : IsEntryOf (home_clock (raised_home raised)) one
