-- Own: what contracts see of an item of the zone of entries, whole and in its parts.
use Rattle.std.specs.Prelude.{◌≡◌, Option, Some}
use Rattle.std.specs.Arc.{arc_value}
use Rattle.smr_clock.specs.declared.clock.Clock.{Clock}
use Rattle.smr_clock.specs.declared.clock.Setup.{Setup}
use Rattle.smr_clock.specs.declared.view.View.{View}
use Rattle.smr_clock.specs.Belongs.{TableId, clock_id}
use Rattle.uma_life.specs.Live.{live_body, live_ticket}
use Rattle.name_rows.specs.declared.names.Names.{Names}
use Rattle.name_rows.specs.declared.entry.Owned.{Owned}
use Rattle.name_rows.specs.declared.names.Part.{Part}
use Rattle.name_rows.specs.declared.words.Words.{Words}
use Rattle.name_rows.specs.Belongs.{IsNamesClock}
use Rattle.name_rows.specs.Entries.{OnWords, entry_life, entry_state}
use Rattle.name_rows.specs.declared.entry.EntryState.{EntryState}
use Rattle.name_rows.specs.declared.entry.EntryState.TheVariants.{Clean, Unlinked}
use Rattle.name_rows.specs.Ripening.{IsRipe}
use Rattle.name_rows.specs.Roots.{kept_in}
use Rattle.name_cache.specs.Homes.{home_clock}
use Rattle.name_cache.specs.Raised.{raised_entry, raised_home}
use Rattle.name_cache.specs.declared.parts.EntryParts.{EntryParts}
use Rattle.name_cache.specs.Types.{LiveEntry}

-- the clock of the entry's words
abbrev pub parts_clock : EntryParts → TableId × Setup
parts_clock parts = clock_id (home_clock (arc_value parts.home))

abbrev pub live_clock : LiveEntry → TableId × Setup
live_clock live = clock_id (home_clock (raised_home (live_body live)))

-- what the entry's seat knows of the entry: its number, its key and value, and its state
abbrev pub kept_of : LiveEntry → Option Owned
kept_of live = kept_in (raised_entry (live_body live)).words

abbrev pub words_of : LiveEntry → Option Words
words_of live = (raised_entry (live_body live)).words

-- these are the parts of the item
pub record ArePartsOf (live : LiveEntry) (parts : EntryParts) : Type 0 where
  pub entry : raised_entry (live_body live) ≡ parts.entry
  pub home : raised_home (live_body live) ≡ arc_value parts.home
  pub ticket : live_ticket live ≡ parts.ticket

-- the entry is clean, so that its words may be written by this clock of names
pub record CanWrite (clock : Clock Names Part) (parts : EntryParts) : Type 0 where
  pub same_clock : parts_clock parts ≡ clock_id clock
  pub names : IsNamesClock clock
  pub clean : entry_state parts.entry ≡ Some Clean

-- the entry is out of its row, so that it may get a stamp of this clock
pub record CanStamp (clock : Clock Names Part) (parts : EntryParts) : Type 0 where
  pub same_clock : parts_clock parts ≡ clock_id clock
  pub unlinked : entry_state parts.entry ≡ Some Unlinked

-- all but the words is as it was
pub record IsSameItem (was is : EntryParts) : Type 0 where
  pub life : entry_life is.entry ≡ entry_life was.entry
  pub home : is.home ≡ was.home
  pub ticket : is.ticket ≡ was.ticket

-- the state of the entry
abbrev pub state_of : LiveEntry → Option EntryState
state_of live = entry_state (raised_entry (live_body live))

-- the entry was ripe, and is clean
pub record IsCleaned (was is : EntryParts) : Type 0 where
  pub ripe : OnWords IsRipe was.entry.words is.entry.words
  pub clean : entry_state is.entry ≡ Some Clean

-- the words went on so, and all else is as it was
pub record ChangesWords (how : View Part → Owned → View Part → Owned → Type 0) (was is : EntryParts) : Type 0 where
  pub made : OnWords how was.entry.words is.entry.words
  pub same : IsSameItem was is
