-- What contracts see of the root.
use Rattle.std.specs.Prelude.{◌≡◌, ◌⊎◌, ℕ, List, Option, Some, None, slice_index_or, slice_set}
use Rattle.uma_life.specs.Life.{raw_life}
use Rattle.uma_life.specs.declared.tally.BodyPhase.TheVariants.{Raw, Gone}
use Rattle.uma_life.specs.declared.tally.Tally.{Tally}
use Rattle.smr_clock.specs.declared.clock.Clock.{Clock}
use Rattle.smr_clock.specs.Notes.{IsSeatOf}
use Rattle.name_rows.specs.declared.names.Names.{Names}
use Rattle.name_rows.specs.declared.entry.Owned.{Owned}
use Rattle.name_rows.specs.declared.names.Part.{Part}
use Rattle.name_rows.specs.declared.words.Words.{Words}
use Rattle.name_rows.specs.declared.entry.Entry.{Entry}
use Rattle.name_rows.specs.declared.root.Root.{Root}
use Rattle.name_rows.specs.Belongs.{IsNamesClock}
use Rattle.name_rows.specs.Entries.{IsEntryOf, entry_life}
use Rattle.name_rows.specs.RootStates.{put_back}

abbrev pub IsRootOf : Clock Names Part → Root → Type 0
IsRootOf clock root = IsSeatOf clock root.seat

-- the entries that the root has, by number
abbrev pub root_kept : Root → List (Option Owned)
root_kept root = root.kept.items

abbrev pub kept_in : Option Words → Option Owned
kept_in None = None
kept_in (Some w) = Some w.kept

-- ---- what calls of the root ask, and what they come to

-- the root is of this clock, and has these entries
pub record RootHas (clock : Clock Names Part) (root : Root) (entries : List (Option Owned)) : Type 0 where
  pub here : IsRootOf clock root
  pub kept : root_kept root ≡ entries

-- the root is of this clock, which is one of names
pub record CanRaise (clock : Clock Names Part) (root : Root) : Type 0 where
  pub here : IsRootOf clock root
  pub names : IsNamesClock clock

-- so it is, and has this number
pub record CanSplitOff (clock : Clock Names Part) (root : Root) (number : ℕ) (owned : Owned) : Type 0 where
  pub here : IsRootOf clock root
  pub names : IsNamesClock clock
  pub kept : slice_index_or (root_kept root) number None ≡ Some owned

-- these are the words of the number, which the root hasn't any more
pub record SplitsOff (clock : Clock Names Part) (old : Root) (number : ℕ) (owned : Owned) (out : Words) (new : Root) : Type 0 where
  pub root : RootHas clock new (slice_set (root_kept old) number None)
  pub words_here : IsSeatOf clock out.seat
  pub words : (out.kept ≡ owned) × (owned.entry ≡ number)

-- The entry is of this number and passed no hook. It has the words that the root had of the number, which the root hasn't any more.
pub record RaisesEntry (clock : Clock Names Part) (old : Root) (number : ℕ) (entry : Entry) (new : Root) : Type 0 where
  pub root : RootHas clock new (slice_set (root_kept old) number None)
  pub entry_here : IsEntryOf clock entry
  pub life : entry_life entry ≡ raw_life number
  pub words : kept_in entry.words ≡ slice_index_or (root_kept old) number None

-- the root and the words are of this clock
pub record CanTakeBack (clock : Clock Names Part) (root : Root) (words : Words) : Type 0 where
  pub here : IsRootOf clock root
  pub words_here : IsSeatOf clock words.seat

-- the root and the entry are of this clock, and the entry passed no hook, or all
pub record CanLower (clock : Clock Names Part) (root : Root) (entry : Entry) : Type 0 where
  pub here : IsRootOf clock root
  pub entry_here : IsEntryOf clock entry
  pub over : ((entry_life entry).phase ≡ Raw) ⊎ ((entry_life entry).phase ≡ Gone)

-- The root has the entry's number again, with its state, where the entry has words. Its tally is answered.
pub record LowersEntry (clock : Clock Names Part) (old : Root) (entry : Entry) (counts : Tally) (new : Root) : Type 0 where
  pub root : RootHas clock new (put_back (kept_in entry.words) (root_kept old))
  pub tally : counts ≡ (entry_life entry).tally
