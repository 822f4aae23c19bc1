-- What contracts see of a home.
use Rattle.std.specs.Prelude.{◌≡◌, ◌⊎◌, ℕ, List, None, slice_index_or, slice_set}
use Rattle.smr_clock.specs.declared.clock.Clock.{Clock}
use Rattle.smr_clock.specs.Belongs.{clock_id}
use Rattle.uma_life.specs.Life.{raw_life}
use Rattle.uma_life.specs.declared.tally.BodyPhase.TheVariants.{Raw, Gone}
use Rattle.name_rows.specs.declared.entry.Entry.{Entry}
use Rattle.name_rows.specs.declared.names.Names.{Names}
use Rattle.name_rows.specs.declared.names.Part.{Part}
use Rattle.name_rows.specs.declared.root.Root.{Root}
use Rattle.name_rows.specs.Entries.{IsEntryOf, entry_life}
use Rattle.name_rows.specs.Roots.{IsRootOf, kept_in, root_kept}
use Rattle.name_rows.specs.RootStates.{put_back}
use Rattle.name_cache.specs.declared.home.Home.{Home}
use Rattle.name_cache.specs.Origins.{clock_numbers}

-- the clock whose entries are at home here
abbrev pub home_clock : Home → Clock Names Part
home_clock home = home.clock

-- that clock, as numbers
abbrev pub home_origin : Home → List ℕ
home_origin home = clock_numbers (clock_id (home_clock home))

-- The entry came by one raise out of the root of this clock, as that stood under its lock: with just what the root had of its number, which the root then hasn't any more. All else the root has as it had it.
pub record RaisesFrom (clock : Clock Names Part) (number : ℕ) (entry : Entry) : Type 0 where
  pub was : Root
  pub is : Root
  pub of_clock : IsRootOf clock was
  pub words : kept_in entry.words ≡ slice_index_or (root_kept was) number None
  pub rest : root_kept is ≡ slice_set (root_kept was) number None

-- The entry went back by one lowering into the root of this clock, as that stood under its lock: where it has words, the root then has its number with its state. All else the root has as it had it.
pub record LowersInto (clock : Clock Names Part) (entry : Entry) : Type 0 where
  pub was : Root
  pub is : Root
  pub of_clock : IsRootOf clock was
  pub back : root_kept is ≡ put_back (kept_in entry.words) (root_kept was)

-- the entry is of this clock and this number, and passed no hook
pub record IsNewEntry (clock : Clock Names Part) (number : ℕ) (entry : Entry) : Type 0 where
  pub here : IsEntryOf clock entry
  pub life : entry_life entry ≡ raw_life number

-- the entry is of this clock, and passed no hook, or all
pub record MayEnd (clock : Clock Names Part) (entry : Entry) : Type 0 where
  pub here : IsEntryOf clock entry
  pub over : ((entry_life entry).phase ≡ Raw) ⊎ ((entry_life entry).phase ≡ Gone)
