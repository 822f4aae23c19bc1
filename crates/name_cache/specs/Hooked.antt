-- What contracts see of the hooks of entries.
use Rattle.std.specs.Prelude.{◌≡◌, ℕ}
use Rattle.std.specs.Arc.{arc_value}
use Rattle.smr_clock.specs.declared.clock.Clock.{Clock}
use Rattle.smr_clock.specs.Belongs.{clock_id}
use Rattle.name_rows.specs.declared.names.Names.{Names}
use Rattle.name_rows.specs.declared.names.Part.{Part}
use Rattle.name_cache.specs.declared.home.Home.{Home}
use Rattle.name_cache.specs.declared.entry_hooks.RaisedEntry.{RaisedEntry}
use Rattle.name_cache.specs.declared.entry_hooks.EntryHooks.{EntryHooks}
use Rattle.name_cache.specs.Homes.{home_clock, RaisesFrom}
use Rattle.name_cache.specs.Raised.{raised_entry, raised_home}

abbrev pub hooks_home : EntryHooks → Home
hooks_home hooks = arc_value hooks.home

-- the entry goes back to the home of these hooks
abbrev pub IsAtHome : EntryHooks → RaisedEntry → Type 0
IsAtHome hooks raised = raised_home raised ≡ hooks_home hooks

-- the entry is of this number, by one raise out of the root of that home
abbrev pub RaisesAtHome : EntryHooks → ℕ → RaisedEntry → Type 0
RaisesAtHome hooks number raised = IsAtHome hooks raised × RaisesFrom (home_clock (hooks_home hooks)) number (raised_entry raised)

-- both have one root, which is of this clock
pub record AreHooksOf (by : Clock Names Part) (one other : EntryHooks) : Type 0 where
  pub clock : clock_id (home_clock (hooks_home one)) ≡ clock_id by
  pub same_root : hooks_home one ≡ hooks_home other
