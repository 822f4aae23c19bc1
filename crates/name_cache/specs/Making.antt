-- Own: with what a cache is made.
use Rattle.std.specs.Prelude.{◌≡◌, ◌≤◌, ◌*◌, ℕ, List, length, map, None, [], ◌∷◌, true}
use mathlib.Core.Option.{some}
use lib.ListN.{get_elem?}
use Rattle.smr_clock.specs.declared.clock.Clock.{Clock}
use Rattle.smr_clock.specs.Belongs.{setup_of}
use Rattle.uma_zone.specs.declared.zone.make.ZoneRefused.{ZoneRefused}
use Rattle.uma_zone.specs.declared.zone.make.ZoneRefused.TheVariants.{Memory}
use Rattle.uma_zone.specs.declared.zone.make.ZoneSet.{ZoneSet}
use Rattle.uma_zone.specs.Making.{RefusesPrimary}
use Rattle.name_rows.specs.declared.names.Names.{Names}
use Rattle.name_rows.specs.declared.making.Opened.{Opened}
use Rattle.name_rows.specs.declared.names.Part.{Part}
use Rattle.name_rows.specs.declared.row.Row.{Row}
use Rattle.name_rows.specs.Belongs.{IsNamesClock}
use Rattle.name_rows.specs.Linking.{row_record}
use Rattle.name_rows.specs.Roots.{IsRootOf}
use Rattle.name_rows.specs.Rows.{IsRowOf, row_last}

-- The row is of this clock, has this number, and is empty, as its last record is.
pub record IsFreshRow (clock : Clock Names Part) (number : ℕ) (row : Row) : Type 0 where
  pub here : IsRowOf clock row
  pub numbered : row.number ≡ number
  pub empty : row.guest ≡ None
  pub last : row_last row ≡ row_record row.number row.version None None ∷ []

-- the rows from this number on, in order
abbrev pub AreFreshRows : Clock Names Part → List Row → Type 0
AreFreshRows clock rows = (n : ℕ) (row : Row) → get_elem? rows n ≡ some row → IsFreshRow clock n row

-- the versions of rows, in order
abbrev pub versions_of : List Row → List ℕ
versions_of rows = map (λ row. row.version) rows

-- A clock of names with all its rows, which are empty, and its root.
pub record IsOpened (opened : Opened) : Type 0 where
  pub names : IsNamesClock opened.clock
  pub all_rows : length opened.rows ≡ (setup_of opened.clock).plan.0
  pub rows : AreFreshRows opened.clock opened.rows
  pub root : IsRootOf opened.clock opened.root

-- The zone's frees are deferred, and the clock has a number for each entry that the zone may bring in.
pub record FitsOpened (opened : Opened) (set : ZoneSet) : Type 0 where
  pub smr : set.smr ≡ true
  pub entries : 64 * set.slabs ≤ (setup_of opened.clock).plan.1

-- so the cache can be made
pub record CanMake (from : Opened) (set : ZoneSet) : Type 0 where
  pub opened : IsOpened from
  pub fits : FitsOpened from set

-- The first number that is out of its range, as the zone's making says; or memory was wanting.
abbrev pub RefusesCache : ZoneSet → ZoneRefused → Type 0
RefusesCache set Memory = Unit {0}
RefusesCache set refused = RefusesPrimary 64 set refused
