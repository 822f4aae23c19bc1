-- How names begin, and when they are refused.
use Rattle.std.specs.Prelude.{◌≡◌, ℕ, ◌+◌, ◌-◌, ◌^◌, ◌<◌, ◌≤◌, ◌⊎◌, List, [], ◌∷◌, Option, Some, None, length, slice_index_or}
use mathlib.Core.Option.{some}
use lib.ListN.{get_elem?}
use Rattle.smr_core.specs.declared.clock_core.ClockConfig.{ClockConfig}
use Rattle.smr_core.specs.ClockState.{IsInRange}
use Rattle.smr_core.specs.Making.{RefusesNumbers}
use Rattle.smr_clock.specs.declared.clock.Clock.{Clock}
use Rattle.smr_clock.specs.declared.clock.Setup.{Setup}
use Rattle.smr_clock.specs.Belongs.{setup_of}
use Rattle.smr_clock.specs.Making.{AreWorkers}
use Rattle.smr_clock.specs.Notes.{IsSeatOf, seat_knows}
use Rattle.name_rows.specs.declared.names.Names.{Names}
use Rattle.name_rows.specs.declared.making.NamesRefused.{NamesRefused}
use Rattle.name_rows.specs.declared.making.NamesRefused.TheVariants.{Clock as ClockNumber, Rows, Entries, Version, Memory}
use Rattle.name_rows.specs.declared.names.Part.{Part}
use Rattle.name_rows.specs.declared.making.Opened.{Opened}
use Rattle.name_rows.specs.declared.entry.Owned.{Owned}
use Rattle.name_rows.specs.declared.row.Row.{Row}
use Rattle.name_rows.specs.Belongs.{IsNamesClock}
use Rattle.name_rows.specs.NamesLaw.{IsPlan}
use Rattle.name_rows.specs.Linking.{row_record}
use Rattle.name_rows.specs.Records.{first_part, fresh_entry, fresh_row, rows_from, told}
use Rattle.name_rows.specs.Roots.{IsRootOf, root_kept}
use Rattle.name_rows.specs.Rows.{IsRowOf, row_last}
use Rattle.name_rows.specs.Types.{NamesSeat}

-- the first test that fails, in this order
abbrev pub RefusesNames : ClockConfig → ℕ → ℕ → ℕ → NamesRefused → Type 0
RefusesNames a rows entries version (ClockNumber refused) = RefusesNumbers a refused
RefusesNames a rows entries version (Rows n) = IsInRange a × (n ≡ rows) × ((rows < 1) ⊎ (4096 < rows))
RefusesNames a rows entries version (Entries n) = IsInRange a × (1 ≤ rows) × (rows ≤ 4096) × (n ≡ entries) × (65536 < entries)
RefusesNames a rows entries version (Version n) = IsInRange a × IsPlan rows entries × (n ≡ version) × (2 ^ 44 ≤ version)
RefusesNames a rows entries version Memory = IsInRange a × IsPlan rows entries × (version < 2 ^ 44)

-- the rows from 0 on, in order, each of this clock and empty at this version, as its one record says
abbrev pub AreOpenRows : Clock Names Part → ℕ → List Row → Type 0
AreOpenRows clock version rows =
    (n : ℕ) (row : Row) → get_elem? rows n ≡ some row → IsRowOf clock row × (row.number ≡ n) × (row.version ≡ version) × (row.guest ≡ None) × (row_last row ≡ row_record n version None None ∷ [])

-- the counts of rows and of entries, and the version, are in range
pub record FitsPlan (rows entries first : ℕ) : Type 0 where
  pub plan : IsPlan rows entries
  pub version : first < 2 ^ 44

-- so are all the numbers with which names are made
pub record AcceptsNames (a : ClockConfig) (rows entries first : ℕ) : Type 0 where
  pub clock : IsInRange a
  pub plan : IsPlan rows entries
  pub version : first < 2 ^ 44

-- a table of so many entries, by number, all clean
pub record AreFreshEntries (count : ℕ) (kept : List (Option Owned)) : Type 0 where
  pub long : length kept ≡ count
  pub fresh : (n : ℕ) → n < count → slice_index_or kept n None ≡ Some (fresh_entry n)

-- The clock, one of names, is made so. Each pass is a fresh worker's, each row is empty at the version, and the root has every entry, clean.
pub record IsOpenedWith (a : Setup) (first : ℕ) (opened : Opened) : Type 0 where
  pub clock : setup_of opened.clock ≡ a
  pub names : IsNamesClock opened.clock
  pub passes : AreWorkers opened.clock told (first_part a) opened.passes
  pub long : length opened.rows ≡ a.plan.0
  pub rows : AreOpenRows opened.clock first opened.rows
  pub root : IsRootOf opened.clock opened.root
  pub entries : (n : ℕ) → n < a.plan.1 → slice_index_or (root_kept opened.root) n None ≡ Some (fresh_entry n)

-- ---- the rows of a making

-- The seat is of this clock, which is one of names, and has all its rows. The version is in range.
pub record CanSplitRows (clock : Clock Names Part) (seat : NamesSeat) (first : ℕ) : Type 0 where
  pub here : IsSeatOf clock seat
  pub names : IsNamesClock clock
  pub rows : (seat_knows seat).host.rows ≡ rows_from 0 (setup_of clock).plan.0
  pub low : first < 2 ^ 44

-- All rows are split off the seat, each empty at the version. The seat has its entries still.
pub record SplitsRows (clock : Clock Names Part) (old : NamesSeat) (first : ℕ) (out : List Row) (new : NamesSeat) : Type 0 where
  pub here : IsSeatOf clock new
  pub rest : (seat_knows new).host.rows ≡ []
  pub owned : (seat_knows new).host.owned ≡ (seat_knows old).host.owned
  pub long : length out ≡ (setup_of clock).plan.0
  pub rows : AreOpenRows clock first out

-- the seat is of this clock, and has the rows from this one on
pub record CanSplitRow (clock : Clock Names Part) (seat : NamesSeat) (next : ℕ) : Type 0 where
  pub here : IsSeatOf clock seat
  pub number : next < (setup_of clock).plan.0
  pub rows : (seat_knows seat).host.rows ≡ rows_from next ((setup_of clock).plan.0 - next)

-- The row has a seat of its own, with no entry. The seat has the rows behind it, and its entries still.
pub record SplitsRow (clock : Clock Names Part) (old : NamesSeat) (next : ℕ) (out new : NamesSeat) : Type 0 where
  pub here : IsSeatOf clock new
  pub row_here : IsSeatOf clock out
  pub rows : (seat_knows new).host.rows ≡ rows_from (next + 1) ((setup_of clock).plan.0 - (next + 1))
  pub owned : (seat_knows new).host.owned ≡ (seat_knows old).host.owned
  pub row : (seat_knows out).host.rows ≡ fresh_row next ∷ []
  pub none : (seat_knows out).host.owned ≡ []

-- The seat is of this clock, which is one of names, and has this row alone, without a record. The version is in range.
pub record CanOpenRow (clock : Clock Names Part) (seat : NamesSeat) (own first : ℕ) : Type 0 where
  pub here : IsSeatOf clock seat
  pub names : IsNamesClock clock
  pub number : own < (setup_of clock).plan.0
  pub row : (seat_knows seat).host.rows ≡ fresh_row own ∷ []
  pub none : (seat_knows seat).host.owned ≡ []
  pub low : first < 2 ^ 44

-- the row is of this clock, has this number, and is empty at this version, as its one record says
pub record IsOpenRow (clock : Clock Names Part) (own first : ℕ) (out : Row) : Type 0 where
  pub here : IsRowOf clock out
  pub row : (out.number ≡ own) × (out.version ≡ first) × (out.guest ≡ None)
  pub last : row_last out ≡ row_record own first None None ∷ []
