-- Own: what a pass knows of the rows, before and after a call. A record of a row is what its word says from one store to the next.
use Rattle.std.specs.Prelude.{◌≡◌, ℕ, ◌<◌, List, Some, None}
use Rattle.smr_clock.specs.declared.view.View.{View}
use Rattle.name_rows.specs.declared.names.Part.{Part}
use Rattle.name_rows.specs.declared.names.Bound.{Bound}
use Rattle.name_rows.specs.declared.names.Record.{Record}
use Rattle.name_rows.specs.Records.{In}
use Rattle.name_rows.specs.Reading.{IsNewest}
use Rattle.name_cache.specs.declared.binding.Receipt.{Receipt}

-- the records that a pass with this view knows
abbrev pub known_in : View Part → List Record
known_in v = v.host.known

-- what it knew it still knows
abbrev pub StillKnows : View Part → View Part → Type 0
StillKnows v v' = (r : Record) → In r (known_in v) → In r (known_in v')

-- each record of the row that it knew is older than this version
abbrev pub IsAbove : ℕ → ℕ → View Part → Type 0
IsAbove row version v = (r : Record) → In r (known_in v) → r.row ≡ row → r.version < version

-- It knows this record of the row now, and no record of the row that it knew before is newer.
pub record Meets (v : View Part) (row : ℕ) (last : Record) (v' : View Part) : Type 0 where
  pub knows : In last (known_in v')
  pub of_row : last.row ≡ row
  pub newest : IsNewest (known_in v) last

-- The record that the receipt names is known, and no known record of the row is newer: it binds this.
pub record KnowsBound (b : Bound) (receipt : Receipt) (known : List Record) : Type 0 where
  pub at : Record
  pub knows : In at known
  pub of_row : at.row ≡ receipt.row
  pub version : at.version ≡ receipt.version
  pub newest : IsNewest known at
  pub binds : at.content ≡ Some b

-- The record that the receipt names is known, and no known record of the row is newer: it is empty, and names the key and the value as those that it took out.
pub record KnowsTaken (key value : ℕ) (receipt : Receipt) (known : List Record) : Type 0 where
  pub at : Record
  pub knows : In at known
  pub of_row : at.row ≡ receipt.row
  pub version : at.version ≡ receipt.version
  pub newest : IsNewest known at
  pub empty : at.content ≡ None
  pub took : at.took ≡ Some (key, value)
