-- What a call did to a row under its lock, and that the record which it made is above the row's first version.
use Rattle.std.proofs.Common.{◌≡◌, ◌<◌, ◌≤◌, ◌+◌, ◌%◌, ℕ, [], ◌∷◌, Option, Some, None, IfNone, arith}
use Rattle.smr_clock.specs.declared.view.View.{View}
use Rattle.name_rows.specs.declared.names.Part.{Part}
use Rattle.name_rows.specs.declared.names.Record.{Record}
use Rattle.name_rows.specs.Rows.{row_last}
use Rattle.name_cache.specs.declared.locked_row.LockedRow.{LockedRow}
use Rattle.name_cache.specs.declared.parts.EntryParts.{EntryParts}
use Rattle.name_cache.specs.declared.binding.Rebound.{Rebound}
use Rattle.name_cache.specs.declared.binding.Rebound.TheVariants.{Done, Refused}
use Rattle.name_cache.specs.declared.binding.Receipt.{Receipt}
use Rattle.name_cache.specs.LockedRow.{row_identity, RebindsRow, UnbindsInRow, HasNotKey}
use Rattle.name_cache.specs.Rebound.{IsBoundAbove, HasFoundNone}
use Rattle.name_cache.proofs.RowFacts.{row_told}

-- the next version of a row is above its first
next_above : (row : LockedRow) (before : Record) (first version : ℕ) → (row_identity row).version ≡ first → row_last row.row ≡ before ∷ [] → version ≡ before.version + 1 → first < version
next_above row before first version is last next =
    let low : row.key.value.version ≤ row.row.version = row.since in
    let same : before.version ≡ row.row.version = row_told row before last in
    let named : row.key.value.version ≡ first = is in
    omega (arith, low, same, next, named)

pub rebound_above : (v v' : View Part) (was is : LockedRow) (parts : EntryParts) (key value : ℕ) (rebound : Rebound) (first : ℕ) → (row_identity was).version ≡ first → RebindsRow key value v was parts rebound is v' → IsBoundAbove first rebound
rebound_above v v' was is parts key value (Done receipt evicted) first same ends = next_above was ends.before first receipt.version same ends.was_last ends.next
rebound_above v v' was is parts key value (Refused entry refused) first same ends = tt

pub taken_above : (v v' : View Part) (was is : LockedRow) (out : EntryParts) (key value : ℕ) (receipt : Receipt) (first : ℕ) → (row_identity was).version ≡ first → UnbindsInRow key value v was receipt out is v' → first < receipt.version
taken_above v v' was is out key value receipt first same ends = next_above was ends.before first receipt.version same ends.was_last ends.next

pub found_none : {A : Type 0} (rows key : ℕ) (v v' : View Part) (was is : LockedRow) (found : Option A) → was.row.number ≡ key % rows → IfNone found (HasNotKey key v was is v') → IfNone found (HasFoundNone rows key v v')
found_none rows key v v' was is None numbered none = record { was = was; is = is; numbered = numbered; ends = none }
found_none rows key v v' was is (Some x) numbered none = tt
