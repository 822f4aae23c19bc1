-- What contracts see of rows.
use Rattle.std.specs.Prelude.{◌≡◌, ℕ, ◌%◌, ◌<◌, ◌^◌, List, Option, Some, None}
use Rattle.smr_clock.specs.declared.clock.Clock.{Clock}
use Rattle.smr_clock.specs.Notes.{IsSeatOf, seat_knows}
use Rattle.name_rows.specs.declared.names.Record.{Record}
use Rattle.name_rows.specs.declared.entry.EntryState.TheVariants.{Unlinked}
use Rattle.name_rows.specs.declared.root.Guest.{Guest}
use Rattle.name_rows.specs.declared.names.Names.{Names}
use Rattle.name_rows.specs.declared.names.Part.{Part}
use Rattle.name_rows.specs.declared.entry.Entry.{Entry}
use Rattle.name_rows.specs.declared.row.Row.{Row}
use Rattle.name_rows.specs.Entries.{entry_state, guest_of}
use Rattle.name_rows.specs.Linking.{last_told}

abbrev pub IsRowOf : Clock Names Part → Row → Type 0
IsRowOf clock row = IsSeatOf clock row.seat

-- the row's last record, alone
abbrev pub row_last : Row → List Record
row_last row = last_told (seat_knows row.seat).host.rows

-- this is the version of its last record
pub record IsVersionOf (row : Row) (last : ℕ) : Type 0 where
  pub version : last ≡ row.version
  pub low : last < 2 ^ 44

abbrev pub key_in : Option Guest → Option ℕ
key_in None = None
key_in (Some g) = Some g.key

abbrev pub value_in : Option Guest → Option ℕ
value_in None = None
value_in (Some g) = Some g.value

abbrev pub pair_in : Option Guest → Option (ℕ × ℕ)
pair_in None = None
pair_in (Some g) = Some (g.key, g.value)

-- the key is of this row of so many
abbrev pub IsKeyOf : ℕ → ℕ → Option Guest → Type 0
IsKeyOf rows row None = ⊥
IsKeyOf rows row (Some g) = g.key % rows ≡ row

-- The entry that the row named is back, as it was, and is unlinked. There is none exactly where the row was empty.
abbrev pub IsEvicted : Option Guest → Option Entry → Type 0
IsEvicted None None = Unit {0}
IsEvicted None (Some e) = ⊥
IsEvicted (Some g) None = ⊥
IsEvicted (Some g) (Some e) = (guest_of e ≡ Some g) × (entry_state e ≡ Some Unlinked)
