-- Own: how an unbind ends.
use Rattle.std.specs.Prelude.{◌≡◌, ◌+◌, ◌%◌, ℕ, Some, None}
use Rattle.smr_clock.specs.declared.view.View.{View}
use Rattle.uma_seat.specs.Seat.{ledger_of}
use Rattle.name_rows.specs.declared.names.Part.{Part}
use Rattle.name_rows.specs.declared.names.Bound.{Bound}
use Rattle.name_rows.specs.declared.names.Record.{Record}
use Rattle.name_rows.specs.Reading.{IsNewest, bound_to}
use Rattle.name_cache.specs.declared.binding.Receipt.{Receipt}
use Rattle.name_cache.specs.Types.{EntrySeat}
use Rattle.name_cache.specs.Known.{known_in, Meets, KnowsTaken}
use Rattle.name_cache.specs.LockedRow.{StaysAs}
use Rattle.name_cache.specs.Room.{MakesRoom}
use Rattle.name_cache.specs.Deferred.{FreesStamped}

-- The row bound the key to the value: the pass knows that record, and no record of the row that it knew is newer. The receipt names the next one, which is empty, and which the pass knows too. The entry is freed with a stamp, by the pass as it had left the row, on the seat once that has room; nothing else on the seat changes.
pub record Unbinds (rows key value : ℕ) (v : View Part) (old : EntrySeat) (receipt : Receipt) (v' : View Part) (new : EntrySeat) : Type 0 where
  pub row : receipt.row ≡ key % rows
  pub before : Record
  pub met : Meets v receipt.row before v'
  pub bound : Bound
  pub content : before.content ≡ Some bound
  pub key_bound : bound.key ≡ key
  pub value_bound : bound.value ≡ value
  pub next : receipt.version ≡ before.version + 1
  pub knows : KnowsTaken key value receipt (known_in v')
  pub room : EntrySeat
  pub made : MakesRoom old room
  pub left : View Part
  pub told : v'.host ≡ left.host
  pub frees : FreesStamped left room bound v' new

-- The row's record, which the pass knows, doesn't bind the key; no record of the row that it knew is newer, and none that it knows. The row is as it was. Nothing is freed or counted: the seat has room, and is else as it was.
pub record FindsUnbound (rows key : ℕ) (v : View Part) (old : EntrySeat) (v' : View Part) (new : EntrySeat) : Type 0 where
  pub last : Record
  pub met : Meets v (key % rows) last v'
  pub newest : IsNewest (known_in v') last
  pub unbound : bound_to key last.content ≡ None
  pub stays : StaysAs (key % rows) last
  pub ledger : ledger_of new ≡ ledger_of old
  pub made : MakesRoom old new
