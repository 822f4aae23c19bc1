-- Own: what a free of an entry does to its seat.
use Rattle.std.specs.Prelude.{◌≡◌, ◌<◌, ◌==◌, not, true, false, ℕ, length, slice_set, Option, Some, None}
use Rattle.smr_clock.specs.declared.view.View.{View}
use Rattle.zone_stats.specs.LedgerSteps.{CountsFree}
use Rattle.uma_life.specs.Live.{live_domain}
use Rattle.uma_seat.specs.Freeing.{ShelvesFreed}
use Rattle.uma_seat.specs.Stack.{Stack, stack_at, with_item, is_filled_by_one}
use Rattle.uma_seat.specs.Seat.{seat_domain, freed_of, ledger_of, fetches_of, IsSameSeat, KeepsTop, KeepsPlain, KeepsRack, KeepsMisses}
use Rattle.name_rows.specs.declared.names.Part.{Part}
use Rattle.name_rows.specs.declared.names.Bound.{Bound}
use Rattle.name_rows.specs.declared.entry.EntryState.TheVariants.{Stamped}
use Rattle.name_rows.specs.Records.{owned_as, told}
use Rattle.name_cache.specs.Types.{EntrySeat, LiveEntry}
use Rattle.name_cache.specs.Parts.{kept_of}

-- the deferred items of the item's domain on the seat
abbrev pub deferred_beside : EntrySeat → LiveEntry → Stack LiveEntry
deferred_beside seat live = stack_at (freed_of seat) (live_domain live)

-- The item was freed, by a pass whose view was v before and v' after: it is the newest of the deferred items of its domain on the seat. Where it fills their bucket, that was tried to be sealed after it, and is the newest on the shelf. The free is counted. All else of the seat is as it was.
pub record Frees (v : View Part) (old : EntrySeat) (live : LiveEntry) (v' : View Part) (new : EntrySeat) : Type 0 where
  pub within : live_domain live < length (freed_of old)
  pub put : is_filled_by_one (deferred_beside old live) ≡ false → freed_of new ≡ slice_set (freed_of old) (live_domain live) (with_item (deferred_beside old live) live)
  pub rack : is_filled_by_one (deferred_beside old live) ≡ false → KeepsRack old new
  pub full : is_filled_by_one (deferred_beside old live) ≡ true → ShelvesFreed told v old (live_domain live) (with_item (deferred_beside old live) live) new v'
  pub free : CountsFree (ledger_of old) (ledger_of new) (not (live_domain live == seat_domain old))
  pub fetches : fetches_of new ≡ fetches_of old
  pub same : IsSameSeat old new
  pub top : KeepsTop old new
  pub plain : KeepsPlain old new
  pub misses : KeepsMisses old new

-- The entry with this number, key and value was freed so, with a stamp.
pub record FreesStamped (v : View Part) (old : EntrySeat) (b : Bound) (v' : View Part) (new : EntrySeat) : Type 0 where
  pub live : LiveEntry
  pub goal : ℕ
  pub entry : kept_of live ≡ Some (owned_as b (Stamped goal))
  pub frees : Frees v old live v' new

-- What a row bound was freed, with a stamp. Where it bound nothing, the seat is as it was.
abbrev pub FreesBound : View Part → EntrySeat → Option Bound → View Part → EntrySeat → Type 0
FreesBound v old None v' new = new ≡ old
FreesBound v old (Some b) v' new = FreesStamped v old b v' new
