-- Own: a fetch behind the lock for a seat: what it needs, what it comes to, what it leaves of the seat, and where its items are at home.
use Rattle.std.specs.Prelude.{◌≡◌, ◌≢◌, ◌≤◌, ◌<◌, ◌^◌, ◌+◌, ◌++◌, ◌∷◌, [], ℕ, Some, Result, Err, IfOk, IfErr, OnOk, OnErr}
use Rattle.zone_stats.specs.LedgerSteps.{HasRoom}
use Rattle.uma_life.specs.Hook.{Hook}
use Rattle.uma_bucket.specs.Home.{Home, AreHome}
use Rattle.uma_keg.specs.declared.keg.Keg.{Keg}
use Rattle.uma_keg.specs.declared.fetch.FetchAsk.{FetchAsk}
use Rattle.uma_keg.specs.declared.fetch.FetchRefused.{FetchRefused}
use Rattle.uma_keg.specs.declared.fetch.FetchRefused.TheVariants.{Memory}
use Rattle.uma_keg.specs.Fetched.{FetchesInto, RefusesFetch, NamesWhatItFound, GivesItems}
use Rattle.uma_keg.specs.Keg.{places_in, zones_in, out_in, table_in, rights_in, limit_in, fetches_in, buried_in, total_in, HasZone, IsWithinLimit, IsSameKeg}
use Rattle.uma_seat.specs.declared.seat.SeatCache.{SeatCache}
use Rattle.uma_seat.specs.Fetches.{CountsEnd}
use Rattle.uma_seat.specs.Seat.{top_of, top_tickets, ledger_of, fetches_of, seat_fails, IsSameSeat, KeepsPlain, KeepsFreed, KeepsRack, KeepsMisses, KeepsPorts}
use Rattle.locked_keg.specs.declared.locked_keg.KegKey.{KegKey}
use Rattle.locked_keg.specs.declared.locked_keg.LockedKeg.{LockedKeg}
use Rattle.locked_keg.specs.Ends.{end_of, fetch_cause}
use Rattle.locked_keg.specs.FailBooks.{table_at, causes_at}
use Rattle.locked_keg.specs.LockedKeg.{keg_in, fails_in}
use Rattle.locked_keg.specs.Rule.{Keeps, HasDomainsBelow}

-- all of a seat but its allocation bucket and its counts stays
pub record KeepsAllButTop {T H P : Type 0} {g h : _} (old new : SeatCache T H P g h) : Type 0 where
  pub same : IsSameSeat old new
  pub plain : KeepsPlain old new
  pub freed : KeepsFreed old new
  pub rack : KeepsRack old new
  pub misses : KeepsMisses old new
  pub ports : KeepsPorts old new

-- The items that the fetch brings are at home there: it is the keg's book, the zone that asks, and as many domains as the slabs that are in and the asker's own need.
pub record FetchesHome {T K : Type 0} {g : _} {h : _} (keg : Keg T K g h) (ask : FetchAsk) (home : Home) : Type 0 where
  pub book : table_in keg ≡ home.book
  pub zone : ask.zone ≡ home.zone
  pub own : ask.domain < home.domains
  pub slabs : HasDomainsBelow home.domains (places_in keg)

-- How the keg's zones stand after a fetch of one: its answer is listed there, and as many items more are outside in it as were given, within its limit. No other zone changes.
pub record CountsFetch {T K : Type 0} {g : _} {h : _} (old : Keg T K g h) (zone : ℕ) (answer : Result ℕ FetchRefused) (new : Keg T K g h) : Type 0 where
  pub fetches : fetches_in new zone ≡ fetches_in old zone ++ answer ∷ []
  pub other_fetches : (other : ℕ) → other ≢ zone → fetches_in new other ≡ fetches_in old other
  pub within : OnOk answer (IsWithinLimit new zone)
  pub out : IfOk answer (λ count. out_in new zone ≡ out_in old zone + count)
  pub zones : OnErr answer (zones_in new ≡ zones_in old)
  pub outs : (other : ℕ) → other ≢ zone → out_in new other ≡ out_in old other
  pub rights : rights_in new ≡ rights_in old
  pub limits : (other : ℕ) → limit_in new other ≡ limit_in old other
  pub buried : OnOk answer (buried_in new ≡ buried_in old)
  pub same : IsSameKeg old new

module _ {T K H P : Type 0} {g k h : _} where
  -- The zone is there, and the seat is one of it, with an empty allocation bucket of at least that size; its ledger has room.
  pub record MayFetch (locked : LockedKeg T K g k) (ask : FetchAsk) (seat : SeatCache T H P g h) : Type 0 where
    pub exists : HasZone (keg_in locked) ask.zone
    pub some : 1 ≤ ask.most
    pub empty : (top_of seat).items ≡ []
    pub size : ask.most ≤ (top_of seat).room
    pub mine : table_at (fails_in locked) ask.zone ≡ Some (seat_fails seat)
    pub room : HasRoom (ledger_of seat)

  -- 1. It is one fetch of the keg.
  -- 2. It is listed, in the zone's book and in the seat's share of it.
  -- 3. The seat has the items, and they are at home.
  -- 4. What the lock keeps it keeps still, where it counts the domain.
  pub record FetchesFor (old : LockedKeg T K g k) (hooks : K) (ask : FetchAsk) (was : SeatCache T H P g h) (answer : Result ℕ FetchRefused) (new : LockedKeg T K g k) (is : SeatCache T H P g h) : Type 0 where
    pub fetched : IfOk answer (λ count. FetchesInto (keg_in old) hooks ask count [] (top_of is).items (keg_in new))
    pub refused : IfErr answer (RefusesFetch (keg_in old) hooks ask (keg_in new))
    pub given : IfOk answer (λ count. GivesItems (keg_in old) ask count (top_of is).items)
    pub names : IfErr answer (NamesWhatItFound (keg_in old) hooks ask)
    pub sums_full : (((hook : Hook) → total_in (keg_in old) hook < 2 ^ 120) → ⊥) → answer ≡ Err Memory
    pub counted : CountsFetch (keg_in old) ask.zone answer (keg_in new)
    pub listed : causes_at (fails_in new) ask.zone ≡ causes_at (fails_in old) ask.zone ++ fetch_cause answer ∷ []
    pub others : (zone : ℕ) → zone ≢ ask.zone → causes_at (fails_in new) zone ≡ causes_at (fails_in old) zone
    pub tables : (zone : ℕ) → table_at (fails_in new) zone ≡ table_at (fails_in old) zone
    pub share : fetches_of is ≡ fetches_of was ++ fetch_cause answer ∷ []
    pub fails : seat_fails is ≡ seat_fails was
    pub ledger : CountsEnd (ledger_of was) (ledger_of is) (end_of answer)
    pub none : OnErr answer ((top_of is).items ≡ [])
    pub top_room : (top_of is).room ≡ (top_of was).room
    pub home : (home : Home) → FetchesHome (keg_in old) ask home → AreHome home (top_tickets is)
    pub rest : KeepsAllButTop was is
    pub domains : (bound : ℕ) → ask.domain < bound → HasDomainsBelow bound (places_in (keg_in old)) → HasDomainsBelow bound (places_in (keg_in new))
    pub keeps : (key : KegKey) → ask.domain < key.domains → Keeps key old → Keeps key new
