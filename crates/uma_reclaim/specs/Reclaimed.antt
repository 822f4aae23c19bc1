-- Own: what contracts see of what a reclaim call gave back.
use Rattle.std.specs.Prelude.{◌≡◌, ◌≤◌, ◌<◌, ◌+◌, ◌⊎◌, ℕ, suc, Some, List, [], ◌∷◌, length, map, sum_by, fold, flat_map}
use Rattle.std.specs.List.{All}
use Rattle.std.specs.declared.snapshot.Snapshot.{Snapshot}
use Rattle.smr_clock.specs.declared.view.View.{View}
use Rattle.uma_bucket.specs.declared.shelved.Shelved.{Shelved}
use Rattle.uma_domain.specs.declared.domain.Domain.{Domain}
use Rattle.uma_domain.specs.declared.trims.Taken.{Taken}
use Rattle.uma_domain.specs.declared.trims.TakenBucket.{TakenBucket}
use Rattle.uma_domain.specs.Taken.{taken_in}
use Rattle.uma_domain.specs.UnderLock.{TakesUnused, TakesEach, KeepsLists}
use Rattle.uma_seat.specs.declared.seat.SeatCache.{SeatCache}
use Rattle.uma_seat.specs.Seat.{usable_of, shelf_of, HasNoCross, KeepsTop, KeepsPlain}
use Rattle.uma_zone.specs.declared.zone.Zone.{Zone}
use Rattle.uma_zone.specs.Flushed.{HasLastOf}
use Rattle.uma_zone.specs.KegStates.{FreesSlabsOf}
use Rattle.uma_zone.specs.OwnDomain.{SettlesFirst}
use Rattle.uma_zone.specs.Stopped.{StopsSettling}
use Rattle.uma_zone.specs.Zone.{lists_of, zone_cap, zone_domains, zone_domain}
use Rattle.uma_reclaim.specs.declared.reclaim.Extent.{Extent}
use Rattle.uma_reclaim.specs.declared.reclaim.Extent.TheVariants.{Unused, All as All'}
use Rattle.uma_reclaim.specs.declared.reclaim.Reclaimed.{Reclaimed}
use Rattle.uma_reclaim.specs.Cached.{cached_in}
use Rattle.uma_reclaim.specs.Given.{IsFromZone, AreGiven, GivesEach, items_in, counted}
use Rattle.uma_reclaim.specs.Told.{notes_in}

module _ {T H P : Type 0} {g h : _} where
  -- the buckets that one take brought
  abbrev pub taken_by : Snapshot (Taken T H P g h) → List (TakenBucket T H P g h)
  taken_by take = taken_in take.value

  -- those of each take, in order
  abbrev pub takes_of : Reclaimed T H P g h → List (List (TakenBucket T H P g h))
  takes_of done = map taken_by done.takes

  -- what a take of this extent does to a domain's lists, as those stood under its lock
  abbrev pub TakesExtent : Extent → Domain T H P g h → Taken T H P g h → Type 0
  TakesExtent Unused domain taken = TakesUnused domain taken
  TakesExtent All' domain taken = TakesEach domain taken

module _ {T K H P : Type 0} {g k h : _} where
  -- Each domain of the zone was settled, one after another, in the order of their numbers: its inbox into its lists, and in an SMR zone each loose bucket that they had then was tried once to be sealed.
  pub record AreSettled (zone : Zone T K H P g k h) (copied : P → P) : Type 0 where
    pub before : View P
    pub after : View P
    pub settles : SettlesFirst (lists_of zone) copied before (zone_domains zone) after

  -- As many takes as the zone has domains, each of buckets that a domain of the zone may have listed.
  pub record ComesFrom (zone : Zone T K H P g k h) (takes : List (List (TakenBucket T H P g h))) : Type 0 where
    pub each : length takes ≡ zone_domains zone
    pub of_zone : All (All (IsFromZone zone)) takes

  -- These buckets are what one take from the domain of this number brought: what wasn't in use since its last trim, or each candidate.
  pub record IsTakenAt (zone : Zone T K H P g k h) (extent : Extent) (number : ℕ) (buckets : List (TakenBucket T H P g h)) : Type 0 where
    pub domain : Domain T H P g h
    pub named : zone_domain zone number ≡ Some domain
    pub take : Taken T H P g h
    pub all : buckets ≡ taken_in take
    pub took : TakesExtent extent domain take

  -- each of these takes is from a domain of its own: the first from that of this number, and each further one from the next
  abbrev pub TakesInTurn : Zone T K H P g k h → Extent → ℕ → List (List (TakenBucket T H P g h)) → Type 0
  TakesInTurn zone extent number [] = Unit
  TakesInTurn zone extent number (buckets ∷ rest) = IsTakenAt zone extent number buckets × TakesInTurn zone extent (suc number) rest

  -- each domain of the zone was trimmed once, in the order of their numbers, and a new interval began there
  abbrev pub TrimsEach : Zone T K H P g k h → List (List (TakenBucket T H P g h)) → Type 0
  TrimsEach zone takes = TakesInTurn zone Unused 0 takes

  -- each domain of the zone was drained once, in the order of their numbers
  abbrev pub DrainsEach : Zone T K H P g k h → List (List (TakenBucket T H P g h)) → Type 0
  DrainsEach zone takes = TakesInTurn zone All' 0 takes

  -- one take from the domain of this number, of buckets that a domain of the zone may have listed
  pub record TakesAt (zone : Zone T K H P g k h) (extent : Extent) (number : ℕ) (taken : Taken T H P g h) : Type 0 where
    pub of_zone : All (IsFromZone zone) (taken_in taken)
    pub own : IsTakenAt zone extent number (taken_in taken)

  -- ---- what a call gave back

  -- The takes were one from each domain of the zone, in the order of their numbers. All that they brought came back to the zone's keg, and the host's part took in just its notes.
  pub record GivesTakes (zone : Zone T K H P g k h) (extent : Extent) (merged : P → P → P) (p p' : P) (done : Reclaimed T H P g h) : Type 0 where
    pub told : p' ≡ fold merged p (flat_map notes_in (takes_of done))
    pub from : ComesFrom zone (takes_of done)
    pub own : TakesInTurn zone extent 0 (takes_of done)
    pub given : AreGiven zone (takes_of done)

  -- so many items came back, those of the takes, and no slab was given up
  pub record GivesItemsOnly (zone : Zone T K H P g k h) (extent : Extent) (merged : P → P → P) (p p' : P) (done : Reclaimed T H P g h) : Type 0 where
    pub takes : GivesTakes zone extent merged p p' done
    pub items : done.items ≡ counted (sum_by items_in (takes_of done))
    pub slabs : done.slabs ≡ 0

  -- each domain was settled, and the seat has an empty shelf
  pub record HasSettled (zone : Zone T K H P g k h) (copied : P → P) (s : SeatCache T H P g h) : Type 0 where
    pub settled : AreSettled zone copied
    pub flushed : shelf_of s ≡ []

  -- the keg gave up so many slabs, no more than it has room for
  pub record GivesUpSlabs (zone : Zone T K H P g k h) (slabs : ℕ) : Type 0 where
    pub few : slabs ≤ zone_cap zone
    pub gave_up : FreesSlabsOf zone slabs

  -- Each domain was settled, and then trimmed once, in the order of their numbers, and a new interval began there. No slab was given up.
  pub record Trims (zone : Zone T K H P g k h) (merged : P → P → P) (copied : P → P) (p p' : P) (s : SeatCache T H P g h) (done : Reclaimed T H P g h) : Type 0 where
    pub first : HasSettled zone copied s
    pub gives : GivesItemsOnly zone Unused merged p p' done

  -- Each domain was settled, and then drained once, in the order of their numbers, and at last the keg gave up slabs.
  pub record Drains (zone : Zone T K H P g k h) (merged : P → P → P) (copied : P → P) (p p' : P) (s : SeatCache T H P g h) (done : Reclaimed T H P g h) : Type 0 where
    pub first : HasSettled zone copied s
    pub takes : GivesTakes zone All' merged p p' done
    pub items : done.items ≡ counted (sum_by items_in (takes_of done))
    pub slabs : GivesUpSlabs zone done.slabs

  -- So was each by a drain of the seat, whose usable and cross items came back too, and are counted besides.
  pub record DrainsSeat (zone : Zone T K H P g k h) (merged : P → P → P) (copied : P → P) (p p' : P) (old new : SeatCache T H P g h) (done : Reclaimed T H P g h) : Type 0 where
    pub first : HasSettled zone copied new
    pub takes : GivesTakes zone All' merged p p' done
    pub given_own : GivesEach zone (cached_in old)
    pub no_usable : usable_of new ≡ []
    pub no_cross : HasNoCross new
    pub items : done.items ≡ counted (sum_by items_in (takes_of done) + cached_in old)
    pub slabs : GivesUpSlabs zone done.slabs

  -- ---- where memory was wanting

  -- the domain of this number lists what it did
  pub record KeepsListsAt (zone : Zone T K H P g k h) (number : ℕ) : Type 0 where
    pub domain : Domain T H P g h
    pub named : zone_domain zone number ≡ Some domain
    pub keeps : KeepsLists domain

  -- Memory was wanting for the take from a domain. Each domain before it gave up what it had to, in the order of their numbers, and all of that came back to the zone's keg; the host's part took in just the notes of that. The domain itself lists what it did.
  pub record StopsTaking (zone : Zone T K H P g k h) (extent : Extent) (merged : P → P → P) (p p' : P) : Type 0 where
    pub takes : List (List (TakenBucket T H P g h))
    pub few : length takes < zone_domains zone
    pub own : TakesInTurn zone extent 0 takes
    pub given : AreGiven zone takes
    pub told : p' ≡ fold merged p (flat_map notes_in takes)
    pub keeps : KeepsListsAt zone (length takes)

  -- memory was wanting for the settle of a domain: those before it are settled, and that one in part
  pub record AreSettledInPart (zone : Zone T K H P g k h) (copied : P → P) : Type 0 where
    pub before : View P
    pub after : View P
    pub stops : StopsSettling (lists_of zone) copied before after

  -- Memory was wanting for the flush of a seat, which has this shelf still, or for the settle behind it.
  pub record StopsBefore (zone : Zone T K H P g k h) (copied : P → P) (shelf : List (Shelved T H P g h)) : Type 0 where
    pub how : (0 < length shelf) ⊎ AreSettledInPart zone copied

  -- Memory was wanting for the flush of a seat, which has this shelf still, or for a settle, and then nothing was taken; or each domain was settled, and memory was wanting for the take from one of them.
  pub record Stops (zone : Zone T K H P g k h) (extent : Extent) (merged : P → P → P) (copied : P → P) (shelf : List (Shelved T H P g h)) (p p' : P) : Type 0 where
    pub how : (StopsBefore zone copied shelf × (p' ≡ p)) ⊎ (AreSettled zone copied × StopsTaking zone extent merged p p')

  -- the flush, or the settle behind it, stopped; of the seat's shelf the last buckets are there still
  pub record StopsFlush (zone : Zone T K H P g k h) (copied : P → P) (old new : SeatCache T H P g h) : Type 0 where
    pub stay : HasLastOf (shelf_of old) (shelf_of new)
    pub stopped : StopsBefore zone copied (shelf_of new)

  -- so did a call of this extent, or a take
  pub record StopsShort (zone : Zone T K H P g k h) (extent : Extent) (merged : P → P → P) (copied : P → P) (p p' : P) (old new : SeatCache T H P g h) : Type 0 where
    pub stay : HasLastOf (shelf_of old) (shelf_of new)
    pub stopped : Stops zone extent merged copied (shelf_of new) p p'

  -- a trim ended so, or a drain
  abbrev pub TrimStops : Zone T K H P g k h → (P → P → P) → (P → P) → P → P → SeatCache T H P g h → SeatCache T H P g h → Type 0
  TrimStops zone merged copied p p' old new = StopsShort zone Unused merged copied p p' old new

  abbrev pub DrainStops : Zone T K H P g k h → (P → P → P) → (P → P) → P → P → SeatCache T H P g h → SeatCache T H P g h → Type 0
  DrainStops zone merged copied p p' old new = StopsShort zone All' merged copied p p' old new

  -- a drain of a seat ended so, and the seat has all its usable and cross items still
  pub record SeatDrainStops (zone : Zone T K H P g k h) (merged : P → P → P) (copied : P → P) (p p' : P) (old new : SeatCache T H P g h) : Type 0 where
    pub stops : DrainStops zone merged copied p p' old new
    pub top : KeepsTop old new
    pub plain : KeepsPlain old new
