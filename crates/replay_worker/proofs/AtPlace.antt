-- What is known of the zone and the seat at a place, and of a worker whose seat there was written.
use Rattle.std.proofs.Common.{◌≡◌, ℕ, ◌<◌, List, Option, None, Some, inl, inr, ◌⊎◌, refl, sym, ap, ◌∙◌, subst, length, get_or}
use Rattle.std.proofs.lemmas.Option.{slice_get_read, slice_get_within, same_Some}
use Rattle.std.specs.Prelude.{All, slice_get, slice_set, option_map}
use Rattle.smr_clock.specs.declared.clock.Clock.{Clock}
use Rattle.smr_clock.specs.declared.host.Host.{Ghosts}
use Rattle.smr_clock.specs.declared.view.View.{View}
use Rattle.smr_clock.specs.Belongs.{IsPassOf, clock_id, view}
use Rattle.uma_bucket.specs.Home.{IsHome}
use Rattle.uma_life.specs.Live.{live_ticket}
use Rattle.uma_seat.specs.Seat.{ledger_of, seat_domain}
use Rattle.uma_zone.specs.declared.zone.alloc.AllocAsk.{AllocAsk}
use Rattle.uma_zone.specs.Zone.{zone_clock, zone_home, IsSeatOf}
use Rattle.zone_stats.specs.LedgerSteps.{HasRoom}
use Rattle.replay_worker.specs.declared.worker.Held.{Held}
use Rattle.replay_worker.specs.declared.worker.Worker.{Worker}
use Rattle.uma_zone.specs.Calling.{CanCall}
use Rattle.replay_worker.specs.Items.{CountedSeat, CountedZone, LiveItem}
use Rattle.replay_worker.specs.Live.{holding}
use Rattle.replay_worker.specs.Performs.{Allocs, BringsIn, EntersInTime, EntersLate, FreesSlot, KeepsHolds, KeepsSection, Reclaims}
use Rattle.replay_worker.specs.Requests.{BringsItems, Ends, IsGivenBack, Reaches, Requests}
use Rattle.replay_worker.specs.Slots.{slot_at, filled, emptied}
use Rattle.replay_worker.specs.Worker.{AreOfClock, FitsZones, HasSeats, IsHeld}
use Rattle.replay_worker.proofs.Belongs.{AreHeld, AreHeld-filled, AreHeld-emptied, HasSeats-set}
use Rattle.replay_worker.proofs.Numbers.{below_as}
use Rattle.replay_worker.proofs.SlotLemmas.{emptied_none}

-- the entry that an index reads
pub entry_at : {X : Type 0} (xs : List X) (i : ℕ) (x : X) → i < length xs → x ≡ get_or xs i x → slice_get xs i ≡ Some x
entry_at xs i x below is = slice_get_read xs (length xs) i x refl below is

module _ {H Part : Type 0} {h : Ghosts H Part} where
  pub seat_at : (zones : List (CountedZone H Part h)) (seats : List (CountedSeat H Part h)) (place : ℕ) (zone : CountedZone H Part h) (seat : CountedSeat H Part h) → HasSeats zones seats → place < length zones
      → zone ≡ get_or zones place zone → seat ≡ get_or seats place seat → IsSeatOf zone seat
  seat_at zones seats place zone seat has below is_zone is_seat =
      has.each place zone seat (entry_at zones place zone below is_zone) (entry_at seats place seat (below_as below has.count) is_seat)

  pub clock_at : (clock : Clock H Part) (zones : List (CountedZone H Part h)) (place : ℕ) (zone : CountedZone H Part h) → AreOfClock clock zones → place < length zones → zone ≡ get_or zones place zone → clock_id clock ≡ zone_clock zone
  clock_at clock zones place zone of below is =
      let P : CountedZone H Part h → Type 0 = λ x. clock_id clock ≡ zone_clock x in
      subst P (sym is) (of place zone below)

  pub room_at : (seats : List (CountedSeat H Part h)) (place : ℕ) (seat : CountedSeat H Part h) → All (λ (seat : CountedSeat H Part h). HasRoom (ledger_of seat)) seats → place < length seats → seat ≡ get_or seats place seat → HasRoom (ledger_of seat)
  room_at seats place seat rooms below is =
      let P : CountedSeat H Part h → Type 0 = λ x. HasRoom (ledger_of x) in
      subst P (sym is) (rooms place seat below)

  -- what the calls of a zone need of the worker's pass and its seat there
  pub can_call_at : (zones : List (CountedZone H Part h)) (clock : Clock H Part) (w : Worker H Part h) (place : ℕ) (zone : CountedZone H Part h) (seat : CountedSeat H Part h) → AreOfClock clock zones → FitsZones zones clock w → place < length zones
      → zone ≡ get_or zones place zone → seat ≡ get_or w.seats.items place seat → CanCall zone clock w.pass seat
  can_call_at zones clock w place zone seat of fits below is_zone is_seat = record {
    seat = seat_at zones w.seats.items place zone seat fits.seats below is_zone is_seat;
    clock = clock_at clock zones place zone of below is_zone;
    pass = fits.pass;
  }

  -- a worker after a request
  pub fits_alloc : (zones : List (CountedZone H Part h)) (clock : Clock H Part) (old new : Worker H Part h) (place slot : ℕ) (zone : CountedZone H Part h) (before after : CountedSeat H Part h) (ask : AllocAsk) (got : Option LiveItem)
      → FitsZones zones clock old → place < length zones → zone ≡ get_or zones place zone → before ≡ get_or old.seats.items place before
      → IsSeatOf zone after → IsPassOf clock new.pass → Ends zone ask before got after
      → new.seats.items ≡ slice_set old.seats.items place after → new.slots ≡ filled old.slots slot (option_map (holding place) got) → FitsZones zones clock new
  fits_alloc zones clock old new place slot zone before after ask got fits below is_zone is_seat is_seat_of pass ends seats slots =
      let at_zone = entry_at zones place zone below is_zone in
      let at_seat = entry_at old.seats.items place before (below_as below fits.seats.count) is_seat in
      let P : List (CountedSeat H Part h) → Type 0 = HasSeats zones in
      let Q : List (Option Held) → Type 0 = AreHeld zones in
      record {
        seats = subst P (sym seats) (HasSeats-set zones old.seats.items place zone before after fits.seats at_zone at_seat is_seat_of);
        pass = pass;
        slots = subst Q (sym slots) (AreHeld-filled zones old.slots place slot zone ask before after got at_zone ends fits.slots);
      }

  -- a worker after a free
  pub fits_free : (zones : List (CountedZone H Part h)) (clock : Clock H Part) (old new : Worker H Part h) (place slot : ℕ) (zone : CountedZone H Part h) (before after : CountedSeat H Part h)
      → FitsZones zones clock old → place < length zones → zone ≡ get_or zones place zone → before ≡ get_or old.seats.items place before
      → IsSeatOf zone after → IsPassOf clock new.pass
      → new.seats.items ≡ slice_set old.seats.items place after → new.slots ≡ emptied old.slots slot → FitsZones zones clock new
  fits_free zones clock old new place slot zone before after fits below is_zone is_seat is_seat_of pass seats slots =
      let at_zone = entry_at zones place zone below is_zone in
      let at_seat = entry_at old.seats.items place before (below_as below fits.seats.count) is_seat in
      let P : List (CountedSeat H Part h) → Type 0 = HasSeats zones in
      let Q : List (Option Held) → Type 0 = AreHeld zones in
      record {
        seats = subst P (sym seats) (HasSeats-set zones old.seats.items place zone before after fits.seats at_zone at_seat is_seat_of);
        pass = pass;
        slots = subst Q (sym slots) (AreHeld-emptied zones old.slots slot fits.slots);
      }

  -- a worker after a call of reclaim
  pub fits_reclaim : (zones : List (CountedZone H Part h)) (clock : Clock H Part) (old new : Worker H Part h) (place : ℕ) (zone : CountedZone H Part h) (before after : CountedSeat H Part h)
      → FitsZones zones clock old → place < length zones → zone ≡ get_or zones place zone → before ≡ get_or old.seats.items place before
      → IsSeatOf zone after → IsPassOf clock new.pass
      → new.seats.items ≡ slice_set old.seats.items place after → new.slots ≡ old.slots → FitsZones zones clock new
  fits_reclaim zones clock old new place zone before after fits below is_zone is_seat is_seat_of pass seats slots =
      let at_zone = entry_at zones place zone below is_zone in
      let at_seat = entry_at old.seats.items place before (below_as below fits.seats.count) is_seat in
      let P : List (CountedSeat H Part h) → Type 0 = HasSeats zones in
      let Q : List (Option Held) → Type 0 = AreHeld zones in
      record {
        seats = subst P (sym seats) (HasSeats-set zones old.seats.items place zone before after fits.seats at_zone at_seat is_seat_of);
        pass = pass;
        slots = subst Q (sym slots) fits.slots;
      }

  -- a worker whose seats and slots stay
  pub fits_kept : (zones : List (CountedZone H Part h)) (clock : Clock H Part) (old new : Worker H Part h) → FitsZones zones clock old → IsPassOf clock new.pass → KeepsHolds old new → FitsZones zones clock new
  fits_kept zones clock old new fits pass holds =
      let P : List (CountedSeat H Part h) → Type 0 = HasSeats zones in
      let Q : List (Option Held) → Type 0 = AreHeld zones in
      let seats : new.seats.items ≡ old.seats.items = ap (λ v. v.items) holds.seats in
      record {
        seats = subst P (sym seats) fits.seats;
        pass = pass;
        slots = subst Q (sym holds.slots) fits.slots;
      }

  pub enter_holds : (old new : Worker H Part h) → EntersInTime old new ⊎ EntersLate old new → KeepsHolds old new
  enter_holds old new (inl step) = step.holds
  enter_holds old new (inr step) = step.holds

  -- ---- what a slot holds

  pub held_below : (zones : List (CountedZone H Part h)) (it : Held) → IsHeld zones it → it.zone < length zones
  held_below zones it is_held = slice_get_within zones it.zone is_held.zone is_held.at

  pub home_at : (zones : List (CountedZone H Part h)) (it : Held) (zone : CountedZone H Part h) → IsHeld zones it → zone ≡ get_or zones it.zone zone → IsHome (zone_home zone) (live_ticket it.item)
  home_at zones it zone is_held is =
      let P : CountedZone H Part h → Type 0 = λ x. IsHome (zone_home x) (live_ticket it.item) in
      let at : slice_get zones it.zone ≡ Some zone = entry_at zones it.zone zone (held_below zones it is_held) is in
      subst P (same_Some is_held.zone zone (sym is_held.at ∙ at)) is_held.home

  -- ---- what the lines do

  pub allocs_at : (zones : List (CountedZone H Part h)) (clock : Clock H Part) (old new : Worker H Part h) (place slot : ℕ) (zone : CountedZone H Part h) (before after : CountedSeat H Part h) (ask : AllocAsk) (got : Option LiveItem)
      → FitsZones zones clock old → place < length zones → zone ≡ get_or zones place zone → before ≡ get_or old.seats.items place before
      → Requests zone ask before got after → Reaches zone (view old.pass) before after (view new.pass) → new.seats.items ≡ slice_set old.seats.items place after → new.slots ≡ filled old.slots slot (option_map (holding place) got)
      → KeepsSection old new → Allocs zones old place slot ask new
  allocs_at zones clock old new place slot zone before after ask got fits below is_zone is_seat requests reaches seats slots section = record {
    of = zone;
    is_zone = entry_at zones place zone below is_zone;
    before = before;
    at = entry_at old.seats.items place before (below_as below fits.seats.count) is_seat;
    after = after;
    got = got;
    requests = requests;
    reaches = reaches;
    seats = seats;
    slots = slots;
    section = section;
  }

  pub frees_at : (zones : List (CountedZone H Part h)) (clock : Clock H Part) (old new : Worker H Part h) (slot : ℕ) (it : Held) (zone : CountedZone H Part h) (before after : CountedSeat H Part h)
      → FitsZones zones clock old → slot_at old.slots slot ≡ Some it → zone ≡ get_or zones it.zone zone → before ≡ get_or old.seats.items it.zone before
      → IsGivenBack zone (view old.pass) before it.item after (view new.pass) → new.seats.items ≡ slice_set old.seats.items it.zone after → new.slots ≡ emptied old.slots slot
      → KeepsSection old new → FreesSlot zones old slot new
  frees_at zones clock old new slot it zone before after fits holds is_zone is_seat gives_back seats slots section =
      let below = held_below zones it (fits.slots slot it holds) in
      inl (
        it,
        record {
          holds = holds;
          of = zone;
          is_zone = entry_at zones it.zone zone below is_zone;
          before = before;
          at = entry_at old.seats.items it.zone before (below_as below fits.seats.count) is_seat;
          after = after;
          gives_back = gives_back.gives;
          freed = gives_back.freed;
          seats = seats;
          slots = slots;
          section = section;
        },
      )

  pub reclaims_at : (zones : List (CountedZone H Part h)) (clock : Clock H Part) (Leaves : CountedZone H Part h → View Part → CountedSeat H Part h → CountedSeat H Part h → Type 0) (old new : Worker H Part h) (place : ℕ) (zone : CountedZone H Part h) (before after : CountedSeat H Part h)
      → FitsZones zones clock old → place < length zones → zone ≡ get_or zones place zone → before ≡ get_or old.seats.items place before
      → Leaves zone (view old.pass) before after → new.seats.items ≡ slice_set old.seats.items place after → new.slots ≡ old.slots
      → KeepsSection old new → Reclaims zones Leaves old place new
  reclaims_at zones clock Leaves old new place zone before after fits below is_zone is_seat leaves seats slots section = record {
    of = zone;
    is_zone = entry_at zones place zone below is_zone;
    before = before;
    at = entry_at old.seats.items place before (below_as below fits.seats.count) is_seat;
    after = after;
    leaves = leaves;
    seats = seats;
    slots = slots;
    section = section;
  }

  pub brings_at : (zones : List (CountedZone H Part h)) (old : Worker H Part h) (place items : ℕ) (zone : CountedZone H Part h) (seat : CountedSeat H Part h) → HasSeats zones old.seats.items → place < length zones
      → zone ≡ get_or zones place zone → seat ≡ get_or old.seats.items place seat → BringsItems zone items (seat_domain seat) → BringsIn zones old place items old
  brings_at zones old place items zone seat has below is_zone is_seat brings = record {
    of = zone;
    is_zone = entry_at zones place zone below is_zone;
    seat = seat;
    at = entry_at old.seats.items place seat (below_as below has.count) is_seat;
    brings = brings;
    same = refl;
  }

  -- an empty slot is emptied
  pub fits_none : (zones : List (CountedZone H Part h)) (clock : Clock H Part) (old : Worker H Part h) (slot : ℕ) (slots : List (Option Held)) → FitsZones zones clock old → slots ≡ emptied old.slots slot → FitsZones zones clock (record old { slots = slots })
  fits_none zones clock old slot slots fits is = record {
    seats = fits.seats;
    pass = fits.pass;
    slots = let Q : List (Option Held) → Type 0 = AreHeld zones in subst Q (sym is) (AreHeld-emptied zones old.slots slot fits.slots);
  }

  pub frees_none : (zones : List (CountedZone H Part h)) (old : Worker H Part h) (slot : ℕ) (slots : List (Option Held)) → slot_at old.slots slot ≡ None → slots ≡ emptied old.slots slot
      → FreesSlot zones old slot (record old { slots = slots })
  frees_none zones old slot slots empty is = inr (empty, ap (λ (s : List (Option Held)). record old { slots = s }) (is ∙ emptied_none old.slots slot empty))
