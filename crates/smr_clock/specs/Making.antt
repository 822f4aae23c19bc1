-- How a clock begins.
use Rattle.std.specs.Prelude.{◌≡◌, ℕ, ◌+◌, ◌<◌, ◌≤◌, List, [], ◌∷◌, ◌++◌, length, Some, Result, IfOk, IfErr, Vec}
use Rattle.std.specs.declared.alloc.Global.{Global}
use Rattle.std.specs.declared.alloc.AllocError.{AllocError}
use mathlib.Core.Option.{some}
use lib.ListN.{get_elem?}
use Rattle.atomic_table.specs.Seated.{TableId}
use Rattle.atomic_table.specs.declared.shared.Seat.{Seat}
use Rattle.smr_core.specs.declared.clock_core.CoreRefused.{CoreRefused}
use Rattle.smr_core.specs.ClockState.{IsInRange, opening_words, place_after_seats}
use Rattle.smr_core.specs.Making.{RefusesNumbers}
use Rattle.smr_clock.specs.declared.clock.Setup.{Setup}
use Rattle.smr_clock.specs.declared.view.View.{View}
use Rattle.smr_clock.specs.declared.host.Host.{Ghosts}
use Rattle.smr_clock.specs.declared.clock.Clock.{Clock}
use Rattle.smr_clock.specs.declared.host.HostSeat.{HostSeat}
use Rattle.smr_clock.specs.declared.pass.Pass.{Pass}
use Rattle.smr_clock.specs.Belongs.{IsPassOf, view, holder, setup_of, table_of}
use Rattle.smr_clock.specs.Notes.{IsSeatOf, seat_knows}
use Rattle.smr_clock.specs.Views.{first_view}
use Rattle.smr_clock.specs.Steps.{worker_view}
use Rattle.smr_clock.specs.HostLaws.{Rule}

abbrev pub setup : ℕ → ℕ → ℕ → ℕ × ℕ → Setup
setup seats start window plan = record { config = record { start = start; window = window; seats = seats }; plan = plan }

-- both sequences at the start, every seat's word 0, all seats present, and the host's words
abbrev pub first_words : Setup → List ℕ → List ℕ
first_words a more = opening_words a.config ++ more

-- the host's rule holds where the clock begins, with one view
abbrev pub Opens : {P : Type 0} → Rule P → Setup → P → List ℕ → Type 0
Opens holds a first more = IsInRange a.config → holds a (first_words a more) (first_view a first ∷ [])

-- the view of the first seat once it has made so many workers
abbrev pub maker_view : {P : Type 0} → Setup → P → ℕ → View P
maker_view a first count = record (first_view a first) { made = Some count }

-- the view with which the worker of a seat begins: outside, and it knows where both sequences began
abbrev pub fresh_view : {P : Type 0} → (P → P) → Setup → P → ℕ → View P
fresh_view copied a first seat = worker_view copied (maker_view a first seat)

-- the maker is the first seat of this table, with this setup as its key and room for the clock's words, and has made no worker
pub record MayMakePasses {P : Type 0} (id : TableId) (key a : Setup) (first : P) (maker : Seat (Unit {0}) (View P)) : Type 0 where
  pub table : (maker.table_id ≡ id) × (key ≡ a)
  pub words : place_after_seats a.config ≤ id.words
  pub seat : (maker.id ≡ 0) × (maker.me ≡ (maker_view a first 0, []))

module _ {H P : Type 0} {g : Ghosts H P} where
  -- one pass a seat, in order of number, each of this clock and fresh
  pub record AreWorkers (clock : Clock H P) (copied : P → P) (first : P) (passes : List (Pass H P g)) : Type 0 where
    pub one_each : length passes ≡ clock.setup.config.seats
    pub here : (seat : ℕ) (pass : Pass H P g) → get_elem? passes seat ≡ some pass → IsPassOf clock pass
    pub fresh : (seat : ℕ) (pass : Pass H P g) → get_elem? passes seat ≡ some pass → view pass ≡ fresh_view copied clock.setup first seat

  -- the passes are of the table with this identity, and are the fresh workers of the seats from 0 on, in order
  pub record AreSplitOff (table : TableId) (copied : P → P) (a : Setup) (first : P) (passes : List (Pass H P g)) : Type 0 where
    pub here : (seat : ℕ) (pass : Pass H P g) → get_elem? passes seat ≡ some pass → pass.seat.table_id ≡ table
    pub fresh : (seat : ℕ) (pass : Pass H P g) → get_elem? passes seat ≡ some pass → view pass ≡ fresh_view copied a first seat

  -- Among so many seats, each has one pass alone: each pass is the worker of a seat, no two of the same, and no seat is without.
  pub record OneForEachSeat (count : ℕ) (passes : List (Pass H P g)) : Type 0 where
    pub of_a_seat : (at : ℕ) (pass : Pass H P g) → get_elem? passes at ≡ some pass → (seat : ℕ) × ((holder pass).seat ≡ Some seat) × (seat < count)
    pub has_one : (seat : ℕ) → seat < count → (at : ℕ) × (pass : Pass H P g) × (get_elem? passes at ≡ some pass) × ((holder pass).seat ≡ Some seat)
    pub no_other : (at else seat : ℕ) (pass other : Pass H P g) → get_elem? passes at ≡ some pass → get_elem? passes else ≡ some other
        → (holder pass).seat ≡ Some seat → (holder other).seat ≡ Some seat → at ≡ else

  -- ---- what those who make a clock ask and answer

  -- one pass a seat was split off, and the maker has made them all
  pub record MakesPasses (id : TableId) (copied : P → P) (a : Setup) (first : P) (answer : Result (Vec (Pass H P g) Global) AllocError) (left : Seat (Unit {0}) (View P)) : Type 0 where
    pub one_each : IfOk answer (λ passes. length passes.items ≡ a.config.seats)
    pub workers : IfOk answer (λ passes. AreSplitOff id copied a first passes.items)
    pub each_seat : IfOk answer (λ passes. OneForEachSeat a.config.seats passes.items)
    pub maker : IfOk answer (λ passes. (left.table_id ≡ id) × (left.me ≡ (maker_view a first a.config.seats, [])))

  -- a clock with this setup, and its passes, or these numbers are refused so
  pub record MakesClock (copied : P → P) (a : Setup) (first : P) (answer : Result (Clock H P × Vec (Pass H P g) Global) CoreRefused) : Type 0 where
    pub in_range : IfOk answer (λ made. IsInRange a.config)
    pub clock : IfOk answer (λ made. setup_of made.0 ≡ a)
    pub workers : IfOk answer (λ made. AreWorkers made.0 copied first made.1.items)
    pub each_seat : IfOk answer (λ made. OneForEachSeat a.config.seats made.1.items)
    pub refused : IfErr answer (RefusesNumbers a.config)

  -- so is a clock with its host's words behind its own, and a seat for the host's own parts
  pub record HostsClock (copied : P → P) (a : Setup) (first : P) (more : List ℕ) (answer : Result (Clock H P × Vec (Pass H P g) Global × HostSeat H P g) CoreRefused) : Type 0 where
    pub in_range : IfOk answer (λ made. IsInRange a.config)
    pub clock : IfOk answer (λ made. setup_of made.0 ≡ a)
    pub words : IfOk answer (λ made. (table_of made.0).words ≡ place_after_seats a.config + length more)
    pub workers : IfOk answer (λ made. AreWorkers made.0 copied first made.1.items)
    pub each_seat : IfOk answer (λ made. OneForEachSeat a.config.seats made.1.items)
    pub seat_here : IfOk answer (λ made. IsSeatOf made.0 made.2)
    pub seat : IfOk answer (λ made. seat_knows made.2 ≡ maker_view a first a.config.seats)
    pub refused : IfErr answer (RefusesNumbers a.config)
