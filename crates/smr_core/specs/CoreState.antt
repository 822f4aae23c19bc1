-- The state of the core: the clock's numbers and words, and its holders with what their polls are after.
use Rattle.std.specs.Prelude.{◌≡◌, ℕ, zero, suc, ◌<◌, ◌≤◌, List, [], ◌∷◌, ◌++◌, length, map, ◌⊎◌, Option, Some, None, if◌then◌else◌, nat_lt}
use mathlib.Core.Option.{some}
use lib.ListN.{get_elem?}
use Rattle.smr_seq.specs.Reading.{IsReading}
use Rattle.smr_core.specs.declared.clock_core.ClockConfig.{ClockConfig}
use Rattle.smr_core.specs.declared.steps.Actor.{Actor}
use Rattle.smr_core.specs.declared.holder.Holder.{Holder}
use Rattle.smr_core.specs.declared.holder.Phase.TheVariants as phase
use Rattle.smr_core.specs.declared.holder.Task.TheVariants as task
use Rattle.smr_core.specs.ClockState.{IsInRange, place_after_seats, opening_words}
use Rattle.smr_core.specs.ClockLaw.{ClockLaw}

pub record State : Type 0 where
  pub config : ClockConfig
  pub words : List ℕ
  -- the workers or vacancies of the seats, in order, and then the notes
  pub actors : List Actor

-- the actor of this number
abbrev pub IsActor : State → ℕ → Actor → Type 0
IsActor s n actor = get_elem? s.actors n ≡ some actor

abbrev pub holder_of : Actor → Holder
holder_of actor = actor.holder

abbrev pub holders_of : List Actor → List Holder
holders_of actors = map holder_of actors

-- at most so many holders
abbrev pub most_holders : ℕ
most_holders = 65536

-- ---- how it begins

-- the worker of the seat s before any step. It knows where both sequences begin.
abbrev pub first_worker : ClockConfig → ℕ → Actor
first_worker a s =
    record {
      holder = record {
        seat = Some s;
        phase = phase.Outside;
        loaded = 0;
        mark = 0;
        task = task.Idle;
        read = 0;
        write = 0;
        present = 0;
        scanned = 0;
        least = 0;
        seen = a.start;
        floor = a.start;
        advances = 0;
      };
      tag = 0;
      reading = 0;
    }

-- the workers of the first n seats
abbrev pub first_workers : ClockConfig → ℕ → List Actor
first_workers a zero = []
first_workers a (suc n) = first_workers a n ++ first_worker a n ∷ []

-- both sequences at the start, every seat's word 0, a worker for each seat, and no note
abbrev pub opening : ClockConfig → State
opening a = record { config = a; words = opening_words a; actors = first_workers a a.seats }

-- ---- its law

-- what a poll is after: the reading of its tag near the write sequence that it loaded is above the read sequence that it loaded
abbrev pub AimFits : Actor → Type 0
AimFits actor = (actor.holder.task ≡ task.PollLoaded) ⊎ (actor.holder.task ≡ task.Scanning) → IsReading actor.tag actor.holder.write actor.reading × (actor.holder.read < actor.reading)

-- the worker or vacancy of a seat has the seat's number, and no other holder has a seat
abbrev pub seat_at : ClockConfig → ℕ → Option ℕ
seat_at a n = if nat_lt n a.seats then Some n else None

-- the clock's law, and what the core alone has
pub record CoreLaw (s : State) : Type 0 where
  pub clock : ClockLaw s.config s.words (holders_of s.actors)
  pub words : length s.words ≡ place_after_seats s.config
  pub workers : s.config.seats ≤ length s.actors
  pub few : length s.actors ≤ most_holders
  pub seats : (n : ℕ) (actor : Actor) → IsActor s n actor → actor.holder.seat ≡ seat_at s.config n
  pub aims : (n : ℕ) (actor : Actor) → IsActor s n actor → AimFits actor

-- a core opens with these numbers, which are in range
pub record Opens (a : ClockConfig) (s : State) : Type 0 where
  pub in_range : IsInRange a
  pub opened : s ≡ opening a
  pub law : CoreLaw s
