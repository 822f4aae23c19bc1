-- What the end of a replay needs, and what it leaves (own).
use Rattle.std.specs.Prelude.{◌≡◌, ◌≤◌, ℕ, List, length, sum}
use Rattle.smr_clock.specs.declared.clock.Clock.{Clock}
use Rattle.smr_clock.specs.declared.host.Host.{Ghosts}
use Rattle.trace_text.specs.declared.trace.Trace.{Trace}
use Rattle.trace_text.specs.Lines.{lines_of}
use Rattle.trace_text.specs.Valid.{IsValid}
use Rattle.replay_worker.specs.declared.name_calls.NameCalls.{Ghosts as NameGhosts}
use Rattle.replay_worker.specs.declared.worker.Worker.{Worker}
use Rattle.replay_worker.specs.Items.{CountedZone}
use Rattle.replay_rounds.specs.Clock.{ReadsHands}
use Rattle.replay_rounds.specs.Closes.{AllClose}
use Rattle.uma_replay.specs.declared.hall.Hall.{Hall}
use Rattle.uma_replay.specs.declared.hall.Played.{Played}
use Rattle.uma_replay.specs.declared.report.Stock.{Stock}
use Rattle.uma_replay.specs.Hall.{AreDone, HallStands, NamesDone}
use Rattle.uma_replay.specs.Playing.{AllStay, HaveEnded}

module _ {H P : Type 0} {h : Ghosts H P} where
  -- the sequences were read, by which the workers stay done
  pub record HasLooked (t : Trace) (zones : List (CountedZone H P h)) (clock : Clock H P) (old new : List (Worker H P h)) (read write : ℕ) : Type 0 where
    pub done : AreDone t zones clock new
    pub stay : AllStay clock old new
    pub hands : ReadsHands clock new read write

  -- the sequences were read and the kegs counted, by which the workers stay done
  pub record TakesStock (t : Trace) (zones : List (CountedZone H P h)) (clock : Clock H P) (old new : List (Worker H P h)) (end : Stock) : Type 0 where
    pub done : AreDone t zones clock new
    pub stay : AllStay clock old new
    pub hands : ReadsHands clock new end.read end.write
    pub closes : AllClose t.head zones new end.totals.censuses.items end.totals.tallies.items end.totals.deferred.items

module _ {N H C S P : Type 0} {h : Ghosts H P} (names : NameGhosts N H C S P) where
  -- All lines of a valid trace of few lines are done, by what the hall has. So often each worker gave up waiting.
  pub record CanEnd (t : Trace) (hall : Hall N H C S P h) : Type 0 where
    pub valid : IsValid t
    pub few : length (lines_of t.rounds) ≤ 16777216
    pub done : AreDone t hall.zones hall.clock hall.workers
    pub named : NamesDone names t hall.names hall.zones hall.clock hall.workers hall.name_works
    pub ended : HaveEnded t hall.clock hall.workers hall.name_works hall.gave_ups

  -- The hall and the report of a replay by this clock, in which each worker gave up so often.
  pub record IsEndOf (t : Trace) (by : Clock H P) (counts : List ℕ) (played : Played N H C S P h) : Type 0 where
    pub hall : HallStands names t played.report played.hall
    pub clock : played.hall.clock ≡ by
    pub gave_up : played.report.gave_up ≡ sum counts
    pub gave_ups : played.hall.gave_ups ≡ counts
