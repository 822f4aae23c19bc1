-- What the rounds of a trace leave of its workers (own).
use Rattle.std.specs.Prelude.{◌+◌, ℕ, List, reverse}
use Rattle.smr_clock.specs.declared.clock.Clock.{Clock}
use Rattle.smr_clock.specs.declared.host.Host.{Ghosts}
use Rattle.trace_text.specs.declared.trace.Trace.{Trace}
use Rattle.trace_text.specs.Lines.{lines_of}
use Rattle.replay_worker.specs.declared.gate.Gate.{Ghosts as GateGhosts}
use Rattle.replay_worker.specs.declared.name_calls.NameCalls.{Ghosts as NameGhosts}
use Rattle.replay_worker.specs.declared.worker_run.WorkerRun.{WorkerRun}
use Rattle.replay_worker.specs.Items.{CountedZone}
use Rattle.replay_worker.specs.OwnLines.{lines_before}
use Rattle.replay_worker.specs.Together.{AddsUp, AllNamed, AllStand, crew}
use Rattle.replay_rounds.specs.Asks.{AllAsk, AllAskRound}
use Rattle.replay_rounds.specs.Betweens.{DoRoundAt, DoRounds}
use Rattle.replay_rounds.specs.Rounds.{AllAsked, AreAfter}

module _ {N H C S P : Type 0} {h : Ghosts H P} (names : NameGhosts N H C S P) (cache : C) {G V : Type 0} (gates : GateGhosts G V) (gate : G) where
  -- Round `k`, and the lines behind it.
  pub record IsRoundPlayed (t : Trace) (zones : List (CountedZone H P h)) (clock : Clock H P) (k : ℕ) (old new : List (WorkerRun N H C S P h)) : Type 0 where
    -- the workers stand for the lines up to its end
    pub after : AreAfter names cache zones clock (lines_before t.rounds (k + 1)) new
    -- each worker did its own list of it, and then the lines behind it were done
    pub round : DoRoundAt names cache zones t.rounds k old new
    pub asks : AllAskRound gates gate t.rounds k old new

  -- All rounds.
  pub record IsPlayed (t : Trace) (zones : List (CountedZone H P h)) (clock : Clock H P) (old new : List (WorkerRun N H C S P h)) : Type 0 where
    -- the workers stand for all lines, and so does what they have of the names
    pub stands : AllStand zones clock (reverse (lines_of t.rounds)) (crew new)
    pub named : AllNamed names cache (reverse (lines_of t.rounds)) new
    -- each item of a zone that was got and not freed is in a slot
    pub adds_up : (z : ℕ) → AddsUp z (crew new)
    -- the rounds were done one after another
    pub rounds : DoRounds names cache zones t.rounds old new
    -- what each counted of its gate, and what that heard of it
    pub asked : AllAsked (reverse (lines_of t.rounds)) new
    pub asks : AllAsk gates gate t.rounds old new
