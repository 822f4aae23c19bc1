-- What a trace begins with (own).
use Rattle.std.specs.Prelude.{ℕ, List, []}
use Rattle.smr_clock.specs.declared.clock.Clock.{Clock}
use Rattle.smr_clock.specs.declared.host.Host.{Ghosts}
use Rattle.smr_clock.specs.declared.pass.Pass.{Pass}
use Rattle.trace_text.specs.declared.trace.Trace.{Trace}
use Rattle.trace_text.specs.Valid.{IsValid}
use Rattle.replay_worker.specs.Together.{AllStand, AddsUp}
use Rattle.replay_rounds.specs.declared.setting.Setting.{Setting}
use Rattle.replay_rounds.specs.Beginners.{AreBeginners}
use Rattle.replay_worker.specs.Clocks.{ArePasses, IsClockOf, KnowsBeginning}
use Rattle.replay_rounds.specs.Zones.{AreZones}

module _ {H P : Type 0} {h : Ghosts H P} where
  -- a valid trace, and a clock with the numbers of its clock line and a pass for each worker
  pub record CanSetUp (t : Trace) (by : Clock H P) (each : List (Pass H P h)) : Type 0 where
    pub valid : IsValid t
    pub clock : IsClockOf t.head by
    pub passes : ArePasses t.head.workers by each

  -- The clock, the zones and the workers of this trace before its first line.
  pub record IsSetUp (t : Trace) (s : Setting H P h) : Type 0 where
    -- a seat for each worker, and the sequences and the window of the clock line, or 1 and 1,024
    pub clock : IsClockOf t.head s.clock
    pub begun : KnowsBeginning s.clock s.begun
    pub zones : AreZones t.head s.clock s.zones.items
    -- each has its seats in its domain
    pub begin : AreBeginners s.zones.items s.clock t.head.domains t.head.workers s.workers.items
    pub stand : AllStand s.zones.items s.clock [] s.workers.items
    pub adds_up : (z : ℕ) → AddsUp z s.workers.items
