-- What a replay answers (own).
use Rattle.std.specs.Prelude.{◌≡◌}
use Rattle.smr_clock.specs.Belongs.{setup_of}
use Rattle.smr_clock.specs.declared.host.Host.{Ghosts}
use Rattle.trace_text.specs.declared.trace.Trace.{Trace}
use Rattle.replay_worker.specs.declared.gate.Gate.{Ghosts as GateGhosts}
use Rattle.replay_worker.specs.declared.name_calls.NameCalls.{Ghosts as NameGhosts}
use Rattle.uma_replay.specs.declared.hall.Played.{Played}
use Rattle.uma_replay.specs.Asked.{AreGivenUp}
use Rattle.uma_replay.specs.Hall.{HallStands}
use Rattle.uma_replay.specs.Headline.{Headline}
use Rattle.uma_replay.specs.Report.{StandsFor}

module _ {N H C S P : Type 0} {h : Ghosts H P} (names : NameGhosts N H C S P) where
  -- What a replay made: a report that stands for the trace, and its hall, of which the headline holds, by a clock whose host has as many words as these names plan. In the rounds each worker gave up waiting as the gate's visits say, and under a free gate none did.
  pub record HasReplayed {G V : Type 0} (gates : GateGhosts G V) (gate : G) (t : Trace) (played : Played N H C S P h) : Type 0 where
    pub stands : StandsFor t played.report
    pub hall : HallStands names t played.report played.hall
    pub headline : Headline names t played.report played.hall
    pub plan : (setup_of played.hall.clock).plan ≡ names.plans t.head
    pub free : gates.is_free gate → played.report.gave_up ≡ 0
    pub asks : AreGivenUp gates gate t.rounds played.hall.gave_ups
