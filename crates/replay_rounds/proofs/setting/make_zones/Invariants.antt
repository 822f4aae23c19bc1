-- The zones so far are those of the first lines.
use Rattle.replay_rounds.specs.Zones.{AreZones}
use Rattle.replay_rounds.specs.ZonesSoFar.{cut}
use Rattle.replay_rounds.proofs.setting.make_zones.Given as goal

abbrev pub invariant-loop-place : goal.invariant-loop-place
invariant-loop-place g l = AreZones (cut l.place l.head) l.clock l.zones.items
