use Rattle.std.proofs.Common.{◌≡◌, ◌≤◌, ◌-◌}
use Rattle.uma_zone.specs.Frames.{KeepsButUsable}
use Rattle.uma_zone.specs.Zone.{IsSeatOf}
use Rattle.uma_reclaim.specs.Given.{GivesEach, counted}
use Rattle.uma_reclaim.specs.Cached.{cached_in}
use Rattle.uma_reclaim.proofs.reclaim.give_cached.Given as goal

abbrev pub invariant-loop-item : goal.invariant-loop-item
invariant-loop-item g l = record {
  seat : IsSeatOf l.zone l.seat;
  fewer : cached_in l.seat ≤ cached_in l.fn.seat;
  given : l.count ≡ counted (cached_in l.fn.seat - cached_in l.seat);
  gave : GivesEach l.zone (cached_in l.fn.seat - cached_in l.seat);
  kept : KeepsButUsable l.fn.seat l.seat;
}

abbrev pub decreases-loop-item : goal.decreases-loop-item
decreases-loop-item g l = cached_in l.seat
