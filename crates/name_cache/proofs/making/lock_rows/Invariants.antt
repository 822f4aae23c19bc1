-- There is a lock for each row so far, in order.
use Rattle.std.proofs.Common.{◌≡◌, length, map}
use Rattle.smr_clock.specs.Belongs.{clock_id}
use Rattle.uma_zone.specs.Zone.{zone_home}
use Rattle.name_cache.specs.Locks.{AreNamed, lock_version}
use Rattle.name_cache.specs.Making.{versions_of}
use Rattle.name_cache.proofs.making.lock_rows.Given as goal

abbrev pub invariant-loop-row : goal.invariant-loop-row
invariant-loop-row l =
    record {
      long : length l.locks.items ≡ length l.yielded;
      named : AreNamed (clock_id l.clock) (zone_home l.zone) l.locks.items;
      versions : map lock_version l.locks.items ≡ versions_of l.yielded;
    }
