use Rattle.std.proofs.Common.{◌≡◌, ◌≤◌, ◌<◌, ◌+◌, ℕ}
use Rattle.uma_slabs.specs.Places.{slab_count, free_count}
use Rattle.uma_slabs.specs.Dropping.{IsUsedUp}
use Rattle.uma_keg.specs.FreeSlabs.{FreesSlabs, wholly_free_count}
use Rattle.uma_keg.specs.Keg.{places_in, zones_in, rights_in, limit_in, fetches_in, reserve_in, IsSameKeg}
use Rattle.uma_keg.proofs.FreedSlabs.{Leaves}
use Rattle.uma_keg.proofs.keg.Keg.free_slabs.Given as goal

abbrev pub decreases-loop-self : goal.decreases-loop-self
decreases-loop-self g l = slab_count (places_in l.self)

abbrev pub invariant-loop-self : goal.invariant-loop-self
invariant-loop-self g l = record {
  freed : FreesSlabs l.initial.self l.count l.self;
  leaves : Leaves l.initial.self l.self;
  reserve : 0 < l.count → reserve_in l.initial.self ≤ free_count (places_in l.self);
  whole : wholly_free_count (places_in l.initial.self) ≡ wholly_free_count (places_in l.self) + l.count;
  not_used : 0 < l.count → IsUsedUp (places_in l.initial.self) → ⊥;
  few : l.count + slab_count (places_in l.self) ≤ 1024;
  zones : zones_in l.self ≡ zones_in l.initial.self;
  rights : rights_in l.self ≡ rights_in l.initial.self;
  limits : (zone : ℕ) → limit_in l.self zone ≡ limit_in l.initial.self zone;
  fetches : (zone : ℕ) → fetches_in l.self zone ≡ fetches_in l.initial.self zone;
  same : IsSameKeg l.initial.self l.self;
}
