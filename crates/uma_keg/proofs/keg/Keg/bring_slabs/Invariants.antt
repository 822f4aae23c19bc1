use Rattle.std.proofs.Common.{◌≡◌, ◌-◌, ◌^◌, ℕ}
use Rattle.uma_life.specs.Sum.{AreBelow}
use Rattle.uma_slabs.specs.Places.{slab_count}
use Rattle.uma_keg.specs.Keg.{places_in, zones_in, rights_in, limit_in, fetches_in, buried_in, IsSameKeg}
use Rattle.uma_keg.proofs.BroughtSlabs.{Bringing}
use Rattle.uma_keg.proofs.keg.Keg.bring_slabs.Given as goal

abbrev pub decreases-loop-alloc : goal.decreases-loop-alloc
decreases-loop-alloc g l = (places_in l.self).cap - slab_count (places_in l.self)

abbrev pub invariant-loop-alloc : goal.invariant-loop-alloc
invariant-loop-alloc g l = record {
  bringing : Bringing l.initial.self l.domain l.self;
  below : AreBelow (2 ^ 120) (buried_in l.self);
  zones : zones_in l.self ≡ zones_in l.initial.self;
  rights : rights_in l.self ≡ rights_in l.initial.self;
  limits : (zone : ℕ) → limit_in l.self zone ≡ limit_in l.initial.self zone;
  fetches : (zone : ℕ) → fetches_in l.self zone ≡ fetches_in l.initial.self zone;
  same : IsSameKeg l.initial.self l.self;
}
