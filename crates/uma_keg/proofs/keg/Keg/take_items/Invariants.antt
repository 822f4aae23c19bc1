use Rattle.std.proofs.Common.{◌≡◌, ℕ}
use Rattle.uma_bucket.specs.Bucket.{items_of, size_of}
use Rattle.uma_keg.specs.Keg.{rights_in, limit_in, fetches_in, buried_in, IsSameKeg}
use Rattle.uma_keg.specs.TakeItems.{TakesInto}
use Rattle.uma_keg.proofs.TakenItems.{AreKnown}
use Rattle.uma_keg.proofs.keg.Keg.take_items.Given as goal

abbrev pub invariant-loop-taken : goal.invariant-loop-taken
invariant-loop-taken g l = record {
  takes : TakesInto l.initial.self l.hooks l.zone l.taken (items_of l.initial.into) (items_of l.into) l.self;
  known : AreKnown l.initial.self l.self;
  size : size_of l.into ≡ size_of l.initial.into;
  rights : rights_in l.self ≡ rights_in l.initial.self;
  limits : (zone : ℕ) → limit_in l.self zone ≡ limit_in l.initial.self zone;
  fetches : (zone : ℕ) → fetches_in l.self zone ≡ fetches_in l.initial.self zone;
  buried : buried_in l.self ≡ buried_in l.initial.self;
  same : IsSameKeg l.initial.self l.self;
}
