use Rattle.std.proofs.Common.{◌≡◌, ◌+◌, ℕ, All, length}
use Rattle.uma_life.specs.Cached.{cached_table}
use Rattle.uma_bucket.specs.Bucket.{items_of}
use Rattle.uma_keg.specs.Keg.{table_in, rights_in, limit_in, fetches_in, buried_in, IsSameKeg}
use Rattle.locked_keg.proofs.Given.{GivesLast}
use Rattle.locked_keg.proofs.locked_keg.give_each.Given as goal

abbrev pub invariant-loop : goal.invariant-loop
invariant-loop g l = record {
  counted : l.counter + length (items_of l.bucket) ≡ length (items_of l.fn.bucket);
  gives : GivesLast l.fn.keg l.hooks (items_of l.fn.bucket) (items_of l.bucket) l.keg;
  of_keg : All (λ item. cached_table item ≡ table_in l.fn.keg) (items_of l.bucket);
  rights : rights_in l.keg ≡ rights_in l.fn.keg;
  limits : (zone : ℕ) → limit_in l.keg zone ≡ limit_in l.fn.keg zone;
  fetches : (zone : ℕ) → fetches_in l.keg zone ≡ fetches_in l.fn.keg zone;
  buried : buried_in l.keg ≡ buried_in l.fn.keg;
  same : IsSameKeg l.fn.keg l.keg;
}
