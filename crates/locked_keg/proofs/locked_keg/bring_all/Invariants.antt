use Rattle.std.proofs.Common.{◌≡◌, ℕ}
use Rattle.uma_keg.specs.BringSlabs.{BringsSlabs}
use Rattle.uma_keg.specs.Keg.{zones_in, rights_in, limit_in, fetches_in, IsSameKeg}
use Rattle.locked_keg.proofs.locked_keg.bring_all.Given as goal

abbrev pub invariant-loop : goal.invariant-loop
invariant-loop g l = record {
  brings : BringsSlabs l.fn.keg l.domain l.counter l.keg;
  zones : zones_in l.keg ≡ zones_in l.fn.keg;
  rights : rights_in l.keg ≡ rights_in l.fn.keg;
  limits : (zone : ℕ) → limit_in l.keg zone ≡ limit_in l.fn.keg zone;
  fetches : (zone : ℕ) → fetches_in l.keg zone ≡ fetches_in l.fn.keg zone;
  same : IsSameKeg l.fn.keg l.keg;
}
