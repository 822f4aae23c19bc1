use Rattle.uma_slabs.specs.Places.{IsOut}
use Rattle.test_zone.proofs.slabs.takes_the_rest_and_gives_back.Given as goal

abbrev pub invariant-loop : goal.invariant-loop
invariant-loop l = IsOut l.places l.held
