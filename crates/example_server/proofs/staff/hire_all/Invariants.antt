use Rattle.std.proofs.Common.{◌≡◌, All, length}
use Rattle.example_server.specs.Staff.{BeginsAt}
use Rattle.example_server.proofs.staff.hire_all.Given as goal

abbrev pub invariant-loop : goal.invariant-loop
invariant-loop g l = record {
  count : length l.workers.items ≡ l.counter;
  begin : All (BeginsAt l.shared) l.workers.items;
}
