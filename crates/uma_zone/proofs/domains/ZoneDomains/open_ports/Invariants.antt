use Rattle.std.proofs.Common.{◌≡◌, ◌≤◌, [], length, take, All}
use Rattle.std.specs.Vec.{vec_capacity}
use Rattle.uma_zone.specs.Ports.{inboxes_of, origins_of, pushed_by}
use Rattle.uma_zone.proofs.domains.ZoneDomains.open_ports.Given as goal

abbrev pub invariant-loop-domain : goal.invariant-loop-domain
invariant-loop-domain g l = record {
  count : length l.ports.items ≡ l.domain;
  room : length l.self.domains.items ≤ vec_capacity l.ports;
  origins : origins_of l.ports.items ≡ take l.domain (inboxes_of l.self);
  none : All (λ pushed. pushed ≡ []) (pushed_by l.ports.items);
}
