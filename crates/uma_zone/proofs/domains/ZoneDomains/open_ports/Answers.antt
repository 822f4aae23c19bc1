use Rattle.std.proofs.Common.{◌≡◌, ◌∷◌, ◌++◌, [], length, ap, arith}
use Rattle.std.proofs.lemmas.List.{length-append}
use Rattle.uma_zone.specs.Ports.{origins_of}
use Rattle.uma_zone.proofs.Opened.{origins_more, none_begun, none_more, origins_all}
use Rattle.uma_zone.proofs.domains.ZoneDomains.open_ports.Goals as goal

pub loop-domain-init : goal.loop-domain-init
loop-domain-init g c = record {
  count = ap length c.in_ok-ports.ensures.items;
  room = omega (arith, c.in_ok-ports.ensures.capacity, c.count-count.ensures.count);
  origins = ap origins_of c.in_ok-ports.ensures.items;
  none = none_begun c.in_ok-ports.ports.items c.in_ok-ports.ensures.items;
}

pub push_reserved-requires : goal.push_reserved-requires
push_reserved-requires g c = omega (arith, c.loop-domain.ports.ok.0, c.loop-domain.invariant.count, c.loop-domain.invariant.room, c.loop-domain-test.true, c.count-count.ensures.count)

pub loop-domain-preserved : goal.loop-domain-preserved
loop-domain-preserved g c =
    let before = c.loop-domain.invariant in
    let ports = c.loop-domain.ports.items in
    let now = c.push_reserved.new.self.items in
    let put = c.push_reserved.ensures in
    let long : length now ≡ length (ports ++ c.port.result ∷ []) = ap length put.items in
    record {
      count = omega (arith, long, length-append ports (c.port.result ∷ []), before.count);
      room = omega (arith, put.capacity, before.room);
      origins = origins_more c.args.self.now ports now c.loop-domain.domain c.port.result c.get.result.now put.items c.port.ensures.origin c.get.ensures.named before.origins;
      none = none_more ports now c.port.result put.items c.port.ensures.none before.none;
    }

pub returns : goal.returns
returns g c = record {
  ports = origins_all c.args.self.now c.loop-domain.ports.items c.loop-domain.domain (omega (arith, c.loop-domain-test.false, c.count-count.ensures.count)) c.loop-domain.invariant.origins;
  new = c.loop-domain.invariant.none;
}
