use Rattle.std.proofs.Common.{arith, refl}
use Rattle.uma.specs.Local.{ledger_in, pool_of}
use Rattle.uma.specs.Pool.{IsItemOf}
use Rattle.example_server.specs.declared.connections.Held.{Held}
use Rattle.example_server.specs.Connections.{held_in}
use Rattle.example_server.specs.Held.{IsOpen}
use Rattle.example_server.proofs.Holding.{all_pushed, moved, one_more_out, pushed}
use Rattle.example_server.proofs.connections.Connections.open.Goals as goal

pub invariant_of-self-2 : goal.invariant_of-self-2
invariant_of-self-2 g c =
    let was = c.args.self.now in
    let all = c.push_reserved.new.self.items in
    let held : Held = record { session = c.args.session; peer = c.args.peer; item = c.in_ok-item.item } in
    let is = pushed (held_in was) c.reserve.new.self.items all held c.reserve.ensures.items c.push_reserved.ensures.items in
    let there = moved (λ pool (held : Held). IsItemOf pool held.item) (pool_of was.local) (pool_of c.alloc.new.self) (held_in was) (held_in was) c.alloc.ensures.pool refl was.home in
    record {
      home = all_pushed (λ (held : Held). IsItemOf (pool_of c.alloc.new.self) held.item) (held_in was) all held is there c.in_ok-item.ensures.home;
      opened = all_pushed IsOpen (held_in was) all held is was.opened c.in_ok-item.ensures.served.built.left;
      balanced = one_more_out (ledger_in was.local) (ledger_in c.alloc.new.self) (held_in was) all held c.in_ok-item.ensures.counted is was.balanced;
    }

pub returns-clause-opened : goal.returns-clause-opened
returns-clause-opened g c =
    let was = c.args.self.now in
    let held : Held = record { session = c.args.session; peer = c.args.peer; item = c.in_ok-item.item } in
    let is = pushed (held_in was) c.reserve.new.self.items c.push_reserved.new.self.items held c.reserve.ensures.items c.push_reserved.ensures.items in
    record { held = held; of_session = refl; to_peer = refl; numbered = omega (arith, c.from-number.ensures, c.no.ensures); all = is; counted = c.in_ok-item.ensures.counted }
