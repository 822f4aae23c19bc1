use Rattle.std.proofs.Common.{refl}
use Rattle.uma.specs.Local.{pool_of}
use Rattle.uma.specs.Pool.{IsItemOf}
use Rattle.example_server.specs.declared.connections.Held.{Held}
use Rattle.example_server.specs.Connections.{held_in}
use Rattle.example_server.proofs.Holding.{moved}
use Rattle.example_server.proofs.connections.Connections.make_ready.Goals as goal

pub invariant_of-self-clause-home : goal.invariant_of-self-clause-home
invariant_of-self-clause-home g c =
    let was = c.args.self.now in
    moved (λ pool (held : Held). IsItemOf pool held.item) (pool_of was.local) (pool_of c.make_ready.new.self) (held_in was) (held_in was) c.make_ready.ensures.kept.pool refl was.home
