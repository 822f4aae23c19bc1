use Rattle.std.proofs.Common.{rules, refl, subst, sym}
use Rattle.uma.specs.Local.{pool_of}
use Rattle.uma.specs.Pool.{IsItemOf}
use Rattle.example_server.specs.declared.connections.Held.{Held}
use Rattle.example_server.specs.Connections.{held_in}
use Rattle.example_server.specs.Held.{IsOpen}
use Rattle.example_server.proofs.Holding.{all_left, moved}
use Rattle.example_server.proofs.connections.Connections.close.Goals as goal

pub put-requires : goal.put-requires
put-requires c = record {
  room = search rules;
  spare = search rules;
  home = subst (λ (held : Held). IsItemOf (pool_of c.args.self.now.local) held.item) (sym c.remove-item.ensures.value) (c.args.self.now.home c.args.place c.remove-item.result c.requires.place);
}

pub invariant_of-self-clause-home : goal.invariant_of-self-clause-home
invariant_of-self-clause-home c =
    let was = c.args.self.now in
    let left = all_left (λ (held : Held). IsItemOf (pool_of was.local) held.item) (held_in was) c.remove-item.new.self.items c.args.place c.remove-item.ensures.by_index.2 was.home in
    moved (λ pool (held : Held). IsItemOf pool held.item) (pool_of was.local) (pool_of c.put.new.self) c.remove-item.new.self.items c.remove-item.new.self.items c.put.ensures.pool refl left

pub invariant_of-self-clause-opened : goal.invariant_of-self-clause-opened
invariant_of-self-clause-opened c = all_left IsOpen (held_in c.args.self.now) c.remove-item.new.self.items c.args.place c.remove-item.ensures.by_index.2 c.args.self.now.opened

pub returns-clause-closed : goal.returns-clause-closed
returns-clause-closed c = record { left = c.remove-item.ensures.by_index.2; crossed = _; counted = c.put.ensures.counted }
