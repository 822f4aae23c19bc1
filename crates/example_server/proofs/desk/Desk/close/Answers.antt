use Rattle.std.proofs.Common.{◌<◌, List, inl, inr, length, refl, subst, sym}
use Rattle.example_server.specs.declared.connections.Held.{Held}
use Rattle.example_server.specs.Connections.{held_in}
use Rattle.example_server.proofs.Holding.{closed_from, is_below}
use Rattle.example_server.proofs.desk.Desk.close.Goals as goal

pub close-requires-clause-place : goal.close-requires-clause-place
close-requires-clause-place g c =
    subst (λ (l : List Held). c.in-Some.place < length l) (sym c.make_ready.ensures.kept.held) (is_below c.args.session c.in-Some.place (held_in c.args.self.now.connections) (sym c.in-Some.ensures))

pub returns-in-Err-clause-ends : goal.returns-in-Err-clause-ends
returns-in-Err-clause-ends g c = (c.make_ready.ensures.kept, inl (c.in-Err.ensures.refused, refl))

pub returns-in-Err-unbind-clause-ends : goal.returns-in-Err-unbind-clause-ends
returns-in-Err-unbind-clause-ends g c = (c.make_ready.ensures.kept, inr c.in-Err-unbind.ensures.refused)

pub returns-clause-ends : goal.returns-clause-ends
returns-clause-ends g c =
    let closed = closed_from c.in-Some.place c.args.self.now.connections c.make_ready.new.self c.close.new.self c.make_ready.ensures.kept c.close.ensures.closed in
    ((c.in-Some.place, sym c.in-Some.ensures, closed), c.in-Ok.ensures.unbound, c.in-Ok.ensures.none)
