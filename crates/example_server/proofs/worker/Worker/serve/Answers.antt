use Rattle.std.proofs.Common.{List, refl, sym, subst}
use Rattle.example_server.specs.declared.desk.Done.{Done}
use Rattle.example_server.specs.Accounts.{Balances}
use Rattle.example_server.proofs.Balanced.{balances}
use Rattle.example_server.proofs.Holding.{pushed}
use Rattle.example_server.proofs.Rounds.{one_more}
use Rattle.example_server.proofs.worker.Worker.serve.Goals as goal

pub invariant_of-self-2 : goal.invariant_of-self-2
invariant_of-self-2 g c =
    let was = c.args.self.now in
    let done : Done = record { request = c.args.request; answer = c.serve-answer.result } in
    let is = pushed was.log.items c.reserve.new.self.items c.push_reserved.new.self.items done c.reserve.ensures.items c.push_reserved.ensures.items in
    record { accounts = subst (λ (l : List Done). Balances c.serve-answer.new.self l) (sym is) (balances c.args.request c.serve-answer.result was.desk c.serve-answer.new.self was.log.items was.accounts c.serve-answer.ensures.stays.still c.serve-answer.ensures.ends) }

pub returns : goal.returns
returns g c =
    let was = c.args.self.now in
    let done : Done = record { request = c.args.request; answer = c.serve-answer.result } in
    one_more was _ done (pushed was.log.items c.reserve.new.self.items c.push_reserved.new.self.items done c.reserve.ensures.items c.push_reserved.ensures.items) refl c.serve-answer.ensures.stays c.serve-answer.ensures.ends
