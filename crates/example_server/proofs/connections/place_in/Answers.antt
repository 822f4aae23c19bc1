use Rattle.std.proofs.Common.{rules}
use Rattle.std.proofs.lemmas.Iterator.{YieldsList-from_slice}
use Rattle.std.proofs.lemmas.Iterator.Search.{position_from_yields_List}
use borrow.Author.Tests.{tests}
use Rattle.example_server.specs.Held.{is_of}
use Rattle.example_server.proofs.connections.place_in.Goals as goal

pub returns : goal.returns
returns c = position_from_yields_List (is_of c.args.session) _ _ c.position.result c.position.ensures.ran (YieldsList-from_slice c.args.held.now cc) (λ x b q k. search (rules, tests))
