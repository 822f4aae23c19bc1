use Rattle.std.proofs.Common.{rules}
use Rattle.uma_domain.proofs.Came.{none_listed, none_settled}
use Rattle.uma_domain.proofs.locked.Locked.settle_one.Goals as goal

pub returns-in_default : goal.returns-in_default
returns-in_default g c = record {
  one = search rules;
  none = λ _. none_settled c.args.self.now _ c.in_default.ensures.still (none_listed c.args.self.now.lists c.make_room.new.self c.make_room.ensures.kept);
  all = search rules;
  stays = tt;
  identity = search rules;
}
