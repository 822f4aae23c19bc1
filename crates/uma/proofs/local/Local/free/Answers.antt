use Rattle.std.proofs.Common.{rules}
use Rattle.uma.proofs.Freed.{frees}
use Rattle.uma.proofs.local.Local.free.Goals as goal

pub returns : goal.returns
returns g c = record {
  pool = search rules;
  freed = frees c.args.self.now c.make_ready.new.self c.put.new.self c.args.held _ c.make_ready.ensures.kept c.make_ready.ensures.usable c.put.ensures.put c.put.ensures.deferred c.put.ensures.unseen c.put.ensures.counted;
  back = search rules;
  kept = search rules;
  refused = search rules;
}
