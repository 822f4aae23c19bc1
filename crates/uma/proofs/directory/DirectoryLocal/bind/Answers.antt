use Rattle.std.proofs.Common.{rules, refl}
use Rattle.smr_clock.specs.Belongs.{view}
use Rattle.name_cache.specs.Cache.{cache_zone, row_count}
use Rattle.uma.proofs.Knows.{bound_by_bind}
use Rattle.uma.proofs.directory.DirectoryLocal.bind.Goals as goal

pub returns-in-Ok : goal.returns-in-Ok
returns-in-Ok g c =
    let was = c.args.self.now in
    record {
      directory = search rules;
      bound = (c.in-Ok.field-0, c.in-Ok.ensures.bound.binds, c.in-Ok.ensures.bound.above);
      told = bound_by_bind (cache_zone was.directory.now.cache) (row_count was.directory.now.cache) c.args.name c.args.value c.args.value (view was.pass) was.seat c.in-Ok.field-0 (view c.bind.new.pass) c.bind.new.seat refl c.in-Ok.ensures.bound.binds;
      refused = search rules;
      still = search rules;
    }
