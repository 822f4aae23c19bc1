use Rattle.std.proofs.Common.{rules}
use Rattle.std.proofs.lemmas.Option.{IfSome_then}
use Rattle.smr_clock.specs.Belongs.{view}
use Rattle.name_cache.specs.Cache.{row_count}
use Rattle.name_cache.specs.Unbind.{FindsUnbound}
use Rattle.uma.proofs.Knows.{none_taken, taken_out, unbound}
use Rattle.uma.proofs.directory.DirectoryLocal.unbind.Goals as goal

pub returns-in-Ok : goal.returns-in-Ok
returns-in-Ok g c =
    let was = c.args.self.now in
    let rows = row_count was.directory.now.cache in
    let old = view was.pass in
    let new = view c.unbind.new.pass in
    record {
      directory = search rules;
      unbound = taken_out rows c.args.name old new was.seat c.unbind.new.seat c.in-Ok.found c.value_of.result c.value_of.ensures (IfSome_then c.in-Ok.found c.in-Ok.ensures.unbound (λ x unbound. unbound.unbinds)) (IfSome_then c.in-Ok.found c.in-Ok.ensures.unbound (λ x unbound. unbound.above));
      told = unbound rows c.args.name old new was.seat c.unbind.new.seat c.in-Ok.found c.value_of.result c.value_of.ensures (IfSome_then c.in-Ok.found c.in-Ok.ensures.unbound (λ x unbound. unbound.unbinds));
      none = none_taken (FindsUnbound rows c.args.name old was.seat new c.unbind.new.seat) c.in-Ok.found c.value_of.result c.value_of.ensures c.in-Ok.ensures.none;
      refused = search rules;
      still = search rules;
    }
