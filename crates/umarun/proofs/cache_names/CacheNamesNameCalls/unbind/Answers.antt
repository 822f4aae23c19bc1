use Rattle.std.proofs.lemmas.Option.{IfSome_then}
use Rattle.smr_clock.specs.Belongs.{view}
use Rattle.name_cache.specs.Cache.{row_count}
use Rattle.umarun.proofs.Counting.{unbind_counts}
use Rattle.umarun.proofs.Knowing.{still_known, unbind_ends}
use Rattle.umarun.proofs.Moving.{unbind_usable}
use Rattle.umarun.proofs.cache_names.CacheNamesNameCalls.unbind.Goals as goal

pub returns-in-Ok-clause-unbinds : goal.returns-in-Ok-clause-unbinds
returns-in-Ok-clause-unbinds g c =
    unbind_ends (row_count c.args.cache.now.cache) c.args.key (view c.args.pass.now) (view c.unbind.new.pass) c.args.seat.now c.unbind.new.seat c.in-Ok.found c.is_some.result c.is_some.ensures (IfSome_then c.in-Ok.found c.in-Ok.ensures.unbound (λ x unbound. unbound.unbinds)) c.in-Ok.ensures.none

pub returns-in-Ok-clause-counts : goal.returns-in-Ok-clause-counts
returns-in-Ok-clause-counts g c =
    unbind_counts (row_count c.args.cache.now.cache) c.args.key (view c.args.pass.now) (view c.unbind.new.pass) c.args.seat.now c.unbind.new.seat c.in-Ok.found c.is_some.result c.is_some.ensures (IfSome_then c.in-Ok.found c.in-Ok.ensures.unbound (λ x unbound. unbound.unbinds)) c.in-Ok.ensures.none

pub returns-in-Ok-clause-passes : goal.returns-in-Ok-clause-passes
returns-in-Ok-clause-passes g c = record {
  pass = c.unbind.ensures.kept.pass.goes_on;
  still = still_known (view c.args.pass.now) (view c.unbind.new.pass) c.unbind.ensures.kept.pass.still;
}

pub returns-in-Err-clause-passes : goal.returns-in-Err-clause-passes
returns-in-Err-clause-passes g c = record {
  pass = c.unbind.ensures.kept.pass.goes_on;
  still = still_known (view c.args.pass.now) (view c.unbind.new.pass) c.unbind.ensures.kept.pass.still;
}

pub returns-in-Ok-clause-usable : goal.returns-in-Ok-clause-usable
returns-in-Ok-clause-usable g c =
    unbind_usable (row_count c.args.cache.now.cache) c.args.key (view c.args.pass.now) (view c.unbind.new.pass) c.args.seat.now c.unbind.new.seat c.in-Ok.found (IfSome_then c.in-Ok.found c.in-Ok.ensures.unbound (λ x unbound. unbound.unbinds)) c.in-Ok.ensures.none
