use Rattle.std.proofs.Common.{rules, ap, subst, sym, ◌∙◌}
use Rattle.smr_clock.specs.declared.clock.Setup.{Setup}
use Rattle.smr_clock.specs.Belongs.{TableId, view}
use Rattle.smr_core.specs.declared.holder.Holder.{Holder}
use Rattle.name_rows.specs.Belongs.{FitsNames}
use Rattle.name_cache.specs.Cache.{row_count}
use Rattle.umarun.proofs.Knowing.{find_holder, find_keeps, finds_of, loads_of, same_seen, still_known}
use Rattle.umarun.proofs.cache_names.CacheNamesNameCalls.find.Goals as goal

pub find-requires : goal.find-requires
find-requires c =
    record {
      here = c.requires.by.pass;
      names = subst (λ (id : TableId × Setup). FitsNames id.1 id.0.words) (sym c.requires.by.clock) c.args._cache.now.cache.names;
      inside = search rules;
    }

pub returns-clause-passes : goal.returns-clause-passes
returns-clause-passes c =
    let v = view c.args.pass.now in
    let v' = view c.find.new.pass in
    let same = find_holder c.args.key v v' c.find.result c.find.ensures.finds in
    record {
      pass = record { own = c.find.ensures.here; phase = ap (λ (h : Holder). h.phase) same; seen = same_seen v v' same };
      still = still_known v v' (find_keeps c.args.key v v' c.find.result c.find.ensures.finds);
    }

pub returns-clause-finds : goal.returns-clause-finds
returns-clause-finds c =
    let plan = ap (λ (id : TableId × Setup). id.1.plan.0) (c.requires.by.pass ∙ c.requires.by.clock) in
    finds_of c.args.key (view c.args.pass.now) (view c.find.new.pass) c.find.result c.find.ensures.finds (row_count c.args._cache.now.cache) plan

pub returns-clause-loads : goal.returns-clause-loads
returns-clause-loads c = λ serves.
    let plan = ap (λ (id : TableId × Setup). id.1.plan.0) (c.requires.by.pass ∙ c.requires.by.clock) in
    loads_of c.args.key (view c.args.pass.now) (view c.find.new.pass) c.find.result c.find.ensures.finds (row_count c.args._cache.now.cache) plan
