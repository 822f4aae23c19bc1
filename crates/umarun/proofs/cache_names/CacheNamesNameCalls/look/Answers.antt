use Rattle.std.proofs.Common.{Option, ap, ◌∙◌, ℕ}
use Rattle.std.proofs.lemmas.Result.{IfOk-weaker}
use Rattle.smr_clock.specs.declared.clock.Setup.{Setup}
use Rattle.smr_clock.specs.Belongs.{TableId, view}
use Rattle.name_cache.specs.Cache.{row_count}
use Rattle.name_cache.specs.Look.{Looks}
use Rattle.replay_worker.specs.Knowing.{Finds, Loads}
use Rattle.umarun.specs.Known.{KnowsRecord, told_in}
use Rattle.umarun.proofs.Knowing.{look_loads, looks_of, look_ends, still_known}
use Rattle.umarun.proofs.cache_names.CacheNamesNameCalls.look.Goals as goal

pub returns-clause-passes : goal.returns-clause-passes
returns-clause-passes c =
    let v = view c.args.pass.now in
    let v' = view c.look.new.pass in
    record {
      pass = c.look.ensures.pass.goes_on;
      still = still_known v v' (look_ends c.args.key v v' c.look.result c.look.ensures.looked c.look.ensures.late);
    }

pub returns-clause-finds : goal.returns-clause-finds
returns-clause-finds c =
    let v = view c.args.pass.now in
    let v' = view c.look.new.pass in
    let rows = row_count c.args.cache.now.cache in
    let plan = ap (λ (id : TableId × Setup). id.1.plan.0) (c.requires.by.pass ∙ c.requires.by.clock) in
    IfOk-weaker c.look.result (λ (found : Option ℕ). Looks c.args.key v found v') (λ (found : Option ℕ). Finds KnowsRecord rows c.args.key v found v')
    (λ found l. looks_of c.args.key v v' found l rows plan) c.look.ensures.looked

pub returns-clause-loads : goal.returns-clause-loads
returns-clause-loads c = λ serves.
    let v = view c.args.pass.now in
    let v' = view c.look.new.pass in
    let rows = row_count c.args.cache.now.cache in
    let plan = ap (λ (id : TableId × Setup). id.1.plan.0) (c.requires.by.pass ∙ c.requires.by.clock) in
    IfOk-weaker c.look.result (λ (found : Option ℕ). Looks c.args.key v found v') (λ (found : Option ℕ). Loads KnowsRecord told_in rows c.args.key v found v')
    (λ found l. look_loads c.args.key v v' found l rows plan) c.look.ensures.looked
