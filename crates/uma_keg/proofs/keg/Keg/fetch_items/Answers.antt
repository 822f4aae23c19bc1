use Rattle.std.proofs.Common.{rules, ◌+◌, ℕ, refl, ap, subst, arith, ◌∙◌}
use Rattle.std.proofs.lemmas.Result.{err_from_is_err_and}
use Rattle.uma_bucket.specs.Bucket.{items_of}
use Rattle.uma_keg.specs.Outs.{out_of}
use Rattle.uma_keg.specs.Fetch.{Refuses}
use Rattle.uma_keg.specs.TakeItems.{StopsAtItem}
use Rattle.uma_keg.proofs.FreedSlabs.{same_more}
use Rattle.uma_keg.proofs.FetchedItems.{is_ready, still_below, within_taken, proceeds, refused_by_keg, refused_at_slab, refused_first, pushed_none, zones_none, fetches_all, fetches_some, out_stopped, outs_stopped}
use Rattle.uma_keg.proofs.keg.Keg.fetch_items.Goals as goal

pub returns-in_err-bring_slabs-clause-none : goal.returns-in_err-bring_slabs-clause-none
returns-in_err-bring_slabs-clause-none g c =
    let p = err_from_is_err_and c.from_residual-in_err-bring_slabs.result c.from_residual-in_err-bring_slabs.ensures.1 in
    rw (p.1, p.2) (record {
      refused = refused_at_slab c.args.self.now c.bring_slabs.new.self c.args.hooks.now c.args.ask c.in_err-bring_slabs.field-0.0 c.in_ok-check_limit.ensures.clear c.in_err-bring_slabs.ensures.refused;
      none = refl;
      zones = c.in_err-bring_slabs.ensures.kept.zones;
    })

pub returns-in_err-count-clause-none : goal.returns-in_err-count-clause-none
returns-in_err-count-clause-none g c =
    let mid = c.bring_slabs.new.self in
    let brought = c.in_ok-bring_slabs.ensures in
    let kept = brought.kept in
    let refusal = c.in_err-count.field-0.0 in
    let p = err_from_is_err_and c.from_residual-in_err-count.result c.from_residual-in_err-count.ensures.1 in
    rw (p.1, p.2) (record {
      refused = refused_by_keg c.args.self.now mid c.args.hooks.now c.args.ask refusal c.in_err-count.ensures.which (proceeds c.args.self.now mid c.args.ask brought.brings.0 (Refuses refusal) c.in_ok-check_limit.ensures.clear brought.brings.1 (brought.brings.2 c.args.ask.zone) kept.same kept.zones (kept.limits c.args.ask.zone) c.in_err-count.ensures.refuses);
      none = refl;
      zones = kept.zones;
    })

-- once the slabs are in, the zone is below its limit as before
pub count_given-requires : goal.count_given-requires
count_given-requires g c =
    let kept = c.in_ok-bring_slabs.ensures.kept in
    record {
      in_range = c.requires.in_range;
      below = λ limited. still_below c.args.self.now c.bring_slabs.new.self c.args.ask.zone kept.zones (kept.limits c.args.ask.zone) c.in_ok-check_limit.ensures.below limited;
    }

pub returns-in-Ok-clause-given : goal.returns-in-Ok-clause-given
returns-in-Ok-clause-given g c =
    let mid = c.bring_slabs.new.self in
    let brought = c.in_ok-bring_slabs.ensures in
    let kept = brought.kept in
    let clear = c.in_ok-check_limit.ensures in
    let ready = is_ready c.args.self.now mid c.args.ask c.in_ok-count.count clear.clear clear.below brought.brings kept.zones kept.limits kept.same c.in_ok-count.ensures.gives c.requires.asks.some in
    let takes = c.in-Ok.ensures.takes in
    record {
      fetched = fetches_all c.args.self.now mid c.take_items.new.self c.args.hooks.now c.args.ask c.in_ok-count.count _ _ ready.on ready.given.some takes;
      within = within_taken mid c.take_items.new.self c.args.ask.zone c.in_ok-count.count c.in_ok-count.count (omega (arith, takes.takes.out, takes.counted)) (omega arith) (c.in-Ok.ensures.kept.keg.limits c.args.ask.zone) ready.given.allowed;
      out = search rules;
      buried = c.in-Ok.ensures.kept.keg.buried ∙ brought.brings.1.buried;
    }

pub returns-in-Ok-clause-kept : goal.returns-in-Ok-clause-kept
returns-in-Ok-clause-kept g c =
    let kept = c.in_ok-bring_slabs.ensures.kept in
    let taken = c.in-Ok.ensures.kept in
    record {
      size = taken.size;
      outs = λ zone ne. c.in-Ok.ensures.takes.takes.outs zone ne ∙ ap (λ zones. out_of zones zone) kept.zones;
      rights = taken.keg.rights ∙ kept.rights;
      limits = λ zone. taken.keg.limits zone ∙ kept.limits zone;
      fetches = λ zone. taken.keg.fetches zone ∙ kept.fetches zone;
      same = same_more c.args.self.now c.bring_slabs.new.self c.take_items.new.self kept.same taken.keg.same;
    }

pub returns-in-Err-eq0-default-clause-none : goal.returns-in-Err-eq0-default-clause-none
returns-in-Err-eq0-default-clause-none g c =
    let mid = c.bring_slabs.new.self in
    let brought = c.in_ok-bring_slabs.ensures in
    let kept = brought.kept in
    let clear = c.in_ok-check_limit.ensures in
    let ready = is_ready c.args.self.now mid c.args.ask c.in_ok-count.count clear.clear clear.below brought.brings kept.zones kept.limits kept.same c.in_ok-count.ensures.gives c.requires.asks.some in
    let end = c.in-Err-eq0-default in
    let Stops : ℕ → Type 0 = λ n. StopsAtItem mid c.args.hooks.now c.args.ask.zone c.in_ok-count.count n end.code (items_of c.args.into.now) (items_of c.take_items.new.into) c.take_items.new.self in
    let stops = subst Stops end.field-0-0-test end.ensures.stops in
    record {
      refused = refused_first c.args.self.now mid c.take_items.new.self c.args.hooks.now c.args.ask c.in_ok-count.count end.code (items_of c.args.into.now) (items_of c.take_items.new.into) ready.on stops (end.ensures.kept.keg.buried ∙ brought.brings.1.buried);
      none = pushed_none mid c.take_items.new.self c.args.hooks.now c.args.ask.zone c.in_ok-count.count end.code _ _ stops;
      zones = zones_none mid c.take_items.new.self c.args.hooks.now c.args.ask.zone c.in_ok-count.count end.code _ _ stops ∙ kept.zones;
    }

pub returns-in-Err-eq0-default-clause-kept : goal.returns-in-Err-eq0-default-clause-kept
returns-in-Err-eq0-default-clause-kept g c =
    let kept = c.in_ok-bring_slabs.ensures.kept in
    let taken = c.in-Err-eq0-default.ensures.kept in
    record {
      size = taken.size;
      outs = search rules;
      rights = taken.keg.rights ∙ kept.rights;
      limits = λ zone. taken.keg.limits zone ∙ kept.limits zone;
      fetches = λ zone. taken.keg.fetches zone ∙ kept.fetches zone;
      same = same_more c.args.self.now c.bring_slabs.new.self c.take_items.new.self kept.same taken.keg.same;
    }

pub returns-in-Err-clause-given : goal.returns-in-Err-clause-given
returns-in-Err-clause-given g c =
    let mid = c.bring_slabs.new.self in
    let brought = c.in_ok-bring_slabs.ensures in
    let kept = brought.kept in
    let clear = c.in_ok-check_limit.ensures in
    let ready = is_ready c.args.self.now mid c.args.ask c.in_ok-count.count clear.clear clear.below brought.brings kept.zones kept.limits kept.same c.in_ok-count.ensures.gives c.requires.asks.some in
    let stops = c.in-Err.ensures.stops in
    let out = out_stopped mid c.take_items.new.self c.args.hooks.now c.args.ask.zone c.in_ok-count.count c.in-Err.taken _ _ _ stops in
    record {
      fetched = fetches_some c.args.self.now mid c.take_items.new.self c.args.hooks.now c.args.ask c.in_ok-count.count c.in-Err.taken _ _ _ ready.on c.in-Err.taken-test.1 stops;
      within = within_taken mid c.take_items.new.self c.args.ask.zone c.in_ok-count.count c.in-Err.taken out (omega (arith, stops.fewer)) (c.in-Err.ensures.kept.keg.limits c.args.ask.zone) ready.given.allowed;
      out = out ∙ ap (λ zones. out_of zones c.args.ask.zone + c.in-Err.taken) kept.zones;
      buried = c.in-Err.ensures.kept.keg.buried ∙ brought.brings.1.buried;
    }

pub returns-in-Err-clause-kept : goal.returns-in-Err-clause-kept
returns-in-Err-clause-kept g c =
    let kept = c.in_ok-bring_slabs.ensures.kept in
    let taken = c.in-Err.ensures.kept in
    record {
      size = taken.size;
      outs = λ zone ne. outs_stopped c.bring_slabs.new.self c.take_items.new.self c.args.hooks.now c.args.ask.zone c.in_ok-count.count c.in-Err.taken _ zone _ _ c.in-Err.ensures.stops ne ∙ ap (λ zones. out_of zones zone) kept.zones;
      rights = taken.keg.rights ∙ kept.rights;
      limits = λ zone. taken.keg.limits zone ∙ kept.limits zone;
      fetches = λ zone. taken.keg.fetches zone ∙ kept.fetches zone;
      same = same_more c.args.self.now c.bring_slabs.new.self c.take_items.new.self kept.same taken.keg.same;
    }

-- the sums were tested first
pub returns-in-Err-clause-sums_full : goal.returns-in-Err-clause-sums_full
returns-in-Err-clause-sums_full g c sums_full =
    absurd (sums_full (c.if-not-has_tally_room.ensures.0 refl))

pub returns-in-Err-eq0-default-clause-sums_full : goal.returns-in-Err-eq0-default-clause-sums_full
returns-in-Err-eq0-default-clause-sums_full g c sums_full =
    absurd (sums_full (c.if-not-has_tally_room.ensures.0 refl))
