use Rattle.std.specs.Prelude.{Bool, Some}
use Rattle.smr_clock.specs.Belongs.{view}
use Rattle.uma_seat.specs.Seat.{ledger_of}
use Rattle.uma_zone.specs.Zone.{zone_cap}
use Rattle.name_cache.specs.Cache.{cache_zone, row_count}
use Rattle.replay_worker.specs.NameCalls.{Bound, CountedBind}
use Rattle.umarun.specs.Caches.{IsFoundIn, TurnsBackIn}
use Rattle.umarun.specs.Known.{KnowsRecord}
use Rattle.umarun.proofs.Counting.{bind_counts, refusal_counts, refused_ends, room_in_cache}
use Rattle.umarun.proofs.Knowing.{binds_of, still_known}
use Rattle.umarun.proofs.Moving.{bound_moves, refused_moves}
use Rattle.umarun.proofs.cache_names.CacheNamesNameCalls.bind.Goals as goal

pub bind-requires : goal.bind-requires
bind-requires g c = record {
  worker = record { same_clock = c.requires.by.clock; of_clock = c.requires.by.pass; of_zone = c.requires.seat };
  room = room_in_cache (ledger_of c.args.seat.now) c.requires.room;
}

pub returns-in-Ok-clause-passes : goal.returns-in-Ok-clause-passes
returns-in-Ok-clause-passes g c = record {
  pass = c.bind.ensures.kept.pass.goes_on;
  still = still_known (view c.args.pass.now) (view c.bind.new.pass) c.bind.ensures.kept.pass.still;
}

pub returns-in-Err-clause-passes : goal.returns-in-Err-clause-passes
returns-in-Err-clause-passes g c = record {
  pass = c.bind.ensures.kept.pass.goes_on;
  still = still_known (view c.args.pass.now) (view c.bind.new.pass) c.bind.ensures.kept.pass.still;
}

pub returns-in-Ok-clause-binds : goal.returns-in-Ok-clause-binds
returns-in-Ok-clause-binds g c =
    let cache = c.args.cache.now.cache in
    binds_of (row_count cache) c.args.key (view c.args.pass.now) (view c.bind.new.pass) (cache_zone cache) c.args.value c.args.seat.now c.bind.new.seat c.in-Ok.field-0 c.in-Ok.ensures.bound.binds c.in-Ok.ensures.bound.above

pub returns-in-Ok-clause-counts : goal.returns-in-Ok-clause-counts
returns-in-Ok-clause-counts g c =
    let cache = c.args.cache.now.cache in
    bind_counts (cache_zone cache) (row_count cache) c.args.key c.args.value (view c.args.pass.now) (view c.bind.new.pass) c.args.seat.now c.bind.new.seat c.in-Ok.field-0 c.in-Ok.ensures.bound.binds

pub returns-in-Err-clause-binds : goal.returns-in-Err-clause-binds
returns-in-Err-clause-binds g c =
    let v = view c.args.pass.now in
    let v' = view c.bind.new.pass in
    let rows = row_count c.args.cache.now.cache in
    let P : Bool → Type 0 = λ done. Bound KnowsRecord rows c.args.key c.args.value v done v' in
    refused_ends c.turned.result _ P c.turned.ensures.refuses c.turned.ensures.not_memory (λ other. tt)

pub returns-in-Err-clause-counts : goal.returns-in-Err-clause-counts
returns-in-Err-clause-counts g c =
    let kept = c.args.cache.now in
    let zone = cache_zone kept.cache in
    let old = c.args.seat.now in
    let new = c.bind.new.seat in
    let P : Bool → Type 0 = λ done. CountedBind (zone_cap zone) (IsFoundIn kept) (TurnsBackIn kept c.args.key (view c.args.pass.now) old (view c.bind.new.pass) new) done (Some (ledger_of old)) (Some (ledger_of new)) in
    refused_ends c.turned.result _ P c.turned.ensures.refuses c.turned.ensures.not_memory
    (λ other. refusal_counts zone kept.unreserved (row_count kept.cache) c.args.key (view c.args.pass.now) (view c.bind.new.pass) old new c.in-Err.refused c.in-Err.ensures.refused other)

pub returns-in-Ok-clause-moves : goal.returns-in-Ok-clause-moves
returns-in-Ok-clause-moves g c =
    let kept = c.args.cache.now in
    bound_moves kept (row_count kept.cache) c.args.key (view c.args.pass.now) (view c.bind.new.pass) c.args.seat.now c.bind.new.seat c.args.value c.in-Ok.field-0 c.in-Ok.ensures.bound.binds

pub returns-in-Err-clause-moves : goal.returns-in-Err-clause-moves
returns-in-Err-clause-moves g c =
    let kept = c.args.cache.now in
    refused_moves kept (row_count kept.cache) c.args.key (view c.args.pass.now) (view c.bind.new.pass) c.args.seat.now c.bind.new.seat c.in-Err.refused c.in-Err.ensures.refused c.turned.result c.turned.ensures.not_memory
