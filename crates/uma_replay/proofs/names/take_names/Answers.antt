use Rattle.uma_replay.proofs.NameTotals.{names_close}
use Rattle.uma_replay.proofs.names.take_names.Goals as goal

pub with_sums-tally-requires : goal.with_sums-tally-requires
with_sums-tally-requires g c = c.in_ok-sums.ensures.few

pub returns : goal.returns
returns g c =
    names_close g.N.NameCalls c.args.cache.now c.args.name_works.now c.in_ok-census.census c.with_sums-tally.result c.in_ok-sums.sums c.in_ok-census.ensures.own c.in_ok-census.ensures.per_slab c.in_ok-census.ensures.cap c.in_ok-census.ensures.reserve
    c.in_ok-sums.ensures c.with_sums-tally.ensures
