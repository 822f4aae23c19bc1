use Rattle.std.proofs.Common.{sym, subst, ◌∙◌}
use Rattle.uma_life.specs.declared.states.Ticket.{Ticket}
use Rattle.uma_bucket.specs.Home.{IsHome}
use Rattle.name_cache.specs.Cache.{cache_home}
use Rattle.name_cache.proofs.Taking.{within_freed}
use Rattle.name_cache.proofs.cache.NameCache.free.Goals as goal

pub returns-clause-frees : goal.returns-clause-frees
returns-clause-frees c =
    let cache = c.args.self.now in
    let seat = c.args.seat.now in
    let live = c.into_live.result in
    let freed = c.free_smr.ensures in
    record {
      live = live;
      entry = c.into_live.ensures.entry;
      ticket = c.into_live.ensures.ticket;
      frees = record {
        within = within_freed seat (cache_home cache) live c.requires.worker.of_zone.of_domains.same_home (c.requires.worker.of_zone.of_domains.same_smr ∙ cache.smr)
            (subst (λ (t : Ticket). IsHome (cache_home cache) t) (sym c.into_live.ensures.ticket) c.requires.item.1);
        put = freed.defers.put;
        rack = freed.defers.rack;
        full = freed.defers.full;
        free = freed.counted.ledger;
        fetches = freed.counted.fetches;
        same = freed.counted.same;
        top = freed.counted.top;
        plain = freed.defers.plain;
        misses = freed.counted.misses;
      };
    }
