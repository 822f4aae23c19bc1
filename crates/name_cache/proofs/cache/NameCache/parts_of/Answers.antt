use Rattle.std.proofs.Common.{sym, ap, subst, ◌∙◌}
use Rattle.uma_life.specs.declared.states.Ticket.{Ticket}
use Rattle.uma_bucket.specs.Home.{IsHome}
use Rattle.deed_book.specs.Deed.{BookId}
use Rattle.name_rows.specs.declared.entry.Entry.{Entry}
use Rattle.name_cache.specs.Origins.{clock_by}
use Rattle.name_cache.specs.Cache.{cache_home}
use Rattle.name_cache.proofs.cache.NameCache.parts_of.Goals as goal

pub returns : goal.returns
returns c =
    let cache = c.args.self.now in
    let parts = c.of.result in
    let home : IsHome (cache_home cache) parts.ticket = subst (λ (t : Ticket). IsHome (cache_home cache) t) c.of.ensures.ticket c.requires.home in
    record {
      words = ap (λ (e : Entry). e.words) (sym c.of.ensures.entry);
      ticket = sym c.of.ensures.ticket;
      item = (ap clock_by (parts.of_origin ∙ ap (λ (b : BookId). b.origin) home.0 ∙ cache.raised), home);
    }
