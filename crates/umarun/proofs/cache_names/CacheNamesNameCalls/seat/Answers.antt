use Rattle.std.proofs.Common.{ap, map}
use Rattle.uma_life.specs.Cached.{cached_ticket}
use Rattle.umarun.proofs.cache_names.CacheNamesNameCalls.seat.Goals as goal

pub returns-in-Ok-clause-unused : goal.returns-in-Ok-clause-unused
returns-in-Ok-clause-unused g c = ap (map cached_ticket) c.in-Ok.ensures.fresh.usable
