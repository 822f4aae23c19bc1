use Rattle.std.proofs.Common.{◌≡◌, ◌∙◌, ap, refl}
use Rattle.std.specs.Prelude.{◌/◌, min}
use Rattle.umarun.proofs.cache_names.CacheNamesNameCalls.census.Goals as goal

a_slab : min 256 (4096 / 64) ≡ 64
a_slab = refl

pub returns-in-Ok-clause-per_slab : goal.returns-in-Ok-clause-per_slab
returns-in-Ok-clause-per_slab g c = c.in-Ok.ensures.per_slab ∙ (ap (λ size. min 256 (4096 / size)) c.args.cache.now.sized ∙ a_slab)
