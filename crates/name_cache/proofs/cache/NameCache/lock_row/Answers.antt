use Rattle.std.proofs.Common.{◌≡◌, ◌<◌, ◌%◌, ℕ, length, ap, subst, arith, ◌∙◌}
use Rattle.std.proofs.lemmas.Nat.{mod_below}
use Rattle.smr_core.proofs.PlaceLemmas.{at_index}
use Rattle.name_cache.specs.Cache.{cache_clock, cache_home, row_count, first_version}
use Rattle.name_cache.specs.Locks.{lock_version}
use Rattle.name_cache.specs.RowKey.{identity}
use Rattle.name_cache.proofs.Locking.{version_at}
use Rattle.name_cache.proofs.cache.NameCache.lock_row.Goals as goal

pub returns-clause-row : goal.returns-clause-row
returns-clause-row g c =
    let cache = c.args.self.now in
    let lock = c.index.result.now in
    let i = c.args.key % c.len.result in
    let many : c.len.result ≡ length cache.rows.items = c.len.ensures ∙ cache.rows.ok.0 in
    let count : c.len.result ≡ row_count cache = many ∙ cache.long in
    let some : 0 < c.len.result = let one = cache.names.plan.some_row in omega (arith, count, one) in
    let low : i < length cache.rows.items = subst (λ (n : ℕ). i < n) many (mod_below c.args.key c.len.result some) in
    let there = at_index cache.rows.items i lock low c.index.ensures in
    let version : lock_version lock ≡ first_version cache i = version_at cache.rows.items i lock there in
    c.lock.ensures.kept ∙ cache.named i lock there ∙ ap (λ (n : ℕ). identity (cache_clock cache) (cache_home cache) i n) version
    ∙ ap (λ (n : ℕ). identity (cache_clock cache) (cache_home cache) (c.args.key % n) (first_version cache (c.args.key % n))) count
