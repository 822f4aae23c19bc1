use Rattle.std.proofs.Common.{◌≡◌, ◌+◌, ◌++◌, ◌∷◌, [], ℕ, length, map, sym, ap, ◌∙◌}
use Rattle.std.proofs.lemmas.Iterator.Adapters.{YieldsList-from_vec}
use Rattle.std.proofs.lemmas.Iterator.Consumers.{YieldsList-turn}
use Rattle.std.proofs.lemmas.List.{length_push, map-append}
use Rattle.smr_clock.specs.Belongs.{clock_id}
use Rattle.uma_zone.specs.Zone.{zone_home}
use Rattle.name_cache.specs.RowKey.{Identity, identity}
use Rattle.name_cache.specs.Locks.{lock_version}
use Rattle.name_rows.specs.declared.row.Row.{Row}
use Rattle.name_cache.proofs.Locking.{fresh_at, fresh_own, named_more}
use Rattle.name_cache.proofs.making.lock_rows.Goals as goal

pub lock_row-requires : goal.lock_row-requires
lock_row-requires c =
    let rows = c.args.rows.items in
    let turn = YieldsList-turn (YieldsList-from_vec rows (cc) (cc)) c.loop-row.yielded c.loop-row.row-iterator c.loop-row.yielded_by c.next.result c.next.new.self c.in-Some.row c.in-Some.is c.next.ensures.steps in
    let i = length c.loop-row.yielded in
    fresh_own c.args.clock.now i c.in-Some.row (fresh_at c.args.clock.now rows i c.in-Some.row c.requires.rows turn.0 turn.1)

pub loop-row-preserved : goal.loop-row-preserved
loop-row-preserved c =
    let rows = c.args.rows.items in
    let turn = YieldsList-turn (YieldsList-from_vec rows (cc) (cc)) c.loop-row.yielded c.loop-row.row-iterator c.loop-row.yielded_by c.next.result c.next.new.self c.in-Some.row c.in-Some.is c.next.ensures.steps in
    let i = length c.loop-row.yielded in
    let fresh = fresh_at c.args.clock.now rows i c.in-Some.row c.requires.rows turn.0 turn.1 in
    let locks = c.loop-row.locks.items in
    let lock = c.in_ok-lock.lock in
    let clock = clock_id c.args.clock.now in
    let home = zone_home c.args.zone.now in
    let version : lock_version lock ≡ c.in-Some.row.version = ap (λ (id : Identity). id.version) c.in_ok-lock.ensures in
    record {
      long = ap length c.in_ok-push_lock.ensures ∙ length_push locks lock ∙ ap (λ (n : ℕ). n + 1) c.loop-row.invariant.long ∙ sym (length_push c.loop-row.yielded c.in-Some.row);
      named = named_more clock home locks c.push_lock.new.locks.items lock c.in_ok-push_lock.ensures c.loop-row.invariant.named
          (c.in_ok-lock.ensures ∙ ap (λ (n : ℕ). identity clock home n c.in-Some.row.version) (fresh.numbered ∙ sym c.loop-row.invariant.long) ∙ ap (λ (n : ℕ). identity clock home (length locks) n) (sym version));
      versions = ap (map lock_version) c.in_ok-push_lock.ensures ∙ map-append lock_version locks (lock ∷ []) ∙ (λ k. c.loop-row.invariant.versions k ++ version k ∷ []) ∙ sym (map-append (λ (row : Row). row.version) c.loop-row.yielded (c.in-Some.row ∷ []));
    }
