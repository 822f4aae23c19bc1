use Rattle.std.proofs.Common.{◌≡◌, ◌%◌, sym, ap, subst, ◌∙◌}
use Rattle.std.proofs.lemmas.Result.{err_from_is_err_and}
use Rattle.smr_clock.specs.declared.clock.Setup.{Setup}
use Rattle.smr_clock.specs.Belongs.{TableId, view}
use Rattle.name_cache.specs.Cache.{row_count, first_version}
use Rattle.name_cache.specs.LockedRow.{IsItemOf, HasItemOf}
use Rattle.name_cache.specs.RowKey.{Identity}
use Rattle.name_cache.proofs.Passes.{known_then}
use Rattle.name_cache.proofs.Since.{rebound_above}
use Rattle.name_cache.proofs.Wanting.{same_err, not_err}
use Rattle.name_cache.proofs.cache.NameCache.rebind.Goals as goal

pub bind-requires-clause-binds : goal.bind-requires-clause-binds
bind-requires-clause-binds g c =
    let row = c.lock_row-guard.result.value in
    let numbered : row.row.number ≡ c.args.key % row_count c.args.self.now = row.number ∙ ap (λ (id : Identity). id.number) c.lock_row-guard.ensures.row in
    record {
      item = subst (λ (id : Identity). IsItemOf id.clock id.home c.in_ok-entry.entry) (sym c.lock_row-guard.ensures.row) c.in_ok-entry.ensures.handed.item;
      of_row = ap (λ (id : TableId × Setup). c.args.key % id.1.plan.0) c.requires.worker.same_clock ∙ sym numbered;
    }

pub returns-clause-rebound : goal.returns-clause-rebound
returns-clause-rebound g c =
    let row = c.lock_row-guard.result.value in
    let entry = c.in_ok-entry.ensures.handed in
    record {
      in_row = record {
        was = row;
        is = c.bind.new.self;
        numbered = row.number ∙ ap (λ (id : Identity). id.number) c.lock_row-guard.ensures.row;
        parts = c.in_ok-entry.entry;
        hands_out = entry.out;
        between = view c.take_entry.new.pass;
        knew = c.take_entry.ensures.kept.pass.still;
        ends = c.bind.ensures.ends;
      };
      since = rebound_above (view c.take_entry.new.pass) (view c.bind.new.pass) row c.bind.new.self c.in_ok-entry.entry c.args.key c.args.value c.bind.result (first_version c.args.self.now (c.args.key % row_count c.args.self.now))
          (ap (λ (id : Identity). id.version) c.lock_row-guard.ensures.row) c.bind.ensures.ends;
      items = subst (λ (id : Identity). HasItemOf id.clock id.home c.bind.result) c.lock_row-guard.ensures.row c.bind.ensures.out;
      counted = entry.counted;
    }

pub returns-clause-kept : goal.returns-clause-kept
returns-clause-kept g c = record {
  pass = known_then c.args.clock.now c.args.pass.now c.take_entry.new.pass c.bind.new.pass c.take_entry.ensures.kept.pass c.bind.ensures.kept.pass;
  seat = c.take_entry.ensures.kept.seat;
}

pub returns-in_err-entry-clause-memory : goal.returns-in_err-entry-clause-memory
returns-in_err-entry-clause-memory g c memory =
    let p = err_from_is_err_and c.from_residual.result c.from_residual.ensures.1 in
    c.in_err-entry.ensures.memory (same_err c.from_residual.result p.0 _ _ p.1 p.2 memory)

pub returns-clause-memory : goal.returns-clause-memory
returns-clause-memory g c memory = absurd (not_err _ _ memory)
