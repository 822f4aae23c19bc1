use Rattle.std.proofs.Common.{◌≡◌, ◌%◌, ap, subst, ◌∙◌}
use Rattle.std.proofs.lemmas.Option.{IfSome_then}
use Rattle.smr_clock.specs.Belongs.{view}
use Rattle.name_cache.specs.Cache.{row_count, first_version}
use Rattle.name_cache.specs.LockedRow.{IsItemOf}
use Rattle.name_cache.specs.RowKey.{Identity}
use Rattle.name_cache.proofs.Since.{taken_above, found_none}
use Rattle.name_cache.proofs.cache.NameCache.take_out.Goals as goal

pub returns-clause-unbound : goal.returns-clause-unbound
returns-clause-unbound g c =
    let row = c.lock_row-guard.result.value in
    let numbered : row.row.number ≡ c.args.key % row_count c.args.self.now = row.number ∙ ap (λ (id : Identity). id.number) c.lock_row-guard.ensures.row in
    let first = ap (λ (id : Identity). id.version) c.lock_row-guard.ensures.row in
    IfSome_then c.unbind.result c.unbind.ensures.unbound
    (λ x p. record {
      in_row = record { was = row; is = c.unbind.new.self; numbered = numbered; ends = p.unbound };
      since = taken_above (view c.args.pass.now) (view c.unbind.new.pass) row c.unbind.new.self x.2 c.args.key x.0 x.1 (first_version c.args.self.now (c.args.key % row_count c.args.self.now)) first p.unbound;
      item = subst (λ (id : Identity). IsItemOf id.clock id.home x.2) c.lock_row-guard.ensures.row p.item;
    })

pub returns-clause-none : goal.returns-clause-none
returns-clause-none g c =
    let row = c.lock_row-guard.result.value in
    let numbered : row.row.number ≡ c.args.key % row_count c.args.self.now = row.number ∙ ap (λ (id : Identity). id.number) c.lock_row-guard.ensures.row in
    found_none (row_count c.args.self.now) c.args.key (view c.args.pass.now) (view c.unbind.new.pass) row c.unbind.new.self c.unbind.result numbered c.unbind.ensures.none
