use Rattle.std.proofs.Common.{◌≡◌, Some, sym, subst, rules, ◌∙◌}
use Rattle.smr_clock.specs.Belongs.{view}
use Rattle.name_rows.specs.Rows.{key_in}
use Rattle.name_cache.specs.declared.binding.Receipt.{Receipt}
use Rattle.name_cache.specs.LockedRow.{row_identity, IsItemOf}
use Rattle.name_cache.specs.RowKey.{Identity}
use Rattle.name_cache.proofs.Linked.{out_of, item_still}
use Rattle.name_cache.proofs.Passes.{goes_on_then}
use Rattle.name_cache.proofs.Rebinding.{same_number, same_row, unbinds_in_row}
use Rattle.name_cache.proofs.Telling.{still_then}
use Rattle.name_cache.proofs.locked_row.LockedRow.unbind.Goals as goal

pub returns-clause-unbound : goal.returns-clause-unbound
returns-clause-unbound c =
    let v = view c.args.pass.now in
    let v1 = view c.meet.new.pass in
    let v2 = view c.take.new.pass in
    let one = c.meet.new.self in
    let met = c.meet.ensures.met in
    let two = c.take.new.self in
    let told = c.in_ok-out.ensures.told in
    let taken = c.in_ok-out.ensures.unlinks in
    let receipt : Receipt = record { row = c.number-row.result; version = c.version-version.result } in
    let key_is : key_in one.row.guest ≡ Some c.args.key = search rules in
    let old_id = row_identity c.args.self.now in
    let one_id = row_identity one in
    let raw = c.in_ok-out.out in
    let of = out_of one_id.clock one_id.home one.row.guest raw taken.evicted in
    record {
      unbound = unbinds_in_row v v1 c.args.self.now one met.meets met.same met.identity v2 two two taken.identity taken.version told (same_row two) receipt (c.number-row.ensures ∙ same_number one two taken.identity) c.version-version.ensures.version
          c.args.key c.in_ok-value.value raw c.stamp.new.self key_is (sym c.value.ensures ∙ c.in_ok-value.was) taken.guest taken.last taken.evicted c.stamp.ensures.made;
      item = item_still old_id.clock old_id.home raw c.stamp.new.self c.stamp.ensures.same (subst (λ (id : Identity). IsItemOf id.clock id.home raw) met.identity of);
    }

pub returns-clause-kept : goal.returns-clause-kept
returns-clause-kept c = record {
  identity = c.in_ok-out.ensures.unlinks.identity ∙ c.meet.ensures.met.identity;
  pass = record {
    goes_on = goes_on_then c.args.clock.now c.args.pass.now c.meet.new.pass c.take.new.pass c.meet.ensures.pass c.take.ensures.pass;
    still = still_then (view c.args.pass.now) (view c.meet.new.pass) (view c.take.new.pass) c.meet.ensures.met.meets.still c.in_ok-out.ensures.told.still;
  };
}
