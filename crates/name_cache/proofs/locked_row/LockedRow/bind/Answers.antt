use Rattle.std.proofs.Common.{◌<◌, ◌+◌, ◌^◌, ◌∙◌, arith}
use Rattle.smr_clock.specs.Belongs.{view}
use Rattle.name_cache.specs.declared.binding.Receipt.{Receipt}
use Rattle.name_cache.proofs.Outs.{written_guest}
use Rattle.name_cache.proofs.Passes.{goes_on_then}
use Rattle.name_cache.proofs.Rebinding.{binds_in_row}
use Rattle.name_cache.proofs.Telling.{still_then}
use Rattle.name_cache.proofs.locked_row.LockedRow.bind.Goals as goal

pub returns-clause-ends : goal.returns-clause-ends
returns-clause-ends c =
    let v = view c.args.pass.now in
    let v1 = view c.meet.new.pass in
    let v2 = view c.meet-2.new.pass in
    let one = c.meet.new.self in
    let met = c.meet.ensures.met in
    let link = c.link.ensures in
    let again = c.meet-2.ensures.met in
    let written = c.write.new.self in
    let receipt : Receipt = record { row = c.number-row.result; version = c.version-version-2.result } in
    let low : one.row.version + 2 < 2 ^ 44 = let below = c.if-version-ge-WORN.false in let is = c.version-version.ensures.version in omega arith in
    binds_in_row v v1 c.args.self.now one met.meets met.same met.identity v2 c.link.new.self c.meet-2.new.self link.identity link.version again.meets again.same receipt c.number-row.ensures c.version-version-2.ensures.version
    c.args.key c.args.value c.args.parts written c.link.result c.stamped-evicted.result (c.write.ensures.same.ticket ∙ c.ripe.ensures.same.ticket)
    (written_guest written.entry c.args.key c.args.value c.ripe.new.self.entry.words written.entry.words c.write.ensures.made) link.guest low link.evicted c.stamped-evicted.ensures

pub returns-clause-kept : goal.returns-clause-kept
returns-clause-kept c = record {
  identity = c.meet-2.ensures.met.identity ∙ c.link.ensures.identity ∙ c.meet.ensures.met.identity;
  pass = record {
    goes_on = goes_on_then c.args.clock.now c.args.pass.now c.meet.new.pass c.meet-2.new.pass c.meet.ensures.pass c.meet-2.ensures.pass;
    still = still_then (view c.args.pass.now) (view c.meet.new.pass) (view c.meet-2.new.pass) c.meet.ensures.met.meets.still c.meet-2.ensures.met.meets.still;
  };
}
