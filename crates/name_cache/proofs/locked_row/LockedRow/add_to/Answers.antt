use Rattle.std.proofs.Common.{refl}
use Rattle.name_cache.specs.LockedRow.{row_identity}
use Rattle.name_cache.proofs.Summing.{adds_item}
use Rattle.name_cache.proofs.locked_row.LockedRow.add_to.Goals as goal

pub returns-in-Some : goal.returns-in-Some
returns-in-Some c =
    let row = c.args.self.now in
    let id = row_identity row in
    adds_item id.clock id.home row.row.guest row.linked c.in-Some.item c.args.sums.now (record { tally = c.add.new.self; deferred = c.args.sums.now.deferred }) row.paired row.fits c.in-Some.is refl c.add.ensures.sums
