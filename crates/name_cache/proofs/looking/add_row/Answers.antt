use Rattle.std.proofs.Common.{ap, ◌∙◌}
use Rattle.name_cache.specs.LockedRow.{row_identity}
use Rattle.name_cache.specs.RowKey.{Identity}
use Rattle.name_cache.proofs.Summing.{guest_trail, adds_few, adds_linked, below_room}
use Rattle.name_cache.proofs.looking.add_row.Goals as goal

pub add_to-requires : goal.add_to-requires
add_to-requires g c = below_room c.args.sums.now c.requires.few

pub returns-clause-few : goal.returns-clause-few
returns-clause-few g c =
    let row = c.lock-guard.result.value in
    let id = row_identity row in
    let primary = ap (λ (i : Identity). i.home.zone) c.lock-guard.ensures.kept ∙ c.requires.primary in
    adds_few row.row.guest c.args.sums.now c.add_to.new.sums (guest_trail id.clock id.home row.row.guest row.linked row.paired row.fits primary) c.add_to.ensures

pub returns-clause-linked : goal.returns-clause-linked
returns-clause-linked g c =
    let row = c.lock-guard.result.value in
    let id = row_identity row in
    let primary = ap (λ (i : Identity). i.home.zone) c.lock-guard.ensures.kept ∙ c.requires.primary in
    adds_linked row.row.guest c.args.sums.now c.add_to.new.sums (guest_trail id.clock id.home row.row.guest row.linked row.paired row.fits primary) c.add_to.ensures
