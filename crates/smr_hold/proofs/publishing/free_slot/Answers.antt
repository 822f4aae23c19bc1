use Rattle.std.proofs.Common.{rules, ap, ◌∙◌}
use Rattle.smr_core.specs.declared.holder.Holder.{Holder}
use Rattle.smr_objects.specs.CellViews.{cell_view}
use Rattle.smr_hold.proofs.FreeLemmas.{unseen_now}
use Rattle.smr_hold.proofs.publishing.free_slot.Goals as goal

pub returns-clause-frees : goal.returns-clause-frees
returns-clause-frees c =
    let finds = c.load_read-read.ensures.finds in
    let kept = c.close_slot-holds.ensures.kept in
    record {
      touches = search rules;
      closed = search rules;
      idle = search rules;
      unseen = unseen_now c.args.slot c.settle_stamp-stamp.result c.load_read-read.result (cell_view c.args.cell.now) (cell_view c.settle_stamp-stamp.new.cell) (cell_view c.close_slot-holds.new.cell)
          (ap (λ (h : Holder). h.seen) kept.holder ∙ ap (λ (h : Holder). h.seen) finds.holder)
          c.stamped_slots_stand.ensures.over c.settle_stamp-stamp.ensures.settles.origin c.if-read-stamp.false
          (ap (λ (h : Holder). h.floor) kept.holder ∙ finds.floor);
    }
