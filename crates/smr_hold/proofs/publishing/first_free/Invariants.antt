use Rattle.std.proofs.Common.{◌≡◌, length}
use Rattle.smr_objects.specs.CellViews.{IsCellOf, cell_view}
use Rattle.smr_hold.specs.Causes.{cause_at}
use Rattle.smr_hold.specs.Publishing.{Waits}
use Rattle.smr_hold.proofs.publishing.first_free.Given as goal

abbrev pub invariant-loop-slot : goal.invariant-loop-slot
invariant-loop-slot l =
    record {
      here : IsCellOf l.clock l.cell;
      count : l.causes.count ≡ l.initial.causes.count;
      long : length l.causes.causes ≡ 16;
      waits : Waits l.slot (cause_at l.causes) (cell_view l.initial.cell) (cell_view l.cell);
    }
