use Rattle.std.proofs.Common.{◌≡◌, ◌-◌, length}
use Rattle.smr_clock.specs.Belongs.{setup_of}
use Rattle.smr_clock.specs.Notes.{IsSeatOf, seat_knows}
use Rattle.name_rows.specs.Opening.{AreOpenRows}
use Rattle.name_rows.specs.Records.{rows_from}
use Rattle.name_rows.proofs.making.split_rows.Given as goal

abbrev pub invariant-loop-number : goal.invariant-loop-number
invariant-loop-number l =
    record {
      here : IsSeatOf l.clock l.root;
      left : (seat_knows l.root).host.rows ≡ rows_from l.number ((setup_of l.clock).plan.0 - l.number);
      owned : (seat_knows l.root).host.owned ≡ (seat_knows l.initial.root).host.owned;
      long : length l.rows.items ≡ l.number;
      rows : AreOpenRows l.clock l.version l.rows.items;
    }
