use Rattle.std.proofs.Common.{refl}
use Rattle.uma_slabs.proofs.EmptyKeg.{IsKept-empty, keeps_empty, IsNew-empty, IsSound-empty}
use Rattle.uma_slabs.proofs.places.Places.empty.Goals as goal

pub invariant_of-result : goal.invariant_of-result
invariant_of-result c =
    IsKept-empty (record { rooms = c.in_ok-new.field-0; per_slab = c.args.per_slab; cap = c.args.cap; slabs = 0; free = 0; made = 0 }) c.requires refl refl refl c.in_ok-new.ensures

pub returns : goal.returns
returns c =
    record {
      new =
          rw (keeps_empty (record { rooms = c.in_ok-new.field-0; per_slab = c.args.per_slab; cap = c.args.cap; slabs = 0; free = 0; made = 0 }) c.requires refl refl refl c.in_ok-new.ensures)
          (IsNew-empty c.args.per_slab c.args.cap);
      sound =
          rw (keeps_empty (record { rooms = c.in_ok-new.field-0; per_slab = c.args.per_slab; cap = c.args.cap; slabs = 0; free = 0; made = 0 }) c.requires refl refl refl c.in_ok-new.ensures)
          (IsSound-empty c.args.per_slab c.args.cap c.requires);
    }
