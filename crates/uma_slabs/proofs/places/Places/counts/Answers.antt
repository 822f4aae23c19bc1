use Rattle.std.proofs.Common.{rules}
use Rattle.uma_slabs.proofs.EvenRooms.{kept_even}
use Rattle.uma_slabs.proofs.places.Places.counts.Goals as goal

pub returns : goal.returns
returns c =
    record {
      slabs = search rules;
      cap = search rules;
      made = search rules;
      free = search rules;
      per_slab = search rules;
      reserve = search rules;
      sound = search rules;
      even = rw (← c.self.view_is) (kept_even c.self.inside c.self.invariant);
    }
