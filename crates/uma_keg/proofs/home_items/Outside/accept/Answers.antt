use Rattle.std.proofs.Common.{◌<◌, arith}
use Rattle.deed_book.specs.Book.{zones_of}
use Rattle.uma_keg.proofs.Outs.{some_out, CountsOuts-accepted, total_accepted}
use Rattle.uma_keg.proofs.home_items.Outside.accept.Goals as goal

pub overflow_sub-self : goal.overflow_sub-self
overflow_sub-self c =
    let counted = c.args.self.now.counted in
    let below : c.accept-no.result.1 < 8 = rw c.accept-no.ensures.deed.1 c.args.deed.zone_in_range in
    omega (arith, counted.counts c.accept-no.result.1 below, some_out (zones_of c.args.self.now.book) _ _ c.accept-no.ensures.was_outside)

pub invariant_of-self : goal.invariant_of-self
invariant_of-self c =
    let counted = c.args.self.now.counted in
    let below : c.accept-no.result.1 < 8 = rw c.accept-no.ensures.deed.1 c.args.deed.zone_in_range in
    record {
      counted = rw c.accept-no.ensures.book (CountsOuts-accepted _ _ _ _ counted below c.accept-no.ensures.was_outside);
      total = rw c.accept-no.ensures.book (total_accepted (zones_of c.args.self.now.book) c.args.self.now.outs c.accept-no.result.0 c.accept-no.result.1 c.args.self.now.total (omega (arith, counted.eight, below)) (omega (arith, counted.counts c.accept-no.result.1 below, some_out (zones_of c.args.self.now.book) _ _ c.accept-no.ensures.was_outside)) c.accept-no.ensures.was_outside);
    }
