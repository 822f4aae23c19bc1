use Rattle.std.proofs.Common.{arith}
use Rattle.deed_book.specs.Book.{zones_of}
use Rattle.uma_keg.proofs.Outs.{out_few, CountsOuts-issued, total_issued}
use Rattle.uma_keg.proofs.home_items.Outside.issue.Goals as goal

pub overflow_add-self : goal.overflow_add-self
overflow_add-self c =
    let counted = c.args.self.now.counted in
    omega (arith, counted.counts c.args.zone c.requires.zone, out_few (zones_of c.args.self.now.book) c.args.zone counted.few)

pub invariant_of-self : goal.invariant_of-self
invariant_of-self c = record {
  counted = rw c.issue.ensures.book (CountsOuts-issued _ _ _ _ c.args.self.now.counted c.requires.zone c.requires.home);
  total = rw c.issue.ensures.book (total_issued (zones_of c.args.self.now.book) c.args.self.now.outs c.args.no c.args.zone c.args.self.now.total (omega (arith, c.args.self.now.counted.eight, c.requires.zone)) c.requires.home);
}
