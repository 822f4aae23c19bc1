use Rattle.smr_clock.specs.Making.{setup}
use Rattle.smr_objects.proofs.OpeningLemmas.{objects_opens}
use Rattle.smr_objects.proofs.making.make.Goals as goal

pub hosted-requires : goal.hosted-requires
hosted-requires c =
    record {
      opens = objects_opens (setup c.args.seats c.args.start c.args.window (c.args.cells, c.args.slots)) c.in_ok-check.ensures.in_range.plan c.in-Ok.more.items c.in-Ok.ensures;
    }
