use Rattle.std.proofs.Common.{◌≡◌, ◌≤◌, ◌-◌, All, length, fold}
use Rattle.smr_clock.specs.Belongs.{view}
use Rattle.uma_domain.specs.Taken.{taken_in}
use Rattle.uma_zone.specs.Frames.{GoesOn}
use Rattle.uma_reclaim.specs.Given.{IsFromZone, GivesBucket, items_in, counted}
use Rattle.uma_reclaim.specs.Told.{notes_in}
use Rattle.uma_reclaim.proofs.reclaim.give_taken.Given as goal

abbrev pub invariant-loop-bucket : goal.invariant-loop-bucket
invariant-loop-bucket g l = record {
  of_zone : All (IsFromZone l.zone) (taken_in l.taken);
  fewer : items_in (taken_in l.taken) ≤ items_in (taken_in l.initial.taken);
  given : l.count ≡ counted (items_in (taken_in l.initial.taken) - items_in (taken_in l.taken));
  gave : All (GivesBucket l.zone) (taken_in l.taken) → All (GivesBucket l.zone) (taken_in l.initial.taken);
  pass : GoesOn l.clock l.fn.pass l.pass;
  told : fold g.H.Host.merged (view l.pass).host (notes_in (taken_in l.taken)) ≡ fold g.H.Host.merged (view l.fn.pass).host (notes_in (taken_in l.initial.taken));
}

abbrev pub decreases-loop-bucket : goal.decreases-loop-bucket
decreases-loop-bucket g l = length (taken_in l.taken)
