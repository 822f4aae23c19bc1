use Rattle.std.proofs.Common.{◌≡◌, All, length, map, sum_by, fold, flat_map}
use Rattle.smr_clock.specs.Belongs.{view}
use Rattle.uma_zone.specs.Frames.{GoesOn}
use Rattle.uma_reclaim.specs.Given.{IsFromZone, AreGiven, items_in, counted}
use Rattle.uma_reclaim.specs.Reclaimed.{taken_by, TakesInTurn}
use Rattle.uma_reclaim.specs.Told.{notes_in}
use Rattle.uma_reclaim.proofs.reclaim.give_back.Given as goal

abbrev pub invariant-loop-domain : goal.invariant-loop-domain
invariant-loop-domain g l = record {
  each : length l.takes ≡ l.domain;
  of_zone : All (All (IsFromZone l.zone)) (map taken_by l.takes);
  own : TakesInTurn l.zone l.extent 0 (map taken_by l.takes);
  gave : AreGiven l.zone (map taken_by l.takes);
  given : l.items ≡ counted (sum_by items_in (map taken_by l.takes));
  pass : GoesOn l.clock l.fn.pass l.pass;
  told : (view l.pass).host ≡ fold g.H.Host.merged (view l.fn.pass).host (flat_map notes_in (map taken_by l.takes));
}
