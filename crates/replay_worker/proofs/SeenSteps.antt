-- What a worker's pass has seen of the write sequence never falls.
use Rattle.std.proofs.Common.{◌≡◌, ◌≤◌, List, inl, inr, sym, ap, le_of_eq}
use Rattle.smr_clock.specs.declared.host.Host.{Ghosts}
use Rattle.trace_text.specs.declared.trace.Op.{Op}
use Rattle.trace_text.specs.declared.trace.Op.TheVariants.{Alloc, Free, Enter, Exit, Prealloc, Bind, Unbind, Look, Trim, Drain, DrainSeat, Away, Back}
use Rattle.replay_worker.specs.declared.worker.Worker.{Worker}
use Rattle.replay_worker.specs.Items.{CountedZone}
use Rattle.replay_worker.specs.Performs.{CanPerform, Performs}
use Rattle.replay_worker.specs.Worker.{seen_of}

module _ {H Part : Type 0} {h : Ghosts H Part} where
  -- ---- the lines

  seen_same : (old new : Worker H Part h) → new ≡ old → seen_of old ≤ seen_of new
  seen_same old new same = le_of_eq (sym (ap seen_of same))

  pub seen_step : (zones : List (CountedZone H Part h)) (op : Op) (old new : Worker H Part h) → CanPerform zones old op → Performs zones old op new → seen_of old ≤ seen_of new
  seen_step zones (Alloc zone slot arg reserve) old new can step = step.section.seen
  seen_step zones (Free slot) old new can (inl freed) = freed.1.section.seen
  seen_step zones (Free slot) old new can (inr nothing) = seen_same old new nothing.1
  seen_step zones Enter old new can (inl step) = step.seen
  seen_step zones Enter old new can (inr step) = step.seen
  seen_step zones Exit old new can step = step.seen
  seen_step zones (Prealloc zone items) old new can step = seen_same old new step.same
  seen_step zones (Bind key value) old new can step = absurd can
  seen_step zones (Unbind key) old new can step = absurd can
  seen_step zones (Look key) old new can step = absurd can
  seen_step zones Away old new can step = absurd can
  seen_step zones Back old new can step = absurd can
  seen_step zones (Trim zone) old new can step = step.section.seen
  seen_step zones (Drain zone) old new can step = step.section.seen
  seen_step zones (DrainSeat zone) old new can step = step.section.seen
