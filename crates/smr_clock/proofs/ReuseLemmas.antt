-- From a yes on no open section is before the goal.
use Rattle.std.proofs.Common.{◌≡◌, ℕ, ◌≤◌, List, [], ◌∷◌, arith}
use Rattle.smr_core.specs.ClockState.{read_hand}
use Rattle.smr_core.proofs.KindLemmas.{marks_above_read}
use Rattle.smr_clock.specs.declared.clock.Setup.{Setup}
use Rattle.smr_clock.specs.Views.{holders_of}
use Rattle.smr_clock.specs.Clocked.{Clocked}
use Rattle.smr_clock.specs.Moments.{Moment}
use Rattle.smr_clock.specs.SafeReuse.{Follow, RunsFollow, NoSectionBefore, StaysOver, KnownIsOver, KnownStaysOver}
use Rattle.smr_clock.proofs.Kept.{holder_there}
use Rattle.smr_clock.proofs.MomentLemmas.{steps-lower-no-hand}

module _ {P : Type 0} (a : Setup) where
  none_before : (now : Moment P) (goal : ℕ) → Clocked a now.0 now.1 → goal ≤ read_hand now.0 → NoSectionBefore now goal
  none_before now goal c expired id v mark there inside before =
      let above = marks_above_read a.config now.0 (holders_of now.1) id v.holder v.holder c.law id v.holder (holder_there a now.1 id v v there) inside.0 in
      let is : v.holder.mark ≡ mark = inside.1 in
      omega arith

  stays : (now : Moment P) (following : List (Moment P)) (goal : ℕ) → Follow a now following → goal ≤ read_hand now.0 → StaysOver now following goal
  stays now [] goal follow expired = (expired, none_before now goal follow expired)
  stays now (next ∷ rest) goal follow expired =
      let higher = follow.1 in
      (expired, none_before now goal follow.0 expired, stays next rest goal follow.2 (omega arith))

  first_clocked : (now : Moment P) (following : List (Moment P)) → Follow a now following → Clocked a now.0 now.1
  first_clocked now [] follow = follow
  first_clocked now (next ∷ rest) follow = follow.0

  pub known-is-over : KnownIsOver P a
  known-is-over now following id v goal follow there known =
      let c : Clocked a now.0 now.1 = first_clocked now following follow in
      let floor = (c.law.holders id v.holder (holder_there a now.1 id v v there)).floor in
      stays now following goal follow (omega arith)

  pub runs-follow : RunsFollow P a
  runs-follow now [] c run = c
  runs-follow now (next ∷ rest) c run = let n = steps-lower-no-hand a now next c run.0 in (c, n.read_not_lower, runs-follow next rest n.law run.1)

  pub known-stays-over : KnownStaysOver P a
  known-stays-over now following id v goal c run there known = known-is-over now following id v goal (runs-follow now following c run) there known
