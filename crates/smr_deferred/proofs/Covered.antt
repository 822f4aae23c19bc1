-- A goal two above the write sequence covers each section that is open while the hand stands there: a mark is never above the hand.
use Rattle.std.proofs.Common.{◌≡◌, ℕ, ◌+◌, ◌≤◌, ◌∙◌, ap, arith}
use Rattle.smr_core.specs.declared.holder.Phase.TheVariants as phase
use Rattle.smr_core.specs.ClockState.{write_hand}
use Rattle.smr_core.proofs.KindLemmas.{in_phase}
use Rattle.smr_clock.specs.declared.clock.Setup.{Setup}
use Rattle.smr_clock.specs.declared.view.View.{View}
use Rattle.smr_clock.specs.Steps.{IsWriteFound, read_looking}
use Rattle.smr_clock.proofs.Kept.{holder_there}
use Rattle.smr_deferred.specs.Goals.{CoversOpen}
use Rattle.smr_deferred.specs.Pass.{KnowsMore, LoadsWrite}

pub covers_open : (P : Type 0) (a : Setup) (write : ℕ) → CoversOpen P a write (write + 2)
covers_open P a write now id v mark clocked hand there inside =
    let fits = clocked.law.holders id v.holder (holder_there a now.1 id v v there) in
    let seen : v.holder.seen ≤ write_hand now.0 = fits.seen in
    let marked : v.holder.mark ≤ v.holder.seen = (in_phase a.config now.0 v.holder phase.Inside fits inside.0).3 in
    let is : v.holder.mark ≡ mark = inside.1 in
    let at : write_hand now.0 ≡ write = hand in
    omega arith

-- what `hands` tells of its second load, after what the pass may have loaded since
pub loads_write : {P : Type 0} (v u w : View P) (read write : ℕ) → IsWriteFound (read_looking v read).holder write → u.holder.seen ≡ write
    → KnowsMore u w → LoadsWrite v write w
loads_write v u w read write f seen more =
    let known : u.holder.seen ≤ w.holder.seen = more.seen in
    record {
      found =
          record {
            odd = f.odd;
            in_range = f.in_range;
            not_lower = f.not_lower;
            in_enter = f.in_enter;
            in_advance = f.in_advance;
            in_exchange = f.in_exchange;
          };
      seen = omega arith;
    }

-- a pass that is as it was has seen what it had seen
pub seen_same : {P : Type 0} (u w : View P) (write : ℕ) → u.holder.seen ≡ write → w ≡ u → w.holder.seen ≡ write
seen_same u w write seen same = ap (λ (v : View _). v.holder.seen) same ∙ seen
