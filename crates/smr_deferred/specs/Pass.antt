-- What a call of a list makes of the view of the pass that it takes. Own.
use Rattle.std.specs.Prelude.{◌≡◌, ℕ, ◌≤◌}
use Rattle.smr_clock.specs.declared.view.View.{View}
use Rattle.smr_clock.specs.Steps.{IsWriteFound}

-- The pass knows at least as much of the write sequence. It is in or out of its section as it was, made no advance, and its host's part is as it was.
pub record KnowsMore {P : Type 0} (v v' : View P) : Type 0 where
  pub phase : v'.holder.phase ≡ v.holder.phase
  pub seen : v.holder.seen ≤ v'.holder.seen
  pub advances : v'.holder.advances ≡ v.holder.advances
  pub host : v'.host ≡ v.host

-- The pass is in or out of its section as it was, what it has seen doesn't fall, and its host's part is as it was.
pub record Stays {P : Type 0} (v v' : View P) : Type 0 where
  pub phase : v'.holder.phase ≡ v.holder.phase
  pub seen : v.holder.seen ≤ v'.holder.seen
  pub host : v'.host ≡ v.host

-- The pass loaded the write sequence, which is not lower than any that it had seen, and has seen what it found.
pub record LoadsWrite {P : Type 0} (v : View P) (write : ℕ) (v' : View P) : Type 0 where
  pub found : IsWriteFound v.holder write
  pub seen : write ≤ v'.holder.seen
