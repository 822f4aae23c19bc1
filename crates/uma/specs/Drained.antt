-- Own: what a drain of a local gives back.
use Rattle.std.specs.Prelude.{◌≡◌, ◌+◌, ℕ, Result, OnOk, OnErr, IfErr}
use Rattle.uma_reclaim.specs.Given.{counted}
use Rattle.uma_reclaim.specs.Cached.{cached_in}
use Rattle.uma.specs.declared.local.Local.{Local}
use Rattle.uma.specs.declared.refused.Refused.{Refused}
use Rattle.uma.specs.declared.refused.Refused.TheVariants as refusals
use Rattle.uma.specs.Local.{HasNoItem, KeepsLocal, KeepsUsable}

module _ {T K : Type 0} {g k : _} where
  -- So many items went back to the slabs: all that were cached here, and some that waited for whoever runs empty.
  abbrev pub GivesBack : ℕ → Local T K g k → Type 0
  GivesBack items old = (listed : ℕ) × (items ≡ counted (listed + cached_in old.seat))

  -- Nothing is counted. The local has nothing any more that could be given back, or memory was wanting, and it has all its items still.
  pub record EndsDrain (old : Local T K g k) (answer : Result ℕ Refused) (new : Local T K g k) : Type 0 where
    pub kept : KeepsLocal old new
    pub drained : OnOk answer (HasNoItem new)
    pub usable : OnErr answer (KeepsUsable old new)
    pub refused : IfErr answer (λ why. why ≡ refusals.Memory)
