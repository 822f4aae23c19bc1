-- Own: what becomes of a keg where slabs are brought in one after another: all come in, or one is refused.
use Rattle.std.specs.Prelude.{◌≡◌, ◌<◌, ℕ, Result, IfOk, IfErr, OnOk}
use Rattle.uma_keg.specs.declared.fetch.FetchRefused.{FetchRefused}
use Rattle.uma_keg.specs.declared.keg.Keg.{Keg}
use Rattle.uma_keg.specs.BringSlab.{RefusesSlab}
use Rattle.uma_keg.specs.BringSlabs.{BringsSlabs}
use Rattle.uma_keg.specs.Keg.{places_in, stored_in, buried_in, IsSameKeg}
use Rattle.locked_keg.specs.declared.locked_keg.KegKey.{KegKey}
use Rattle.locked_keg.specs.declared.locked_keg.LockedKeg.{LockedKeg}
use Rattle.locked_keg.specs.Frames.{KeepsOutside}
use Rattle.locked_keg.specs.LockedKeg.{keg_in, fails_in}
use Rattle.locked_keg.specs.Rule.{Keeps, HasDomainsBelow}

-- Some slabs are in, fewer than were asked for, where the next one was refused; they stay.
pub record StopsBringing {T K : Type 0} {g : _} {h : _} (old : Keg T K g h) (domain count : ℕ) (why : FetchRefused) (new : Keg T K g h) : Type 0 where
  pub slabs : ℕ
  pub fewer : slabs < count
  pub left : Keg T K g h
  pub brings : BringsSlabs old domain slabs left
  pub same : IsSameKeg old left
  pub refused : RefusesSlab left (buried_in new) why
  pub places : places_in new ≡ places_in left
  pub stored : (n : ℕ) → stored_in new n ≡ stored_in left n

-- All the slabs that were asked for are in, or as many as came before one that was refused. Zones and books stay, and what the lock keeps it keeps still, where it counts the domain.
pub record BringsIn {T K : Type 0} {g : _} {h : _} (old : LockedKeg T K g h) (domain most : ℕ) (answer : Result ℕ FetchRefused) (new : LockedKeg T K g h) : Type 0 where
  pub count : IfOk answer (λ brought. brought ≡ most)
  pub brings : OnOk answer (BringsSlabs (keg_in old) domain most (keg_in new))
  pub refused : IfErr answer (λ why. StopsBringing (keg_in old) domain most why (keg_in new))
  pub kept : KeepsOutside (keg_in old) (keg_in new)
  pub books : fails_in new ≡ fails_in old
  pub domains : (bound : ℕ) → domain < bound → HasDomainsBelow bound (places_in (keg_in old)) → HasDomainsBelow bound (places_in (keg_in new))
  pub keeps : (key : KegKey) → domain < key.domains → Keeps key old → Keeps key new
