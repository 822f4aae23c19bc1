-- Own: what the calls of a keg behind its lock leave as it was.
use Rattle.std.specs.Prelude.{◌≡◌, ℕ}
use Rattle.uma_keg.specs.declared.keg.Keg.{Keg}
use Rattle.uma_keg.specs.Keg.{zones_in, rights_in, limit_in, fetches_in, IsSameKeg}
use Rattle.locked_keg.specs.declared.locked_keg.KegKey.{KegKey}
use Rattle.locked_keg.specs.declared.locked_keg.LockedKeg.{LockedKeg}
use Rattle.locked_keg.specs.LockedKeg.{keg_in, fails_in}
use Rattle.locked_keg.specs.Rule.{Keeps}

module _ {T K : Type 0} {g : _} {h : _} where
  -- it is the same keg, and its zones have the limits and the fetches that they had
  pub record KeepsZones (old new : Keg T K g h) : Type 0 where
    pub rights : rights_in new ≡ rights_in old
    pub limits : (zone : ℕ) → limit_in new zone ≡ limit_in old zone
    pub fetches : (zone : ℕ) → fetches_in new zone ≡ fetches_in old zone
    pub same : IsSameKeg old new

  -- and the same items are outside in them
  pub record KeepsOutside (old new : Keg T K g h) : Type 0 where
    pub outside : zones_in new ≡ zones_in old
    pub zones : KeepsZones old new

  -- its fail books are as they were, and what its lock keeps it keeps still
  pub record KeepsRule (old new : LockedKeg T K g h) : Type 0 where
    pub books : fails_in new ≡ fails_in old
    pub keeps : (key : KegKey) → Keeps key old → Keeps key new

  -- so of a keg behind its lock whose zones stay as they were
  pub record KeepsLocked (old new : LockedKeg T K g h) : Type 0 where
    pub zones : KeepsZones (keg_in old) (keg_in new)
    pub books : fails_in new ≡ fails_in old
    pub keeps : (key : KegKey) → Keeps key old → Keeps key new
