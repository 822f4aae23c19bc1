-- Own: what contracts see of what lies behind a keg's lock.
use Rattle.uma_keg.specs.declared.keg.Keg.{Keg}
use Rattle.locked_keg.specs.declared.locked_keg.FailBooks.{FailBooks}
use Rattle.locked_keg.specs.declared.locked_keg.LockedKeg.{LockedKeg}

module _ {T K : Type 0} {g : _} {h : _} where
  -- the keg itself, of which each call's contract speaks as the keg's own call does
  abbrev pub keg_in : LockedKeg T K g h → Keg T K g h
  keg_in locked = locked.keg

  -- the fail books of its zones
  abbrev pub fails_in : LockedKeg T K g h → FailBooks
  fails_in locked = locked.fails
