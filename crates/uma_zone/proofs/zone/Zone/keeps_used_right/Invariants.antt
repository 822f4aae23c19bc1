-- No zone of the first rights is there.
use Rattle.std.proofs.Common.{map, take}
use Rattle.std.specs.List.{All}
use Rattle.uma_keg.specs.Keg.{HasZone}
use Rattle.locked_keg.specs.LockedKeg.{keg_in}
use Rattle.uma_zone.specs.Right.{right_no}
use Rattle.uma_zone.proofs.zone.Zone.keeps_used_right.Given as goal

abbrev pub invariant-loop-right : goal.invariant-loop-right
invariant-loop-right g l = All (λ no. HasZone (keg_in l.keg) no → ⊥) (map right_no (take l.right-index l.self.rights.items))
