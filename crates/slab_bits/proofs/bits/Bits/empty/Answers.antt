use Rattle.std.proofs.Common.{[], ◌∷◌, arith}
use Rattle.slab_bits.proofs.Words.{length-places_of}
use Rattle.slab_bits.proofs.Least.{HasNoneFrom-clear, AreClear-none}
use Rattle.slab_bits.proofs.bits.Bits.empty.Goals as goal

pub returns : goal.returns
returns c =
    let none = HasNoneFrom-clear (0 ∷ 0 ∷ 0 ∷ 0 ∷ []) 0 (omega arith) AreClear-none in
    record { places = length-places_of (0 ∷ 0 ∷ 0 ∷ 0 ∷ []); none = λ place. none place (omega arith) }
