use Rattle.std.proofs.Common.{◌/◌, ◌<◌, length, get_or, arith}
use Rattle.slab_bits.proofs.Words.{places_of-set, Changes-clear}
use Rattle.slab_bits.proofs.bits.Bits.clear.Goals as goal

pub returns : goal.returns
returns c =
    let words = c.self.inside.words in
    let place = c.args.place in
    let within : place / 64 < length words = omega (arith, c.self.invariant.four) in
    rw (← c.self.view_is) (places_of-set words place _ _ within (Changes-clear (get_or words (place / 64) 0) place))
