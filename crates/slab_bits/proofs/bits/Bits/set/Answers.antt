use Rattle.std.proofs.Common.{◌/◌, ◌<◌, ◌^◌, ◌%◌, ◌*◌, length, get_or, arith}
use Rattle.slab_bits.proofs.Words.{places_of-set, AreWords-set, Changes-set, set_fits}
use Rattle.slab_bits.proofs.bits.Bits.set.Goals as goal

pub invariant_of-self : goal.invariant_of-self
invariant_of-self c =
    let words = c.self.inside.words in
    let place = c.args.place in
    AreWords-set words c.self.invariant (place / 64) _ (omega arith) (set_fits (get_or words (place / 64) 0) (1 * 2 ^ (place % 64)) (c.self.invariant.fit (place / 64)))

pub returns : goal.returns
returns c =
    let words = c.self.inside.words in
    let place = c.args.place in
    let within : place / 64 < length words = omega (arith, c.self.invariant.four) in
    rw (← c.self.view_is) (places_of-set words place _ _ within (Changes-set (get_or words (place / 64) 0) place))
