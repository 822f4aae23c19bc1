use Rattle.std.proofs.Common.{◌/◌, ◌<◌, length, get_or, arith}
use Rattle.slab_bits.proofs.Words.{places_of-set, Changes-set}
use Rattle.slab_bits.proofs.Summed.{AreSummed-with}
use Rattle.slab_bits.proofs.wide.Wide.set.Goals as goal

pub invariant_of-self : goal.invariant_of-self
invariant_of-self c = AreSummed-with c.self.inside.summary c.self.inside.words c.self.invariant c.args.no c.requires

pub returns : goal.returns
returns c =
    let words = c.self.inside.words in
    let no = c.args.no in
    let within : no / 64 < length words = omega (arith, c.self.invariant.sixteen, c.requires) in
    rw (← c.self.view_is) (places_of-set words no _ _ within (Changes-set (get_or words (no / 64) 0) no))
