use Rattle.std.proofs.Common.{◌/◌, ◌<◌, length, get_or, arith}
use Rattle.slab_bits.proofs.Words.{places_of-set, Changes-clear}
use Rattle.slab_bits.proofs.Summed.{AreSummed-none}
use Rattle.slab_bits.proofs.wide.Wide.clear.Goals as goal

pub invariant_of-self : goal.invariant_of-self
invariant_of-self c =
    AreSummed-none c.self.inside.summary c.self.inside.words c.self.invariant (omega arith) (c.args.no / 64) _ (omega arith) c.if-word-eq0.true

pub returns-then-word-eq0 : goal.returns-then-word-eq0
returns-then-word-eq0 c =
    let words = c.self.inside.words in
    let within : c.args.no / 64 < length words = omega (arith, c.self.invariant.sixteen, c.requires) in
    rw (← c.self.view_is) (places_of-set words c.args.no _ _ within (Changes-clear (get_or words (c.args.no / 64) 0) c.args.no))

pub returns-else-word-eq0 : goal.returns-else-word-eq0
returns-else-word-eq0 c =
    let words = c.self.inside.words in
    let within : c.args.no / 64 < length words = omega (arith, c.self.invariant.sixteen, c.requires) in
    rw (← c.self.view_is) (places_of-set words c.args.no _ _ within (Changes-clear (get_or words (c.args.no / 64) 0) c.args.no))
