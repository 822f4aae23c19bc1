use Rattle.std.proofs.Common.{◌≡◌, ◌-◌, ◌≤◌, min, arith, refl, ◌∙◌}
use Rattle.std.proofs.lemmas.Nat.Bits.{ones_shr}
use Rattle.slab_bits.proofs.bits.word_of_first.Goals as goal

pub returns-in_default : goal.returns-in_default
returns-in_default c =
    let set : c.min.result ≡ min 64 (c.args.n - c.args.start) = rw (c.min.ensures, c.saturating_sub.ensures) refl in
    let few : 64 - c.min.result ≤ 64 = omega arith in
    let back : 64 - (64 - c.min.result) ≡ min 64 (c.args.n - c.args.start) = omega arith in
    ones_shr 64 (64 - c.min.result) few ∙ rw back refl
