-- So many ones are what is left of 64 of them.
use Rattle.std.proofs.Common.{◌≡◌, ℕ, ◌-◌, ◌^◌, ◌≤◌, ap, arith, ◌∙◌}
use Rattle.std.proofs.lemmas.Nat.Bits.{ones_shr}
use Rattle.smr_core.proofs.hands.all_seats.Goals as goal

pub returns-in_default : goal.returns-in_default
returns-in_default c =
    let few : 64 - c.args.config.seats ≤ 64 = omega arith in
    let left : 64 - (64 - c.args.config.seats) ≡ c.args.config.seats = omega (arith, c.requires) in
    ones_shr 64 (64 - c.args.config.seats) few ∙ ap (λ (n : ℕ). 2 ^ n - 1) left
