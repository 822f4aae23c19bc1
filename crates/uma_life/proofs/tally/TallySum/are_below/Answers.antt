use Rattle.std.proofs.Common.{arith}
use Rattle.std.proofs.lemmas.Bool.Decides.{nat_tests}
use Rattle.uma_life.specs.Hook.{KegInit, KegFini}
use Rattle.uma_life.proofs.Sums.{zones_below, sums_below}
use Rattle.uma_life.proofs.tally.TallySum.are_below.Goals as goal
use Rattle.uma_life.proofs.tally.TallySum.are_below.Goals.{then-self-bound, else-self-bound}

pub returns-then-self-bound-2 : goal.returns-then-self-bound-2
returns-then-self-bound-2 c =
    let zones = c.zones_are_below.ensures in
    elim c.if-self-bound.branch [
      | then-self-bound w ↦ (λ is. sums_below _ c.args.self.now (grind (arith, nat_tests)) (grind (arith, nat_tests)) zones.eight (zones.below.0 is), λ below. zones.below.1 (zones_below _ c.args.self.now below))
      | else-self-bound w ↦ absurd (grind (arith, nat_tests))
    ]

pub returns-else-self-bound-2 : goal.returns-else-self-bound-2
returns-else-self-bound-2 c =
    elim c.if-self-bound.branch [
      | then-self-bound w ↦ (λ is. absurd (grind (arith, nat_tests)), λ below. let finis = below KegFini in grind (arith, nat_tests))
      | else-self-bound w ↦ (λ is. absurd (grind (arith, nat_tests)), λ below. let inits = below KegInit in grind (arith, nat_tests))
    ]
