-- The hooks of an item come in pairs, and so do their sums. That inits and finis, and ctors and dtors, come in pairs is the rule of FreeBSD's uma(9).
use Rattle.std.specs.Prelude.{◌<◌, ℕ}
use Rattle.uma_life.specs.declared.tally.TallySum.{TallySum}
use Rattle.uma_life.specs.Hook.{ZoneInit, Ctor, Dtor, ZoneFini}
use Rattle.uma_life.specs.Sum.{sum_of}
use Rattle.uma_life.specs.Trail.{ShowsSame}

-- In each zone inits and finis are equal, and ctors and dtors, as counters of 64 bits show them.
pub record ArePaired (sums : TallySum) : Type 0 where
  pub stays : (zone : ℕ) → zone < 8 → ShowsSame (sum_of sums (ZoneInit zone)) (sum_of sums (ZoneFini zone))
  pub builds : (zone : ℕ) → zone < 8 → ShowsSame (sum_of sums (Ctor zone)) (sum_of sums (Dtor zone))
