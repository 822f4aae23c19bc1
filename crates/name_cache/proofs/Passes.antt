-- What a pass keeps by one call after another.
use Rattle.std.proofs.Common.{◌≤◌, ◌∙◌, arith}
use Rattle.smr_clock.specs.declared.clock.Clock.{Clock}
use Rattle.smr_clock.specs.Belongs.{holder, view}
use Rattle.uma_seat.specs.Seat.{IsSameSeat}
use Rattle.uma_zone.specs.Frames.{GoesOn, KeepsPass}
use Rattle.name_rows.specs.declared.names.Names.{Names}
use Rattle.name_rows.specs.declared.names.Part.{Part}
use Rattle.name_cache.specs.Frames.{KeepsKnown}
use Rattle.name_cache.specs.Types.{EntrySeat, NamesPass}
use Rattle.name_cache.proofs.Telling.{still_then, still_host}

module _ (clock : Clock Names Part) (one two three : NamesPass) where
  pub goes_on_then : GoesOn clock one two → GoesOn clock two three → GoesOn clock one three
  goes_on_then first second =
      let low : (holder one).seen ≤ (holder two).seen = first.seen in
      let lower : (holder two).seen ≤ (holder three).seen = second.seen in
      record { own = second.own; phase = second.phase ∙ first.phase; seen = omega (arith, low, lower) }

  pub known_then : KeepsKnown clock one two → KeepsKnown clock two three → KeepsKnown clock one three
  known_then first second = record {
    goes_on = goes_on_then first.goes_on second.goes_on;
    still = still_then (view one) (view two) (view three) first.still second.still;
  }

-- what a pass with the same host part knew it still knows
pub known_host : (clock : Clock Names Part) (one two : NamesPass) → KeepsPass clock one two → KeepsKnown clock one two
known_host clock one two kept = record { goes_on = kept.goes_on; still = still_host (view one) (view two) kept.host }

pub same_then : (one two three : EntrySeat) → IsSameSeat one two → IsSameSeat two three → IsSameSeat one three
same_then one two three first second = (second.0 ∙ first.0, second.1 ∙ first.1)
