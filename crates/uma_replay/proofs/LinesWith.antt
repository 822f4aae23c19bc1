-- The lines of zones, by other words for the same limits.
use Rattle.std.proofs.Common.{◌≡◌, ℕ, List, Some, ap, ◌∙◌}
use Rattle.std.specs.Prelude.{slice_get}
use Rattle.trace_text.specs.declared.trace.ZoneHead.{ZoneHead}
use Rattle.uma_keg.specs.declared.census.Census.{Census}
use Rattle.zone_stats.specs.declared.ledger.SeatLedger.{SeatLedger}
use Rattle.zone_stats.specs.declared.report.ZoneLine.{ZoneLine}
use Rattle.uma_replay.specs.Reporting.{AreLines, line_of}

pub lines_with : (heads : List ZoneHead) (shown last : ℕ → ZoneHead → ℕ) (ledgers : List (List SeatLedger)) (censuses : List Census) (lines : List ZoneLine)
    → ((z : ℕ) (head : ZoneHead) → slice_get heads z ≡ Some head → shown z head ≡ last z head) → AreLines heads shown ledgers censuses lines → AreLines heads last ledgers censuses lines
lines_with heads shown last ledgers censuses lines same are = record {
  count = are.count;
  each = λ z line at head own census at_head at_own at_census.
      are.each z line at head own census at_head at_own at_census ∙ ap (λ (limit : ℕ). line_of heads z head limit own census) (same z head at_head);
}
