-- What a head that fits says of each of its zone lines.
use Rattle.std.proofs.Common.{◌≡◌, ℕ, ◌+◌, ◌<◌, List, Option, None, Some, sym, ap, ◌∙◌, subst, length, take}
use Rattle.std.specs.Prelude.{IfSome, slice_get}
use Rattle.trace_text.specs.declared.trace.Head.{Head}
use Rattle.trace_text.specs.declared.trace.ZoneHead.{ZoneHead}
use Rattle.trace_text.specs.Valid.{HeadFits, ZoneFits, KegFits, SecondaryFits, sharer_count}
use Rattle.replay_rounds.proofs.KegLists.{Earlier, at_of_take, count_parent, count_take, take_next}
use Rattle.replay_rounds.proofs.Lists.{less_than_eight}

pub line_fits : (h : Head) (place : ℕ) (line : ZoneHead) → HeadFits h → slice_get h.zones place ≡ Some line → ZoneFits h place line
line_fits h place line fits at = subst (λ (o : Option ZoneHead). IfSome o (ZoneFits h place)) at (fits.zones place)

pub secondary_fits : (h : Head) (place : ℕ) (line : ZoneHead) (parent : ℕ) → HeadFits h → slice_get h.zones place ≡ Some line → line.parent ≡ Some parent → SecondaryFits h.zones place parent line
secondary_fits h place line parent fits at is = subst (λ (o : Option ℕ). KegFits h.zones place o line) is (line_fits h place line fits at).keg

pub earlier_lines : (h : Head) (count : ℕ) → HeadFits h → Earlier (take count h.zones)
earlier_lines h count fits = λ z line parent at is. (secondary_fits h z line parent fits (at_of_take count h.zones z line at) is).earlier

-- what a secondary zone's line has of its parent's
abbrev pub IsAlike : ZoneHead → ZoneHead → Type 0
IsAlike line primary = (primary.parent ≡ None) × (line.size ≡ primary.size) × (line.slabs ≡ primary.slabs) × (line.reserve ≡ primary.reserve)

pub alike_of : (h : Head) (place : ℕ) (line : ZoneHead) (parent : ℕ) (primary : ZoneHead) → HeadFits h → slice_get h.zones place ≡ Some line → line.parent ≡ Some parent → slice_get h.zones parent ≡ Some primary → IsAlike line primary
alike_of h place line parent primary fits at is at_primary =
    subst (λ (o : Option ZoneHead). IfSome o (IsAlike line)) at_primary (secondary_fits h place line parent fits at is).shares

-- before a secondary zone's line fewer than seven share its keg
pub few_sharers : (h : Head) (place : ℕ) (line : ZoneHead) (parent : ℕ) → HeadFits h → slice_get h.zones place ≡ Some line → line.parent ≡ Some parent → parent < length h.zones
    → sharer_count (take place h.zones) parent + 1 < 8
few_sharers h place line parent fits at is below =
    less_than_eight (sym (count_parent (take place h.zones) line parent is) ∙ ap (λ (lines : List ZoneHead). sharer_count lines parent) (sym (take_next h.zones place line at)))
    (count_take h.zones (place + 1) parent) (fits.most_of_a_keg parent below)
