use Rattle.std.proofs.Common.{◌≡◌, ◌++◌, take}
use Rattle.std.specs.List.{flat_map}
use Rattle.trace_print.specs.CanonicalText.{zone_line}
use Rattle.trace_print.proofs.head.push_zones.Given as goal

-- the zones so far were appended
abbrev pub invariant-loop-zone : goal.invariant-loop-zone
invariant-loop-zone l = l.text.items ≡ l.initial.text.items ++ flat_map (zone_line l.zones) (take l.zone-index l.zones)
