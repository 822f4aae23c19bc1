use Rattle.std.proofs.Common.{◌≡◌, ◌++◌, take}
use Rattle.std.specs.List.{flat_map}
use Rattle.umarun.specs.Summary.{zone_summary}
use Rattle.umarun.proofs.summary.push_zones.Given as goal

-- the lines so far were appended
abbrev pub invariant-loop-line : goal.invariant-loop-line
invariant-loop-line l = l.text.items ≡ l.initial.text.items ++ flat_map zone_summary (take l.line-index l.lines)
