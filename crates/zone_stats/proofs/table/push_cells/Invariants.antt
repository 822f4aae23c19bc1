use Rattle.std.proofs.Common.{◌≡◌, ◌++◌, ◌∷◌, take, decimal}
use Rattle.std.specs.List.{flat_map}
use Rattle.zone_stats.specs.ReportText.{padded_right}
use Rattle.zone_stats.proofs.table.push_cells.Given as goal

-- the cells so far were appended
abbrev pub invariant-loop-number : goal.invariant-loop-number
invariant-loop-number l = l.text.items
    ≡ l.initial.text.items ++ flat_map (λ cell. 32 ∷ padded_right cell.1 (decimal cell.0)) (take l.number-index l.cells)
