-- The parts of a round (own): its workers' lists, and the lines between it and the next. A round past the last one has none.
use Rattle.std.specs.Prelude.{ℕ, ◌<◌, ◌≤◌, List, [], slice_get}
use Rattle.std.specs.Option.{option_map_or}
use Rattle.trace_text.specs.declared.trace.Between.{Between}
use Rattle.trace_text.specs.declared.trace.Between.TheVariants.{Give, SetMax}
use Rattle.trace_text.specs.declared.trace.Op.{Op}
use Rattle.trace_text.specs.declared.trace.Round.{Round}
use Rattle.trace_text.specs.Limits.{last_slot}
use Rattle.trace_text.specs.Lines.{Line, worker_lines}
use Rattle.replay_worker.specs.OwnLines.{stacked, lines_before}

-- the lists of operations of round `k`, in order of workers
abbrev pub lists_of : List Round → ℕ → List (List Op)
lists_of rounds k = option_map_or (λ (r : Round). r.ops) (slice_get rounds k) []

-- what worker `n` does in a round
abbrev pub ops_in : Round → ℕ → List Op
ops_in r n = option_map_or (λ ops. ops) (slice_get r.ops n) []

-- the lines between round `k` and the next
abbrev pub betweens_of : List Round → ℕ → List Between
betweens_of rounds k = option_map_or (λ (r : Round). r.between) (slice_get rounds k) []

-- the lines up to the last one of round `k`'s workers
abbrev pub after_workers : List Round → ℕ → List Line
after_workers rounds k = stacked (worker_lines 0 (lists_of rounds k)) (lines_before rounds k)

-- giver and taker are among so many workers, and the taker has such a slot; the zone is among so many, and may have such a limit
abbrev pub IsAmong : ℕ → ℕ → Between → Type 0
IsAmong workers zones (Give giver slot taker slot2) = (giver < workers) × (taker < workers) × (slot2 ≤ last_slot)
IsAmong workers zones (SetMax zone limit) = (zone < zones) × (limit ≤ 1000000)
