-- What a worker's counts of sections have to do with the lines so far, of which the last one comes first (own).
use Rattle.std.specs.Prelude.{◌≡◌, ◌≤◌, ◌+◌, ℕ, true, List}
use Rattle.smr_core.specs.declared.holder.Phase.{Phase}
use Rattle.smr_core.specs.declared.holder.Phase.TheVariants.{Inside}
use Rattle.trace_text.specs.Lines.{Line}
use Rattle.trace_text.specs.Reading.{in_section}
use Rattle.replay_worker.specs.Counting.{sections, looks}

-- A look that comes after a late enter wants a section of its own, though the reading says that one is open. So once an enter was late there may be more entries than the reading wants.
pub record EntriesStand (n : ℕ) (lines : List Line) (entered late : ℕ) (phase : Phase) : Type 0 where
  -- each section that the lines want was entered, or was late
  pub enough : sections n lines ≤ entered + late
  -- where none was late there were no more
  pub in_time : late ≡ 0 → entered ≡ sections n lines
  -- a line enters once at most
  pub most : entered + late ≤ sections n lines + looks n lines
  -- where none was late, the pass is in a section where the reading says so
  pub inside : late ≡ 0 → in_section lines n ≡ true → phase ≡ Inside
