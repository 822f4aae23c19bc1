-- What the lines below the header said so far, by the parts into which the `round` lines cut them (own).
use Rattle.std.specs.Prelude.{ℕ, ◌≡◌, List, [], ◌∷◌, ◌++◌, map, Vec, slice_index_or}
use Rattle.std.specs.List.{flat_map, range_with_len}
use Rattle.std.specs.declared.alloc.Global.{Global}
use Rattle.std.specs.declared.snapshot.Snapshot.{Snapshot}
use Rattle.trace_text.specs.declared.trace.Between.{Between}
use Rattle.trace_text.specs.declared.trace.Op.{Op}
use Rattle.trace_text.specs.declared.trace.Round.{Round}
use Rattle.trace_text.specs.declared.trace_reading.fields.Entry.{Entry}
use Rattle.trace_text.specs.declared.trace_reading.rounds.PartSoFar.{PartSoFar}
use Rattle.trace_text.specs.Grammar.{op_by, between_in}

-- the operations of this worker, of which there are none behind the last list
abbrev pub list_at : List (Vec Op Global) → ℕ → List Op
list_at lists worker = slice_index_or (map (λ (list : Vec Op Global). list.items) lists) worker []

-- what this worker does in a part
abbrev pub ops_at : ℕ → PartSoFar → List Op
ops_at worker part = list_at part.ops.items worker

-- what stands at the front of a part, between the round before it and its own
abbrev pub front_of : PartSoFar → List Between
front_of part = part.between.items

-- the part has one line more, which is no `round` line
pub record TakesLine (line : Entry) (old new : PartSoFar) : Type 0 where
  pub ops : (worker : ℕ) → ops_at worker new ≡ ops_at worker old ++ op_by worker line
  pub between : front_of new ≡ front_of old ++ between_in line

-- the part has the lines that it had
pub record StaysSame (old new : PartSoFar) : Type 0 where
  pub ops : (worker : ℕ) → ops_at worker new ≡ ops_at worker old
  pub between : front_of new ≡ front_of old

-- each part has what the lines say that are cut off at its place
pub record ArePartsOf (lines : List (List Entry)) (parts : List PartSoFar) : Type 0 where
  pub ops : (worker : ℕ) → map (ops_at worker) parts ≡ map (flat_map (op_by worker)) lines
  pub between : map front_of parts ≡ map (flat_map between_in) lines

-- the lists of so many workers
abbrev pub lists_for : ℕ → List (Vec Op Global) → List (List Op)
lists_for workers lists = map (list_at lists) (range_with_len 0 workers)

-- the rounds of a part with these lists and of the parts behind it
abbrev pub rounds_from : ℕ → List (Vec Op Global) → List PartSoFar → List Round
rounds_from workers lists [] = record { ops = lists_for workers lists; between = [] } ∷ []
rounds_from workers lists (next ∷ parts) =
    record { ops = lists_for workers lists; between = front_of next } ∷ rounds_from workers next.ops.items parts

abbrev pub rounds_by : ℕ → List PartSoFar → List Round
rounds_by workers [] = []
rounds_by workers (part ∷ parts) = rounds_from workers part.ops.items parts

-- the line that was taken in
abbrev pub shown : Snapshot Entry → Entry
shown line = line.value
