-- What is known of the lines below the header of a right text.
use Rattle.std.proofs.Common.{◌≡◌, ◌<◌, List, [], ◌∷◌, Bool, true, false}
use Rattle.trace_text.specs.declared.trace.Head.{Head}
use Rattle.trace_text.specs.declared.trace_reading.fields.Entry.{Entry}
use Rattle.trace_text.specs.declared.trace_reading.fields.Entry.TheVariants as entries
use Rattle.trace_text.specs.declared.trace.Version.{Version}
use Rattle.trace_text.specs.Lines.{Line, Does, Moves}
use Rattle.trace_text.specs.Valid.{OpFits, BetweenFits, IsKnown, IsKnownOp}

-- the line that it is, if it is more than a `round` line
abbrev pub entry_line : Entry → List Line
entry_line (entries.Does w op) = Does w op ∷ []
entry_line (entries.Moves between) = Moves between ∷ []
entry_line entries.Round = []

-- its own numbers are in their ranges, and what it names is there
abbrev pub FitsHead : Head → Entry → Type 0
FitsHead h (entries.Does w op) = (w < h.workers) × OpFits h op
FitsHead h (entries.Moves between) = BetweenFits h between
FitsHead h entries.Round = Unit {0}

-- the version has such a line
abbrev pub HasEntry : Version → Entry → Type 0
HasEntry version (entries.Does w op) = IsKnownOp version op
HasEntry version (entries.Moves between) = IsKnown version (Moves between)
HasEntry version entries.Round = Unit {0}

-- A line between two rounds stands behind a `round` line, with only such lines between the two. The truth value says that so it is at the beginning.
abbrev pub BetweensStand : Bool → List Entry → Type 0
BetweensStand begun [] = Unit {0}
BetweensStand begun (entries.Does w op ∷ more) = BetweensStand false more
BetweensStand begun (entries.Moves between ∷ more) = (begun ≡ true) × BetweensStand true more
BetweensStand begun (entries.Round ∷ more) = BetweensStand true more
