-- What is told of a trace that is being made (own).
use Rattle.std.specs.Prelude.{ℕ, ◌<◌, List, ◌++◌, map, false}
use Rattle.std.specs.List.{slice_split}
use Rattle.trace_text.specs.declared.trace.Op.{Op}
use Rattle.trace_text.specs.declared.trace.Op.TheVariants.{Alloc, Free, Bind}
use Rattle.trace_text.specs.declared.trace.Round.{Round}
use Rattle.trace_text.specs.declared.trace_reading.fields.Entry.{Entry}
use Rattle.trace_text.specs.declared.trace_reading.fields.Entry.TheVariants as entries
use Rattle.trace_text.specs.Grammar.{is_round, rounds_in}
use Rattle.trace_text.proofs.TraceParts.{BetweensStand}
use Rattle.trace_gen.specs.declared.generator.Did.{Did}

-- an operation that may be done where so many binds were made
abbrev pub MayBeDrawn : ℕ → Op → Type 0
MayBeDrawn binds (Alloc zone slot arg reserve) = slot < 256
MayBeDrawn binds (Free slot) = slot < 256
MayBeDrawn binds (Bind key value) = binds < 3000
MayBeDrawn binds op = Unit {0}

-- the line of what a worker did
abbrev pub did_entry : Did → Entry
did_entry did = entries.Does did.worker did.op

-- Lines that may stand behind what a step drew: each line of theirs between two rounds is behind a `round` line of theirs.
abbrev pub StandAlone : List Entry → Type 0
StandAlone lines = BetweensStand false lines

-- the rounds, where `rounds` are ended, `part` is of the next one, and `rest` are the lines behind it
abbrev pub rounds_with : ℕ → List Round → List Did → List Entry → List Round
rounds_with workers rounds part rest = rounds ++ rounds_in workers (slice_split is_round (map did_entry part ++ rest))
