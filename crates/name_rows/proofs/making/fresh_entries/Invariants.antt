use Rattle.std.proofs.Common.{◌≡◌, ℕ, ◌<◌, length, Some, None}
use Rattle.std.specs.Prelude.{slice_index_or}
use Rattle.name_rows.specs.Records.{fresh_entry}
use Rattle.name_rows.proofs.making.fresh_entries.Given as goal

abbrev pub invariant-loop-entry : goal.invariant-loop-entry
invariant-loop-entry l = record { long : length l.kept.items ≡ l.entry; fresh : (n : ℕ) → n < l.entry → slice_index_or l.kept.items n None ≡ Some (fresh_entry n) }
