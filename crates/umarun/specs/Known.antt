-- Which record of a row of names a pass knows (own).
use Rattle.std.specs.Prelude.{◌≡◌, ℕ, List, Option, map}
use Rattle.smr_clock.specs.declared.view.View.{View}
use Rattle.name_rows.specs.declared.names.Part.{Part}
use Rattle.name_rows.specs.declared.names.Record.{Record}
use Rattle.name_rows.specs.Records.{In, pair_of}
use Rattle.name_cache.specs.Known.{known_in}
use Rattle.replay_worker.specs.Knowing.{Told}

-- It knows a record of this row, with this version, which binds this.
pub record KnowsRecord (v : View Part) (row version : ℕ) (bound : Option (ℕ × ℕ)) : Type 0 where
  pub at : Record
  pub knows : In at (known_in v)
  pub of_row : at.row ≡ row
  pub numbered : at.version ≡ version
  pub binds : pair_of at.content ≡ bound

-- a record, as lines of names see it
abbrev pub as_told : Record → Told
as_told r = (r.row, r.version, pair_of r.content)

-- The records that it loaded or was told of. A load of a row's word puts the row's record in front of them, and so does a note that tells of it.
abbrev pub told_by : Part → List Told
told_by part = map as_told part.known

abbrev pub told_in : View Part → List Told
told_in v = told_by v.host
