-- What a look at a cell comes to.
use Rattle.std.specs.Prelude.{◌≡◌, ℕ, ◌^◌, ◌<◌, ◌≤◌}
use Rattle.smr_clock.specs.declared.view.View.{View}
use Rattle.smr_clock.specs.HostSteps.{with_host}
use Rattle.smr_objects.specs.declared.cell.Record.{Record}
use Rattle.smr_objects.specs.declared.objects.Part.{Part}
use Rattle.smr_objects.specs.Steps.{NoneKnown, IsNewest, looking, finding_none}
use Rattle.smr_hold.specs.declared.found.Look.{Look}

-- The cell's word had no record: the pass knew none of the cell, and has found none.
pub record FindsNone (v : View Part) (cell : ℕ) (v' : View Part) : Type 0 where
  pub unknown : NoneKnown v.host.known cell
  pub after : v' ≡ with_host v (finding_none cell v.host)

-- The cell's word had this record, which is not older than any that the pass knew of the cell. The pass knows it from then on, and has looked at it in its section.
pub record Looks (v : View Part) (cell : ℕ) (look : Look) (v' : View Part) : Type 0 where
  pub last : Record
  pub of_cell : last.cell ≡ cell
  pub newest : IsNewest v.host.known last
  pub value : look.value ≡ last.value
  pub version : look.version ≡ last.version
  pub slot : look.slot ≡ last.slot
  pub some : 1 ≤ look.version
  pub low : look.version < 2 ^ 44
  pub below : look.slot < v.setup.plan.1
  pub after : v' ≡ with_host v (looking v last)
