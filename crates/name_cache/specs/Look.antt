-- Own: how a look ends.
use Rattle.std.specs.Prelude.{ℕ, ◌≡◌, Option}
use Rattle.smr_clock.specs.declared.view.View.{View}
use Rattle.smr_clock.specs.Sections.{Enters}
use Rattle.smr_clock.specs.Steps.{clearing}
use Rattle.name_rows.specs.declared.names.Part.{Part}
use Rattle.name_rows.specs.Reading.{Finds}

-- The pass entered a section, looked the key up there, and left it.
pub record Looks (key : ℕ) (v : View Part) (found : Option ℕ) (v' : View Part) : Type 0 where
  pub inside : View Part
  pub enters : Enters v inside
  pub looked : View Part
  pub finds : Finds inside looked key found
  pub left : v' ≡ clearing looked
