-- What contracts see of a vacancy.
use Rattle.std.specs.Prelude.{◌≡◌}
use Rattle.atomic_table.specs.Seated.{TableId}
use Rattle.smr_clock.specs.declared.clock.Setup.{Setup}
use Rattle.smr_clock.specs.declared.view.View.{View}
use Rattle.smr_clock.specs.declared.host.Host.{Ghosts}
use Rattle.smr_clock.specs.declared.clock.Clock.{Clock}
use Rattle.smr_clock.specs.declared.pass.Vacancy.{Vacancy}
use Rattle.smr_clock.specs.Belongs.{clock_id}

module _ {H P : Type 0} {g : Ghosts H P} where
  -- what the vacancy knows
  abbrev pub vacancy_knows : Vacancy H P g → View P
  vacancy_knows vacancy = vacancy.seat.me.0

  -- which clock the vacancy is of, and the numbers that it has
  abbrev pub vacancy_clock : Vacancy H P g → TableId × Setup
  vacancy_clock vacancy = (vacancy.seat.table_id, vacancy.seat.me.0.setup)

  -- the vacancy is of this clock, and has its numbers
  abbrev pub IsVacancyOf : Clock H P → Vacancy H P g → Type 0
  IsVacancyOf clock vacancy = vacancy_clock vacancy ≡ clock_id clock
