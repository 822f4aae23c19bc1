-- What contracts see of a clock of names.
use Rattle.std.specs.Prelude.{ℕ, ◌≤◌, ◌<◌}
use Rattle.smr_clock.specs.declared.clock.Setup.{Setup}
use Rattle.smr_clock.specs.declared.clock.Clock.{Clock}
use Rattle.smr_clock.specs.Belongs.{table_of, setup_of}
use Rattle.name_rows.specs.Records.{key_place}
use Rattle.name_rows.specs.NamesLaw.{IsPlan}

-- the counts are in range, and there is a word for each
pub record FitsNames (a : Setup) (words : ℕ) : Type 0 where
  pub seats : a.config.seats ≤ 64
  pub plan : IsPlan a.plan.0 a.plan.1
  pub room : key_place a a.plan.1 ≤ words

module _ {H P : Type 0} where
  abbrev pub IsNamesClock : Clock H P → Type 0
  IsNamesClock clock = FitsNames (setup_of clock) (table_of clock).words

  -- the clock is one of names, and has this row
  pub record HasRow (clock : Clock H P) (number : ℕ) : Type 0 where
    pub names : IsNamesClock clock
    pub row : number < (setup_of clock).plan.0

  -- the clock is one of names, and has this entry
  pub record HasEntry (clock : Clock H P) (number : ℕ) : Type 0 where
    pub names : IsNamesClock clock
    pub entry : number < (setup_of clock).plan.1
