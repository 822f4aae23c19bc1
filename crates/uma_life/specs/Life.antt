-- Own: what a body says of its item.
use Rattle.std.specs.Prelude.{ℕ, replicate}
use Rattle.uma_life.specs.declared.tally.BodyPhase.{BodyPhase}
use Rattle.uma_life.specs.declared.tally.BodyPhase.TheVariants.{Raw}
use Rattle.uma_life.specs.declared.tally.ZoneTally.{ZoneTally}
use Rattle.uma_life.specs.declared.tally.Tally.{Tally}

-- the item's number, where it stands in its life, and how often it passed each hook
pub record Life : Type 0 where
  pub no : ℕ
  pub phase : BodyPhase
  pub tally : Tally

abbrev pub no_counts : ZoneTally
no_counts = record { inits = 0; ctors = 0; dtors = 0; finis = 0 }

-- the tally of a body that passed no hook
abbrev pub no_tally : Tally
no_tally = record { keg_inits = 0; keg_finis = 0; zones = replicate 8 no_counts }

-- the life of a body that was just made
abbrev pub raw_life : ℕ → Life
raw_life number = record { no = number; phase = Raw; tally = no_tally }
