-- What the calls of a reader ask, and what they leave.
use Rattle.std.specs.Prelude.{◌≡◌, ℕ, ◌%◌, ◌<◌}
use Rattle.smr_core.specs.declared.holder.Phase.{Phase}
use Rattle.smr_clock.specs.declared.clock.Clock.{Clock}
use Rattle.smr_clock.specs.declared.clock.Setup.{Setup}
use Rattle.smr_clock.specs.Belongs.{IsPassOf, view, holder, setup_of}
use Rattle.name_rows.specs.declared.names.Names.{Names}
use Rattle.name_rows.specs.declared.names.Part.{Part}
use Rattle.name_rows.specs.declared.names.Bound.{Bound}
use Rattle.name_rows.specs.Belongs.{IsNamesClock}
use Rattle.name_rows.specs.Reading.{HoldsOpen}
use Rattle.name_rows.specs.Types.{NamesPass}

-- the pass is of this clock, which is one of names, and is inside a section
pub record CanFind (clock : Clock Names Part) (pass : NamesPass) : Type 0 where
  pub here : IsPassOf clock pass
  pub names : IsNamesClock clock
  pub inside : (holder pass).phase ≡ Phase.Inside

-- so it is, and the clock has this row
pub record CanLoadRow (clock : Clock Names Part) (pass : NamesPass) (number : ℕ) : Type 0 where
  pub here : IsPassOf clock pass
  pub names : IsNamesClock clock
  pub inside : (holder pass).phase ≡ Phase.Inside
  pub row : number < (setup_of clock).plan.0

-- the pass is of this clock, which is one of names and has this entry
pub record CanLoadEntry (clock : Clock Names Part) (pass : NamesPass) (number : ℕ) : Type 0 where
  pub here : IsPassOf clock pass
  pub names : IsNamesClock clock
  pub entry : number < (setup_of clock).plan.1

-- One word of an entry was loaded, and the pass is as it was. Where it is in the section in which it loaded a record of this entry, what was found is the record's.
pub record LoadsEntry (word : Bound → ℕ) (clock : Clock Names Part) (old : NamesPass) (number found : ℕ) (new : NamesPass) : Type 0 where
  pub here : IsPassOf clock new
  pub same : view new ≡ view old
  pub held : (b : Bound) → HoldsOpen (view old) b → b.entry ≡ number → found ≡ word b

-- this is the row of the key, which is one of the plan
pub record IsRowOfKey (a : Setup) (key number : ℕ) : Type 0 where
  pub row : number ≡ key % a.plan.0
  pub below : number < a.plan.0
