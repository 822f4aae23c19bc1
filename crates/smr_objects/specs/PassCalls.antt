-- What a pass gives to a call on a cell, and what the call leaves as it was.
use Rattle.std.specs.Prelude.{◌≡◌, ℕ, ◌<◌, Some, None}
use Rattle.smr_core.specs.declared.holder.Phase.TheVariants as phase
use Rattle.smr_clock.specs.declared.clock.Clock.{Clock}
use Rattle.smr_clock.specs.declared.host.Host.{Ghosts}
use Rattle.smr_clock.specs.declared.pass.Pass.{Pass}
use Rattle.smr_clock.specs.Belongs.{IsPassOf, view, holder, setup_of}
use Rattle.smr_clock.specs.HostSteps.{with_host}
use Rattle.smr_objects.specs.declared.objects.Objects.{Objects}
use Rattle.smr_objects.specs.declared.objects.Part.{Part}
use Rattle.smr_objects.specs.Belongs.{IsObjectsClock, HasSlot}
use Rattle.smr_objects.specs.Reading.{HoldsSlot}
use Rattle.smr_objects.specs.Steps.{looked_at, held_slot}

module _ {g : Ghosts Objects Part} where
  -- The pass is inside a section, and there is a cell of this number.
  pub record MayLook (clock : Clock Objects Part) (pass : Pass Objects Part g) (cell : ℕ) : Type 0 where
    pub here : IsPassOf clock pass
    pub objects : IsObjectsClock clock
    pub inside : (holder pass).phase ≡ phase.Inside
    pub below : cell < (setup_of clock).plan.0

  -- There is a slot of this number in a cell of this number.
  pub record MayRead (clock : Clock Objects Part) (pass : Pass Objects Part g) (cell at : ℕ) : Type 0 where
    pub here : IsPassOf clock pass
    pub slot : HasSlot clock cell at

  -- The pass's last look at the cell found this slot, in its section, and it holds nothing else of the cell.
  pub record MayHold (clock : Clock Objects Part) (pass : Pass Objects Part g) (cell slot : ℕ) : Type 0 where
    pub here : IsPassOf clock pass
    pub objects : IsObjectsClock clock
    pub inside : (holder pass).phase ≡ phase.Inside
    pub cell_below : cell < (setup_of clock).plan.0
    pub slot_below : slot < (setup_of clock).plan.1
    pub looked : looked_at cell (view pass).host.looks ≡ Some (slot, (holder pass).mark)
    pub free : held_slot cell (view pass).host.holds ≡ None

  -- the pass holds this slot of this cell
  pub record HasHold (clock : Clock Objects Part) (pass : Pass Objects Part g) (cell slot : ℕ) : Type 0 where
    pub here : IsPassOf clock pass
    pub objects : IsObjectsClock clock
    pub holds : HoldsSlot (view pass) cell slot

  -- ---- what stays

  -- all that the pass knows
  pub record KeepsPass (clock : Clock Objects Part) (old new : Pass Objects Part g) : Type 0 where
    pub here : IsPassOf clock new
    pub same : view new ≡ view old

  -- all but what it has of cells, which is this now
  pub record KeepsButPart (clock : Clock Objects Part) (old new : Pass Objects Part g) (part : Part) : Type 0 where
    pub here : IsPassOf clock new
    pub holds : view new ≡ with_host (view old) part
