-- When a core, or a clock, is refused: the first test that fails, in this order.
use Rattle.std.specs.Prelude.{◌≡◌, ℕ, ◌%◌, ◌^◌, ◌<◌, ◌≤◌, ◌⊎◌}
use Rattle.smr_core.specs.declared.clock_core.ClockConfig.{ClockConfig}
use Rattle.smr_core.specs.declared.clock_core.CoreRefused.{CoreRefused}
use Rattle.smr_core.specs.declared.clock_core.CoreRefused.TheVariants.{Seats, Even, High, Window, Memory}
use Rattle.smr_core.specs.ClockState.{IsOdd, IsInRange}

abbrev pub IsSeatCount : ℕ → Type 0
IsSeatCount seats = (1 ≤ seats) × (seats ≤ 64)

-- these numbers are refused so; want of memory comes only where they are in range
abbrev pub RefusesNumbers : ClockConfig → CoreRefused → Type 0
RefusesNumbers a (Seats seats) = (seats ≡ a.seats) × ((a.seats < 1) ⊎ (64 < a.seats))
RefusesNumbers a (Even start) = (start ≡ a.start) × IsSeatCount a.seats × (a.start % 2 ≡ 0)
RefusesNumbers a (High start) = (start ≡ a.start) × IsSeatCount a.seats × IsOdd a.start × (2 ^ 63 ≤ a.start)
RefusesNumbers a (Window window) =
    (window ≡ a.window) × IsSeatCount a.seats × IsOdd a.start × (a.start < 2 ^ 63) × ((a.window % 2 ≡ 1) ⊎ (a.window < 4) ⊎ (2 ^ 30 < a.window))
RefusesNumbers a Memory = IsInRange a

-- made of these numbers, which are in range
pub record IsMadeWith (a config : ClockConfig) : Type 0 where
  pub made : config ≡ a
  pub in_range : IsInRange config
