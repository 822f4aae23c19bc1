-- Own: why an item isn't brought in.
use Rattle.std.specs.Prelude.{ℕ}
use Rattle.uma_life.specs.declared.hooks.BringRefused.{BringRefused}
use Rattle.uma_life.specs.declared.hooks.BringRefused.TheVariants.{Init, Memory}
use Rattle.uma_life.specs.Hook.{IsCode}

-- a body was refused with a code, or there was no memory
abbrev pub RefusesToBring : (ℕ → Type 0) → BringRefused → Type 0
RefusesToBring RefusesABody (Init code) = RefusesABody code × IsCode code
RefusesToBring RefusesABody Memory = Unit {0}
