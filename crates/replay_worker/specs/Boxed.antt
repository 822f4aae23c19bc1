-- What lies in the box of a slot.
use Rattle.std.specs.Prelude.{Option, Some, None}
use Rattle.std.specs.declared.boxed.Box.{Box}
use Rattle.replay_worker.specs.declared.worker.Held.{Held}

abbrev pub unboxed : {A : Type 0} → Option (Box Held A) → Option Held
unboxed None = None
unboxed (Some box) = Some box.value
