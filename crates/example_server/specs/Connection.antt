-- Own: which peers a connection refuses.
use Rattle.std.specs.Prelude.{ℕ, ◌==◌, cond, Option, Some, None}

-- peer 0 is nobody, and is refused with code 1
abbrev pub bars : ℕ → Option ℕ
bars peer = cond (peer == 0) (Some 1) None
