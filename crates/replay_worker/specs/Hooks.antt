-- What the hooks of a replay refuse (own).
use Rattle.std.specs.Prelude.{ℕ, ◌==◌, ◌||◌, nat_lt, cond, Option, Some, None}

-- the code with which `ctor` refuses an argument: the argument itself, from 1 to 254
abbrev pub refusal_of : ℕ → Option ℕ
refusal_of arg = cond ((arg == 0) || nat_lt 254 arg) None (Some arg)
