-- Own: where a reader's pass stands between two calls.
use Rattle.std.specs.Prelude.{Bool, true, false}
use Rattle.smr_core.specs.declared.holder.Phase.{Phase}
use Rattle.smr_core.specs.declared.holder.Phase.TheVariants.{Outside, Inside}

-- outside of any section, or in one whose guard was forgotten
abbrev pub is_settled : Phase → Bool
is_settled Outside = true
is_settled Inside = true
is_settled _ = false
