-- The one thing for which a cache of a valid trace isn't made (own).
use Rattle.std.specs.Prelude.{◌≡◌}
use Rattle.smr_core.specs.declared.clock_core.CoreRefused.TheVariants as core
use Rattle.name_rows.specs.declared.making.NamesRefused.{NamesRefused}
use Rattle.name_rows.specs.declared.making.NamesRefused.TheVariants.{Clock, Memory}
use Rattle.uma_zone.specs.declared.zone.make.ZoneRefused.{ZoneRefused}
use Rattle.uma_zone.specs.declared.zone.make.ZoneRefused.TheVariants as zones

-- memory was wanting, for the clock or for the rest
abbrev pub LacksMemory : NamesRefused → Type 0
LacksMemory Memory = Unit {0}
LacksMemory (Clock refused) = refused ≡ core.Memory
LacksMemory refused = ⊥

abbrev pub lacking : ZoneRefused
lacking = zones.Memory
