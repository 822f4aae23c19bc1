-- Own: the cause of a refusal, as a book of fails lists it.
use Rattle.std.specs.Prelude.{ℕ}
use Rattle.zone_stats.specs.declared.refusal.Refusal.{Refusal}
use Rattle.zone_stats.specs.declared.refusal.Refusal.TheVariants.{AtLimit, Reserved, Full, Init, Ctor}

-- The kind of a refusal, and its numbers in order, 0 where there is none. A fetch is refused with the kinds 1 to 4; kind 5 never comes to a keg.
abbrev pub cause_of : Refusal → ℕ × ℕ × ℕ
cause_of (AtLimit out limit) = (1, out, limit)
cause_of (Reserved free reserve) = (2, free, reserve)
cause_of (Full slabs made) = (3, slabs, made)
cause_of (Init code) = (4, code, 0)
cause_of (Ctor code) = (5, code, 0)
