-- The six hooks of an item, those of FreeBSD's uma(9): a keg's init and fini, a secondary zone's zinit and zfini, and ctor and dtor. Zone 0 of a keg is its primary zone, which has no zone_init and no zone_fini.
use Rattle.std.specs.Prelude.{◌≡◌, ◌≤◌, ◌<◌, ◌+◌, ◌%◌, ◌^◌, ℕ, ◌==◌, cond, slice_index_or, slice_set}
use Rattle.uma_life.specs.declared.tally.BodyPhase.{BodyPhase}
use Rattle.uma_life.specs.declared.tally.BodyPhase.TheVariants.{Raw, Kept, Zoned, Built, Gone}
use Rattle.uma_life.specs.declared.tally.ZoneTally.{ZoneTally}
use Rattle.uma_life.specs.declared.tally.Tally.{Tally}
use Rattle.uma_life.specs.Life.{Life, no_counts}

-- a hook, with the number of its zone
pub data Hook : Type 0 where
  KegInit : Hook
  ZoneInit : ℕ → Hook
  Ctor : ℕ → Hook
  Dtor : ℕ → Hook
  ZoneFini : ℕ → Hook
  KegFini : Hook

-- the phase of an item that is in a zone and not built: Kept for zone 0
abbrev pub base_phase : ℕ → BodyPhase
base_phase zone = cond (zone == 0) Kept (Zoned zone)

-- the phase that a hook goes from
abbrev pub first_phase : Hook → BodyPhase
first_phase KegInit = Raw
first_phase (ZoneInit zone) = Kept
first_phase (Ctor zone) = base_phase zone
first_phase (Dtor zone) = Built zone
first_phase (ZoneFini zone) = Zoned zone
first_phase KegFini = Kept

-- the phase that a hook goes to
abbrev pub last_phase : Hook → BodyPhase
last_phase KegInit = Kept
last_phase (ZoneInit zone) = Zoned zone
last_phase (Ctor zone) = Built zone
last_phase (Dtor zone) = base_phase zone
last_phase (ZoneFini zone) = Kept
last_phase KegFini = Gone

-- the zones that a hook is of: ctor and dtor of all eight, zone_init and zone_fini of those from 1 to 7
abbrev pub HasItsZone : Hook → Type 0
HasItsZone (ZoneInit zone) = (1 ≤ zone) × (zone < 8)
HasItsZone (Ctor zone) = zone < 8
HasItsZone (Dtor zone) = zone < 8
HasItsZone (ZoneFini zone) = (1 ≤ zone) × (zone < 8)
HasItsZone _ = Unit {0}

-- the counts of a zone
abbrev pub counts_of : Tally → ℕ → ZoneTally
counts_of tally zone = slice_index_or tally.zones zone no_counts

abbrev pub with_counts : Tally → ℕ → ZoneTally → Tally
with_counts tally zone counts = record tally { zones = slice_set tally.zones zone counts }

-- a count raised by one, from 2^64 - 1 to 0
abbrev pub raised : ℕ → ℕ
raised count = (count + 1) % 2 ^ 64

-- a tally after a hook: the hook's one count is raised
abbrev pub tally_after : Hook → Tally → Tally
tally_after KegInit tally = record tally { keg_inits = raised tally.keg_inits }
tally_after (ZoneInit zone) tally = let counts = counts_of tally zone in with_counts tally zone (record counts { inits = raised counts.inits })
tally_after (Ctor zone) tally = let counts = counts_of tally zone in with_counts tally zone (record counts { ctors = raised counts.ctors })
tally_after (Dtor zone) tally = let counts = counts_of tally zone in with_counts tally zone (record counts { dtors = raised counts.dtors })
tally_after (ZoneFini zone) tally = let counts = counts_of tally zone in with_counts tally zone (record counts { finis = raised counts.finis })
tally_after KegFini tally = record tally { keg_finis = raised tally.keg_finis }

-- what a hook needs
pub record MayPass (hook : Hook) (life : Life) : Type 0 where
  pub zone : HasItsZone hook
  pub phase : life.phase ≡ first_phase hook

-- what a hook does: the number is kept
abbrev pub after : Hook → Life → Life
after hook life = record { no = life.no; phase = last_phase hook; tally = tally_after hook life.tally }

-- a hook refuses with a code from 1 to 255
abbrev pub IsCode : ℕ → Type 0
IsCode code = (1 ≤ code) × (code ≤ 255)
