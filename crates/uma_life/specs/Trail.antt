-- The life trail of an item: how its phase and its counts agree. That inits and finis, and ctors and dtors, come in pairs is the rule of FreeBSD's uma(9); the counts are own.
use Rattle.std.specs.Prelude.{◌≡◌, ◌<◌, ◌+◌, ◌%◌, ◌^◌, ℕ, Bool, true, false, ◌==◌, cond, length}
use Rattle.uma_life.specs.declared.tally.BodyPhase.{BodyPhase}
use Rattle.uma_life.specs.declared.tally.BodyPhase.TheVariants.{Raw, Zoned, Built, Gone}
use Rattle.uma_life.specs.declared.tally.Tally.{Tally}
use Rattle.uma_life.specs.Life.{Life, no_tally}
use Rattle.uma_life.specs.Hook.{base_phase, counts_of}
use Rattle.uma_life.specs.Sum.{AreCounts}

-- how often keg_init was passed, by the phase
abbrev pub keg_inits_by : BodyPhase → ℕ
keg_inits_by Raw = 0
keg_inits_by _ = 1

-- how often keg_fini was passed, by the phase
abbrev pub keg_finis_by : BodyPhase → ℕ
keg_finis_by Gone = 1
keg_finis_by _ = 0

-- 1 for the zone of a stay that is begun and not over, and 0 for the others
abbrev pub open_stays : BodyPhase → ℕ → ℕ
open_stays (Zoned zone) other = cond (zone == other) 1 0
open_stays (Built zone) other = cond (zone == other) (cond (zone == 0) 0 1) 0
open_stays _ other = 0

-- 1 for the zone in which the item is built, and 0 for the others
abbrev pub open_builds : BodyPhase → ℕ → ℕ
open_builds (Built zone) other = cond (zone == other) 1 0
open_builds _ other = 0

-- two counters of 64 bits that show the same
abbrev pub ShowsSame : ℕ → ℕ → Type 0
ShowsSame m n = m % 2 ^ 64 ≡ n % 2 ^ 64

-- 1. keg_init and keg_fini were passed as often as the phase says.
-- 2. In each zone inits exceed finis by the stay that is open, and ctors exceed dtors by the build that is open. These counts wrap.
-- 3. A raw body passed no hook.
-- 4. Each count is one of 64 bits.
pub record OnTrail (phase : BodyPhase) (tally : Tally) : Type 0 where
  pub keg_inits : tally.keg_inits ≡ keg_inits_by phase
  pub keg_finis : tally.keg_finis ≡ keg_finis_by phase
  pub eight_zones : length tally.zones ≡ 8
  pub stays : (zone : ℕ) → zone < 8 → ShowsSame (counts_of tally zone).inits ((counts_of tally zone).finis + open_stays phase zone)
  pub builds : (zone : ℕ) → zone < 8 → ShowsSame (counts_of tally zone).ctors ((counts_of tally zone).dtors + open_builds phase zone)
  pub raw : phase ≡ Raw → tally ≡ no_tally
  pub counts : (zone : ℕ) → zone < 8 → AreCounts (counts_of tally zone)

-- the item stands at a phase, on its trail
pub record IsAt (phase : BodyPhase) (life : Life) : Type 0 where
  pub stands : life.phase ≡ phase
  pub trail : OnTrail phase life.tally

-- whether an item of this phase is built
abbrev pub is_built : BodyPhase → Bool
is_built (Built zone) = true
is_built _ = false

-- the phase of an item of a zone outside its keg: built or not
abbrev pub outside_phase : Bool → ℕ → BodyPhase
outside_phase true zone = Built zone
outside_phase false zone = base_phase zone

-- the item is outside its keg, in a zone, and on its trail
abbrev pub IsOutside : ℕ → Life → Type 0
IsOutside zone life = IsAt (outside_phase (is_built life.phase) zone) life
