-- Own: how many slabs so many items fill, that they came in, and why no further slab does.
use Rattle.std.specs.Prelude.{◌≡◌, ◌/◌, ℕ, min, Result, IfOk, IfErr}
use Rattle.std.specs.Int.{div_ceil}
use Rattle.uma_keg.specs.declared.fetch.FetchRefused.{FetchRefused}
use Rattle.uma_keg.specs.declared.keg.Keg.{Keg}
use Rattle.uma_keg.specs.BringSlabs.{BringsSlabs}
use Rattle.uma_keg.specs.Keg.{places_in, table_in}
use Rattle.locked_keg.specs.Slabs.{StopsBringing}
use Rattle.uma_zone.specs.declared.zone.Zone.{Zone}
use Rattle.uma_zone.specs.Zone.{zone_home, zone_size, zone_cap}

-- the slabs that so many items fill, rounded up
abbrev pub slabs_for : ℕ → ℕ → ℕ
slabs_for items per_slab = div_ceil items per_slab

module _ {T K H P : Type 0} {g k h : _} where
  -- so many slabs of this domain came into the zone's keg, as that stood under its lock
  pub record Preallocs (zone : Zone T K H P g k h) (domain slabs : ℕ) : Type 0 where
    pub was : Keg T K g k
    pub is : Keg T K g k
    pub of_zone : table_in was ≡ (zone_home zone).book
    pub brings : BringsSlabs was domain slabs is

  -- Fewer slabs of this domain than so many items fill came into the zone's keg, as that stood under its lock, and stay; the next one was refused, for what the keg had then: as many slabs as it may, which is the zone's cap; a body that its hooks refuse; or for memory.
  pub record RefusesPrealloc (zone : Zone T K H P g k h) (items domain : ℕ) (why : FetchRefused) : Type 0 where
    pub was : Keg T K g k
    pub is : Keg T K g k
    pub of_zone : table_in was ≡ (zone_home zone).book
    pub cap : (places_in was).cap ≡ zone_cap zone
    pub stops : StopsBringing was domain (slabs_for items (min 256 (4096 / zone_size zone))) why is

  -- All slabs that so many items fill came in so, or the next one was refused so.
  pub record PreallocsItems (zone : Zone T K H P g k h) (items domain : ℕ) (end : Result ℕ FetchRefused) : Type 0 where
    pub count : IfOk end (λ slabs. slabs ≡ slabs_for items (min 256 (4096 / zone_size zone)))
    pub brought : IfOk end (Preallocs zone domain)
    pub refused : IfErr end (RefusesPrealloc zone items domain)
