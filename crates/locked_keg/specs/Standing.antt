-- Own: how a keg behind its lock stands, what a census tells of it, and what becomes of it where it gives up slabs.
use Rattle.std.specs.Prelude.{◌≡◌, ◌≤◌, ◌<◌, ◌*◌, ◌+◌, ℕ, List, All, Result, IfOk, IfErr, OnOk, count_by, is_some}
use Rattle.deed_book.specs.BookLaw.{IsOutside}
use Rattle.uma_life.specs.declared.states.Live.{Live}
use Rattle.uma_life.specs.Hook.{Hook}
use Rattle.uma_life.specs.Sum.{sum_of}
use Rattle.uma_slabs.specs.declared.places.KegCounts.{KegCounts}
use Rattle.uma_slabs.specs.Dropping.{IsUsedUp}
use Rattle.uma_slabs.specs.Places.{IsSound, free_count}
use Rattle.uma_keg.specs.declared.census.Census.{Census}
use Rattle.uma_keg.specs.declared.keg.Keg.{Keg}
use Rattle.uma_keg.specs.Census.{census_counts, census_out, census_tally, census_table, counts_in}
use Rattle.uma_keg.specs.Fetched.{IsUnmoved}
use Rattle.uma_keg.specs.FreeSlabs.{FreesSlabs, GivesNoMore, slabs_to_free}
use Rattle.uma_keg.specs.Keg.{places_in, zones_in, out_in, table_in, HasZone, reserve_in, total_in}
use Rattle.uma_keg.specs.Lent.{all_seen, lent_of, deed_of}
use Rattle.locked_keg.specs.declared.locked_keg.LockedKeg.{LockedKeg}
use Rattle.locked_keg.specs.Frames.{KeepsLocked}
use Rattle.locked_keg.specs.LockedKeg.{keg_in}

module _ {T K : Type 0} {g : _} {h : _} where
  -- they are the keg's counts, its places are sound, and each item of its slabs is free or outside
  pub record AreCountsOf (keg : Keg T K g h) (answer : KegCounts) : Type 0 where
    pub counts : answer ≡ counts_in keg
    pub sound : IsSound (places_in keg)
    pub balanced : answer.slabs * answer.per_slab ≡ answer.free + count_by is_some (zones_in keg)

  -- So many wholly free slabs are given up, as many as may be while the reserve stays, and no item that is outside moves.
  pub record FreesSlabsIn (old : LockedKeg T K g h) (answer : ℕ) (new : LockedKeg T K g h) : Type 0 where
    pub freed : FreesSlabs (keg_in old) answer (keg_in new)
    pub count : answer ≡ slabs_to_free (places_in (keg_in old)) (reserve_in (keg_in old))
    pub reserve : 0 < answer → reserve_in (keg_in old) ≤ free_count (places_in (keg_in new))
    pub used_up : IsUsedUp (places_in (keg_in old)) → answer ≡ 0
    pub no_more : GivesNoMore (keg_in new)
    pub outside : zones_in (keg_in new) ≡ zones_in (keg_in old)
    pub kept : KeepsLocked old new

  -- The census tells how the keg stands, how many items are outside in each zone, no fewer than were lent, and how often items passed each hook. What was lent is back, in order.
  pub record TellsKeg (keg : Keg T K g h) (lives : List (Live T g)) (census : Census) (back : List (Live T g)) : Type 0 where
    pub counts : census_counts census ≡ counts_in keg
    pub outs : (zone : ℕ) → zone < 8 → census_out census zone ≡ out_in keg zone
    pub no_zone : (zone : ℕ) → zone < 8 → (HasZone keg zone → ⊥) → census_out census zone ≡ 0
    pub tally : (hook : Hook) → sum_of (census_tally census) hook ≡ total_in keg hook
    pub table_of : census_table census ≡ table_in keg
    pub lent : (zone : ℕ) → zone < 8 → lent_of lives zone ≤ census_out census zone
    pub items : all_seen back ≡ all_seen lives

  -- A census is taken, and each item that was lent was outside; or memory was wanting, and all that was lent is back. Nothing changes.
  pub record TakesCensus (old : LockedKeg T K g h) (lives : List (Live T g)) (answer : Result (Census × List (Live T g)) (List (Live T g))) (new : LockedKeg T K g h) : Type 0 where
    pub told : IfOk answer (λ (p : Census × List (Live T g)). TellsKeg (keg_in old) lives p.0 p.1)
    pub were_outside : OnOk answer (All (λ item. IsOutside (zones_in (keg_in old)) (deed_of item)) lives)
    pub refused : IfErr answer (λ back. back ≡ lives)
    pub unmoved : IsUnmoved (keg_in old) (keg_in new)
    pub kept : KeepsLocked old new
