-- Own: what a call of a zone did to its keg, as that stood under its lock, or found there.
use Rattle.std.specs.Prelude.{◌≡◌, ◌≤◌, ◌<◌, ◌/◌, ℕ, List, All, Result, IfOk, IfErr, length, min}
use Rattle.uma_life.specs.declared.states.Cached.{Cached}
use Rattle.uma_life.specs.declared.states.Live.{Live}
use Rattle.uma_keg.specs.declared.census.Census.{Census}
use Rattle.uma_keg.specs.declared.keg.Keg.{Keg}
use Rattle.uma_slabs.specs.declared.places.KegCounts.{KegCounts}
use Rattle.uma_keg.specs.Census.{census_counts, census_out, census_table, counts_in}
use Rattle.uma_keg.specs.Lent.{all_seen, lent_of}
use Rattle.uma_keg.specs.FreeSlabs.{FreesSlabs, GivesNoMore, slabs_to_free}
use Rattle.uma_keg.specs.GiveItem.{TakesBack}
use Rattle.uma_keg.specs.Keg.{places_in, table_in, reserve_in}
use Rattle.locked_keg.specs.Gives.{GivesAllBack}
use Rattle.uma_zone.specs.declared.zone.Zone.{Zone}
use Rattle.uma_zone.specs.Zone.{zone_home, zone_hooks, zone_size, zone_cap, zone_reserve, zone_rights}

module _ {T K H P : Type 0} {g k h : _} where
  -- these are the counts of the zone's keg
  pub record CountsKeg (zone : Zone T K H P g k h) (counts : KegCounts) : Type 0 where
    pub was : Keg T K g k
    pub of_zone : table_in was ≡ (zone_home zone).book
    pub counted : counts ≡ counts_in was

  -- So many wholly free slabs of the zone's keg were given up, as many as it may give up then, and it may give up no more.
  pub record FreesSlabsOf (zone : Zone T K H P g k h) (slabs : ℕ) : Type 0 where
    pub was : Keg T K g k
    pub is : Keg T K g k
    pub of_zone : table_in was ≡ (zone_home zone).book
    pub frees : FreesSlabs was slabs is
    pub all : slabs ≡ slabs_to_free (places_in was) (reserve_in was)
    pub no_more : GivesNoMore is

  -- these items came back to the zone's keg one after another, the last of the list first, by the zone's hooks
  pub record GivesItems (zone : Zone T K H P g k h) (items : List (Cached T g)) : Type 0 where
    pub was : Keg T K g k
    pub is : Keg T K g k
    pub of_zone : table_in was ≡ (zone_home zone).book
    pub gives : GivesAllBack was (zone_hooks zone) items is

  -- this item came back to the zone's keg, by the zone's hooks
  pub record GivesItem (zone : Zone T K H P g k h) (item : Cached T g) : Type 0 where
    pub was : Keg T K g k
    pub is : Keg T K g k
    pub of_zone : table_in was ≡ (zone_home zone).book
    pub gives : TakesBack was (zone_hooks zone) item is

  -- as many items as they are came back so
  pub record GivesCounted (zone : Zone T K H P g k h) (items : List (Cached T g)) (given_back : ℕ) : Type 0 where
    pub count : given_back ≡ length items
    pub given : GivesItems zone items

  -- these are counts of a keg with the zone's numbers
  pub record HasKegNumbers (zone : Zone T K H P g k h) (counts : KegCounts) : Type 0 where
    pub cap : counts.cap ≡ zone_cap zone
    pub reserve : counts.reserve ≡ zone_reserve zone
    pub per_slab : counts.per_slab ≡ min 256 (4096 / zone_size zone)

  -- A census, if there was memory for one, of the zone's keg, that was lent these live items. They come back in their order, and of each zone at least as many are outside. No item of a zone whose right is kept is outside.
  pub record TakesCensus (zone : Zone T K H P g k h) (lives : List (Live T g)) (end : Result (Census × List (Live T g)) (List (Live T g))) : Type 0 where
    pub table : IfOk end (λ (p : Census × List (Live T g)). census_table p.0 ≡ (zone_home zone).book)
    pub cap : IfOk end (λ (p : Census × List (Live T g)). (census_counts p.0).cap ≡ zone_cap zone)
    pub reserve : IfOk end (λ (p : Census × List (Live T g)). (census_counts p.0).reserve ≡ zone_reserve zone)
    pub per_slab : IfOk end (λ (p : Census × List (Live T g)). (census_counts p.0).per_slab ≡ min 256 (4096 / zone_size zone))
    pub lent : IfOk end (λ (p : Census × List (Live T g)). (number : ℕ) → number < 8 → lent_of lives number ≤ census_out p.0 number)
    pub absent : IfOk end (λ (p : Census × List (Live T g)). All (λ number. census_out p.0 number ≡ 0) (zone_rights zone))
    pub items : IfOk end (λ (p : Census × List (Live T g)). all_seen p.1 ≡ all_seen lives)
    pub refused : IfErr end (λ back. back ≡ lives)
