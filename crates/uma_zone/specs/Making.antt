-- Own: which zone a making gives, and why it gives none.
use Rattle.std.specs.Prelude.{◌≡◌, ◌≢◌, ◌<◌, ◌≤◌, ◌/◌, ◌⊎◌, ℕ, Bool, List, [], ◌∷◌, ◌++◌, All, Result, IfOk, map, min}
use Rattle.smr_clock.specs.declared.clock.Setup.{Setup}
use Rattle.smr_clock.specs.Belongs.{TableId}
use Rattle.deed_book.specs.declared.deed.Deed.{Deed}
use Rattle.deed_book.specs.Book.{book_table}
use Rattle.deed_book.specs.Deed.{deed_table, no_of}
use Rattle.uma_bucket.specs.Bucket.{IsOutOfRange}
use Rattle.uma_domain.specs.Identity.{home_of}
use Rattle.uma_keg.specs.declared.keg.Keg.{Keg}
use Rattle.uma_keg.specs.Keg.{places_in, rights_in, table_in, size_in, reserve_in, fetches_in}
use Rattle.uma_slabs.specs.Places.{IsNew}
use Rattle.uma_slabs.specs.Refused.{IsItemSize, IsSlabCount}
use Rattle.uma_slabs.specs.declared.places.KegRefused.{KegRefused}
use Rattle.uma_slabs.specs.declared.places.KegRefused.TheVariants.{Size as KegSize, Slabs as KegSlabs, Memory as KegMemory}
use Rattle.uma_zone.specs.declared.domains.ZoneDomains.{ZoneDomains}
use Rattle.uma_zone.specs.declared.right.KeptRight.{KeptRight}
use Rattle.uma_zone.specs.declared.zone.Zone.{Zone}
use Rattle.uma_zone.specs.declared.zone.make.ZoneSet.{ZoneSet}
use Rattle.uma_zone.specs.declared.zone.make.SecondSet.{SecondSet}
use Rattle.uma_zone.specs.declared.zone.make.ZoneRefused.{ZoneRefused}
use Rattle.uma_zone.specs.declared.zone.make.ZoneRefused.TheVariants.{Size, Slabs, Bucket, Domains, Zones, Memory}
use Rattle.uma_zone.specs.Domains.{domains_home, domains_clock, domains_smr, domain_count}
use Rattle.uma_zone.specs.Right.{right_table, right_no}
use Rattle.uma_zone.specs.Zone.{zone_key, zone_index, zone_home, zone_clock, zone_smr, zone_domains, zone_hooks, zone_bucket, zone_limit, zone_size, zone_cap, zone_reserve, zone_rights}

-- why no zone is made where its keg isn't
abbrev pub as_zone : KegRefused → ZoneRefused
as_zone (KegSize size) = Size size
as_zone (KegSlabs slabs) = Slabs slabs
as_zone KegMemory = Memory

-- a bucket has room for so many items
pub record IsBucketSize (bucket : ℕ) : Type 0 where
  pub low : 4 ≤ bucket
  pub high : bucket ≤ 64

-- a zone has so many memory domains
pub record IsDomainCount (domains : ℕ) : Type 0 where
  pub low : 1 ≤ domains
  pub high : domains ≤ 4

-- each number is in its range
pub record AcceptsSet (size : ℕ) (set : ZoneSet) : Type 0 where
  pub size_taken : IsItemSize size
  pub slabs : IsSlabCount set.slabs
  pub bucket : IsBucketSize set.bucket
  pub domains : IsDomainCount set.domains

-- The first number that is out of its range, in the order size, slabs, bucket, domains; memory is wanted for good ones alone.
abbrev pub RefusesPrimary : ℕ → ZoneSet → ZoneRefused → Type 0
RefusesPrimary size set (Size named) = (named ≡ size) × (size < 8 ⊎ 4096 < size)
RefusesPrimary size set (Slabs named) = (named ≡ set.slabs) × IsItemSize size × (set.slabs < 1 ⊎ 1024 < set.slabs)
RefusesPrimary size set (Bucket named) = (named ≡ set.bucket) × IsItemSize size × IsSlabCount set.slabs × IsOutOfRange set.bucket
RefusesPrimary size set (Domains named) = (named ≡ set.domains) × IsItemSize size × IsSlabCount set.slabs × IsBucketSize set.bucket × (set.domains < 1 ⊎ 4 < set.domains)
RefusesPrimary size set (Zones zones) = ⊥
RefusesPrimary size set Memory = AcceptsSet size set

-- The size of a bucket out of its range, or else no right that is left; memory is wanted where neither is so.
abbrev pub RefusesSecondary : List ℕ → SecondSet → ZoneRefused → Type 0
RefusesSecondary rights set (Bucket named) = (named ≡ set.bucket) × IsOutOfRange set.bucket
RefusesSecondary rights set (Zones zones) = (zones ≡ 8) × IsBucketSize set.bucket × (rights ≡ [])
RefusesSecondary rights set Memory = IsBucketSize set.bucket × (rights ≢ [])
RefusesSecondary rights set _ = ⊥

module _ {T K H P : Type 0} {g k h : _} where
  -- A primary zone with these numbers, of readers by this clock. It keeps the rights to the seven further zones of its keg.
  pub record IsPrimary (clock : TableId × Setup) (size : ℕ) (set : ZoneSet) (hooks : K) (zone : Zone T K H P g k h) : Type 0 where
    pub index : zone_index zone ≡ 0
    pub same_clock : zone_clock zone ≡ clock
    pub size_kept : zone_size zone ≡ size
    pub cap : zone_cap zone ≡ set.slabs
    pub reserve : zone_reserve zone ≡ set.reserve
    pub bucket : zone_bucket zone ≡ set.bucket
    pub limit : zone_limit zone ≡ set.limit
    pub domains : zone_domains zone ≡ set.domains
    pub smr : zone_smr zone ≡ set.smr
    pub hooks_kept : zone_hooks zone ≡ hooks
    pub rights : zone_rights zone ≡ 7 ∷ 6 ∷ 5 ∷ 4 ∷ 3 ∷ 2 ∷ 1 ∷ []

  -- A further zone of the same keg, with these numbers. It keeps no right.
  pub record IsSecondaryOf (primary : Zone T K H P g k h) (set : SecondSet) (hooks : K) (zone : Zone T K H P g k h) : Type 0 where
    pub same_key : zone_key zone ≡ zone_key primary
    pub same_clock : zone_clock zone ≡ zone_clock primary
    pub domains : zone_domains zone ≡ zone_domains primary
    pub bucket : zone_bucket zone ≡ set.bucket
    pub limit : zone_limit zone ≡ set.limit
    pub smr : zone_smr zone ≡ set.smr
    pub hooks_kept : zone_hooks zone ≡ hooks
    pub rights : zone_rights zone ≡ []

  -- all but its rights is as it was
  pub record IsSameZone (old new : Zone T K H P g k h) : Type 0 where
    pub same_key : zone_key new ≡ zone_key old
    pub domains : new.domains ≡ old.domains
    pub index : zone_index new ≡ zone_index old
    pub bucket : zone_bucket new ≡ zone_bucket old
    pub limit : zone_limit new ≡ zone_limit old
    pub hooks_kept : zone_hooks new ≡ zone_hooks old
    pub added : new.added ≡ old.added

  -- A primary zone of these numbers, each in its range, over a new keg by these hooks of the keg, whose origin its items have.
  pub record MakesPrimary (clock : TableId × Setup) (size : ℕ) (set : ZoneSet) (hooks keg_hooks : K) (zone : Zone T K H P g k h) : Type 0 where
    pub numbers : IsPrimary clock size set hooks zone
    pub origin : (zone_home zone).book.origin ≡ k.origin keg_hooks
    pub accepted : AcceptsSet size set

  -- a primary zone of these numbers over this keg
  pub record IsOverKeg (clock : TableId × Setup) (keg : Keg T K g k) (set : ZoneSet) (hooks : K) (zone : Zone T K H P g k h) : Type 0 where
    pub made : IsPrimary clock (size_in keg) set hooks zone
    pub book : (zone_home zone).book ≡ table_in keg

  -- a further zone of the keg, by the next of the rights that the primary one kept
  pub record MakesSecondary (old : Zone T K H P g k h) (set : SecondSet) (hooks : K) (new zone : Zone T K H P g k h) : Type 0 where
    pub numbers : IsSecondaryOf old set hooks zone
    pub right : zone_rights old ≡ zone_rights new ++ zone_index zone ∷ []

  -- why no further zone is made, which leaves the primary one its rights
  pub record RefusesAndKeeps (old : Zone T K H P g k h) (set : SecondSet) (new : Zone T K H P g k h) (why : ZoneRefused) : Type 0 where
    pub refused : RefusesSecondary (zone_rights old) set why
    pub kept : zone_rights new ≡ zone_rights old

  -- domains, if they are made, for the zone of this number over the same keg and clock
  pub record MakesDomains {E : Type 0} (zone : Zone T K H P g k h) (index : ℕ) (deferred : Bool) (end : Result (ZoneDomains T H P g h) E) : Type 0 where
    pub home : IfOk end (λ made. domains_home made ≡ home_of (zone_home zone).book index (zone_home zone).domains)
    pub clock : IfOk end (λ made. domains_clock made ≡ zone_clock zone)
    pub smr : IfOk end (λ made. domains_smr made ≡ deferred)
    pub count : IfOk end (λ made. domain_count made ≡ zone_domains zone)

module _ {T K : Type 0} {g k : _} where
  -- A new keg of these numbers, with the rights to its eight zones that came with it, the primary one's at the end. Nothing was fetched of it, and bucket and domains are in their ranges.
  pub record IsNewKeg (set : ZoneSet) (keg : Keg T K g k) (rights : List Deed) : Type 0 where
    pub bucket : IsBucketSize set.bucket
    pub domains : IsDomainCount set.domains
    pub numbered : map no_of rights ≡ 7 ∷ 6 ∷ 5 ∷ 4 ∷ 3 ∷ 2 ∷ 1 ∷ 0 ∷ []
    pub of_keg : All (λ right. deed_table right ≡ book_table (rights_in keg)) rights
    pub new : IsNew (min 256 (4096 / size_in keg)) set.slabs (places_in keg)
    pub fetches : (zone : ℕ) → fetches_in keg zone ≡ []
    pub reserve : reserve_in keg ≡ set.reserve

  -- these are rights to zones of the keg
  pub record AreRightsOf (keg : Keg T K g k) (rights : List Deed) : Type 0 where
    pub of_keg : All (λ right. deed_table right ≡ book_table (rights_in keg)) rights
    pub below : All (λ right. no_of right < 8) rights

  -- these rights of the keg are kept, in their order
  pub record KeepsRights (keg : Keg T K g k) (rights : List Deed) (kept : List KeptRight) : Type 0 where
    pub numbers : map right_no kept ≡ map no_of rights
    pub of_keg : All (λ right. right_table right ≡ book_table (rights_in keg)) kept
