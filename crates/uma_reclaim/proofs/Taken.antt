-- What a domain of a zone gave up is of the zone.
use Rattle.std.proofs.Common.{◌≡◌, ℕ, List, All, Result, Ok, Err, IfOk, length, sym, ap, ◌∙◌, subst}
use Rattle.std.proofs.lemmas.List.{length-map}
use Rattle.std.proofs.lemmas.List.Elements.{All-weaker}
use Rattle.uma_life.specs.Cached.{cached_ticket}
use Rattle.uma_bucket.specs.declared.bucket.Bucket.{Bucket}
use Rattle.uma_bucket.specs.declared.freed.Loose.{Loose}
use Rattle.uma_bucket.specs.Bucket.{items_of, tickets_of}
use Rattle.uma_bucket.specs.Freed.{freed_ticket}
use Rattle.uma_bucket.specs.Home.{Home}
use Rattle.uma_bucket.specs.Loose.{loose_items, loose_tickets}
use Rattle.uma_bucket.specs.Ripe.{ripe_bucket}
use Rattle.uma_domain.specs.declared.trims.Taken.{Taken}
use Rattle.uma_domain.specs.declared.trims.TakenBucket.{TakenBucket}
use Rattle.uma_domain.specs.declared.trims.TakenBucket.TheVariants.{Plain, Ripe}
use Rattle.uma_domain.specs.Identity.{Identity}
use Rattle.uma_domain.specs.Listed.{IsPlainOf, IsLooseOf}
use Rattle.uma_domain.specs.Taken.{taken_in, IsTakenOf}
use Rattle.uma_zone.specs.declared.zone.Zone.{Zone}
use Rattle.uma_zone.specs.Zone.{zone_home, zone_clock}
use Rattle.uma_reclaim.specs.declared.reclaim.Extent.{Extent}
use Rattle.uma_reclaim.specs.Given.{IsFromZone}
use Rattle.uma_reclaim.specs.Reclaimed.{IsTakenAt, TakesAt}

module _ {T K H P : Type 0} {g k h : _} (zone : Zone T K H P g k h) (identity : Identity) (clock : identity.clock ≡ zone_clock zone) (home : identity.home ≡ zone_home zone) where
  of_zone : (bucket : TakenBucket T H P g h) → IsTakenOf identity bucket → IsFromZone zone bucket
  of_zone (Plain bucket) taken = subst (λ (x : Home). IsPlainOf x bucket) home taken
  of_zone (Ripe bucket) taken = (subst (λ (x : Home). IsLooseOf x (ripe_bucket bucket)) home taken.bucket, taken.clock ∙ clock)

  -- each bucket that such a domain gave up
  pub all_of_zone : (buckets : List (TakenBucket T H P g h)) → All (IsTakenOf identity) buckets → All (IsFromZone zone) buckets
  all_of_zone buckets taken = All-weaker (IsTakenOf identity) (IsFromZone zone) of_zone buckets taken

  -- and what its take brought is that of a take from the domain of its number
  pub takes_at : {E : Type 0} (extent : Extent) (number : ℕ) (result : Result (Taken T H P g h) E) → IfOk result (λ taken. All (IsTakenOf identity) (taken_in taken)) → IfOk result (λ taken. IsTakenAt zone extent number (taken_in taken)) → IfOk result (TakesAt zone extent number)
  takes_at extent number (Ok taken) of own = record { of_zone = all_of_zone (taken_in taken) of; own = own }
  takes_at extent number (Err e) of own = tt

-- as many items were finished as there were
pub same_len : {T : Type 0} {g : _} (bucket : Bucket T g) (loose : Loose T g) → tickets_of bucket ≡ loose_tickets loose → length (items_of bucket) ≡ length (loose_items loose)
same_len bucket loose same = sym (length-map (items_of bucket) cached_ticket) ∙ ap length same ∙ length-map (loose_items loose) freed_ticket
