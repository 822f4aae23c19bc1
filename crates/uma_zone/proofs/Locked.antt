-- What a zone knows of the key of its keg's lock.
use Rattle.std.proofs.Common.{◌≡◌, ◌<◌, ℕ, sym, ap, ◌∙◌, subst}
use Rattle.std.specs.List.{All}
use Rattle.std.proofs.lemmas.List.Elements.{All-weaker}
use Rattle.deed_book.specs.Deed.{BookId}
use Rattle.uma_life.specs.declared.states.Cached.{Cached}
use Rattle.uma_life.specs.Cached.{cached_table, cached_ticket}
use Rattle.uma_bucket.specs.declared.bucket.Bucket.{Bucket}
use Rattle.uma_bucket.specs.Bucket.{items_of, tickets_of}
use Rattle.uma_bucket.specs.Home.{Home, IsHome, AreHome}
use Rattle.locked_keg.specs.declared.locked_keg.KegKey.{KegKey}
use Rattle.uma_zone.specs.declared.zone.Zone.{Zone}
use Rattle.uma_zone.specs.Zone.{zone_key, zone_domains}
use Rattle.uma_zone.proofs.Rights.{All-unmap}

-- a domain of the zone is one of the keg's
pub below_key : {T K H P : Type 0} {g k h : _} (zone : Zone T K H P g k h) (key : KegKey) (domain : ℕ) → key ≡ zone_key zone → domain < zone_domains zone → domain < key.domains
below_key zone key domain same below = subst (λ (n : ℕ). domain < n) (ap (λ (h : Home). h.domains) zone.home ∙ ap (λ (k : KegKey). k.domains) (sym same)) below

-- the items of a bucket that are at home are of the book there
pub of_book : {T : Type 0} {g : _} (home : Home) (bucket : Bucket T g) (table : BookId) → table ≡ home.book → AreHome home (tickets_of bucket) → All (λ (item : Cached T g). cached_table item ≡ table) (items_of bucket)
of_book home bucket table same here =
    All-weaker (λ item. IsHome home (cached_ticket item)) (λ item. cached_table item ≡ table) (λ item at. at.0 ∙ sym same) (items_of bucket) (All-unmap (IsHome home) cached_ticket (items_of bucket) here)
