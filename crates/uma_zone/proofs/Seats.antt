-- A seat stays one of its zone.
use Rattle.std.proofs.Common.{◌≡◌, ◌<◌, ℕ, sym, ap, ◌∙◌, subst, refl}
use Rattle.uma_bucket.specs.declared.bucket.Bucket.{Bucket}
use Rattle.uma_bucket.specs.Home.{Home, AreHome}
use Rattle.uma_keg.specs.declared.keg.Keg.{Keg}
use Rattle.uma_keg.specs.declared.fetch.FetchAsk.{FetchAsk}
use Rattle.uma_keg.specs.Keg.{places_in, table_in}
use Rattle.uma_seat.specs.declared.seat.SeatCache.{SeatCache}
use Rattle.uma_seat.specs.Seat.{seat_domain, seat_fails, top_tickets, IsSameSeat, KeepsTop, KeepsMisses, KeepsPorts}
use Rattle.locked_keg.specs.declared.locked_keg.KegKey.{KegKey}
use Rattle.locked_keg.specs.Rule.{HasDomainsBelow}
use Rattle.locked_keg.specs.Seating.{FetchesHome}
use Rattle.uma_zone.specs.Domains.{domain_count}
use Rattle.uma_zone.proofs.DomainSeats.{still_seat, refilled_seat}
use Rattle.uma_zone.specs.declared.zone.Zone.{Zone}
use Rattle.uma_zone.specs.Zone.{zone_key, zone_index, zone_home, IsSeatOf}

module _ {T K H P : Type 0} {g k h : _} where
  -- one whose allocation bucket, share of misses and fail book are the same
  pub still_of : (zone : Zone T K H P g k h) (old new : SeatCache T H P g h) → IsSameSeat old new → KeepsTop old new → KeepsMisses old new → KeepsPorts old new → seat_fails new ≡ seat_fails old → IsSeatOf zone old → IsSeatOf zone new
  still_of zone old new same top misses ports fails was = record {
    of_domains = still_seat zone.domains old new same.0 misses ports top was.of_domains;
    fails = fails ∙ was.fails;
  }

  -- one whose allocation bucket is another, with items at home in the zone; its share of misses and its fail book are the same
  pub refilled_of : (zone : Zone T K H P g k h) (old new : SeatCache T H P g h) → IsSameSeat old new → KeepsMisses old new → KeepsPorts old new → seat_fails new ≡ seat_fails old → AreHome (zone_home zone) (top_tickets new) → IsSeatOf zone old → IsSeatOf zone new
  refilled_of zone old new same misses ports fails home was = record {
    of_domains = refilled_seat zone.domains old new new.top same.0 misses ports (refl {_}) home was.of_domains;
    fails = fails ∙ was.fails;
  }

  -- one whose allocation bucket was lent, and came back as it was
  pub lent_of : (zone : Zone T K H P g k h) (old : SeatCache T H P g h) (top : Bucket T g) → top ≡ old.top → IsSeatOf zone old → IsSeatOf zone (record old { top = top })
  lent_of zone old top same was = record {
    of_domains = still_seat zone.domains old (record old { top = top }) (refl {_}) (refl {_}) (refl {_}) same was.of_domains;
    fails = was.fails;
  }

  -- the domain of a seat is one of those that the key of the keg counts
  pub domain_below : (zone : Zone T K H P g k h) (seat : SeatCache T H P g h) (domain : ℕ) (key : KegKey) → domain ≡ seat_domain seat → key ≡ zone_key zone → IsSeatOf zone seat → domain < key.domains
  domain_below zone seat domain key own same was =
      let many : domain_count zone.domains ≡ key.domains = ap (λ (home : Home). home.domains) zone.home ∙ ap (λ (k : KegKey). k.domains) (sym same) in
      subst (λ (n : ℕ). n < key.domains) (sym own) (subst (λ (n : ℕ). seat_domain seat < n) many was.of_domains.own)

  -- what the keg of the zone gives to a seat is at home in the zone
  pub fetches_home : (zone : Zone T K H P g k h) (seat : SeatCache T H P g h) (keg : Keg T K g k) (ask : FetchAsk) → table_in keg ≡ (zone_home zone).book → HasDomainsBelow (zone_home zone).domains (places_in keg) → ask.zone ≡ zone_index zone → ask.domain ≡ seat_domain seat → IsSeatOf zone seat
      → FetchesHome keg ask (zone_home zone)
  fetches_home zone seat keg ask book slabs index own was = record {
    book = book;
    zone = index ∙ sym (ap (λ (home : Home). home.zone) zone.home);
    own = subst (λ (n : ℕ). n < (zone_home zone).domains) (sym own) was.of_domains.own;
    slabs = slabs;
  }
