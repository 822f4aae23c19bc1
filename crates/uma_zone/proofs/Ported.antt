-- A seat's ports beside the domains of its zone, and what they pushed.
use Rattle.std.proofs.Common.{◌≡◌, ◌<◌, ℕ, Some, List, length, map, arith, sym, ap, ◌∙◌, subst}
use Rattle.std.specs.Prelude.{slice_get, slice_set}
use Rattle.std.proofs.lemmas.List.{length-map, map-set}
use Rattle.std.proofs.Math.Seq.{map-set_same}
use Rattle.std.proofs.lemmas.Option.{get_or_from_slice_get, slice_get-map}
use Rattle.std.specs.Option.{option_map}
use Rattle.smr_clock.specs.declared.clock.Setup.{Setup}
use Rattle.smr_clock.specs.Belongs.{TableId}
use Rattle.inbox.specs.declared.inbox.Port.{Port}
use Rattle.inbox.specs.Inbox.{sent_by}
use Rattle.uma_bucket.specs.declared.shelved.InboxKey.{InboxKey}
use Rattle.uma_bucket.specs.declared.bucket.Bucket.{Bucket}
use Rattle.uma_bucket.specs.declared.freed.Loose.{Loose}
use Rattle.uma_bucket.specs.declared.freed.Sealed.{Sealed}
use Rattle.uma_bucket.specs.declared.shelved.Shelved.{Shelved}
use Rattle.uma_bucket.specs.declared.shelved.Shelved.TheVariants.{Plain as Plain', Loose as Loose', Sealed as Sealed'}
use Rattle.uma_bucket.specs.Home.{Home}
use Rattle.uma_bucket.specs.Inboxes.{port_origin}
use Rattle.uma_bucket.specs.Shelved.{shelved_domain}
use Rattle.uma_domain.specs.declared.domain.Domain.{Domain}
use Rattle.uma_domain.specs.UnderLock.{HandsOver}
use Rattle.uma_seat.specs.declared.seat.SeatCache.{SeatCache}
use Rattle.uma_seat.specs.Seat.{seat_home, seating_of}
use Rattle.uma_zone.specs.declared.domains.ZoneDomains.{ZoneDomains}
use Rattle.uma_zone.specs.Domains.{domain_at, domain_count}
use Rattle.uma_zone.specs.Flushed.{CanBePut}
use Rattle.uma_zone.specs.OneDomain.{domain_origin}
use Rattle.uma_zone.specs.OwnDomain.{IsSent}
use Rattle.uma_zone.specs.Ports.{inboxes_of, origins_of, pushed_by}

-- one is exchanged for another of which the same is said
pub map_set_at : {X Y : Type 0} (f : X → Y) (xs : List X) (at : ℕ) (was is : X) → slice_get xs at ≡ Some was → f is ≡ f was → map f (slice_set xs at is) ≡ map f xs
map_set_at f xs at was is there same = map-set_same f xs at is was (same ∙ ap f (sym (get_or_from_slice_get xs at was was there)))

-- what stands at a place of two lists that are one
one_there : {X : Type 0} (xs ys : List X) (at : ℕ) (x y : X) → slice_get xs at ≡ Some x → slice_get ys at ≡ Some y → xs ≡ ys → x ≡ y
one_there xs ys at x y first second same =
    let e : Some x ≡ Some y = sym first ∙ ap (λ (l : List _). slice_get l at) same ∙ second in
    cc

module _ {T H P : Type 0} {g h : _} where
  -- the port for a domain is one of that domain's inbox
  pub port_of_domain : (them : ZoneDomains T H P g h) (ports : List (Port (Shelved T H P g h) (InboxKey H P))) (at : ℕ) (port : Port (Shelved T H P g h) (InboxKey H P)) (domain : Domain T H P g h) → slice_get ports at ≡ Some port → domain_at them at ≡ Some domain
      → origins_of ports ≡ inboxes_of them → port_origin port ≡ domain_origin domain
  port_of_domain them ports at port domain there named has =
      one_there (origins_of ports) (inboxes_of them) at (port_origin port) (domain_origin domain) (slice_get-map port_origin ports at ∙ ap (option_map port_origin) there)
      (slice_get-map domain_origin them.domains.items at ∙ ap (option_map domain_origin) named) has

  -- each port is of the same inbox still
  pub still_ported : (them : ZoneDomains T H P g h) (ports : List (Port (Shelved T H P g h) (InboxKey H P))) (at : ℕ) (was is : Port (Shelved T H P g h) (InboxKey H P)) → slice_get ports at ≡ Some was → port_origin is ≡ port_origin was → origins_of ports ≡ inboxes_of them
      → origins_of (slice_set ports at is) ≡ inboxes_of them
  still_ported them ports at was is there same has = map_set_at port_origin ports at was is there same ∙ has

  -- no port pushed anything, where this one didn't
  pub still_pushed : (ports : List (Port (Shelved T H P g h) (InboxKey H P))) (at : ℕ) (was is : Port (Shelved T H P g h) (InboxKey H P)) → slice_get ports at ≡ Some was → sent_by is ≡ sent_by was → pushed_by (slice_set ports at is) ≡ pushed_by ports
  still_pushed ports at was is there same = map_set_at sent_by ports at was is there same

  -- the bucket went to its domain by this port
  pub sent_so : (them : ZoneDomains T H P g h) (ports : List (Port (Shelved T H P g h) (InboxKey H P))) (shelved : Shelved T H P g h) (domain : Domain T H P g h) (was is : Port (Shelved T H P g h) (InboxKey H P)) → domain_at them (shelved_domain shelved) ≡ Some domain
      → slice_get ports (shelved_domain shelved) ≡ Some was → HandsOver domain was shelved is → IsSent them (pushed_by ports) shelved (pushed_by (slice_set ports (shelved_domain shelved) is))
  sent_so them ports shelved domain was is named there put = record {
    domain = domain;
    named = named;
    before = was;
    after = is;
    there = slice_get-map sent_by ports (shelved_domain shelved) ∙ ap (option_map sent_by) there;
    others = map-set sent_by ports (shelved_domain shelved) is;
    over = put;
  }

  pub sent_plain : (them : ZoneDomains T H P g h) (ports : List (Port (Shelved T H P g h) (InboxKey H P))) (shelved : Shelved T H P g h) (at : ℕ) (bucket : Bucket T g) (domain : Domain T H P g h) (was is : Port (Shelved T H P g h) (InboxKey H P)) → shelved ≡ Plain' at bucket
      → domain_at them at ≡ Some domain → slice_get ports at ≡ Some was → HandsOver domain was (Plain' 0 bucket) is → IsSent them (pushed_by ports) shelved (pushed_by (slice_set ports at is))
  sent_plain them ports shelved at bucket domain was is same named there over =
      subst (λ (s : Shelved T H P g h). IsSent them (pushed_by ports) s (pushed_by (slice_set ports at is))) (sym same) (sent_so them ports (Plain' at bucket) domain was is named there (record { went = over.went }))

  pub sent_loose : (them : ZoneDomains T H P g h) (ports : List (Port (Shelved T H P g h) (InboxKey H P))) (shelved : Shelved T H P g h) (at : ℕ) (bucket : Loose T g) (domain : Domain T H P g h) (was is : Port (Shelved T H P g h) (InboxKey H P)) → shelved ≡ Loose' at bucket
      → domain_at them at ≡ Some domain → slice_get ports at ≡ Some was → HandsOver domain was (Loose' 0 bucket) is → IsSent them (pushed_by ports) shelved (pushed_by (slice_set ports at is))
  sent_loose them ports shelved at bucket domain was is same named there over =
      subst (λ (s : Shelved T H P g h). IsSent them (pushed_by ports) s (pushed_by (slice_set ports at is))) (sym same) (sent_so them ports (Loose' at bucket) domain was is named there (record { went = over.went }))

  pub sent_sealed : (them : ZoneDomains T H P g h) (ports : List (Port (Shelved T H P g h) (InboxKey H P))) (shelved : Shelved T H P g h) (at : ℕ) (bucket : Sealed T H P g h) (domain : Domain T H P g h) (was is : Port (Shelved T H P g h) (InboxKey H P)) → shelved ≡ Sealed' at bucket
      → domain_at them at ≡ Some domain → slice_get ports at ≡ Some was → HandsOver domain was (Sealed' 0 bucket) is → IsSent them (pushed_by ports) shelved (pushed_by (slice_set ports at is))
  sent_sealed them ports shelved at bucket domain was is same named there over =
      subst (λ (s : Shelved T H P g h). IsSent them (pushed_by ports) s (pushed_by (slice_set ports at is))) (sym same) (sent_so them ports (Sealed' at bucket) domain was is named there (record { went = over.went }))

  -- a domain that a bucket may go to is one for which the seat has a port
  pub has_port : (home : Home) (clock : TableId × Setup) (seat : SeatCache T H P g h) (shelved : Shelved T H P g h) (at : ℕ) → seat_home seat ≡ home → CanBePut home clock shelved → shelved_domain shelved ≡ at → at < (seating_of seat).domains
  has_port home clock seat shelved at same can is = subst (λ (x : Home). at < x.domains) (sym same) (subst (λ (n : ℕ). n < home.domains) is can.at_home.0)

  -- there is one for each domain
  pub ports_each : (them : ZoneDomains T H P g h) (ports : List (Port (Shelved T H P g h) (InboxKey H P))) (count : ℕ) → origins_of ports ≡ inboxes_of them → count ≡ domain_count them → length ports ≡ count
  ports_each them ports count has all =
      let each : length (origins_of ports) ≡ length (inboxes_of them) = ap length has in
      omega (arith, each, all, length-map ports port_origin, length-map them.domains.items domain_origin)
