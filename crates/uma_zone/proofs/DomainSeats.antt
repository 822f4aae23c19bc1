-- A seat stays one of its zone.
use Rattle.std.proofs.Common.{◌≡◌, ◌<◌, ◌≤◌, ◌+◌, ℕ, Some, List, [], ◌∷◌, ◌++◌, length, sym, ap, ◌∙◌, subst, inl, inr, arith}
use Rattle.std.specs.declared.vec.Vec.{Vec}
use Rattle.std.proofs.lemmas.Bool.{cases_lt}
use Rattle.std.proofs.lemmas.List.{length-append, length-map}
use Rattle.deed_book.specs.declared.fail_book.FailShare.{FailShare}
use Rattle.deed_book.specs.FailShare.{share_table}
use Rattle.uma_life.specs.Cached.{cached_ticket}
use Rattle.uma_bucket.specs.declared.bucket.Bucket.{Bucket}
use Rattle.uma_bucket.specs.declared.freed.Loose.{Loose}
use Rattle.uma_bucket.specs.Bucket.{items_of, tickets_of}
use Rattle.uma_bucket.specs.Freed.{freed_ticket}
use Rattle.uma_bucket.specs.Home.{AreHome}
use Rattle.uma_bucket.specs.Loose.{loose_items, loose_tickets}
use Rattle.uma_seat.specs.declared.seating.Seating.{Seating}
use Rattle.uma_seat.specs.declared.seat.SeatCache.{SeatCache}
use Rattle.uma_seat.specs.Seating.{home_of, clock_of}
use Rattle.uma_zone.specs.Ports.{origins_of, HasPorts}
use Rattle.uma_zone.specs.declared.domains.ZoneDomains.{ZoneDomains}
use Rattle.uma_zone.specs.Domains.{domain_count, domains_home, misses_at, IsSeatOf}

module _ {T H P : Type 0} {g h : _} where
  -- one that is made for the same, with ports of the same inboxes and such a bucket to allocate from
  pub put_seat : (them : ZoneDomains T H P g h) (old new : SeatCache T H P g h) (bucket : Bucket T g) → new.seating ≡ old.seating → new.misses ≡ old.misses → HasPorts them new → new.top ≡ bucket → AreHome (domains_home them) (tickets_of bucket) → IsSeatOf them old
      → IsSeatOf them new
  put_seat them old new bucket made misses has top here was =
      let home : home_of new.seating ≡ domains_home them = ap home_of made ∙ was.same_home in
      record {
        same_home = home;
        same_clock = ap clock_of made ∙ was.same_clock;
        same_smr = ap (λ (s : Seating H P). s.smr) made ∙ was.same_smr;
        own = subst (λ (s : Seating H P). s.domain < domain_count them) (sym made) was.own;
        own_misses = ap (λ (s : Seating H P). misses_at them s.domain) made ∙ was.own_misses ∙ ap (λ (s : FailShare). Some (share_table s)) (sym misses);
        ports = has;
        top_home = subst (λ (b : Bucket T g). AreHome (home_of new.seating) (tickets_of b)) (sym top) (subst (λ (x : _). AreHome x (tickets_of bucket)) (sym home) here);
      }

  -- the same, where the ports are as they were
  pub refilled_seat : (them : ZoneDomains T H P g h) (old new : SeatCache T H P g h) (bucket : Bucket T g) → new.seating ≡ old.seating → new.misses ≡ old.misses → new.ports ≡ old.ports → new.top ≡ bucket → AreHome (domains_home them) (tickets_of bucket)
      → IsSeatOf them old → IsSeatOf them new
  refilled_seat them old new bucket made misses ports top here was = put_seat them old new bucket made misses (ap (λ (v : Vec _ _). origins_of v.items) ports ∙ was.ports) top here was

  -- one whose allocation bucket is the same
  pub still_seat : (them : ZoneDomains T H P g h) (old new : SeatCache T H P g h) → new.seating ≡ old.seating → new.misses ≡ old.misses → new.ports ≡ old.ports → new.top ≡ old.top → IsSeatOf them old → IsSeatOf them new
  still_seat them old new made misses ports top was = refilled_seat them old new old.top made misses ports top (subst (λ (x : _). AreHome x (tickets_of old.top)) was.same_home was.top_home) was

  -- the same, where its ports pushed
  pub flushed_seat : (them : ZoneDomains T H P g h) (old new : SeatCache T H P g h) → new.seating ≡ old.seating → new.misses ≡ old.misses → HasPorts them new → new.top ≡ old.top → IsSeatOf them old → IsSeatOf them new
  flushed_seat them old new made misses has top was = put_seat them old new old.top made misses has top (subst (λ (x : _). AreHome x (tickets_of old.top)) was.same_home was.top_home) was

-- a refill takes no spare
pub spares_left : (old new : List ℕ) (shelf room : ℕ) → (length old + shelf < 2 → new ≡ old ++ room ∷ []) → (2 ≤ length old + shelf → new ≡ old) → length old ≤ length new
spares_left old new shelf room place no_place = elim (cases_lt (length old + shelf) 2) [
  | inl less ↦ let e : length new ≡ length (old ++ room ∷ []) = ap length (place less) in omega (arith, e, length-append old (room ∷ []))
  | inr more ↦ let e : length new ≡ length old = ap length (no_place more) in omega (arith, e)
]

-- as many items were finished as there were
pub finished_some : {T : Type 0} {g : _} (bucket : Bucket T g) (loose : Loose T g) → tickets_of bucket ≡ loose_tickets loose → 0 < length (loose_items loose) → 0 < length (items_of bucket)
finished_some bucket loose same some =
    let e : length (tickets_of bucket) ≡ length (loose_tickets loose) = ap length same in
    omega (arith, e, length-map (items_of bucket) cached_ticket, length-map (loose_items loose) freed_ticket)
