-- What a seat of the cache's zone has room for.
use Rattle.std.proofs.Common.{◌≡◌, ◌<◌, true, cond, length, ◌∙◌, ap, arith}
use Rattle.std.proofs.lemmas.List.{length-map}
use Rattle.zone_stats.specs.declared.ledger.SeatLedger.{SeatLedger}
use Rattle.zone_stats.specs.LedgerSteps.{HasRoom, CountsAlloc}
use Rattle.uma_life.specs.Live.{live_domain, live_ticket}
use Rattle.uma_bucket.specs.Home.{Home, IsHome}
use Rattle.uma_seat.specs.Seat.{seat_home, seat_smr, freed_of}
use Rattle.uma_seat.specs.Stack.{loose_stack}
use Rattle.name_cache.specs.Bind.{HasRoomToBind}
use Rattle.name_cache.specs.Types.{EntrySeat, LiveEntry}

-- a seat of an SMR zone has a bucket for the freed items of each domain
pub within_freed : (seat : EntrySeat) (home : Home) (live : LiveEntry) → seat_home seat ≡ home → seat_smr seat ≡ true → IsHome home (live_ticket live) → live_domain live < length (freed_of seat)
within_freed seat home live same smr at =
    let many : length (freed_of seat) ≡ home.domains =
    length-map seat.freed.buckets.items loose_stack ∙ seat.freed_buckets ∙ ap (λ b. cond b seat.seating.domains 0) smr ∙ ap (λ (h : Home). h.domains) same in
    let low : live_domain live < home.domains = at.2 in
    omega (arith, many, low)

-- a bind's request leaves room for its free
pub room_left : (old new : SeatLedger) → HasRoomToBind old → CountsAlloc old new → HasRoom new
room_left old new room alloc = record {
  requests = let more = alloc.requests in let low = room.later in omega (arith, more, low);
  frees = let same = alloc.frees in let low = room.now.frees in omega (arith, same, low);
}
