-- The items and the zones of a replay: those whose body is `Counted`, with its hooks. Whose clock the readers go by, and so the host, is left open.
use Rattle.smr_clock.specs.declared.host.Host.{Ghosts}
use Rattle.uma_life.specs.declared.states.Cached.{Cached}
use Rattle.uma_life.specs.declared.states.Live.{Live}
use Rattle.uma_life.specs.Life.{Life}
use Rattle.uma_seat.specs.declared.seat.SeatCache.{SeatCache}
use Rattle.uma_zone.specs.declared.zone.Zone.{Zone}
use Rattle.replay_worker.specs.declared.count_hooks.CountHooks.{CountHooks}
use Rattle.replay_worker.specs.declared.count_hooks.Counted.{Counted}
use Rattle.replay_worker.specs.contracts.count_hooks.CountedBody.TheImpl.{ghosts as counted_body}
use Rattle.replay_worker.specs.contracts.count_hooks.CountHooksHooksCounted.TheImpl.{ghosts as count_hooks}

-- an item's number, its phase, and how often it passed each hook
abbrev pub counted_life : Counted → Life
counted_life body = counted_body.life body

abbrev pub LiveItem : Type 0
LiveItem = Live Counted counted_body

abbrev pub CachedItem : Type 0
CachedItem = Cached Counted counted_body

abbrev pub CountedSeat : (H P : Type 0) → Ghosts H P → Type 0
CountedSeat H P h = SeatCache Counted H P counted_body h

abbrev pub CountedZone : (H P : Type 0) → Ghosts H P → Type 0
CountedZone H P h = Zone Counted CountHooks H P counted_body count_hooks h
