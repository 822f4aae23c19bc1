use denote.Param.Send.{sendable}
use Rattle.name_cache.proofs.Shared.{entry_seat_send}
use Rattle.umarun.proofs.Shared.{trace_cache_sync}
use Rattle.umarun.proofs.replaying.play.Goals as goal

-- threads share the cache of names, and each has a seat of its own
pub replay-requires-in-Some-sync-N-Cache : goal.replay-requires-in-Some-sync-N-Cache
replay-requires-in-Some-sync-N-Cache g c κs within = search (trace_cache_sync, sendable)

pub replay-requires-in-Some-send-N-Seat : goal.replay-requires-in-Some-send-N-Seat
replay-requires-in-Some-send-N-Seat g c κs within = search (entry_seat_send, sendable)
