-- A port or a taker may be sent to a thread, and an inbox may be shared among threads, where the items may be sent to one.
use Rattle.std.proofs.Common.{rules}
use Rattle.std.proofs.Crossing.{crosses, frees, send as heap_send}
use Rattle.std.specs.contracts.alloc.Global as heap
use Rattle.std.specs.contracts.impls.GlobalAllocator.TheImpl.{ghosts}
use Rattle.std.specs.contracts.option.Option as Option
use denote.RattleType.{RattleType}
use denote.Param.Send.{IsSend, IsSync, recorded_send, struct_send, sendable}
use denote.Struct.Declared.{shape}
use Rattle.crossbeam_queue.below.atomic_blocks.proofs.web.Seat.TheSendSync as seat
use Rattle.crossbeam_queue.below.atomic_blocks.specs.contracts.web.Seat as Seat
use Rattle.crossbeam_queue.specs.contracts.seg_queue.Going as Going
use Rattle.inbox.specs.declared.inbox.Fits as fits
use Rattle.inbox.specs.contracts.inbox.Inbox as Inbox
use Rattle.inbox.specs.contracts.inbox.Port as Port
use Rattle.inbox.specs.contracts.inbox.Taker as Taker
use Rattle.inbox.specs.contracts.inbox.View as View
use Rattle.inbox.proofs.inbox.Inbox.TheSendSync as inbox

module _ (T K : RattleType) (t : IsSend T) where
  option_send : IsSend (Option.the_row T)
  option_send = search (sendable) depth 20

  seat_send : IsSend (Seat.the_row (Option.the_row T) (Going.the_row T (View.the_row T K)) heap.the_row ghosts)
  seat_send = seat.the_send _ _ heap.the_row ghosts option_send heap_send frees

  pub port_field_send : IsSend (Port.the_field T K).row
  port_field_send = struct_send (shape (Port.the_type T K)) (seat_send, (search crosses, (search rules, tt)))

  pub port_send : IsSend (Port.the_row T K)
  port_send = recorded_send (Port.the_field T K).row _ _ (Port.the_type T K).to_one port_field_send

  pub taker_field_send : IsSend (Taker.the_field T K).row
  taker_field_send = struct_send (shape (Taker.the_type T K)) (seat_send, (search crosses, tt))

  pub taker_send : IsSend (Taker.the_row T K)
  taker_send = recorded_send (Taker.the_field T K).row _ _ (Taker.the_type T K).to_one taker_field_send

module _ (T K F : RattleType) (g : fits.Ghosts F.Denot T.Denot K.Denot) (t : IsSend T) where
  pub inbox_sync : IsSync (Inbox.the_row T K F g)
  inbox_sync = search (inbox.the_sync, sendable) depth 20

  pub inbox_send : IsSend (Inbox.the_row T K F g)
  inbox_send = search (inbox.the_send, sendable) depth 20
