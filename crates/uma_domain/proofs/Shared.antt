-- A domain may be shared among threads, and sent to one, where its items may be sent to one and its host may be sent and shared.
use Rattle.std.proofs.Common.{rules}
use Rattle.std.proofs.Crossing.{Box-send, Deque-send, Vec-send, Vec-sync}
use Rattle.std.specs.contracts.boxed.Box as Box
use Rattle.std.specs.contracts.vec.Vec as Vec
use Rattle.std.specs.contracts.alloc.Global as heap
use Rattle.std.specs.contracts.impls.GlobalAllocator.TheImpl.{ghosts}
use denote.RattleType.{RattleType}
use denote.Param.Send.{IsSend, IsSync, recorded_send, recorded_sync, struct_send, struct_sync, sendable}
use denote.Struct.Declared.{shape}
use Rattle.deed_book.proofs.fail_book.FailBook.TheSendSync as book
use Rattle.inbox.proofs.Shared.{taker_field_send}
use Rattle.inbox.proofs.inbox.Inbox.TheSendSync as inbox
use Rattle.keyed_lock.proofs.lock.KeyedLock.TheSendSync as lock
use Rattle.uma_bucket.proofs.bucket.Bucket.TheSendSync as bucket
use Rattle.uma_bucket.proofs.freed.Loose.TheSendSync as loose
use Rattle.uma_bucket.proofs.freed.Sealed.TheSendSync as sealed
use Rattle.uma_bucket.proofs.shelved.Shelved.TheSendSync as shelved
use Rattle.smr_clock.specs.declared.host.Host as host
use Rattle.uma_bucket.specs.contracts.bucket.Bucket as Bucket
use Rattle.uma_bucket.specs.contracts.freed.Loose as Loose
use Rattle.uma_bucket.specs.contracts.shelved.InboxKey as InboxKey
use Rattle.uma_bucket.specs.contracts.freed.Sealed as Sealed
use Rattle.uma_bucket.specs.contracts.shelved.Shelved as Shelved
use Rattle.uma_domain.specs.contracts.domain.Domain as Domain
use Rattle.uma_domain.specs.contracts.lists.Lists as Lists
use Rattle.uma_domain.specs.contracts.locked.Locked as Locked
use Rattle.uma_domain.specs.contracts.lists.Working as Working
use Rattle.uma_life.specs.declared.hooks.Body as body

working_send : IsSend Working.the_field.row
working_send = struct_send (shape Working.the_type) (search sendable, (search sendable, (search sendable, tt)))

module _ (T H P : RattleType) (g : body.Ghosts T.Denot) (h : host.Ghosts H.Denot P.Denot) (t : IsSend T) (s : IsSend H) (y : IsSync H) where
  bucket_send : IsSend (Bucket.the_row T g)
  bucket_send = search (bucket.the_send)

  loose_send : IsSend (Loose.the_row T g)
  loose_send = search (loose.the_send)

  sealed_send : IsSend (Sealed.the_row T H P g h)
  sealed_send = search (sealed.the_send)

  lists_field_send : IsSend (Lists.the_field T H P g h).row
  lists_field_send = struct_send (shape (Lists.the_type T H P g h))
      (search rules, (Deque-send _ bucket_send, (Deque-send _ loose_send, (Deque-send _ sealed_send, (working_send, (book.the_field_send, (search rules, tt)))))))

  pub lists_send : IsSend (Lists.the_row T H P g h)
  lists_send = recorded_send (Lists.the_field T H P g h).row _ _ (Lists.the_type T H P g h).to_one lists_field_send

  pub shelved_send : IsSend (Shelved.the_row T H P g h)
  shelved_send = search (shelved.the_send, sendable) depth 20

  locked_field_send : IsSend (Locked.the_field T H P g h).row
  locked_field_send = struct_send (shape (Locked.the_type T H P g h)) (lists_field_send, (taker_field_send (Shelved.the_row T H P g h) (InboxKey.the_row H P h) shelved_send, tt))

  locked_send : IsSend (Locked.the_row T H P g h)
  locked_send = recorded_send (Locked.the_field T H P g h).row _ _ (Locked.the_type T H P g h).to_one locked_field_send

  boxed_send : IsSend (Box.the_row (Locked.the_row T H P g h) heap.the_row ghosts)
  boxed_send = Box-send _ locked_send

  pub domain_field_send : IsSend (Domain.the_field T H P g h).row
  domain_field_send = struct_send (shape (Domain.the_type T H P g h)) (search (lock.the_field_send, boxed_send), (search (inbox.the_field_send, shelved_send), tt))

  pub domain_field_sync : IsSync (Domain.the_field T H P g h).row
  domain_field_sync = struct_sync (shape (Domain.the_type T H P g h)) (search (lock.the_field_sync, boxed_send), (search (inbox.the_field_sync, shelved_send), tt))

  pub domain_send : IsSend (Domain.the_row T H P g h)
  domain_send = recorded_send (Domain.the_field T H P g h).row _ _ (Domain.the_type T H P g h).to_one domain_field_send

  pub domain_sync : IsSync (Domain.the_row T H P g h)
  domain_sync = recorded_sync (Domain.the_field T H P g h).row _ _ (Domain.the_type T H P g h).to_one domain_field_sync

  -- a row of them
  pub domains_send : IsSend (Vec.the_row (Domain.the_row T H P g h) heap.the_row ghosts)
  domains_send = Vec-send _ domain_send

  pub domains_sync : IsSync (Vec.the_row (Domain.the_row T H P g h) heap.the_row ghosts)
  domains_sync = Vec-sync _ domain_sync
