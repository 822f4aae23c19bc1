-- A cache zone may be shared among threads, and a seat or an item of it sent to one, where its importer may be sent.
use Rattle.std.proofs.Common.{rules}
use denote.RattleType.{RattleType}
use denote.Param.Send.{IsSend, IsSync, recorded_send, recorded_sync, struct_send, struct_sync}
use denote.Struct.Declared.{shape}
use Rattle.deed_book.proofs.book.Book.TheSendSync as book
use Rattle.deed_book.proofs.fail_book.FailBook.TheSendSync as fails
use Rattle.listed.specs.contracts.list.Log as Log
use Rattle.keyed_lock.proofs.lock.KeyedLock.TheSendSync as lock
use Rattle.uma_zcache.proofs.locked.Entries.TheSendSync as entries
use Rattle.uma_zcache.proofs.refused.ZAllocRefused.TheSendSync as refused
use Rattle.uma_zcache.specs.contracts.cache.ZCache as ZCache
use Rattle.uma_zcache.specs.contracts.locked.LockedCache as LockedCache
use Rattle.uma_zcache.specs.contracts.refused.ZAllocRefused as ZAllocRefused
use Rattle.uma_zcache.specs.declared.import.Import as import

log_send : IsSend (Log.the_row ZAllocRefused.the_row)
log_send = search (rules, refused.the_send)

module _ (I : RattleType) (g : import.Ghosts I.Denot) (i : IsSend I) where
  locked_field_send : IsSend (LockedCache.the_field I g).row
  locked_field_send = struct_send (shape (LockedCache.the_type I g)) (i, (search (entries.the_send), (book.the_field_send, (fails.the_field_send, (log_send, tt)))))

  locked_send : IsSend (LockedCache.the_row I g)
  locked_send = recorded_send (LockedCache.the_field I g).row _ _ (LockedCache.the_type I g).to_one locked_field_send

  cache_field_sync : IsSync (ZCache.the_field I g).row
  cache_field_sync = struct_sync (shape (ZCache.the_type I g)) (search (lock.the_field_sync, locked_send), tt)

  -- a cache zone, behind a reference
  pub cache_sync : IsSync (ZCache.the_row I g)
  cache_sync = recorded_sync (ZCache.the_field I g).row _ _ (ZCache.the_type I g).to_one cache_field_sync

  cache_field_send : IsSend (ZCache.the_field I g).row
  cache_field_send = struct_send (shape (ZCache.the_type I g)) (search (lock.the_field_send, locked_send), tt)

  -- a cache zone
  pub cache_send : IsSend (ZCache.the_row I g)
  cache_send = recorded_send (ZCache.the_field I g).row _ _ (ZCache.the_type I g).to_one cache_field_send
