-- A zone may be shared among threads, and a seat of it sent to one, where its items may be sent, and its hooks and its host may be sent and shared.
use Rattle.std.proofs.Common.{rules}
use Rattle.std.proofs.Crossing.{Arc-sync, Vec-send, Vec-sync, crosses}
use denote.RattleType.{RattleType}
use denote.Param.Send.{IsSend, IsSync, array_send, recorded_send, recorded_sync, struct_send, struct_sync, sendable}
use denote.Struct.Declared.{shape}
use Rattle.deed_book.proofs.book.Book.TheSendSync as book
use Rattle.deed_book.proofs.fail_book.FailShare.TheSendSync as share
use Rattle.keyed_lock.proofs.lock.KeyedLock.TheSendSync as lock
use Rattle.smr_clock.proofs.clock.Clock.TheSendSync as clock
use Rattle.uma_slabs.proofs.places.Places.TheSendSync as places
use Rattle.uma_life.proofs.tally.TallySum.TheSendSync as sum
use Rattle.uma_bucket.proofs.bucket.Bucket.TheSendSync as bucket
use Rattle.uma_keg.proofs.home_items.Outside.TheSendSync as outside
use Rattle.uma_keg.proofs.home_items.HomeItems.TheSendSync as home
use Rattle.uma_keg.specs.contracts.keg.Keg as Keg
use Rattle.uma_seat.proofs.counts.Counts.TheSendSync as counts
use Rattle.uma_seat.proofs.rows.PlainRow.TheSendSync as plain
use Rattle.uma_seat.proofs.rows.FreedRow.TheSendSync as freed
use Rattle.uma_seat.proofs.rack.Rack.TheSendSync as rack
use Rattle.uma_seat.specs.contracts.seat.SeatCache as SeatCache
use Rattle.locked_keg.proofs.locked_keg.FailBooks.TheSendSync as fails
use Rattle.locked_keg.specs.contracts.locked_keg.LockedKeg as LockedKeg
use Rattle.locked_keg.proofs.locked_keg.KegRule.TheSendSync as keg_rule
use Rattle.locked_keg.specs.contracts.locked_keg.KegKey as KegKey
use Rattle.locked_keg.specs.contracts.locked_keg.KegRule as KegRule
use Rattle.locked_keg.specs.contracts.locked_keg.KegRuleLockRuleLockedKegKegKey.TheImpl as rule
use Rattle.keyed_lock.specs.contracts.lock.KeyedLock as KeyedLock
use Rattle.uma_keg.proofs.fetch.FetchRefused.TheSendSync as refused
use Rattle.uma_keg.specs.contracts.fetch.FetchRefused as FetchRefused
use Rattle.std.specs.contracts.result.Result as Result
use Rattle.listed.specs.contracts.list.Log as Log
use denote.Builtin.{u32}
use Rattle.inbox.proofs.Shared.{port_send}
use Rattle.uma_bucket.specs.contracts.shelved.InboxKey as InboxKey
use Rattle.uma_bucket.specs.contracts.shelved.Shelved as Shelved
use Rattle.uma_domain.proofs.Shared.{shelved_send, domains_sync}
use Rattle.uma_zone.specs.contracts.domains.ZoneDomains as ZoneDomains
use Rattle.uma_zone.proofs.right.KeptRight.TheSendSync as right
use Rattle.uma_zone.specs.contracts.zone.Zone as Zone
use Rattle.smr_clock.specs.declared.host.Host as host
use Rattle.uma_life.specs.declared.hooks.Body as body
use Rattle.uma_life.specs.declared.hooks.Hooks as hooks

end_send : IsSend (Result.the_row u32 FetchRefused.the_row)
end_send = search (refused.the_send, sendable) depth 20

log_send : IsSend (Log.the_row (Result.the_row u32 FetchRefused.the_row))
log_send = search (rules, end_send)

module _ (T K : RattleType) (g : body.Ghosts T.Denot) (k : hooks.Ghosts K.Denot T.Denot) (t : IsSend T) (ks : IsSend K) where
  keg_field_send : IsSend (Keg.the_field T K g k).row
  keg_field_send = struct_send (shape (Keg.the_type T K g k))
      (search (places.the_send), (outside.the_field_send, (search (home.the_field_send), (book.the_field_send, (search sendable, (array_send (Log.the_row (Result.the_row u32 FetchRefused.the_row)) 8 log_send, (search sendable, (search sendable, (sum.the_field_send, (ks, tt))))))))))

  locked_field_send : IsSend (LockedKeg.the_field T K g k).row
  locked_field_send = struct_send (shape (LockedKeg.the_type T K g k)) (keg_field_send, (fails.the_field_send, tt))

  pub locked_send : IsSend (LockedKeg.the_row T K g k)
  locked_send = recorded_send (LockedKeg.the_field T K g k).row _ _ (LockedKeg.the_type T K g k).to_one locked_field_send

  abbrev KegLock : RattleType
  KegLock = KeyedLock.the_row (LockedKeg.the_row T K g k) KegKey.the_row KegRule.the_row (rule.ghosts T K g rule.no_dict k rule.no_dict rule.no_dict)

  lock_send : IsSend KegLock
  lock_send = search (lock.the_send, locked_send, keg_rule.the_send, sendable)

  lock_sync : IsSync KegLock
  lock_sync = search (lock.the_sync, locked_send, keg_rule.the_sync, sendable)

module _ (T H P : RattleType) (g : body.Ghosts T.Denot) (h : host.Ghosts H.Denot P.Denot) (t : IsSend T) (s : IsSend H) (y : IsSync H) where
  -- a seat, as a field of a struct
  pub seat_field_send : IsSend (SeatCache.the_field T H P g h).row
  seat_field_send = struct_send (shape (SeatCache.the_type T H P g h))
      (search (crosses, sendable) depth 20, (search sendable, (search (bucket.the_field_send), (search (plain.the_field_send), (search (freed.the_field_send), (search (rack.the_field_send), (counts.the_field_send, (share.the_field_send, (Vec-send _ (port_send (Shelved.the_row T H P g h) (InboxKey.the_row H P h) (shelved_send T H P g h t s y)), tt)))))))))

  -- a seat
  pub seat_send : IsSend (SeatCache.the_row T H P g h)
  seat_send = recorded_send (SeatCache.the_field T H P g h).row _ _ (SeatCache.the_type T H P g h).to_one seat_field_send

  domains_field_sync : IsSync (ZoneDomains.the_field T H P g h).row
  domains_field_sync = struct_sync (shape (ZoneDomains.the_type T H P g h))
      (search (clock.the_field_sync), (search (crosses), (search sendable, (search sendable, (domains_sync T H P g h t s y, tt)))))

module _ (T K H P : RattleType) (g : body.Ghosts T.Denot) (k : hooks.Ghosts K.Denot T.Denot) (h : host.Ghosts H.Denot P.Denot) (t : IsSend T) (ks : IsSend K) (ky : IsSync K) (s : IsSend H) (y : IsSync H) where
  zone_field_sync : IsSync (Zone.the_field T K H P g k h).row
  zone_field_sync = struct_sync (shape (Zone.the_type T K H P g k h)) (
    Arc-sync (KegLock T K g k t ks) (lock_send T K g k t ks) (lock_sync T K g k t ks),
    (domains_field_sync T H P g h t s y, (ky, (search sendable, (search sendable, (search sendable, (search (crosses), (Vec-sync _ (search (right.the_sync)), tt))))))),
  )

  -- a zone, behind a reference
  pub zone_sync : IsSync (Zone.the_row T K H P g k h)
  zone_sync = recorded_sync (Zone.the_field T K H P g k h).row _ _ (Zone.the_type T K H P g k h).to_one zone_field_sync
