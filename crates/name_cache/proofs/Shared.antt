-- A cache may be shared among threads.
use Rattle.std.proofs.Crossing.{Vec-sync, crosses}
use Rattle.std.specs.contracts.snapshot.Snapshot as Snapshot
use denote.RattleType.{RattleType}
use denote.Param.Send.{IsSend, IsSync, sendable}
use denote.Param.SendFields.{declared_send, declared_sync}
use Rattle.keyed_lock.specs.contracts.lock.KeyedLock as KeyedLock
use Rattle.keyed_lock.proofs.lock.KeyedLock.TheSendSync as lock
use Rattle.name_rows.specs.contracts.names.Names as Names
use Rattle.name_rows.specs.contracts.names.NamesHost.TheImpl as host
use Rattle.name_rows.specs.contracts.names.Part as Part
use Rattle.name_rows.proofs.names.Names.TheSendSync as names
use Rattle.name_rows.proofs.row.Row.TheSendSync as row
use Rattle.name_cache.specs.contracts.entry_hooks.EntryHooks as EntryHooks
use Rattle.name_cache.specs.contracts.entry_hooks.EntryHooksHooksRaisedEntry.TheImpl as hooks_of
use Rattle.name_cache.specs.contracts.entry_hooks.RaisedEntry as RaisedEntry
use Rattle.name_cache.specs.contracts.entry_hooks.RaisedEntryBody.TheImpl as body
use Rattle.name_cache.proofs.entry_hooks.EntryHooks.TheSendSync as hooks
use Rattle.name_cache.proofs.entry_hooks.RaisedEntry.TheSendSync as raised
use Rattle.uma_seat.specs.contracts.seat.SeatCache as SeatCache
use Rattle.uma_zone.specs.contracts.zone.Zone as Zone
use Rattle.uma_zone.proofs.Shared.{seat_send, zone_sync}
use Rattle.name_cache.specs.contracts.cache.NameCache as NameCache
use Rattle.name_cache.specs.contracts.key.RowKey as RowKey
use Rattle.name_cache.specs.contracts.locked_row.LockedRow as LockedRow
use Rattle.name_cache.specs.contracts.locked_row.RowOfKey as RowOfKey
use Rattle.name_cache.specs.contracts.locked_row.RowOfKeyLockRuleLockedRowRowKey.TheImpl as rule_of
use Rattle.name_cache.proofs.locked_row.LinkedItem.TheSendSync as linked

-- a snapshot owns nothing
snapshot_send : (Y : RattleType) → IsSend (Snapshot.the_row Y)
snapshot_send Y = record { owned = λ d vs. ((λ vss. (tt, ((λ uss. (tt, tt)), tt))), tt); leaving = λ k f vs. tt }

locked_send : IsSend LockedRow.the_row
locked_send = declared_send LockedRow.the_type (row.the_send, (search (linked.the_send, crosses, sendable) depth 20, (snapshot_send RowKey.the_row, tt)))

abbrev RowLock : RattleType
RowLock = KeyedLock.the_row LockedRow.the_row RowKey.the_row RowOfKey.the_row rule_of.ghosts

lock_sync : IsSync RowLock
lock_sync = search (lock.the_sync, locked_send, sendable)

abbrev EntryZone : RattleType
EntryZone = Zone.the_row RaisedEntry.the_row EntryHooks.the_row Names.the_row Part.the_row body.ghosts hooks_of.ghosts host.ghosts

entry_zone_sync : IsSync EntryZone
entry_zone_sync = zone_sync RaisedEntry.the_row EntryHooks.the_row Names.the_row Part.the_row body.ghosts hooks_of.ghosts host.ghosts raised.the_send hooks.the_send hooks.the_sync names.the_send names.the_sync

-- a cache, behind a reference
pub cache_sync : IsSync NameCache.the_row
cache_sync = declared_sync NameCache.the_type (entry_zone_sync, (Vec-sync RowLock lock_sync, tt))

-- a seat of its zone
abbrev EntrySeat : RattleType
EntrySeat = SeatCache.the_row RaisedEntry.the_row Names.the_row Part.the_row body.ghosts host.ghosts

pub entry_seat_send : IsSend EntrySeat
entry_seat_send = seat_send RaisedEntry.the_row Names.the_row Part.the_row body.ghosts host.ghosts raised.the_send names.the_send names.the_sync
