-- A pool may be shared among threads, and a local of it sent to one, where its items may be sent, and its hooks may be sent and shared. So too a directory and a local of it.
use Rattle.std.proofs.Crossing.{crosses}
use Rattle.std.specs.contracts.snapshot.Snapshot as Snapshot
use denote.RattleType.{RattleType}
use denote.Builtin.{unit}
use denote.Ref.{NamedLft}
use denote.Param.Send.{AllSync, IsSend, IsSync, recorded_sync, shr_send, struct_sync, sendable}
use denote.Param.SendFields.{declared_send, declared_sync}
use denote.Struct.Declared.{shape}
use denote.Struct.Field.{rows}
use denote.Struct.Struct.{Struct}
use denote.Struct.Tuple.{TupleAt, parts, type_at}
use mir.Syntax.{Sym}
use Rattle.std.proofs.Common.{List, [], ◌∷◌}
use Rattle.keyed_lock.specs.contracts.lock.KeyedLock as KeyedLock
use Rattle.keyed_lock.proofs.lock.KeyedLock.TheSendSync as lock
use Rattle.smr_clock.specs.contracts.host.Bare as Bare
use Rattle.smr_clock.specs.contracts.host.BareHost.TheImpl as bare_host
use Rattle.smr_clock.proofs.host.Bare.TheSendSync as bare
use Rattle.smr_clock.specs.contracts.clock.Clock as Clock
use Rattle.smr_clock.proofs.clock.Clock.TheSendSync as clock
use Rattle.smr_clock.specs.contracts.pass.Pass as Pass
use Rattle.smr_clock.specs.declared.host.Host as host
use Rattle.smr_clock.proofs.pass.Pass.TheSendSync as pass
use Rattle.uma_item.specs.contracts.item.Item as Item
use Rattle.uma_item.proofs.item.Item.TheSendSync as item
use Rattle.uma_item.specs.contracts.trail.TrailHooks as TrailHooks
use Rattle.uma_item.proofs.trail.TrailHooks.TheSendSync as trail
use Rattle.uma_life.specs.contracts.states.Live as Live
use Rattle.uma_life.proofs.states.Live.TheSendSync as live
use Rattle.uma_life.specs.declared.hooks.Body as body
use Rattle.uma_life.specs.declared.hooks.Hooks as hooks
use Rattle.uma_zone.proofs.Shared.{zone_sync, seat_send}
use Rattle.name_cache.proofs.Shared.{cache_sync, entry_seat_send}
use Rattle.name_rows.specs.contracts.names.Names as Names
use Rattle.name_rows.specs.contracts.names.NamesHost.TheImpl as names_host
use Rattle.name_rows.specs.contracts.names.Part as Part
use Rattle.uma.specs.contracts.directory.Directory as Directory
use Rattle.uma.specs.contracts.directory.DirectoryLocal as DirectoryLocal
use Rattle.uma.specs.contracts.local.Local as Local
use Rattle.uma.specs.contracts.pool.PassKey as PassKey
use Rattle.uma.specs.contracts.pool.PassRule as PassRule
use Rattle.uma.specs.contracts.pool.PassRuleLockRuleReadyPassesPassKey.TheImpl as rule
use Rattle.uma.specs.contracts.pool.ReadyPasses as ReadyPasses
use Rattle.uma.proofs.plan.NamePlan.TheSendSync as name_plan
use Rattle.uma.proofs.plan.Plan.TheSendSync as plan
use Rattle.uma.specs.contracts.pool.Pool as Pool

-- what a closure shares with other threads, one row after another

parts_sync : (Ts : List RattleType) → AllSync Ts → AllSync (rows (parts Ts))
parts_sync [] all = tt
parts_sync (T ∷ Ts) all = (all.0, parts_sync Ts all.1)

pub rows_sync : (Ts : List RattleType) (ν : Sym) → AllSync Ts → IsSync (TupleAt ν Ts)
rows_sync Ts ν all = recorded_sync (Struct (shape (type_at ν Ts))) _ _ (type_at ν Ts).to_one (struct_sync (shape (type_at ν Ts)) (parts_sync Ts all))

-- items with data that may be sent, and hooks by those of their user

pub item_send : (B : RattleType) → IsSend B → IsSend (Item.the_row B)
item_send B b = search (item.the_send, b, crosses, sendable) depth 20

pub hooks_send : (K : RattleType) → IsSend K → IsSend (TrailHooks.the_row K)
hooks_send K s = search (trail.the_send, s, sendable) depth 20

pub hooks_sync : (K : RattleType) → IsSync K → IsSync (TrailHooks.the_row K)
hooks_sync K s = search (trail.the_sync, s, sendable) depth 20

-- an item that somebody holds
pub held_send : (T : RattleType) (g : body.Ghosts T.Denot) → IsSend T → IsSend (Live.the_row T g)
held_send T g t = search (live.the_send, t, crosses, sendable) depth 20

-- a snapshot owns nothing
snapshot_send : (Y : RattleType) → IsSend (Snapshot.the_row Y)
snapshot_send Y = record { owned = λ d vs. ((λ vss. (tt, ((λ uss. (tt, tt)), tt))), tt); leaving = λ k f vs. tt }

abbrev BareClock : RattleType
BareClock = Clock.the_row Bare.the_row unit bare_host.ghosts

clock_sync : IsSync BareClock
clock_sync = search (clock.the_sync, sendable) depth 20

pass_send : IsSend (Pass.the_row Bare.the_row unit bare_host.ghosts)
pass_send = search (pass.the_send, sendable) depth 20

module _ (H P : RattleType) (h : host.Ghosts H.Denot P.Denot) (p : IsSend (Pass.the_row H P h)) where
  abbrev Ready : RattleType
  Ready = ReadyPasses.the_row H P h

  ready_send : IsSend Ready
  ready_send = declared_send (ReadyPasses.the_type H P h) (search (p, crosses, sendable) depth 20, (snapshot_send (Clock.the_row H P h), tt))

  abbrev Lock : RattleType
  Lock = KeyedLock.the_row Ready (PassKey.the_row H P h) PassRule.the_row (rule.ghosts H P h rule.no_dict)

  lock_sync : IsSync Lock
  lock_sync = search (lock.the_sync, ready_send, sendable)

module _ (T K : RattleType) (g : body.Ghosts T.Denot) (k : hooks.Ghosts K.Denot T.Denot) (t : IsSend T) (ks : IsSend K) (ky : IsSync K) where
  -- a pool, behind a reference
  pub pool_sync : IsSync (Pool.the_row T K g k)
  pool_sync = declared_sync (Pool.the_type T K g k)
      (zone_sync T K Bare.the_row unit g k bare_host.ghosts t ks ky bare.the_send bare.the_sync, (clock_sync, (search (plan.the_sync, sendable), (lock_sync Bare.the_row unit bare_host.ghosts pass_send, tt))))

  -- a local
  pub local_send : (a : NamedLft) → IsSend (Local.the_row a T K g k)
  local_send a = declared_send (Local.the_type a T K g k)
      (shr_send a.mir a.lft _ pool_sync, (pass_send, (seat_send T Bare.the_row unit g bare_host.ghosts t bare.the_send bare.the_sync, tt)))

names_pass_send : IsSend (Pass.the_row Names.the_row Part.the_row names_host.ghosts)
names_pass_send = search (pass.the_send, sendable) depth 20

names_clock_sync : IsSync (Clock.the_row Names.the_row Part.the_row names_host.ghosts)
names_clock_sync = search (clock.the_sync, sendable) depth 20

-- a directory, behind a reference
pub directory_sync : IsSync Directory.the_row
directory_sync = declared_sync Directory.the_type (cache_sync, (names_clock_sync, (search (name_plan.the_sync, sendable), (lock_sync Names.the_row Part.the_row names_host.ghosts names_pass_send, tt))))

-- a local of a directory
pub directory_local_send : (a : NamedLft) → IsSend (DirectoryLocal.the_row a)
directory_local_send a = declared_send (DirectoryLocal.the_type a) (shr_send a.mir a.lft _ directory_sync, (names_pass_send, (entry_seat_send, tt)))
