-- A worker may be sent to a thread: it shares the pool and the directory, and owns the rest.
use Rattle.std.proofs.Crossing.{crosses, sync as heap_sync}
use Rattle.std.specs.contracts.alloc.Global as heap
use base.Fml.{Lft}
use denote.RattleType.{RattleType}
use denote.Ref.{NamedLft, ShrRef}
use denote.Param.Send.{IsSend, IsSync, shr_sync, sendable}
use denote.Param.SendFields.{declared_send}
use denote.Struct.Tuple.{TupleAt}
use mir.Syntax.{Lifetime, Sym}
use Rattle.std.proofs.Common.{[], ◌∷◌}
use Rattle.uma.proofs.Shared.{directory_local_send, held_send, hooks_send, hooks_sync, item_send, local_send, rows_sync}
use Rattle.example_server.proofs.desk.Done.TheSendSync as done
use Rattle.example_server.specs.contracts.connections.Connection as Connection
use Rattle.example_server.proofs.connections.Connection.TheSendSync as connection
use Rattle.example_server.specs.contracts.connections.ConnectionHooks as ConnectionHooks
use Rattle.example_server.proofs.connections.ConnectionHooks.TheSendSync as hooks
use Rattle.example_server.specs.contracts.connections.Connections as Connections
use Rattle.example_server.specs.contracts.desk.Desk as Desk
use Rattle.example_server.specs.contracts.connections.Held as Held
use Rattle.example_server.proofs.round.Round.TheSendSync as round
use Rattle.example_server.specs.contracts.round.Round as Round
use Rattle.example_server.specs.contracts.worker.Worker as Worker

data_send : IsSend Connection.the_row
data_send = search (connection.the_send, crosses, sendable) depth 20

held_row_send : IsSend Held.the_row
held_row_send = declared_send Held.the_type (search (sendable), (search (sendable), (held_send _ _ (item_send _ data_send), tt)))

module _ (a : NamedLft) where
  connections_send : IsSend (Connections.the_row a)
  connections_send = declared_send (Connections.the_type a) (
    local_send _ _ _ _ (item_send _ data_send) (hooks_send ConnectionHooks.the_row (search (hooks.the_send, sendable))) (hooks_sync ConnectionHooks.the_row (search (hooks.the_sync, sendable))) a,
    (search (held_row_send, crosses, sendable) depth 20, tt),
  )

  desk_send : IsSend (Desk.the_row a)
  desk_send = declared_send (Desk.the_type a) (connections_send, (directory_local_send a, tt))

  pub worker_send : IsSend (Worker.the_row a)
  worker_send = declared_send (Worker.the_type a) (desk_send, (search (done.the_send, crosses, sendable) depth 20, (search (crosses, sendable) depth 20, tt)))

-- what a round's threads share: the handle, the allocator and the round
pub shared_sync : (R : RattleType) (ℓ1 ℓ2 ℓ3 : Lifetime) (κ1 κ2 κ3 : Lft) (ν : Sym) → IsSync R → IsSync (TupleAt ν (ShrRef ℓ1 κ1 R ∷ ShrRef ℓ2 κ2 heap.the_row ∷ ShrRef ℓ3 κ3 Round.the_row ∷ []))
shared_sync R ℓ1 ℓ2 ℓ3 κ1 κ2 κ3 ν r = rows_sync (ShrRef ℓ1 κ1 R ∷ ShrRef ℓ2 κ2 heap.the_row ∷ ShrRef ℓ3 κ3 Round.the_row ∷ []) ν (shr_sync _ _ _ r, (shr_sync _ _ _ heap_sync, (shr_sync ℓ3 κ3 Round.the_row (search (round.the_sync, crosses, sendable) depth 20), tt)))
