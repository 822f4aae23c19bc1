-- Own: how a worker begins, and why none is hired.
use Rattle.std.specs.Prelude.{◌≡◌, ◌⊎◌, []}
use Rattle.uma.specs.LedgerSteps.{IsNew}
use Rattle.uma.specs.Directory.{RefusesWay, counted_by, directory_of}
use Rattle.uma.specs.Local.{pool_of}
use Rattle.uma.specs.Taken.{RefusesLocal}
use Rattle.uma.specs.declared.refused.Refused.{Refused}
use Rattle.example_server.specs.declared.staff.Shared.{Shared}
use Rattle.example_server.specs.declared.worker.Worker.{Worker}
use Rattle.example_server.specs.Connections.{counts_in, held_in}
use Rattle.example_server.specs.Serving.{HasMemory}

-- the worker is of this pool and this directory
pub record IsAt (shared : Shared) (worker : Worker) : Type 0 where
  pub pool : pool_of worker.desk.connections.local ≡ shared.pool.now
  pub directory : directory_of worker.desk.names ≡ shared.directory.now

-- The worker begins with nothing: it was asked nothing, holds no connection, and its locals, which are of this pool and this directory, counted nothing.
pub record BeginsAt (shared : Shared) (worker : Worker) : Type 0 where
  pub at : IsAt shared worker
  pub log : worker.log.items ≡ []
  pub logs : HasMemory worker
  pub held : held_in worker.desk.connections ≡ []
  pub ledger : IsNew (counts_in worker.desk.connections)
  pub names : IsNew (counted_by worker.desk.names)

-- Why no worker is hired: the pool or the directory gives no local more, or memory is wanting.
abbrev pub RefusesHire : Shared → Refused → Type 0
RefusesHire shared why = RefusesLocal shared.pool.now why ⊎ RefusesWay shared.directory.now why
