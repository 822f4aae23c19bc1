-- Own: what a user of the server wants of each worker.
use Rattle.std.specs.Prelude.{◌≡◌, ◌+◌, ℕ, Bool, true, false, List, All, count_by, length}
use Rattle.uma.specs.Directory.{WasBound, known_to}
use Rattle.uma.specs.declared.directory.DirectoryLocal.{DirectoryLocal}
use Rattle.uma.specs.declared.refused.Refused.TheVariants.{Turned}
use Rattle.example_server.specs.declared.desk.Answer.{Answer}
use Rattle.example_server.specs.declared.desk.Answer.TheVariants.{Opened, Unnamed, Refused, Closed, Found}
use Rattle.example_server.specs.declared.desk.Done.{Done}
use Rattle.example_server.specs.declared.desk.Desk.{Desk}
use Rattle.example_server.specs.declared.desk.Request.{Request}
use Rattle.example_server.specs.declared.desk.Request.TheVariants.{Look}
use Rattle.example_server.specs.Connections.{counts_in, held_in}

-- a connection was opened
abbrev pub opens : Answer → Bool
opens (Opened connection) = true
opens (Unnamed connection why) = true
opens _ = false

-- a connection was closed
abbrev pub closes : Answer → Bool
closes (Closed named) = true
closes _ = false

-- the pool turned the request away
abbrev pub turns : Answer → Bool
turns (Refused (Turned refusal)) = true
turns _ = false

-- how many of these requests opened a connection, closed one, or were turned away by the pool

abbrev pub opened_in : List Done → ℕ
opened_in log = count_by (λ done. opens done.answer) log

abbrev pub closed_in : List Done → ℕ
closed_in log = count_by (λ done. closes done.answer) log

abbrev pub turned_in : List Done → ℕ
turned_in log = count_by (λ done. turns done.answer) log

-- what was found was bound to the session that was asked for
abbrev pub IsBound : DirectoryLocal → Request → Answer → Type 0
IsBound names (Look session) (Found connection) = WasBound session connection (known_to names)
IsBound names request (Found connection) = ⊥
IsBound names request answer = Unit {0}

-- the same as a fact that a type can keep, which has at most one proof
abbrev pub IsTold : DirectoryLocal → Request → Answer → Type 0
IsTold names request answer = ∥ IsBound names request answer ∥₁

-- The accounts of a worker:
-- 1. Each connection that was opened is closed or still held.
-- 2. The pool counted as many allocations as connections were opened, as many frees as were closed, and as many fails as requests were turned away.
-- 3. What was found was bound.
pub record Balances (desk : Desk) (log : List Done) : Type 0 where
  pub held : opened_in log ≡ closed_in log + length (held_in desk.connections)
  pub allocs : (counts_in desk.connections).allocs ≡ opened_in log
  pub frees : (counts_in desk.connections).frees ≡ closed_in log
  pub fails : (counts_in desk.connections).fails ≡ turned_in log
  pub told : All (λ done. IsTold desk.names done.request done.answer) log
