-- Own: what the workers of a server do in its rounds.
use Rattle.std.specs.Prelude.{◌≡◌, ◌<◌, ◌≤◌, ◌++◌, ◌∷◌, ℕ, List, [], true, All, map, flat_map, length, slice_get, slice_index_or}
use Rattle.std.specs.Option.{option_map_or}
use Rattle.example_server.specs.declared.desk.Done.{Done}
use Rattle.example_server.specs.declared.desk.Desk.{Desk}
use Rattle.example_server.specs.declared.desk.Request.{Request}
use Rattle.example_server.specs.declared.round.Round.{Round}
use Rattle.example_server.specs.declared.worker.Worker.{Worker}
use Rattle.example_server.specs.Accounts.{Balances}
use Rattle.example_server.specs.Answers.{Ends, Stays}

-- the requests that were answered, in order
abbrev pub requests_in : List Done → List Request
requests_in log = map (λ done. done.request) log

-- what worker `n` is asked in a round: nothing where the round has no list for it
abbrev pub asked_of : Round → ℕ → List Request
asked_of round n = option_map_or (λ list. list.items) (slice_get round.lists.items n) []

-- the round asks each of so many workers, and nobody else
abbrev pub AsksEach : ℕ → Round → Type 0
AsksEach count round = length round.lists.items ≡ count

-- the round asks nobody beyond so many workers, so each of its lists has its worker
abbrev pub AsksNoOther : ℕ → Round → Type 0
AsksNoOther count round = length round.lists.items ≤ count

-- A desk served these requests one after another: each answer is what it gave, and says what was done.
abbrev pub Ran : Desk → List Done → Desk → Type 0
Ran old [] new = new ≡ old
Ran old (done ∷ rest) new = (next : Desk) × Ends done.request done.answer old next × Ran next rest new

-- The worker's desk served these requests, and the worker logged each with its answer, behind those that it had done.
pub record HasServed (requests : List Request) (old new : Worker) : Type 0 where
  pub done : List Done
  pub asked : requests_in done ≡ requests
  pub log : new.log.items ≡ old.log.items ++ done
  pub ran : Ran old.desk done new.desk

-- there was memory for the worker's log so far
abbrev pub HasMemory : Worker → Type 0
HasMemory worker = worker.logs ≡ true

-- What a worker did of these requests: where there was memory for its log, it had been so before too, and the worker answered each, in order.
pub record Works (requests : List Request) (old new : Worker) : Type 0 where
  pub stays : Stays old.desk new.desk
  pub served : HasMemory new → HasMemory old × HasServed requests old new

-- each worker's accounts balance
abbrev pub AllBalance : List Worker → Type 0
AllBalance workers = All (λ worker. Balances worker.desk worker.log.items) workers

-- each worker worked on its requests of this round
abbrev pub AllWorked : Round → List Worker → List Worker → Type 0
AllWorked round old new = (n : ℕ) (d : Worker) → n < length old → Works (asked_of round n) (slice_index_or old n d) (slice_index_or new n d)

-- what worker `n` is asked in these rounds, one after another
abbrev pub asked_in : List Round → ℕ → List Request
asked_in rounds n = flat_map (λ round. asked_of round n) rounds

-- each worker worked on its requests of these rounds
abbrev pub AllServed : List Round → List Worker → List Worker → Type 0
AllServed rounds old new = (n : ℕ) (d : Worker) → n < length old → Works (asked_in rounds n) (slice_index_or old n d) (slice_index_or new n d)
