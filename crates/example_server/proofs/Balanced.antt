-- A worker's accounts balance after each request as they did before.
use Rattle.std.proofs.Common.{◌≡◌, ◌+◌, ℕ, List, [], ◌∷◌, ◌++◌, Bool, cond, sym, ap, ◌∙◌, arith}
use Rattle.std.proofs.Math.Logic.{∥∥₁_map}
use Rattle.std.proofs.lemmas.List.Elements.{All-push, All-weaker}
use Rattle.std.proofs.lemmas.List.Sums.{sum_by_push}
use Rattle.uma.specs.SeatLedger.{SeatLedger}
use Rattle.uma.specs.Directory.{StillKnows}
use Rattle.uma.specs.declared.directory.DirectoryLocal.{DirectoryLocal}
use Rattle.uma.specs.declared.refused.Refused.{Refused as Why}
use Rattle.uma.specs.declared.refused.Refused.TheVariants.{Turned, Counts, Memory}
use Rattle.example_server.specs.declared.desk.Answer.{Answer}
use Rattle.example_server.specs.declared.desk.Answer.TheVariants.{Opened, Unnamed, Refused, Closed, Kept, NotHeld, Found, NotFound, Late}
use Rattle.example_server.specs.declared.desk.Done.{Done}
use Rattle.example_server.specs.declared.connections.Connections.{Connections}
use Rattle.example_server.specs.declared.desk.Desk.{Desk}
use Rattle.example_server.specs.declared.desk.Request.{Request}
use Rattle.example_server.specs.declared.desk.Request.TheVariants.{Open, Close, Look}
use Rattle.example_server.specs.Accounts.{Balances, IsBound, IsTold, closes, opens, turns}
use Rattle.example_server.specs.Answers.{Ends}
use Rattle.example_server.specs.Connections.{Opens, RefusesOpen, counts_in}

abbrev one : Bool → ℕ
one b = cond b 1 0

-- how an answer changes what is counted
record Moves (old new : Connections) (o c t : ℕ) : Type 0 where
  allocs : (counts_in new).allocs ≡ (counts_in old).allocs + o
  frees : (counts_in new).frees ≡ (counts_in old).frees + c
  fails : (counts_in new).fails ≡ (counts_in old).fails + t

plus-none : (n : ℕ) → n ≡ n + 0
plus-none n = omega arith

kept : (old new : Connections) → counts_in new ≡ counts_in old → Moves old new 0 0 0
kept old new ledger = record { allocs = ap (λ (l : SeatLedger). l.allocs) ledger ∙ plus-none _; frees = ap (λ (l : SeatLedger). l.frees) ledger ∙ plus-none _; fails = ap (λ (l : SeatLedger). l.fails) ledger ∙ plus-none _ }

opened : (session peer number : ℕ) (old new : Connections) → Opens session peer number old new → Moves old new 1 0 0
opened session peer number old new o = record { allocs = o.counted.allocs; frees = o.counted.frees ∙ plus-none _; fails = o.counted.fails ∙ plus-none _ }

refused : (why : Why) (peer : ℕ) (old new : Connections) → RefusesOpen peer old new why → Moves old new 0 0 (one (turns (Refused why)))
refused (Turned refusal) peer old new r = let counted = r.0.0 in record { allocs = counted.allocs ∙ plus-none _; frees = counted.frees ∙ plus-none _; fails = counted.fails }
refused Counts peer old new r = kept old new r.0.0
refused Memory peer old new r = kept old new r.0
refused why peer old new r = absurd r.0

moves : (request : Request) (answer : Answer) (old new : Desk) → Ends request answer old new
    → Moves old.connections new.connections (one (opens answer)) (one (closes answer)) (one (turns answer))
moves (Open session peer) (Opened connection) old new e = opened session peer connection old.connections new.connections e.0
moves (Open session peer) (Unnamed connection why) old new e = opened session peer connection old.connections new.connections e.0
moves (Open session peer) (Refused why) old new e = refused why peer old.connections new.connections e.0
moves (Close session) (Closed named) old new e = let counted = e.0.2.counted in record { allocs = counted.allocs ∙ plus-none _; frees = counted.frees; fails = counted.fails ∙ plus-none _ }
moves (Close session) NotHeld old new e = kept old.connections new.connections (ap (λ (d : Desk). counts_in d.connections) e.1)
moves (Close session) (Kept why) old new e = kept old.connections new.connections e.0.ledger
moves (Look session) (Found connection) old new e = kept old.connections new.connections (ap counts_in e.0)
moves (Look session) NotFound old new e = kept old.connections new.connections (ap counts_in e.0)
moves (Look session) (Late why) old new e = kept old.connections new.connections (ap counts_in e.0)
moves request answer old new e = absurd e

still_told : (request : Request) (answer : Answer) (old new : DirectoryLocal) → StillKnows old new → IsBound old request answer → IsBound new request answer
still_told (Look session) (Found connection) old new sub w = record { at = w.at; knows = sub w.at w.knows; bound = w.bound; content = w.content; named = w.named; valued = w.valued }
still_told (Open session peer) (Found connection) old new sub w = w
still_told (Close session) (Found connection) old new sub w = w
still_told request answer old new sub w = tt

told : (request : Request) (answer : Answer) (old new : Desk) → Ends request answer old new → IsBound new.names request answer
told (Look session) (Found connection) old new e = e.1
told (Open session peer) (Found connection) old new e = e
told (Close session) (Found connection) old new e = e
told request answer old new e = tt

pub balances : (request : Request) (answer : Answer) (old new : Desk) (log : List Done) → Balances old log → StillKnows old.names new.names → Ends request answer old new
    → Balances new (log ++ record { request = request; answer = answer } ∷ [])
balances request answer old new log b still e =
    let done : Done = record { request = request; answer = answer } in
    let m = moves request answer old new e in
    let o = sum_by_push (λ (d : Done). one (opens d.answer)) log done in
    let c = sum_by_push (λ (d : Done). one (closes d.answer)) log done in
    let t = sum_by_push (λ (d : Done). one (turns d.answer)) log done in
    let all = m.allocs ∙ ap (λ n. n + one (opens answer)) b.allocs ∙ sym o in
    let gone = m.frees ∙ ap (λ n. n + one (closes answer)) b.frees ∙ sym c in
    record {
      held = omega (arith, all, gone, new.connections.balanced);
      allocs = all;
      frees = gone;
      fails = m.fails ∙ ap (λ n. n + one (turns answer)) b.fails ∙ sym t;
      told =
          All-push (λ (d : Done). IsTold new.names d.request d.answer) log done (
          All-weaker (λ (d : Done). IsTold old.names d.request d.answer) (λ (d : Done). IsTold new.names d.request d.answer)
          (λ d is. ∥∥₁_map is (still_told d.request d.answer old.names new.names still)) log b.told
          ) ∣ told request answer old new e ∣₁;
    }
