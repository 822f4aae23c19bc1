-- What a worker holds, as one more is opened and one is closed.
use Rattle.std.proofs.Common.{◌≡◌, ◌<◌, ◌+◌, ◌++◌, ◌∷◌, [], ℕ, List, Some, All, length, take, drop, nat_lt, ap, ◌∙◌, subst, sym, arith, ltb-true}
use Rattle.std.specs.List.{position_or_len}
use Rattle.std.proofs.lemmas.Option.{cond_some}
use Rattle.std.proofs.lemmas.List.{length_push}
use Rattle.std.proofs.lemmas.List.Elements.{All-append, All-drop, All-push, All-take}
use Rattle.uma.specs.LedgerSteps.{CountsAlloc, CountsFree}
use Rattle.uma.specs.SeatLedger.{SeatLedger}
use Rattle.example_server.specs.declared.connections.Connections.{Connections}
use Rattle.example_server.specs.declared.connections.Held.{Held}
use Rattle.example_server.specs.Connections.{Closes, KeepsPool, counts_in, held_in}
use Rattle.example_server.specs.Held.{first_of, is_of}

-- what holds of all by a pool holds by an equal one
pub moved : {X : Type 0} (P : X → Held → Type 0) (x y : X) (all room : List Held) → y ≡ x → room ≡ all → All (P x) all → All (P y) room
moved P x y all room same is each = subst (λ (l : List Held). All (P y) l) (sym is) (subst (λ z. All (P z) all) (sym same) each)

-- a list that was given room, and then an element
pub pushed : {X : Type 0} (before room all : List X) (x : X) → room ≡ before → all ≡ room ++ x ∷ [] → all ≡ before ++ x ∷ []
pushed before room all x same is = is ∙ ap (λ l. l ++ x ∷ []) same

pub all_pushed : (P : Held → Type 0) (before all : List Held) (held : Held) → all ≡ before ++ held ∷ [] → All P before → P held → All P all
all_pushed P before all held is each one = subst (λ (l : List Held). All P l) (sym is) (All-push P before held each one)

pub one_more_out : (a b : SeatLedger) (before all : List Held) (held : Held) → CountsAlloc a b → all ≡ before ++ held ∷ [] → a.allocs ≡ a.frees + length before → b.allocs ≡ b.frees + length all
one_more_out a b before all held c is out =
    let size : length all ≡ length before + 1 = ap length is ∙ length_push before held in
    let allocs = c.allocs in
    let frees = c.frees in
    omega (arith, size, allocs, frees, out)

-- what holds of all held holds of those that are left
pub all_left : (P : Held → Type 0) (all left : List Held) (place : ℕ) → left ≡ take place all ++ drop (place + 1) all → All P all → All P left
all_left P all left place is each = subst (λ (l : List Held). All P l) (sym is) (All-append P (take place all) (drop (place + 1) all) (All-take P place all each) (All-drop P (place + 1) all each))

-- the first of a session is one of those that are held
pub is_below : (session place : ℕ) (all : List Held) → first_of session all ≡ Some place → place < length all
is_below session place all at =
    let both = cond_some (nat_lt (position_or_len (is_of session) all) (length all)) (position_or_len (is_of session) all) place at in
    subst (λ n. n < length all) both.1 (ltb-true _ _ both.0)

-- where nothing was counted before, a close is one of what was held then
pub closed_from : (place : ℕ) (old ready new : Connections) → KeepsPool old ready → Closes place ready new → Closes place old new
closed_from place old ready new kept closes =
    record {
      left = subst (λ (l : List Held). held_in new ≡ take place l ++ drop (place + 1) l) kept.held closes.left;
      crossed = closes.crossed;
      counted = subst (λ (l : SeatLedger). CountsFree l (counts_in new) closes.crossed) kept.ledger closes.counted;
    }
