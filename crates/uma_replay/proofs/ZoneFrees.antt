-- What the ledgers of a zone have to do with the trace's lines, all workers together.
use Rattle.std.proofs.Common.{◌≡◌, ℕ, suc, ◌+◌, ◌<◌, ◌≤◌, List, [], ◌∷◌, Bool, true, length, Option, Some, refl, sym, ap, ◌∙◌, subst, arith, eq-eqb, reverse}
use Rattle.std.proofs.lemmas.Bool.{cond-true}
use Rattle.std.proofs.lemmas.List.Sums.{sum_by-cons}
use Rattle.std.specs.Prelude.{◌==◌, slice_get, count_by, sum_by}
use Rattle.trace_text.specs.declared.trace.Trace.{Trace}
use Rattle.trace_text.specs.Lines.{Line, lines_of}
use Rattle.trace_text.specs.Limits.{last_slot}
use Rattle.trace_text.specs.Reading.{held}
use Rattle.trace_text.specs.Valid.{IsValid}
use Rattle.zone_stats.specs.declared.ledger.SeatLedger.{SeatLedger}
use Rattle.zone_stats.specs.Line.{total_allocs, total_fails, total_frees}
use Rattle.replay_worker.specs.Counting.{asked, freed}
use Rattle.uma_replay.specs.Counting.{free_count}
use Rattle.uma_replay.specs.Report.{FreesFit}
use Rattle.uma_replay.proofs.Filled.{ask_count, emptied-is, filled_at, filled_slots, unit_of}
use Rattle.uma_replay.proofs.OwnCounts.{lines_are}
use Rattle.uma_replay.proofs.Upto.{upto, upto-none, upto-more, over-rows, count-upto}
use Rattle.uma_replay.proofs.WorkerSums.{Sums, Sums-all}

le_by : {a b c : ℕ} → a ≤ b → b ≡ c → a ≤ c
le_by {a} {b} {c} below same = let P : ℕ → Type 0 = λ n. a ≤ n in subst P same below

le_of : {n : ℕ} → n ≡ 1 → 1 ≤ n
le_of {n} is = omega arith

seven : (r rs a f xs fs r' a' f' : ℕ) → r' ≡ r + rs → a' ≡ a + xs → f' ≡ f + fs → r ≡ a + f → rs ≡ xs + fs → r' ≡ a' + f'
seven r rs a f xs fs r' a' f' e1 e2 e3 e4 e5 = omega arith

fits_by : (filled freed asks requests allocs fails frees live : ℕ) → filled + freed ≡ asks → requests ≡ asks → requests ≡ allocs + fails → live ≤ filled → live + frees ≡ allocs → freed ≤ frees + fails
fits_by filled freed asks requests allocs fails frees live e1 e2 e3 below e4 = omega arith

one_at : (z : ℕ) (o : Option ℕ) → o ≡ Some z → 1 ≤ unit_of z o
one_at z o is =
    let P : Option ℕ → Type 0 = λ o. 1 ≤ unit_of z o in
    let one : unit_of z (Some z) ≡ 1 = cond-true (z == z) 1 0 (eq-eqb z z refl) in
    subst P (sym is) (le_of one)

-- a list's sum, and one over the places of its elements
pub sum-upto-le : {A : Type 0} (f : A → ℕ) (xs : List A) (g : ℕ → ℕ) (a : ℕ) → ((i : ℕ) (x : A) → slice_get xs i ≡ Some x → f x ≤ g (a + i)) → sum_by f xs ≤ upto g a (length xs)
sum-upto-le f [] g a each = omega (arith, upto-none g a)
sum-upto-le f (x ∷ xs) g a each =
    let here : g (a + 0) ≡ g a = ap g (let e : a + 0 ≡ a = omega arith in e) in
    let rest : sum_by f xs ≤ upto g (suc a) (length xs) = sum-upto-le f xs g (suc a)
    (λ i y at. let next : g (a + suc i) ≡ g (suc a + i) = ap g (let e : a + suc i ≡ suc a + i = omega arith in e) in omega (arith, each (suc i) y at, next)) in
    omega (arith, sum_by-cons f x xs, upto-more g a (length xs), each 0 x refl, here, rest)

pub sum-upto : {A : Type 0} (f : A → ℕ) (xs : List A) (g : ℕ → ℕ) (a : ℕ) → ((i : ℕ) (x : A) → slice_get xs i ≡ Some x → f x ≡ g (a + i)) → sum_by f xs ≡ upto g a (length xs)
sum-upto f [] g a each = sym (upto-none g a)
sum-upto f (x ∷ xs) g a each =
    let here : g (a + 0) ≡ g a = ap g (let e : a + 0 ≡ a = omega arith in e) in
    let rest : sum_by f xs ≡ upto g (suc a) (length xs) = sum-upto f xs g (suc a)
    (λ i y at. each (suc i) y at ∙ ap g (let e : a + suc i ≡ suc a + i = omega arith in e)) in
    omega (arith, sum_by-cons f x xs, upto-more g a (length xs), each 0 x refl, here, rest)

unfoldable pub total_requests : List SeatLedger → ℕ
total_requests ledgers = sum_by (λ ledger. ledger.requests) ledgers

-- each request got an item or failed
answered : (ls : List SeatLedger) → total_requests ls ≡ total_allocs ls + total_fails ls
unfolding total_requests
answered [] = refl
answered (l ∷ ls) =
    let own : l.requests ≡ l.allocs + l.fails = l.law.answered in
    let rest : sum_by (λ (ledger : SeatLedger). ledger.requests) ls ≡ total_allocs ls + total_fails ls = answered ls in
    let requests : sum_by (λ (ledger : SeatLedger). ledger.requests) (l ∷ ls) ≡ l.requests + sum_by (λ (ledger : SeatLedger). ledger.requests) ls = sum_by-cons (λ (ledger : SeatLedger). ledger.requests) l ls in
    let allocs : total_allocs (l ∷ ls) ≡ l.allocs + total_allocs ls = sum_by-cons (λ (ledger : SeatLedger). ledger.allocs) l ls in
    let fails : total_fails (l ∷ ls) ≡ l.fails + total_fails ls = sum_by-cons (λ (ledger : SeatLedger). ledger.fails) l ls in
    seven (l.requests) (sum_by (λ (ledger : SeatLedger). ledger.requests) ls) l.allocs l.fails (total_allocs ls) (total_fails ls) _ _ _ requests allocs fails own rest

-- what a ledger has to do with its worker's lines
pub record IsCounted (n z : ℕ) (lines : List Line) (l : SeatLedger) : Type 0 where
  pub requests : l.requests ≡ asked n z lines
  pub frees : l.frees ≤ freed n z lines

pub sums_of : (t : Trace) (size z : ℕ) → IsValid t → last_slot < size → Sums t.head size z (reverse (lines_of t.rounds))
sums_of t size z valid most = Sums-all t.head size z (lines_of t.rounds) most (lines_are t.head t.rounds valid.rounds) valid.lines

-- The ledgers and the live items of a zone: as many items as slots hold were allocated and not freed.
pub frees_fit : (t : Trace) (size z live : ℕ) (ls : List SeatLedger) → IsValid t → last_slot < size → length ls ≡ t.head.workers
    → ((n : ℕ) (l : SeatLedger) → slice_get ls n ≡ Some l → IsCounted n z (reverse (lines_of t.rounds)) l)
    → live ≤ filled_slots t.head.workers size z (reverse (lines_of t.rounds)) → live + total_frees ls ≡ total_allocs ls → FreesFit t z ls
unfolding total_requests
frees_fit t size z live ls valid most count each below balance =
    let lines = reverse (lines_of t.rounds) in
    let sums : Sums t.head size z lines = sums_of t size z valid most in
    let P : ℕ → Type 0 = λ w. sum_by (λ (ledger : SeatLedger). ledger.frees) ls ≤ upto (λ n. freed n z lines) 0 w in
    let Q : ℕ → Type 0 = λ w. sum_by (λ (ledger : SeatLedger). ledger.requests) ls ≡ upto (λ n. asked n z lines) 0 w in
    let frees : total_frees ls ≤ upto (λ n. freed n z lines) 0 t.head.workers =
    subst P count (sum-upto-le (λ (ledger : SeatLedger). ledger.frees) ls (λ n. freed n z lines) 0
    (λ i l at. let e : freed i z lines ≡ freed (0 + i) z lines = ap (λ n. freed n z lines) (let e : i ≡ 0 + i = omega arith in e) in let f : l.frees ≤ freed i z lines = (each i l at).frees in le_by f e)) in
    let requests : total_requests ls ≡ upto (λ n. asked n z lines) 0 t.head.workers =
    subst Q count (sum-upto (λ (ledger : SeatLedger). ledger.requests) ls (λ n. asked n z lines) 0
    (λ i l at. (each i l at).requests ∙ ap (λ n. asked n z lines) (let e : i ≡ 0 + i = omega arith in e))) in
    let parts : total_requests ls ≡ total_allocs ls + total_fails ls = answered ls in
    let filled : filled_slots t.head.workers size z lines + free_count z lines ≡ ask_count z lines =
    ap (λ k. filled_slots t.head.workers size z lines + k) (sym (emptied-is z lines)) ∙ sums.filled in
    let low : total_frees ls ≤ free_count z lines = le_by frees sums.frees in
    let asks : total_requests ls ≡ ask_count z lines = requests ∙ sums.asks in
    record { freed = low; refused = fits_by (filled_slots t.head.workers size z lines) (free_count z lines) (ask_count z lines) (total_requests ls) (total_allocs ls) (total_fails ls) (total_frees ls) live filled asks parts below balance }

-- one worker's live items of the zone lie in slots that the reading fills
pub row_filled : {A : Type 0} (z n : ℕ) (lines : List Line) (size : ℕ) (is_of : Option A → Bool) (slots : List (Option A)) → length slots ≤ size
    → ((slot : ℕ) (o : Option A) → slice_get slots slot ≡ Some o → is_of o ≡ true → held lines n slot ≡ Some z) → count_by is_of slots ≤ upto (filled_at z lines n) 0 size
row_filled z n lines size is_of slots most each =
    count-upto is_of slots (filled_at z lines n) 0 size most
    (λ i o at is. one_at z (held lines n (0 + i)) (ap (held lines n) (let e : 0 + i ≡ i = omega arith in e) ∙ each i o at is))

-- and all workers' together
pub all_filled : {W : Type 0} (z workers size : ℕ) (lines : List Line) (live : W → ℕ) (ws : List W) → length ws ≡ workers
    → ((n : ℕ) (w : W) → slice_get ws n ≡ Some w → live w ≤ upto (filled_at z lines n) 0 size) → sum_by live ws ≤ filled_slots workers size z lines
all_filled z workers size lines live ws count each =
    let P : ℕ → Type 0 = λ w. sum_by live ws ≤ upto (λ n. upto (filled_at z lines n) 0 size) 0 w in
    let rows : sum_by live ws ≤ upto (λ n. upto (filled_at z lines n) 0 size) 0 workers =
    subst P count (sum-upto-le live ws (λ n. upto (filled_at z lines n) 0 size) 0
    (λ i w at. le_by (each i w at) (ap (λ n. upto (filled_at z lines n) 0 size) (let e : i ≡ 0 + i = omega arith in e)))) in
    le_by rows (over-rows (filled_at z lines) workers size)
