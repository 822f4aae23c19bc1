-- What a worker's own operations count, and what all lines count of it.
use Rattle.std.proofs.Common.{◌≡◌, ◌≢◌, ℕ, zero, suc, ◌+◌, ◌<◌, ◌≤◌, List, [], ◌∷◌, ◌++◌, Bool, true, false, cond, length, map, Option, refl, sym, ap, ◌∙◌, subst, arith, eq-eqb, reverse}
use Rattle.std.proofs.lemmas.Bool.{ne_eqb, and_left, lt-ltb}
use Rattle.std.proofs.lemmas.List.Concat.{flat_map-cons}
use Rattle.std.proofs.lemmas.List.Elements.{All-nil, All-cons, All-head, All-tail, All-append, All-map}
use Rattle.std.proofs.lemmas.List.Sorted.{sum_by-IsPermutation, IsPermutation-reverse}
use Rattle.std.proofs.lemmas.List.Sums.{sum_by-cons, sum_by-append}
use Rattle.std.specs.Prelude.{All, Any, IsTrue, ◌==◌, ◌&&◌, nat_lt, count_by, slice_get}
use Rattle.std.specs.List.{flat_map}
use Rattle.std.specs.Option.{option_map_or}
use Rattle.trace_text.specs.declared.trace.Between.{Between}
use Rattle.trace_text.specs.declared.trace.Head.{Head}
use Rattle.trace_text.specs.declared.trace.Op.{Op}
use Rattle.trace_text.specs.declared.trace.Op.TheVariants.{Alloc}
use Rattle.trace_text.specs.declared.trace.Round.{Round}
use Rattle.trace_text.specs.declared.trace.Trace.{Trace}
use Rattle.trace_text.specs.Lines.{Line, Does, Moves, worker_lines, lines_of}
use Rattle.trace_text.specs.Valid.{OpFits, RoundFits}
use Rattle.replay_worker.specs.Counting.{is_ask, is_ask_with_arg, is_ask_with, asked, argued, asked_with}
use Rattle.uma_replay.specs.Counting.{worker_ops, is_alloc_of, is_alloc_with, is_alloc_with_arg, is_request_of, is_bind, request_count, arg_count}
use Rattle.uma_replay.proofs.WorkerSums.{IsLine}

-- ---- each line of a valid trace fits by itself

ops_are : (h : Head) (w : ℕ) (ops : List Op) → w < h.workers → All (OpFits h) ops → All (λ op. IsLine h (Does w op)) ops
ops_are h w [] below fit = All-nil (λ op. IsLine h (Does w op))
ops_are h w (op ∷ ops) below fit =
    All-cons (λ op. IsLine h (Does w op)) op ops (below, All-head (OpFits h) op ops fit) (ops_are h w ops below (All-tail (OpFits h) op ops fit))

lists_are : (h : Head) (w : ℕ) (lists : List (List Op)) → w + length lists ≤ h.workers → All (All (OpFits h)) lists → All (IsLine h) (worker_lines w lists)
lists_are h w [] most fit = All-nil (IsLine h)
lists_are h w (ops ∷ lists) most fit =
    All-append (IsLine h) (map (Does w) ops) (worker_lines (w + 1) lists)
    (All-map (IsLine h) (Does w) ops (ops_are h w ops (omega arith) (All-head (All (OpFits h)) ops lists fit)))
    (lists_are h (w + 1) lists (omega arith) (All-tail (All (OpFits h)) ops lists fit))

pub lines_are : (h : Head) (rounds : List Round) → All (RoundFits h) rounds → All (IsLine h) (lines_of rounds)
lines_are h [] fit = All-nil (IsLine h)
lines_are h (r ∷ rounds) fit =
    let fits : RoundFits h r = All-head (RoundFits h) r rounds fit in
    let workers : length r.ops ≡ h.workers = fits.workers in
    let own : All (IsLine h) (worker_lines 0 r.ops) = lists_are h 0 r.ops (omega arith) fits.ops in
    let between : All (IsLine h) (map Moves r.between) = All-map (IsLine h) Moves r.between fits.between in
    All-append (IsLine h) (worker_lines 0 r.ops ++ map Moves r.between) (lines_of rounds)
    (All-append (IsLine h) (worker_lines 0 r.ops) (map Moves r.between) own between)
    (lines_are h rounds (All-tail (RoundFits h) r rounds fit))

-- ---- counts of one worker's lines

-- the test passes lines of worker `n` alone, by a test of the operation
pub record IsOfWorker (n : ℕ) (p : Line → Bool) (q : Op → Bool) : Type 0 where
  pub own : (op : Op) → p (Does n op) ≡ q op
  pub others : (v : ℕ) (op : Op) → v ≢ n → p (Does v op) ≡ false
  pub moves : (between : Between) → p (Moves between) ≡ false

pub count-cons : {X : Type 0} (p : X → Bool) (x : X) (xs : List X) → count_by p (x ∷ xs) ≡ cond (p x) 1 0 + count_by p xs
count-cons p x xs = sum_by-cons (λ x. cond (p x) 1 0) x xs

count-append : {X : Type 0} (p : X → Bool) (xs ys : List X) → count_by p (xs ++ ys) ≡ count_by p xs + count_by p ys
count-append p xs ys = sum_by-append (λ x. cond (p x) 1 0) xs ys

abbrev unit : Bool → ℕ
unit b = cond b 1 0

count-none : {X Y : Type 0} (f : Y → X) (p : X → Bool) (ys : List Y) → ((y : Y) → p (f y) ≡ false) → count_by p (map f ys) ≡ 0
count-none f p [] none = refl
count-none f p (y ∷ ys) none =
    let first : unit (p (f y)) ≡ 0 = ap unit (none y) in
    omega (arith, count-cons p (f y) (map f ys), first, count-none f p ys none)

count-same : {X Y : Type 0} (f : Y → X) (p : X → Bool) (q : Y → Bool) (ys : List Y) → ((y : Y) → p (f y) ≡ q y) → count_by p (map f ys) ≡ count_by q ys
count-same f p q [] same = refl
count-same f p q (y ∷ ys) same =
    let first : unit (p (f y)) ≡ unit (q y) = ap unit (same y) in
    omega (arith, count-cons p (f y) (map f ys), count-cons q y ys, first, count-same f p q ys same)

lists_past : (n w : ℕ) (p : Line → Bool) (q : Op → Bool) (lists : List (List Op)) → IsOfWorker n p q → n < w → count_by p (worker_lines w lists) ≡ 0
lists_past n w p q [] of past = refl
lists_past n w p q (ops ∷ lists) of past =
    let first : count_by p (map (Does w) ops) ≡ 0 = count-none (Does w) p ops (λ op. of.others w op (λ e. absurd (omega arith))) in
    omega (arith, count-append p (map (Does w) ops) (worker_lines (w + 1) lists), first, lists_past n (w + 1) p q lists of (omega arith))

abbrev list_or_none : Option (List Op) → List Op
list_or_none list = option_map_or (λ ops. ops) list []

lists_own : (n w k : ℕ) (p : Line → Bool) (q : Op → Bool) (lists : List (List Op)) → IsOfWorker n p q → n ≡ w + k
    → count_by p (worker_lines w lists) ≡ count_by q (list_or_none (slice_get lists k))
lists_own n w k p q [] of is = refl
lists_own n w zero p q (ops ∷ lists) of is =
    let here : n ≡ w = omega arith in
    let P : ℕ → Type 0 = λ v. count_by p (map (Does v) ops) ≡ count_by q ops in
    let first : count_by p (map (Does w) ops) ≡ count_by q ops = subst P here (count-same (Does n) p q ops of.own) in
    omega (arith, count-append p (map (Does w) ops) (worker_lines (w + 1) lists), first, lists_past n (w + 1) p q lists of (omega arith))
lists_own n w (suc k) p q (ops ∷ lists) of is =
    let first : count_by p (map (Does w) ops) ≡ 0 = count-none (Does w) p ops (λ op. of.others w op (λ e. absurd (omega arith))) in
    let rest : count_by p (worker_lines (w + 1) lists) ≡ count_by q (list_or_none (slice_get lists k)) = lists_own n (w + 1) k p q lists of (omega arith) in
    omega (arith, count-append p (map (Does w) ops) (worker_lines (w + 1) lists), first, rest)

abbrev own_of : ℕ → Round → List Op
own_of n r = option_map_or (λ ops. ops) (slice_get r.ops n) []

rounds_own : (n : ℕ) (p : Line → Bool) (q : Op → Bool) (rounds : List Round) → IsOfWorker n p q → count_by p (lines_of rounds) ≡ count_by q (flat_map (own_of n) rounds)
rounds_own n p q [] of = refl
rounds_own n p q (r ∷ rounds) of =
    let lists = worker_lines 0 r.ops in
    let between = map Moves r.between in
    let later = lines_of rounds in
    let own : count_by p lists ≡ count_by q (own_of n r) = lists_own n 0 n p q r.ops of (omega arith) in
    let moved : count_by p between ≡ 0 = count-none Moves p r.between of.moves in
    let rest : count_by p later ≡ count_by q (flat_map (own_of n) rounds) = rounds_own n p q rounds of in
    let all : count_by p ((lists ++ between) ++ later) ≡ count_by p lists + count_by p between + count_by p later =
    count-append p (lists ++ between) later ∙ ap (λ k. k + count_by p later) (count-append p lists between) in
    let parts : count_by q (flat_map (own_of n) (r ∷ rounds)) ≡ count_by q (own_of n r) + count_by q (flat_map (own_of n) rounds) =
    ap (count_by q) (flat_map-cons (own_of n) r rounds) ∙ count-append q (own_of n r) (flat_map (own_of n) rounds) in
    omega (arith, all, own, moved, rest, parts)

pub turned : {X : Type 0} (p : X → Bool) (xs : List X) → count_by p (reverse xs) ≡ count_by p xs
turned p xs = sum_by-IsPermutation (λ x. cond (p x) 1 0) xs (reverse xs) (IsPermutation-reverse xs)

-- ---- what a worker asks

apart_from : (v n : ℕ) (b : Bool) → v ≢ n → ((v == n) && b) ≡ false
apart_from v n b apart = and_left (v == n) b (ne_eqb v n apart)

itself : (n : ℕ) (b : Bool) → ((n == n) && b) ≡ b
itself n b = rw (eq-eqb n n refl) refl

ask_own : (n z : ℕ) (op : Op) → is_ask n z (Does n op) ≡ is_alloc_of z op
ask_own n z (Alloc zone slot arg reserve) = itself n (zone == z)
ask_own n z op = refl

ask_others : (n z v : ℕ) (op : Op) → v ≢ n → is_ask n z (Does v op) ≡ false
ask_others n z v (Alloc zone slot arg reserve) apart = apart_from v n (zone == z) apart
ask_others n z v op apart = refl

arg_own : (n z : ℕ) (op : Op) → is_ask_with_arg n z (Does n op) ≡ is_alloc_with_arg z op
arg_own n z (Alloc zone slot arg reserve) = itself n ((zone == z) && nat_lt 0 arg)
arg_own n z op = refl

arg_others : (n z v : ℕ) (op : Op) → v ≢ n → is_ask_with_arg n z (Does v op) ≡ false
arg_others n z v (Alloc zone slot arg reserve) apart = apart_from v n ((zone == z) && nat_lt 0 arg) apart
arg_others n z v op apart = refl

with_own : (n z code : ℕ) (op : Op) → is_ask_with n z code (Does n op) ≡ is_alloc_with z code op
with_own n z code (Alloc zone slot arg reserve) = itself n ((zone == z) && (arg == code))
with_own n z code op = refl

with_others : (n z code v : ℕ) (op : Op) → v ≢ n → is_ask_with n z code (Does v op) ≡ false
with_others n z code v (Alloc zone slot arg reserve) apart = apart_from v n ((zone == z) && (arg == code)) apart
with_others n z code v op apart = refl

pub all_own : (t : Trace) (n : ℕ) (p : Line → Bool) (q : Op → Bool) → IsOfWorker n p q → count_by p (reverse (lines_of t.rounds)) ≡ count_by q (worker_ops t n)
all_own t n p q of = turned p (lines_of t.rounds) ∙ rounds_own n p q t.rounds of

request_same : (h : Head) (z : ℕ) (ops : List Op) → nat_lt z (length h.zones) ≡ true → count_by (is_request_of h z) ops ≡ count_by (is_alloc_of z) ops
request_same h z [] below = refl
request_same h z (op ∷ ops) below =
    let first : unit (is_request_of h z op) ≡ unit (is_alloc_of z op) = ap (λ b. unit (cond b (is_alloc_of z op) (is_bind op))) below in
    omega (arith, count-cons (is_request_of h z) op ops, count-cons (is_alloc_of z) op ops, first, request_same h z ops below)

pub requests_are : (t : Trace) (n z : ℕ) → z < length t.head.zones → asked n z (reverse (lines_of t.rounds)) ≡ request_count t n z
unfolding asked
requests_are t n z below =
    all_own t n (is_ask n z) (is_alloc_of z) (record { own = ask_own n z; others = ask_others n z; moves = λ between. refl })
    ∙ sym (request_same t.head z (worker_ops t n) (lt-ltb z (length t.head.zones) below))

pub args_are : (t : Trace) (n z : ℕ) → argued n z (reverse (lines_of t.rounds)) ≡ arg_count t n z
unfolding argued
args_are t n z = all_own t n (is_ask_with_arg n z) (is_alloc_with_arg z) (record { own = arg_own n z; others = arg_others n z; moves = λ between. refl })

some_or : (q : Op → Bool) (op : Op) (ops : List Op) (b : Bool) → q op ≡ b → 0 < count_by q (op ∷ ops) → (0 < count_by q ops → Any (λ op. IsTrue (q op)) ops)
    → Any (λ op. IsTrue (q op)) (op ∷ ops)
some_or q op ops true is some later = (0, op, omega arith, refl, is)
some_or q op ops false is some later =
    let first : unit (q op) ≡ 0 = ap unit is in
    let rest : Any (λ op. IsTrue (q op)) ops = later (omega (arith, count-cons q op ops, first, some)) in
    (suc rest.0, rest.1, omega (arith, rest.2), rest.3, rest.4)

count_some : (q : Op → Bool) (ops : List Op) → 0 < count_by q ops → Any (λ op. IsTrue (q op)) ops
count_some q [] some = absurd (omega arith)
count_some q (op ∷ ops) some = some_or q op ops (q op) refl some (count_some q ops)

pub asked_some : (t : Trace) (n z code : ℕ) → 0 < asked_with n z code (reverse (lines_of t.rounds)) → Any (λ op. IsTrue (is_alloc_with z code op)) (worker_ops t n)
unfolding asked_with
asked_some t n z code some =
    let same : count_by (is_ask_with n z code) (reverse (lines_of t.rounds)) ≡ count_by (is_alloc_with z code) (worker_ops t n) =
    all_own t n (is_ask_with n z code) (is_alloc_with z code) (record { own = with_own n z code; others = with_others n z code; moves = λ between. refl }) in
    count_some (is_alloc_with z code) (worker_ops t n) (omega (arith, same, some))
