-- The lines of one kind, by worker: what all workers have of them, and what one has.
use Rattle.std.proofs.Common.{◌≡◌, ◌≢◌, ℕ, ◌+◌, ◌<◌, ◌≤◌, List, [], ◌∷◌, Bool, false, cond, length, refl, sym, ap, ◌∙◌, arith, eq-eqb, reverse}
use Rattle.std.proofs.lemmas.Bool.{and_left, and_right, le-ltb, ne_eqb}
use Rattle.std.proofs.lemmas.List.Elements.{All-head, All-tail}
use Rattle.std.specs.Prelude.{All, ◌==◌, nat_lt, count_by}
use Rattle.trace_text.specs.declared.trace.Between.{Between}
use Rattle.trace_text.specs.declared.trace.Head.{Head}
use Rattle.trace_text.specs.declared.trace.Op.{Op}
use Rattle.trace_text.specs.declared.trace.Op.TheVariants.{Alloc, Bind, Unbind, Look}
use Rattle.trace_text.specs.declared.trace.Trace.{Trace}
use Rattle.trace_text.specs.Lines.{Line, Does, Moves, lines_of}
use Rattle.trace_text.specs.Valid.{IsValid}
use Rattle.replay_worker.specs.Counting.{argued, binds, is_ask_with_arg, is_bind as own_bind, is_look as own_look, is_unbind as own_unbind, looks, unbinds}
use Rattle.uma_replay.specs.Counting.{arg_count, is_alloc_of, is_bind, is_done, is_look, is_request_of, is_unbind, kind_count, request_count, worker_ops}
use Rattle.uma_replay.proofs.OwnCounts.{all_own, args_are, count-cons, lines_are, turned}
use Rattle.uma_replay.proofs.Upto.{upto, upto-same, upto-zero}
use Rattle.uma_replay.proofs.WorkerSums.{IsLine, more-at}

-- for each worker, the test of its own lines of a kind
record IsOfKind (p : ℕ → Line → Bool) (q : Op → Bool) : Type 0 where
  own : (n : ℕ) (op : Op) → p n (Does n op) ≡ q op
  others : (n v : ℕ) (op : Op) → v ≢ n → p n (Does v op) ≡ false
  moves : (n : ℕ) (between : Between) → p n (Moves between) ≡ false

abbrev unit : Bool → ℕ
unit b = cond b 1 0

not-more : (all more : ℕ) → more ≡ 0 → more + all ≡ all
not-more all more none = omega arith

own-more : (all all' more unit' : ℕ) → all' ≡ more + all → more ≡ unit' → all' ≡ all + unit'
own-more all all' more unit' e1 e2 = omega arith

kind-all : (h : Head) (p : ℕ → Line → Bool) (q : Op → Bool) (lines : List Line) → IsOfKind p q → All (IsLine h) lines → upto (λ n. count_by (p n) lines) 0 h.workers ≡ count_by (is_done q) lines
kind-all h p q [] of all = upto-zero (λ n. count_by (p n) []) 0 h.workers (λ n. refl)
kind-all h p q (Moves between ∷ lines) of all =
    let line = Moves between in
    let same : upto (λ n. count_by (p n) (line ∷ lines)) 0 h.workers ≡ upto (λ n. count_by (p n) lines) 0 h.workers =
    upto-same (λ n. count_by (p n) (line ∷ lines)) (λ n. count_by (p n) lines) 0 h.workers
    (λ n from to. count-cons (p n) line lines ∙ not-more (count_by (p n) lines) (unit (p n line)) (ap unit (of.moves n between))) in
    same ∙ (kind-all h p q lines of (All-tail (IsLine h) line lines all) ∙ sym (count-cons (is_done q) line lines ∙ not-more (count_by (is_done q) lines) (unit (is_done q line)) refl))
kind-all h p q (Does v op ∷ lines) of all =
    let line = Does v op in
    let more : upto (λ n. count_by (p n) (line ∷ lines)) 0 h.workers ≡ upto (λ n. count_by (p n) lines) 0 h.workers + unit (q op) =
    more-at (λ n. count_by (p n) (line ∷ lines)) (λ n. count_by (p n) lines) h.workers v (unit (q op)) (All-head (IsLine h) line lines all).0
    (λ n apart. count-cons (p n) line lines ∙ not-more (count_by (p n) lines) (unit (p n line)) (ap unit (of.others n v op (λ e. apart (sym e)))))
    (own-more (count_by (p v) lines) _ _ (unit (q op)) (count-cons (p v) line lines) (ap unit (of.own v op))) in
    let rest : upto (λ n. count_by (p n) lines) 0 h.workers ≡ count_by (is_done q) lines = kind-all h p q lines of (All-tail (IsLine h) line lines all) in
    more ∙ (ap (λ k. k + unit (q op)) rest ∙ sym (own-more (count_by (is_done q) lines) _ _ (unit (q op)) (count-cons (is_done q) line lines) refl))

-- of a trace, whose lines stand with the last one first
kind_are : (t : Trace) (p : ℕ → Line → Bool) (q : Op → Bool) → IsValid t → IsOfKind p q → upto (λ n. count_by (p n) (reverse (lines_of t.rounds))) 0 t.head.workers ≡ kind_count q t
kind_are t p q valid of =
    let lines = lines_of t.rounds in
    upto-same (λ n. count_by (p n) (reverse lines)) (λ n. count_by (p n) lines) 0 t.head.workers (λ n from to. turned (p n) lines)
    ∙ kind-all t.head p q lines of (lines_are t.head t.rounds valid.rounds)

-- ---- the kinds of lines of names

look_own : (n : ℕ) (op : Op) → own_look n (Does n op) ≡ is_look op
look_own n (Look key) = eq-eqb n n refl
look_own n op = refl

look_others : (n v : ℕ) (op : Op) → v ≢ n → own_look n (Does v op) ≡ false
look_others n v (Look key) apart = ne_eqb v n apart
look_others n v op apart = refl

bind_own : (n : ℕ) (op : Op) → own_bind n (Does n op) ≡ is_bind op
bind_own n (Bind key value) = eq-eqb n n refl
bind_own n op = refl

bind_others : (n v : ℕ) (op : Op) → v ≢ n → own_bind n (Does v op) ≡ false
bind_others n v (Bind key value) apart = ne_eqb v n apart
bind_others n v op apart = refl

unbind_own : (n : ℕ) (op : Op) → own_unbind n (Does n op) ≡ is_unbind op
unbind_own n (Unbind key) = eq-eqb n n refl
unbind_own n op = refl

unbind_others : (n v : ℕ) (op : Op) → v ≢ n → own_unbind n (Does v op) ≡ false
unbind_others n v (Unbind key) apart = ne_eqb v n apart
unbind_others n v op apart = refl

pub looks_are : (t : Trace) → IsValid t → upto (λ n. looks n (reverse (lines_of t.rounds))) 0 t.head.workers ≡ kind_count is_look t
unfolding looks
looks_are t valid = kind_are t own_look is_look valid (record { own = look_own; others = look_others; moves = λ n between. refl })

pub all_binds_are : (t : Trace) → IsValid t → upto (λ n. binds n (reverse (lines_of t.rounds))) 0 t.head.workers ≡ kind_count is_bind t
unfolding binds
all_binds_are t valid = kind_are t own_bind is_bind valid (record { own = bind_own; others = bind_others; moves = λ n between. refl })

pub unbinds_are : (t : Trace) → IsValid t → upto (λ n. unbinds n (reverse (lines_of t.rounds))) 0 t.head.workers ≡ kind_count is_unbind t
unfolding unbinds
unbinds_are t valid = kind_are t own_unbind is_unbind valid (record { own = unbind_own; others = unbind_others; moves = λ n between. refl })

-- ---- the names zone, which stands behind the zones of the zone lines

request_is_bind : (h : Head) (ops : List Op) → nat_lt (length h.zones) (length h.zones) ≡ false → count_by (is_request_of h (length h.zones)) ops ≡ count_by is_bind ops
request_is_bind h [] past = refl
request_is_bind h (op ∷ ops) past =
    let first : unit (is_request_of h (length h.zones) op) ≡ unit (is_bind op) = ap (λ b. unit (cond b (is_alloc_of (length h.zones) op) (is_bind op))) past in
    omega (arith, count-cons (is_request_of h (length h.zones)) op ops, count-cons is_bind op ops, first, request_is_bind h ops past)

self_le : (n : ℕ) → n ≤ n
self_le n = omega arith

-- a worker's requests of it are its binds
pub binds_are : (t : Trace) (n : ℕ) → binds n (reverse (lines_of t.rounds)) ≡ request_count t n (length t.head.zones)
unfolding binds
binds_are t n =
    let zones = length t.head.zones in
    all_own t n (own_bind n) is_bind (record { own = bind_own n; others = λ v op. bind_others n v op; moves = λ between. refl })
    ∙ sym (request_is_bind t.head (worker_ops t n) (le-ltb zones zones (self_le zones)))

not_past : (zone count : ℕ) → zone < count → zone ≢ count
not_past zone count below same = absurd (omega arith)

not_asked : (h : Head) (n : ℕ) (line : Line) → IsLine h line → is_ask_with_arg n (length h.zones) line ≡ false
not_asked h n (Does v (Alloc zone slot arg reserve)) is =
    and_right (v == n) _ (and_left (zone == length h.zones) (nat_lt 0 arg) (ne_eqb zone (length h.zones) (not_past zone (length h.zones) is.1.0)))
not_asked h n (Does v op) is = refl
not_asked h n (Moves between) is = refl

none_asked : (h : Head) (n : ℕ) (lines : List Line) → All (IsLine h) lines → count_by (is_ask_with_arg n (length h.zones)) lines ≡ 0
none_asked h n [] all = refl
none_asked h n (line ∷ lines) all =
    let first : unit (is_ask_with_arg n (length h.zones) line) ≡ 0 = ap unit (not_asked h n line (All-head (IsLine h) line lines all)) in
    omega (arith, count-cons (is_ask_with_arg n (length h.zones)) line lines, first, none_asked h n lines (All-tail (IsLine h) line lines all))

-- none of them has an argument
pub no_args : (t : Trace) (n : ℕ) → IsValid t → arg_count t n (length t.head.zones) ≡ 0
unfolding argued
no_args t n valid =
    let lines = lines_of t.rounds in
    sym (args_are t n (length t.head.zones)) ∙ (turned (is_ask_with_arg n (length t.head.zones)) lines ∙ none_asked t.head n lines (lines_are t.head t.rounds valid.rounds))
