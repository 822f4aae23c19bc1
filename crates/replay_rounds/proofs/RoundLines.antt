-- The lines of whole rounds: what each worker sees of a round's, that its `give` lines fit, and how many there are.
use mathlib.Core.List.{reverse_aux}
use Rattle.std.proofs.Common.{◌≡◌, ℕ, zero, suc, ◌+◌, ◌<◌, ◌≤◌, List, [], ◌∷◌, ◌++◌, Option, None, Some, refl, sym, ap, ◌∙◌, subst, arith, length, map, take, reverse}
use Rattle.std.proofs.lemmas.List.{append-nil, length-append, length-map, take_all}
use Rattle.std.specs.Option.{option_map_or}
use Rattle.std.specs.Prelude.{slice_get}
use Rattle.trace_text.specs.declared.trace.Op.{Op}
use Rattle.trace_text.specs.declared.trace.Round.{Round}
use Rattle.trace_text.specs.Lines.{Line, Does, Moves, worker_lines, lines_of}
use Rattle.trace_text.specs.Valid.{LinesFit}
use Rattle.replay_worker.specs.OwnLines.{stacked, worked, lines_before, own_ops}
use Rattle.replay_worker.proofs.Alike.{LinesFit-front, LinesFit-back, stacked-append}
use Rattle.replay_rounds.specs.Parts.{lists_of, betweens_of, after_workers}
use Rattle.replay_rounds.proofs.SameFor.{SameFor, SameFor-self, SameFor-list, SameFor-worked}

-- ---- a round is to a worker what its own list is

abbrev list_at : List (List Op) → ℕ → List Op
list_at lists n = option_map_or (λ (ops : List Op). ops) (slice_get lists n) []

-- the lists of workers after worker `n`
others_of_round : (n u : ℕ) (lists : List (List Op)) (a b : List Line) → n < u → SameFor n a b → SameFor n (stacked (worker_lines u lists) a) b
unfolding stacked
others_of_round n u [] a b after same = same
others_of_round n u (first ∷ lists) a b after same =
    let P : List Line → Type 0 = λ lines. SameFor n lines b in
    subst P (sym (stacked-append (map (Does u) first) (worker_lines (u + 1) lists) a))
    (others_of_round n (u + 1) lists (stacked (map (Does u) first) a) b (omega arith) (SameFor-list n u first a b (λ e. omega arith) same))

own_of_lists : (n v w : ℕ) (lists : List (List Op)) (a b : List Line) → v ≡ w + n → SameFor v a b → SameFor v (stacked (worker_lines w lists) a) (worked v (list_at lists n) b)
unfolding stacked worked
own_of_lists n v w [] a b is same = same
own_of_lists zero v w (first ∷ lists) a b is same =
    let here : w ≡ v = omega arith in
    let P : List Line → Type 0 = λ lines. SameFor v lines (worked v first b) in
    let Q : ℕ → Type 0 = λ i. SameFor v (stacked (map (Does i) first) a) (worked v first b) in
    subst P (sym (stacked-append (map (Does w) first) (worker_lines (w + 1) lists) a))
    (others_of_round v (w + 1) lists (stacked (map (Does w) first) a) (worked v first b) (omega arith) (subst Q (sym here) (SameFor-worked v first a b same)))
own_of_lists (suc n) v w (first ∷ lists) a b is same =
    let P : List Line → Type 0 = λ lines. SameFor v lines (worked v (list_at lists n) b) in
    subst P (sym (stacked-append (map (Does w) first) (worker_lines (w + 1) lists) a))
    (own_of_lists n v (w + 1) lists (stacked (map (Does w) first) a) b (omega arith) (SameFor-list v w first a b (λ e. omega arith) same))

own_at : (o : Option Round) (n : ℕ)
    → option_map_or (λ (r : Round). option_map_or (λ (ops : List Op). ops) (slice_get r.ops n) []) o [] ≡ list_at (option_map_or (λ (r : Round). r.ops) o []) n
own_at None n = refl
own_at (Some r) n = refl

pub own_of_round : (rounds : List Round) (k n : ℕ) → SameFor n (after_workers rounds k) (worked n (own_ops rounds k n) (lines_before rounds k))
own_of_round rounds k n =
    let P : List Op → Type 0 = λ ops. SameFor n (after_workers rounds k) (worked n ops (lines_before rounds k)) in
    subst P (sym (own_at (slice_get rounds k) n)) (own_of_lists n n 0 (lists_of rounds k) (lines_before rounds k) (lines_before rounds k) (omega arith) (SameFor-self n (lines_before rounds k)))

-- ---- the lines before a round

-- the lines with one more behind them
pub stacked-snoc : (lines : List Line) (line : Line) (before : List Line) → stacked (lines ++ line ∷ []) before ≡ line ∷ stacked lines before
unfolding stacked
stacked-snoc lines line before = stacked-append lines (line ∷ []) before

pub none_before : (rounds : List Round) → lines_before rounds 0 ≡ []
unfolding stacked
none_before rounds = refl

more_before : (k : ℕ) (rounds : List Round) (a : List Line)
    → stacked (lines_of (take (suc k) rounds)) a ≡ stacked (map Moves (betweens_of rounds k)) (stacked (worker_lines 0 (lists_of rounds k)) (stacked (lines_of (take k rounds)) a))
unfolding stacked
more_before zero [] a = refl
more_before (suc k) [] a = refl
more_before zero (first ∷ rounds) a =
    ap (λ lines. stacked lines a) (append-nil (worker_lines 0 first.ops ++ map Moves first.between)) ∙ stacked-append (worker_lines 0 first.ops) (map Moves first.between) a
more_before (suc k) (first ∷ rounds) a =
    let front = worker_lines 0 first.ops ++ map Moves first.between in
    let with_round : List Line → List Line = λ before. stacked (map Moves (betweens_of rounds k)) (stacked (worker_lines 0 (lists_of rounds k)) before) in
    stacked-append front (lines_of (take (suc k) rounds)) a
    ∙ (more_before k rounds (stacked front a) ∙ ap with_round (sym (stacked-append front (lines_of (take k rounds)) a)))

pub lines_before-more : (rounds : List Round) (k : ℕ) → lines_before rounds (k + 1) ≡ stacked (map Moves (betweens_of rounds k)) (after_workers rounds k)
lines_before-more rounds k =
    let e : k + 1 ≡ suc k = omega arith in
    ap (λ n. stacked (lines_of (take n rounds)) []) e ∙ more_before k rounds []

reversed : (lines before : List Line) → stacked lines before ≡ reverse_aux lines before
unfolding stacked
reversed [] before = refl
reversed (line ∷ lines) before = reversed lines (line ∷ before)

pub lines_before-all : (rounds : List Round) (k : ℕ) → length rounds ≤ k → lines_before rounds k ≡ reverse (lines_of rounds)
lines_before-all rounds k past = ap (λ rs. stacked (lines_of rs) []) (take_all k rounds past) ∙ reversed (lines_of rounds) []

-- the `give` lines of a round fit after its workers' lines
fit_after : (k : ℕ) (rounds : List Round) (a : List Line) → LinesFit a (lines_of rounds)
    → LinesFit (stacked (worker_lines 0 (lists_of rounds k)) (stacked (lines_of (take k rounds)) a)) (map Moves (betweens_of rounds k))
unfolding stacked
fit_after k [] a fit = tt
fit_after zero (first ∷ rounds) a fit =
    LinesFit-back (worker_lines 0 first.ops) (map Moves first.between) a (LinesFit-front (worker_lines 0 first.ops ++ map Moves first.between) (lines_of rounds) a fit)
fit_after (suc k) (first ∷ rounds) a fit =
    let front = worker_lines 0 first.ops ++ map Moves first.between in
    let P : List Line → Type 0 = λ lines. LinesFit (stacked (worker_lines 0 (lists_of rounds k)) lines) (map Moves (betweens_of rounds k)) in
    subst P (sym (stacked-append front (lines_of (take k rounds)) a)) (fit_after k rounds (stacked front a) (LinesFit-back front (lines_of rounds) a fit))

pub betweens_fit : (rounds : List Round) (k : ℕ) → LinesFit [] (lines_of rounds) → LinesFit (after_workers rounds k) (map Moves (betweens_of rounds k))
betweens_fit rounds k fit = fit_after k rounds [] fit

-- ---- how many there are

length-stacked : (lines before : List Line) → length (stacked lines before) ≡ length lines + length before
unfolding stacked
length-stacked [] before = omega arith
length-stacked (line ∷ lines) before = omega (arith, length-stacked lines (line ∷ before))

length-taken : (k : ℕ) (rounds : List Round) → length (lines_of (take k rounds)) ≤ length (lines_of rounds)
length-taken zero rounds = omega arith
length-taken (suc k) [] = omega arith
length-taken (suc k) (r ∷ rounds) =
    let front = worker_lines 0 r.ops ++ map Moves r.between in
    omega (arith, length-append front (lines_of (take k rounds)), length-append front (lines_of rounds), length-taken k rounds)

pub before-few : (rounds : List Round) (k : ℕ) → length (lines_before rounds k) ≤ length (lines_of rounds)
before-few rounds k = omega (arith, length-stacked (lines_of (take k rounds)) [], length-taken k rounds)

list-few : (n w : ℕ) (lists : List (List Op)) → length (list_at lists n) ≤ length (worker_lines w lists)
list-few n w [] = omega arith
list-few zero w (first ∷ lists) = omega (arith, length-append (map (Does w) first) (worker_lines (w + 1) lists), length-map first (Does w))
list-few (suc n) w (first ∷ lists) = omega (arith, length-append (map (Does w) first) (worker_lines (w + 1) lists), list-few n (w + 1) lists)

pub own-few : (rounds : List Round) (k n : ℕ) → length (own_ops rounds k n) ≤ length (lines_of rounds)
own-few [] k n = omega arith
own-few (first ∷ rounds) zero n =
    omega (arith, length-append (worker_lines 0 first.ops ++ map Moves first.between) (lines_of rounds), length-append (worker_lines 0 first.ops) (map Moves first.between), list-few n 0 first.ops)
own-few (first ∷ rounds) (suc k) n = omega (arith, length-append (worker_lines 0 first.ops ++ map Moves first.between) (lines_of rounds), own-few rounds k n)
