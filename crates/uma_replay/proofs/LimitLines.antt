-- The limits of a trace's zones, round by round.
use Rattle.std.proofs.Common.{◌≡◌, ℕ, Bool, true, nat_eq, zero, suc, ◌+◌, ◌-◌, ◌<◌, ◌≤◌, List, [], ◌∷◌, ◌++◌, length, map, take, reverse, get_or, Option, None, Some, refl, sym, ap, ◌∙◌, subst, arith, eq-eqb, inl, inr, append-nil, append_assoc, length-append}
use Rattle.std.proofs.lemmas.Bool.{cases_eq, eqb-true, ne_eqb}
use Rattle.std.proofs.lemmas.List.{get_or_append_left, map-append, reverse-append, take_more}
use Rattle.std.proofs.lemmas.List.Elements.{All-head, All-tail, contains_decides, filter_map-append}
use Rattle.std.proofs.lemmas.Option.{get_or_from_slice_get}
use Rattle.std.specs.Prelude.{All, Contains, if◌then◌else◌, slice_get}
use Rattle.std.specs.List.{IsAnyAnswer, cons_option, filter_map}
use Rattle.std.specs.Option.{option_map_or}
use Rattle.trace_text.specs.declared.trace.Between.{Between}
use Rattle.trace_text.specs.declared.trace.Between.TheVariants.{Give, SetMax}
use Rattle.trace_text.specs.declared.trace.Head.{Head}
use Rattle.trace_text.specs.declared.trace.ZoneHead.{ZoneHead}
use Rattle.trace_text.specs.declared.trace.Op.{Op}
use Rattle.trace_text.specs.declared.trace.Round.{Round}
use Rattle.trace_text.specs.declared.trace.Trace.{Trace}
use Rattle.trace_text.specs.Lines.{Line, Does, Moves, worker_lines, lines_of}
use Rattle.trace_text.specs.Valid.{IsValid}
use Rattle.zone_stats.specs.declared.ledger.SeatLedger.{SeatLedger}
use Rattle.uma_replay.specs.Limits.{KeepSomeOf, last_limit, limit_after, limit_in, limits_had}
use Rattle.uma_replay.proofs.OwnCounts.{lines_are}
use Rattle.uma_replay.proofs.WorkerSums.{IsLine}

-- ---- what the lines of a round give a zone

same_at : (xs : List ℕ) (k x d : ℕ) → k < length xs → get_or xs k d ≡ get_or xs k x
same_at [] k x d below = absurd (omega arith)
same_at (first ∷ xs) zero x d below = refl
same_at (first ∷ xs) (suc k) x d below = same_at xs k x d (omega arith)

does_none : (z w : ℕ) (ops : List Op) → filter_map (limit_in z) (map (Does w) ops) ≡ []
does_none z w [] = refl
does_none z w (op ∷ ops) = does_none z w ops

workers_none : (z w : ℕ) (lists : List (List Op)) → filter_map (limit_in z) (worker_lines w lists) ≡ []
workers_none z w [] = refl
workers_none z w (ops ∷ lists) =
    filter_map-append (limit_in z) (map (Does w) ops) (worker_lines (w + 1) lists)
    ∙ (ap (λ (front : List ℕ). front ++ filter_map (limit_in z) (worker_lines (w + 1) lists)) (does_none z w ops) ∙ workers_none z (w + 1) lists)

round_limits : (z : ℕ) (r : Round) → filter_map (limit_in z) ((worker_lines 0 r.ops ++ map Moves r.between) ++ []) ≡ filter_map (limit_in z) (map Moves r.between)
round_limits z r =
    ap (filter_map (limit_in z)) (append-nil (worker_lines 0 r.ops ++ map Moves r.between)) ∙ (filter_map-append (limit_in z) (worker_lines 0 r.ops) (map Moves r.between)
    ∙ ap (λ (front : List ℕ). front ++ filter_map (limit_in z) (map Moves r.between)) (workers_none z 0 r.ops))

lines-append : (xs ys : List Round) → lines_of (xs ++ ys) ≡ lines_of xs ++ lines_of ys
lines-append [] ys = refl
lines-append (r ∷ rounds) ys =
    ap (λ (more : List Line). (worker_lines 0 r.ops ++ map Moves r.between) ++ more) (lines-append rounds ys)
    ∙ sym (append_assoc (worker_lines 0 r.ops ++ map Moves r.between) (lines_of rounds) (lines_of ys))

-- one round more
pub limits_more : (z first : ℕ) (rounds : List Round) (k : ℕ) (r : Round) (limits : List ℕ) → k < length rounds → r ≡ get_or rounds k r
    → limits ≡ first ∷ filter_map (limit_in z) (lines_of (take k rounds)) → limits ++ filter_map (limit_in z) (map Moves r.between) ≡ first ∷ filter_map (limit_in z) (lines_of (take (k + 1) rounds))
limits_more z first rounds k r limits below is so_far =
    let own = filter_map (limit_in z) (map Moves r.between) in
    let before = filter_map (limit_in z) (lines_of (take k rounds)) in
    let split : lines_of (take (k + 1) rounds) ≡ lines_of (take k rounds) ++ ((worker_lines 0 r.ops ++ map Moves r.between) ++ []) =
    ap lines_of (take_more rounds k r below ∙ ap (λ (one : Round). take k rounds ++ one ∷ []) (sym is)) ∙ lines-append (take k rounds) (r ∷ []) in
    let all : filter_map (limit_in z) (lines_of (take (k + 1) rounds)) ≡ before ++ own =
    ap (filter_map (limit_in z)) split ∙ (filter_map-append (limit_in z) (lines_of (take k rounds)) ((worker_lines 0 r.ops ++ map Moves r.between) ++ [])
    ∙ ap (λ (back : List ℕ). before ++ back) (round_limits z r)) in
    ap (λ (front : List ℕ). front ++ own) so_far ∙ ap (λ (rest : List ℕ). first ∷ rest) (sym all)

-- one line more
pub moves_more : (z : ℕ) (between : List Between) (k : ℕ) (line : Between) → k < length between
    → filter_map (limit_in z) (map Moves (take (k + 1) between)) ≡ filter_map (limit_in z) (map Moves (take k between)) ++ cons_option (limit_in z (Moves (get_or between k line))) []
moves_more z between k line below =
    ap (λ (lines : List Between). filter_map (limit_in z) (map Moves lines)) (take_more between k line below)
    ∙ (ap (filter_map (limit_in z)) (map-append Moves (take k between) (get_or between k line ∷ []))
    ∙ filter_map-append (limit_in z) (map Moves (take k between)) (Moves (get_or between k line) ∷ []))

-- what a line gives, behind what was given before
pub given_none : (o : Option ℕ) (xs : List ℕ) → o ≡ None → xs ≡ xs ++ cons_option o []
given_none o xs is = sym (append-nil xs) ∙ ap (λ (o : Option ℕ). xs ++ cons_option o []) (sym is)

pub given_some : (o : Option ℕ) (xs : List ℕ) (x : ℕ) → o ≡ Some x → xs ++ x ∷ [] ≡ xs ++ cons_option o []
given_some o xs x is = ap (λ (o : Option ℕ). xs ++ cons_option o []) (sym is)

pub line_added : (z : ℕ) (between : List Between) (k : ℕ) (line : Between) (before limits after : List ℕ) → k < length between
    → limits ≡ before ++ filter_map (limit_in z) (map Moves (take k between)) → after ≡ limits ++ cons_option (limit_in z (Moves (get_or between k line))) []
    → after ≡ before ++ filter_map (limit_in z) (map Moves (take (k + 1) between))
line_added z between k line before limits after below so_far is =
    let own = cons_option (limit_in z (Moves (get_or between k line))) [] in
    is ∙ (ap (λ (front : List ℕ). front ++ own) so_far ∙ (append_assoc before (filter_map (limit_in z) (map Moves (take k between))) own
    ∙ ap (λ (back : List ℕ). before ++ back) (sym (moves_more z between k line below))))

-- a slice has what `contains` finds
pub among : (xs : List ℕ) (x : ℕ) (r : Bool) → IsAnyAnswer (λ y t. nat_eq y x ≡ t) xs r → (r ≡ true → Contains xs x) × (Contains xs x → r ≡ true)
among xs x r told =
    let decides = contains_decides nat_eq (λ a b. (eqb-true a b, eq-eqb a b)) xs x r told in
    ((λ is. let found = decides.0 is in (found.0, found.1, found.2 x)), (λ has. decides.1 (has.0, has.1, (λ d. same_at xs has.0 x d has.1 ∙ has.2))))

-- ---- the last one

pub some_had : (xs : List ℕ) (x : ℕ) (rest : List ℕ) → xs ≡ x ∷ rest → 0 < length xs
some_had xs x rest is = let size : length xs ≡ suc (length rest) = ap length is in omega arith

-- the last of these numbers, which begin with `x`
last_of : ℕ → List ℕ → ℕ
last_of x [] = x
last_of x (y ∷ ys) = last_of y ys

cons_last : (x : ℕ) (o : Option ℕ) (xs : List ℕ) → last_of (option_map_or (λ limit. limit) o x) xs ≡ last_of x (cons_option o xs)
unfolding last_of
cons_last x None xs = refl
cons_last x (Some y) xs = refl

last_at : (x : ℕ) (xs : List ℕ) → get_or (x ∷ xs) (length xs) 0 ≡ last_of x xs
unfolding last_of
last_at x [] = refl
last_at x (y ∷ ys) = last_at y ys

after-push : (z first : ℕ) (lines : List Line) (line : Line) → limit_after z first (lines ++ line ∷ []) ≡ limit_after z (limit_after z first (line ∷ [])) lines
after-push z first [] line = refl
after-push z first (next ∷ lines) line = ap (option_map_or (λ limit. limit) (limit_in z next)) (after-push z first lines line)

after_is : (z first : ℕ) (lines : List Line) → limit_after z first (reverse lines) ≡ last_of first (filter_map (limit_in z) lines)
unfolding last_of
after_is z first [] = refl
after_is z first (line ∷ lines) =
    ap (limit_after z first) (reverse-append (line ∷ []) lines) ∙ (after-push z first (reverse lines) line
    ∙ (after_is z (limit_after z first (line ∷ [])) lines ∙ cons_last first (limit_in z line) (filter_map (limit_in z) lines)))

less_one : (n : ℕ) → suc n - 1 ≡ n
less_one n = omega arith

-- the last limit that a zone had is its limit at the end
pub last_had : (z : ℕ) (lines : List Line) (head : ZoneHead) (had : List ℕ) → had ≡ limits_had lines z head → get_or had (length had - 1) 0 ≡ last_limit lines z head
last_had z lines head had are =
    let rest = filter_map (limit_in z) lines in
    let all : List ℕ = head.limit ∷ rest in
    ap (λ (xs : List ℕ). get_or xs (length xs - 1) 0) are ∙ (ap (λ (k : ℕ). get_or all k 0) (less_one (length rest)) ∙ (last_at head.limit rest ∙ sym (after_is z head.limit lines)))

-- ---- a zone behind the last one, which no line of a valid trace names

names_none : (h : Head) (z : ℕ) (line : Line) → length h.zones ≤ z → IsLine h line → limit_in z line ≡ None
names_none h z (Does w op) past is = refl
names_none h z (Moves (Give giver from taker to)) past is = refl
names_none h z (Moves (SetMax zone limit)) past is =
    let apart : zone ≡ z → _ = λ e. let below = is.0 in absurd (omega arith) in
    ap (λ b. if b then Some limit else None) (ne_eqb zone z apart)

none_had : (h : Head) (z : ℕ) (lines : List Line) → length h.zones ≤ z → All (IsLine h) lines → filter_map (limit_in z) lines ≡ []
none_had h z [] past are = refl
none_had h z (line ∷ lines) past are =
    ap (λ o. cons_option o (filter_map (limit_in z) lines)) (names_none h z line past (All-head (IsLine h) line lines are)) ∙ none_had h z lines past (All-tail (IsLine h) line lines are)

same_le : (n : ℕ) → n ≤ n
same_le n = omega arith

unnamed : (t : Trace) → IsValid t → filter_map (limit_in (length t.head.zones)) (lines_of t.rounds) ≡ []
unnamed t valid = none_had t.head (length t.head.zones) (lines_of t.rounds) (same_le (length t.head.zones)) (lines_are t.head t.rounds valid.rounds)

pub unnamed_last : (t : Trace) (head : ZoneHead) → IsValid t → last_limit (lines_of t.rounds) (length t.head.zones) head ≡ head.limit
unfolding last_of
unnamed_last t head valid = after_is (length t.head.zones) head.limit (lines_of t.rounds) ∙ ap (last_of head.limit) (unnamed t valid)

pub unnamed_had : (t : Trace) (head : ZoneHead) → IsValid t → limits_had (lines_of t.rounds) (length t.head.zones) head ≡ head.limit ∷ []
unnamed_had t head valid = ap (λ (limits : List ℕ). head.limit ∷ limits) (unnamed t valid)

-- ---- zone by zone

-- the limits of so many zones at the end, and their ledgers keep limits that they had
pub record AreTested (lines : List Line) (heads : List ZoneHead) (ledgers : List (List SeatLedger)) (count : ℕ) (limits : List ℕ) : Type 0 where
  pub size : length limits ≡ count
  pub last : (z : ℕ) (head : ZoneHead) → z < count → slice_get heads z ≡ Some head → get_or limits z 0 ≡ last_limit lines z head
  pub kept : (z : ℕ) (head : ZoneHead) (own : List SeatLedger) → z < count → slice_get heads z ≡ Some head → slice_get ledgers z ≡ Some own → KeepSomeOf (limits_had lines z head) own

at_end : (limits : List ℕ) (limit z : ℕ) → z ≡ length limits → get_or (limits ++ limit ∷ []) z 0 ≡ limit
at_end [] limit zero is = refl
at_end [] limit (suc z) is = absurd (omega arith)
at_end (first ∷ limits) limit zero is = absurd (omega arith)
at_end (first ∷ limits) limit (suc z) is = at_end limits limit z (omega arith)

below_other : (z count n : ℕ) → z < count → n ≡ count → z < n
below_other z count n below is = omega arith

pub AreTested-more : (lines : List Line) (heads : List ZoneHead) (ledgers : List (List SeatLedger)) (count : ℕ) (limits : List ℕ) (head : ZoneHead) (own : List SeatLedger) (limit : ℕ)
    → AreTested lines heads ledgers count limits → head ≡ get_or heads count head → own ≡ get_or ledgers count own → limit ≡ last_limit lines count head
    → KeepSomeOf (limits_had lines count head) own → AreTested lines heads ledgers (count + 1) (limits ++ limit ∷ [])
AreTested-more lines heads ledgers count limits head own limit tested is_head is_own is keep =
    let same_head : (found : ZoneHead) (z : ℕ) → slice_get heads z ≡ Some found → z ≡ count → head ≡ found =
    λ found z at here. is_head ∙ (ap (λ k. get_or heads k head) (sym here) ∙ get_or_from_slice_get heads z found head at) in
    let same_own : (found : List SeatLedger) (z : ℕ) → slice_get ledgers z ≡ Some found → z ≡ count → own ≡ found =
    λ found z at here. is_own ∙ (ap (λ k. get_or ledgers k own) (sym here) ∙ get_or_from_slice_get ledgers z found own at) in
    record {
      size = length-append limits (limit ∷ []) ∙ ap (λ n. n + 1) tested.size;
      last = λ z found below at. elim (cases_eq z count) [
        | inl here ↦ at_end limits limit z (here ∙ sym tested.size) ∙ (is ∙ (ap (λ k. last_limit lines k head) (sym here) ∙ ap (last_limit lines z) (same_head found z at here)))
        | inr apart ↦
            let less : z < count = omega arith in
            get_or_append_left limits (limit ∷ []) 0 z (below_other z count (length limits) less tested.size) ∙ tested.last z found less at
      ];
      kept = λ z found kept below at at_own. elim (cases_eq z count) [
        | inl here ↦
            let P : ℕ → Type 0 = λ k. KeepSomeOf (limits_had lines k head) own in
            let Q : ZoneHead → Type 0 = λ h. KeepSomeOf (limits_had lines z h) own in
            let R : List SeatLedger → Type 0 = λ ls. KeepSomeOf (limits_had lines z found) ls in
            subst R (same_own kept z at_own here) (subst Q (same_head found z at here) (subst P (sym here) keep))
        | inr apart ↦ tested.kept z found kept (omega arith) at at_own
      ];
    }
