-- What all workers' lines count together, of a list of lines of which the last one comes first: each line is one worker's.
use Rattle.std.proofs.Common.{◌≡◌, ◌≢◌, ℕ, ◌+◌, ◌<◌, ◌≤◌, List, [], ◌∷◌, ◌++◌, Bool, false, cond, refl, sym, ap, ◌∙◌, subst, arith, eq-eqb, reverse, append-nil}
use Rattle.std.proofs.lemmas.Bool.{ne_eqb, and_left}
use Rattle.std.proofs.lemmas.List.{reverse-append, append_assoc}
use Rattle.std.proofs.lemmas.List.Elements.{All-head, All-tail}
use Rattle.std.specs.Prelude.{All, not, ◌==◌}
use Rattle.trace_text.specs.declared.trace.Head.{Head}
use Rattle.trace_text.specs.declared.trace.Op.{Op}
use Rattle.trace_text.specs.declared.trace.Op.TheVariants.{Alloc, Free, Enter, Exit, Bind, Unbind, Look, Trim, Drain, DrainSeat, Prealloc, Away, Back}
use Rattle.trace_text.specs.declared.trace.Between.TheVariants.{Give, SetMax}
use Rattle.trace_text.specs.Lines.{Line, Does, Moves}
use Rattle.trace_text.specs.Limits.{last_slot}
use Rattle.trace_text.specs.Valid.{OpFits, BetweenFits, LineFits, LinesFit}
use Rattle.trace_text.specs.Reading.{in_section}
use Rattle.replay_worker.specs.Counting.{is_ask, is_section, is_free_of, asked, sections, freed}
use Rattle.replay_worker.proofs.LineCounts.{asked-more, sections-more, freed-more, asked-none, sections-none, freed-none}
use Rattle.uma_replay.specs.Counting.{free_count, frees_of, enter_count, is_entry}
use Rattle.uma_replay.proofs.Filled.{ask_count, asks_of, NamesBelow, AddsUp, adds-more, AddsUp-none, ask-more, ask-none}
use Rattle.uma_replay.proofs.Upto.{upto, upto-point, upto-same, upto-zero}

-- the line is of one of so many workers and fits by itself
abbrev pub IsLine : Head → Line → Type 0
IsLine h (Does w op) = (w < h.workers) × OpFits h op
IsLine h (Moves between) = BetweenFits h between

-- sums over the workers that differ at one worker
pub more-at : (f g : ℕ → ℕ) (count v unit : ℕ) → v < count → ((n : ℕ) → n ≢ v → f n ≡ g n) → f v ≡ g v + unit → upto f 0 count ≡ upto g 0 count + unit
more-at f g count v unit below others own = omega (arith, upto-point f g 0 count v (omega arith) (omega arith) others, own)

-- a count of lines, and for each worker a count of its own
record IsSumOf (all : List Line → ℕ) (each : ℕ → List Line → ℕ) (h : Head) (lines : List Line) : Type 0 where
  is : upto (λ n. each n lines) 0 h.workers ≡ all lines

-- ---- what a line is to other workers than its own

ask-others : (n z v : ℕ) (op : Op) → n ≢ v → is_ask n z (Does v op) ≡ false
ask-others n z v (Alloc zone slot arg reserve) apart = and_left (v == n) (zone == z) (ne_eqb v n (λ e. apart (sym e)))
ask-others n z v op apart = refl

ask-own : (z v : ℕ) (op : Op) → is_ask v z (Does v op) ≡ asks_of z (Does v op)
ask-own z v (Alloc zone slot arg reserve) = rw (eq-eqb v v refl) refl
ask-own z v op = refl

free-others : (n z v : ℕ) (lines : List Line) (op : Op) → n ≢ v → is_free_of n z lines (Does v op) ≡ false
free-others n z v lines (Free slot) apart = and_left (v == n) _ (ne_eqb v n (λ e. apart (sym e)))
free-others n z v lines op apart = refl

free-own : (z v : ℕ) (lines : List Line) (op : Op) → is_free_of v z lines (Does v op) ≡ frees_of z lines (Does v op)
free-own z v lines (Free slot) = rw (eq-eqb v v refl) refl
free-own z v lines op = refl

section-others : (n v : ℕ) (lines : List Line) (op : Op) → n ≢ v → is_section n lines (Does v op) ≡ false
section-others n v lines Enter apart = ne_eqb v n (λ e. apart (sym e))
section-others n v lines (Look key) apart = and_left (v == n) (not (in_section lines n)) (ne_eqb v n (λ e. apart (sym e)))
section-others n v lines op apart = refl

section-own : (v : ℕ) (lines : List Line) (op : Op) → is_section v lines (Does v op) ≡ is_entry lines (Does v op)
section-own v lines Enter = eq-eqb v v refl
section-own v lines (Look key) = rw (eq-eqb v v refl) refl
section-own v lines op = refl

-- ---- one line more

abbrev unit : Bool → ℕ
unit b = cond b 1 0

asks-more : (h : Head) (z : ℕ) (lines : List Line) (line : Line) → IsLine h line → upto (λ n. asked n z lines) 0 h.workers ≡ ask_count z lines
    → upto (λ n. asked n z (line ∷ lines)) 0 h.workers ≡ ask_count z (line ∷ lines)
asks-more h z lines (Moves between) is before =
    let same : upto (λ n. asked n z (Moves between ∷ lines)) 0 h.workers ≡ upto (λ n. asked n z lines) 0 h.workers =
    upto-same (λ n. asked n z (Moves between ∷ lines)) (λ n. asked n z lines) 0 h.workers (λ n from to. omega (arith, asked-more n z (Moves between) lines)) in
    omega (arith, same, before, ask-more z (Moves between) lines)
asks-more h z lines (Does v op) is before =
    let line = Does v op in
    let own : unit (is_ask v z line) ≡ unit (asks_of z line) = ap unit (ask-own z v op) in
    let more : upto (λ n. asked n z (line ∷ lines)) 0 h.workers ≡ upto (λ n. asked n z lines) 0 h.workers + unit (asks_of z line) =
    more-at (λ n. asked n z (line ∷ lines)) (λ n. asked n z lines) h.workers v (unit (asks_of z line)) is.0
    (λ n apart. let none : unit (is_ask n z line) ≡ 0 = ap unit (ask-others n z v op apart) in omega (arith, asked-more n z line lines, none))
    (omega (arith, asked-more v z line lines, own)) in
    omega (arith, more, before, ask-more z line lines)

frees-more : (h : Head) (z : ℕ) (lines : List Line) (line : Line) → IsLine h line → upto (λ n. freed n z lines) 0 h.workers ≡ free_count z lines
    → upto (λ n. freed n z (line ∷ lines)) 0 h.workers ≡ free_count z (line ∷ lines)
frees-more h z lines (Moves between) is before =
    let same : upto (λ n. freed n z (Moves between ∷ lines)) 0 h.workers ≡ upto (λ n. freed n z lines) 0 h.workers =
    upto-same (λ n. freed n z (Moves between ∷ lines)) (λ n. freed n z lines) 0 h.workers (λ n from to. omega (arith, freed-more n z (Moves between) lines)) in
    omega (arith, same, before)
frees-more h z lines (Does v op) is before =
    let line = Does v op in
    let one = unit (frees_of z lines line) in
    let own : unit (is_free_of v z lines line) ≡ one = ap unit (free-own z v lines op) in
    let more : upto (λ n. freed n z (line ∷ lines)) 0 h.workers ≡ upto (λ n. freed n z lines) 0 h.workers + one =
    more-at (λ n. freed n z (line ∷ lines)) (λ n. freed n z lines) h.workers v one is.0
    (λ n apart. let none : unit (is_free_of n z lines line) ≡ 0 = ap unit (free-others n z v lines op apart) in omega (arith, freed-more n z line lines, none))
    (omega (arith, freed-more v z line lines, own)) in
    more ∙ ap (λ k. k + one) before

sections-grow : (h : Head) (lines : List Line) (line : Line) → IsLine h line → upto (λ n. sections n lines) 0 h.workers ≡ enter_count lines
    → upto (λ n. sections n (line ∷ lines)) 0 h.workers ≡ enter_count (line ∷ lines)
sections-grow h lines (Moves between) is before =
    let same : upto (λ n. sections n (Moves between ∷ lines)) 0 h.workers ≡ upto (λ n. sections n lines) 0 h.workers =
    upto-same (λ n. sections n (Moves between ∷ lines)) (λ n. sections n lines) 0 h.workers (λ n from to. omega (arith, sections-more n (Moves between) lines)) in
    omega (arith, same, before)
sections-grow h lines (Does v op) is before =
    let line = Does v op in
    let one = unit (is_entry lines line) in
    let own : unit (is_section v lines line) ≡ one = ap unit (section-own v lines op) in
    let more : upto (λ n. sections n (line ∷ lines)) 0 h.workers ≡ upto (λ n. sections n lines) 0 h.workers + one =
    more-at (λ n. sections n (line ∷ lines)) (λ n. sections n lines) h.workers v one is.0
    (λ n apart. let none : unit (is_section n lines line) ≡ 0 = ap unit (section-others n v lines op apart) in omega (arith, sections-more n line lines, none))
    (omega (arith, sections-more v line lines, own)) in
    more ∙ ap (λ k. k + one) before

-- ---- all lines

-- of so many slots a worker, those that the reading fills, and what the workers count, go together
pub record Sums (h : Head) (size z : ℕ) (lines : List Line) : Type 0 where
  pub filled : AddsUp h.workers size z lines
  pub asks : upto (λ n. asked n z lines) 0 h.workers ≡ ask_count z lines
  pub frees : upto (λ n. freed n z lines) 0 h.workers ≡ free_count z lines
  pub sections : upto (λ n. sections n lines) 0 h.workers ≡ enter_count lines

below : (h : Head) (size : ℕ) (line : Line) → last_slot < size → IsLine h line → NamesBelow h.workers size line
below h size (Does w (Alloc zone slot arg reserve)) most is = let at : slot ≤ 65535 = is.1.1 in let top : 65535 < size = most in (is.0, omega arith)
below h size (Does w (Free slot)) most is = let at : slot ≤ 65535 = is.1 in let top : 65535 < size = most in (is.0, omega arith)
below h size (Does w Enter) most is = tt
below h size (Does w Exit) most is = tt
below h size (Does w (Bind key value)) most is = tt
below h size (Does w (Unbind key)) most is = tt
below h size (Does w (Look key)) most is = tt
below h size (Does w (Trim zone)) most is = tt
below h size (Does w (Drain zone)) most is = tt
below h size (Does w (DrainSeat zone)) most is = tt
below h size (Does w (Prealloc zone items)) most is = tt
below h size (Does w Away) most is = tt
below h size (Does w Back) most is = tt
below h size (Moves (Give giver from taker to)) most is =
    let top : 65535 < size = most in let first : from ≤ 65535 = is.1 in let second : to ≤ 65535 = is.3 in (is.0, omega arith, is.2, omega arith)
below h size (Moves (SetMax zone limit)) most is = tt

pub Sums-none : (h : Head) (size z : ℕ) → Sums h size z []
Sums-none h size z = record {
  filled = AddsUp-none h.workers size z;
  asks = upto-zero (λ n. asked n z []) 0 h.workers (λ n. asked-none n z) ∙ sym (ask-none z);
  frees = upto-zero (λ n. freed n z []) 0 h.workers (λ n. freed-none n z);
  sections = upto-zero (λ n. sections n []) 0 h.workers (λ n. sections-none n);
}

Sums-more : (h : Head) (size z : ℕ) (lines : List Line) (line : Line) → last_slot < size → IsLine h line → LineFits lines line → Sums h size z lines → Sums h size z (line ∷ lines)
Sums-more h size z lines line most is fits before = record {
  filled = adds-more h.workers size z lines line (below h size line most is) fits before.filled;
  asks = asks-more h z lines line is before.asks;
  frees = frees-more h z lines line is before.frees;
  sections = sections-grow h lines line is before.sections;
}

-- the lines in order, on top of earlier ones
Sums-on : (h : Head) (size z : ℕ) (lines before : List Line) → last_slot < size → All (IsLine h) lines → LinesFit before lines → Sums h size z before → Sums h size z (reverse lines ++ before)
Sums-on h size z [] before most all fit sums = sums
Sums-on h size z (line ∷ lines) before most all fit sums =
    let P : List Line → Type 0 = λ list. Sums h size z list in
    let same : reverse lines ++ (line ∷ before) ≡ reverse (line ∷ lines) ++ before =
    sym (append_assoc (reverse lines) (line ∷ []) before) ∙ ap (λ list. list ++ before) (sym (reverse-append (line ∷ []) lines)) in
    subst P same (Sums-on h size z lines (line ∷ before) most (All-tail (IsLine h) line lines all) fit.1
    (Sums-more h size z before line most (All-head (IsLine h) line lines all) fit.0 sums))

pub Sums-all : (h : Head) (size z : ℕ) (lines : List Line) → last_slot < size → All (IsLine h) lines → LinesFit [] lines → Sums h size z (reverse lines)
Sums-all h size z lines most all fit =
    let P : List Line → Type 0 = λ list. Sums h size z list in
    subst P (append-nil (reverse lines)) (Sums-on h size z lines [] most all fit (Sums-none h size z))
