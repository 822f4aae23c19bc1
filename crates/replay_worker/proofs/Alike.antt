-- Two lists of lines that read alike for a worker: of the lines of others it sees nothing.
use Rattle.std.proofs.Common.{◌≡◌, ◌≢◌, ℕ, zero, suc, ◌+◌, List, [], ◌∷◌, ◌++◌, None, Some, refl, sym, ap, ◌∙◌, subst, arith, map, take}
use Rattle.std.specs.Prelude.{IsSome, slice_get}
use Rattle.trace_text.specs.declared.trace.Op.{Op}
use Rattle.trace_text.specs.declared.trace.Op.TheVariants.{Alloc, Free, Enter, Exit, Bind, Unbind, Look, Trim, Drain, DrainSeat, Prealloc, Away, Back}
use Rattle.trace_text.specs.declared.trace.Round.{Round}
use Rattle.trace_text.specs.Lines.{Line, Does, Moves, worker_lines, lines_of}
use Rattle.trace_text.specs.Reading.{held, held_after, in_section, open_after, is_away, away_after}
use Rattle.trace_text.specs.Valid.{LineFits, LinesFit, SlotFits}
use Rattle.replay_worker.specs.OwnLines.{stacked}
use Rattle.replay_worker.proofs.SlotReading.{held-own, in_section-own, is_away-own, held-others, in_section-others, is_away-others}

pub record Alike (n : ℕ) (a b : List Line) : Type 0 where
  pub same_held : (slot : ℕ) → held a n slot ≡ held b n slot
  pub same_section : in_section a n ≡ in_section b n
  pub same_away : is_away a n ≡ is_away b n

pub Alike-self : (n : ℕ) (a : List Line) → Alike n a a
Alike-self n a = record { same_held = λ slot. refl; same_section = refl; same_away = refl }

-- another worker's line on top of the one list
pub Alike-others : (n v : ℕ) (op : Op) (a b : List Line) → v ≢ n → Alike n a b → Alike n (Does v op ∷ a) b
Alike-others n v op a b apart same = record {
  same_held = λ slot. held-others a n v slot op apart ∙ same.same_held slot;
  same_section = in_section-others a n v op apart ∙ same.same_section;
  same_away = is_away-others a n v op apart ∙ same.same_away;
}

-- the worker's own line on top of both
pub Alike-own : (n : ℕ) (op : Op) (a b : List Line) → Alike n a b → Alike n (Does n op ∷ a) (Does n op ∷ b)
Alike-own n op a b same = record {
  same_held = λ slot. held-own a n slot op ∙ (ap (held_after op slot) (same.same_held slot) ∙ sym (held-own b n slot op));
  same_section = in_section-own a n op ∙ (ap (open_after op) same.same_section ∙ sym (in_section-own b n op));
  same_away = is_away-own a n op ∙ (ap (away_after op) same.same_away ∙ sym (is_away-own b n op));
}

-- another worker's whole list
pub Alike-list : (n v : ℕ) (ops : List Op) (a b : List Line) → v ≢ n → Alike n a b → Alike n (stacked (map (Does v) ops) a) b
unfolding stacked
Alike-list n v [] a b apart same = same
Alike-list n v (op ∷ ops) a b apart same = Alike-list n v ops (Does v op ∷ a) b apart (Alike-others n v op a b apart same)

-- what a line of the worker needs of its slots and section
slots_alike : (n : ℕ) (op : Op) (a b : List Line) → Alike n a b → SlotFits a n op → SlotFits b n op
slots_alike n (Alloc z slot arg reserve) a b same fits = sym (same.same_held slot) ∙ fits
slots_alike n (Free slot) a b same fits = subst IsSome (same.same_held slot) fits
slots_alike n Enter a b same fits = sym same.same_section ∙ fits
slots_alike n Exit a b same fits = sym same.same_section ∙ fits
slots_alike n (Bind key value) a b same fits = tt
slots_alike n (Unbind key) a b same fits = tt
slots_alike n (Look key) a b same fits = tt
slots_alike n (Trim zone) a b same fits = tt
slots_alike n (Drain zone) a b same fits = tt
slots_alike n (DrainSeat zone) a b same fits = tt
slots_alike n (Prealloc zone items) a b same fits = tt
slots_alike n Away a b same fits = sym same.same_section ∙ fits
slots_alike n Back a b same fits = tt

-- and of whether it is away
line_alike : (n : ℕ) (op : Op) (a b : List Line) → Alike n a b → LineFits a (Does n op) → LineFits b (Does n op)
line_alike n op a b same fits = (slots_alike n op a b same fits.0, sym same.same_away ∙ fits.1)

pub LinesFit-alike : (n : ℕ) (ops : List Op) (a b : List Line) → Alike n a b → LinesFit a (map (Does n) ops) → LinesFit b (map (Does n) ops)
LinesFit-alike n [] a b same fit = tt
LinesFit-alike n (op ∷ ops) a b same fit =
    (line_alike n op a b same fit.0, LinesFit-alike n ops (Does n op ∷ a) (Does n op ∷ b) (Alike-own n op a b same) fit.1)

-- lines in two parts
pub LinesFit-front : (xs ys : List Line) (a : List Line) → LinesFit a (xs ++ ys) → LinesFit a xs
LinesFit-front [] ys a fit = tt
LinesFit-front (x ∷ xs) ys a fit = (fit.0, LinesFit-front xs ys (x ∷ a) fit.1)

pub LinesFit-back : (xs ys : List Line) (a : List Line) → LinesFit a (xs ++ ys) → LinesFit (stacked xs a) ys
unfolding stacked
LinesFit-back [] ys a fit = fit
LinesFit-back (x ∷ xs) ys a fit = LinesFit-back xs ys (x ∷ a) fit.1

pub stacked-append : (xs ys : List Line) (a : List Line) → stacked (xs ++ ys) a ≡ stacked ys (stacked xs a)
unfolding stacked
stacked-append [] ys a = refl
stacked-append (x ∷ xs) ys a = stacked-append xs ys (x ∷ a)

-- the worker's own list fits after the lines before the round, whatever the others do in it
own_of_round : (n v w : ℕ) (lists : List (List Op)) (ops : List Op) (a b : List Line) → v ≡ w + n → slice_get lists n ≡ Some ops → Alike v a b → LinesFit a (worker_lines w lists)
    → LinesFit b (map (Does v) ops)
own_of_round n v w [] ops a b is at same fit = absurd (let never : None ≡ Some ops = at in cc)
own_of_round zero v w (first ∷ lists) ops a b is at same fit =
    let here : w ≡ v = omega arith in
    let P : ℕ → Type 0 = λ i. LinesFit a (map (Does i) first) in
    let Q : List Op → Type 0 = λ list. LinesFit b (map (Does v) list) in
    let found : first ≡ ops = let e : Some first ≡ Some ops = at in cc in
    subst Q found (LinesFit-alike v first a b same (subst P here (LinesFit-front (map (Does w) first) (worker_lines (w + 1) lists) a fit)))
own_of_round (suc n) v w (first ∷ lists) ops a b is at same fit =
    own_of_round n v (w + 1) lists ops (stacked (map (Does w) first) a) b (omega arith) at
    (Alike-list v w first a b (λ e. omega arith) same)
    (LinesFit-back (map (Does w) first) (worker_lines (w + 1) lists) a fit)

-- the lines of a round fit after those of the rounds before
round_fit : (k : ℕ) (rounds : List Round) (r : Round) (a : List Line) → slice_get rounds k ≡ Some r → LinesFit a (lines_of rounds)
    → LinesFit (stacked (lines_of (take k rounds)) a) (worker_lines 0 r.ops)
unfolding stacked
round_fit k [] r a at fit = absurd (let never : None ≡ Some r = at in cc)
round_fit zero (first ∷ rounds) r a at fit =
    let found : first ≡ r = let e : Some first ≡ Some r = at in cc in
    let P : Round → Type 0 = λ x. LinesFit a (worker_lines 0 x.ops) in
    subst P found (LinesFit-front (worker_lines 0 first.ops) (map Moves first.between) a
    (LinesFit-front (worker_lines 0 first.ops ++ map Moves first.between) (lines_of rounds) a fit))
round_fit (suc k) (first ∷ rounds) r a at fit =
    let front = worker_lines 0 first.ops ++ map Moves first.between in
    let P : List Line → Type 0 = λ lines. LinesFit lines (worker_lines 0 r.ops) in
    subst P (sym (stacked-append front (lines_of (take k rounds)) a))
    (round_fit k rounds r (stacked front a) at (LinesFit-back front (lines_of rounds) a fit))

pub own_fit : (rounds : List Round) (k n : ℕ) (r : Round) (ops : List Op) → slice_get rounds k ≡ Some r → slice_get r.ops n ≡ Some ops → LinesFit [] (lines_of rounds)
    → LinesFit (stacked (lines_of (take k rounds)) []) (map (Does n) ops)
own_fit rounds k n r ops is_round is_list fit =
    let before = stacked (lines_of (take k rounds)) [] in
    own_of_round n n 0 r.ops ops before before (omega arith) is_list (Alike-self n before) (round_fit k rounds r [] is_round fit)
