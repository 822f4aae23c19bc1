-- How the workers' entries into sections ended, all together, and what the clock's line says of them.
use Rattle.std.proofs.Common.{◌≡◌, ℕ, zero, suc, ◌+◌, ◌%◌, ◌<◌, ◌≤◌, List, [], ◌∷◌, length, Some, refl, sym, ap, ◌∙◌, subst, arith, reverse}
use Rattle.std.proofs.lemmas.List.Sums.{sum_by-cons}
use Rattle.std.proofs.lemmas.Option.{none-some, same_Some}
use Rattle.std.specs.Prelude.{slice_get, sum_by}
use Rattle.trace_text.specs.declared.trace.ClockHead.{ClockHead}
use Rattle.trace_text.specs.declared.trace.Trace.{Trace}
use Rattle.trace_text.specs.Lines.{lines_of}
use Rattle.trace_text.specs.Valid.{IsValid}
use Rattle.zone_stats.specs.declared.report.ClockLine.{ClockLine}
use Rattle.smr_core.specs.declared.holder.Phase.{Phase}
use Rattle.replay_worker.specs.Counting.{looks, sections}
use Rattle.replay_worker.specs.EntriesStand.{EntriesStand}
use Rattle.uma_replay.specs.Counting.{enter_count, is_look, kind_count}
use Rattle.uma_replay.specs.Report.{ClockStands}
use Rattle.uma_replay.proofs.KindCounts.{looks_are}
use Rattle.uma_replay.proofs.Upto.{upto, upto-none, upto-more, upto-add}
use Rattle.uma_replay.proofs.WorkerSums.{Sums}
use Rattle.uma_replay.proofs.ZoneFrees.{sum-upto, sum-upto-le, sums_of}

pub sum-both : {W : Type 0} (f g : W → ℕ) (ws : List W) → sum_by (λ w. f w + g w) ws ≡ sum_by f ws + sum_by g ws
sum-both f g [] = refl
sum-both f g (w ∷ ws) = omega (arith, sum_by-cons (λ w. f w + g w) w ws, sum_by-cons f w ws, sum_by-cons g w ws, sum-both f g ws)

sum-none : {W : Type 0} (f : W → ℕ) (ws : List W) → ((n : ℕ) (w : W) → slice_get ws n ≡ Some w → f w ≡ 0) → sum_by f ws ≡ 0
sum-none f [] none = refl
sum-none f (w ∷ ws) none = omega (arith, sum_by-cons f w ws, none 0 w refl, sum-none f ws (λ n v at. none (suc n) v at))

pub sum-term : {W : Type 0} (f : W → ℕ) (ws : List W) (n : ℕ) (w : W) → slice_get ws n ≡ Some w → f w ≤ sum_by f ws
sum-term f [] n w at = absurd (none-some w at)
sum-term f (first ∷ ws) zero w at = omega (arith, sum_by-cons f first ws, ap f (same_Some first w at))
sum-term f (first ∷ ws) (suc n) w at = omega (arith, sum_by-cons f first ws, sum-term f ws n w at)

from_zero : (n : ℕ) → n ≡ 0 + n
from_zero n = omega arith

-- what workers count, by their numbers
pub sum-workers : {W : Type 0} (f : W → ℕ) (ws : List W) (g : ℕ → ℕ) (count : ℕ) → length ws ≡ count → ((n : ℕ) (w : W) → slice_get ws n ≡ Some w → f w ≡ g n) → sum_by f ws ≡ upto g 0 count
sum-workers f ws g count size each =
    let P : ℕ → Type 0 = λ k. sum_by f ws ≡ upto g 0 k in
    subst P size (sum-upto f ws g 0 (λ n w at. each n w at ∙ ap g (from_zero n)))

le_then : (a b c : ℕ) → a ≤ b → b ≡ c → a ≤ c
le_then a b c most same = omega arith

pub sum-workers-le : {W : Type 0} (f : W → ℕ) (ws : List W) (g : ℕ → ℕ) (count : ℕ) → length ws ≡ count → ((n : ℕ) (w : W) → slice_get ws n ≡ Some w → f w ≤ g n) → sum_by f ws ≤ upto g 0 count
sum-workers-le f ws g count size each =
    let P : ℕ → Type 0 = λ k. sum_by f ws ≤ upto g 0 k in
    subst P size (sum-upto-le f ws g 0 (λ n w at. le_then (f w) (g n) (g (0 + n)) (each n w at) (ap g (from_zero n))))

-- a sum over workers that is no less than one over numbers
le-upto : {W : Type 0} (f : W → ℕ) (ws : List W) (g : ℕ → ℕ) (a : ℕ) → ((n : ℕ) (w : W) → slice_get ws n ≡ Some w → g (a + n) ≤ f w) → upto g a (length ws) ≤ sum_by f ws
le-upto f [] g a each = omega (arith, upto-none g a)
le-upto f (w ∷ ws) g a each =
    let here : g (a + 0) ≡ g a = ap g (let e : a + 0 ≡ a = omega arith in e) in
    let rest : upto g (suc a) (length ws) ≤ sum_by f ws = le-upto f ws g (suc a)
    (λ n v at. let next : g (a + suc n) ≡ g (suc a + n) = ap g (let e : a + suc n ≡ suc a + n = omega arith in e) in omega (arith, each (suc n) v at, next)) in
    omega (arith, sum_by-cons f w ws, upto-more g a (length ws), each 0 w refl, here, rest)

not_late : (late bound write : ℕ) → (0 < late → bound ≤ write) → write < bound → late ≡ 0
not_late zero bound write far below = refl
not_late (suc n) bound write far below = absurd (let past : bound ≤ write = far (omega arith) in omega arith)

at_least : (wanted entered late all e l : ℕ) → all ≤ entered + late → all ≡ wanted → e ≡ entered → l ≡ late → wanted ≤ e + l
at_least wanted entered late all e l enough same is is_late = omega arith

none_of : (term all l : ℕ) → term ≤ all → l ≡ all → l ≡ 0 → term ≡ 0
none_of term all l below is none = omega arith

same_le : (a b c : ℕ) → a ≡ b → b ≤ c → a ≤ c
same_le a b c same below = omega arith

most_of : (e l all both wanted looked entries asked : ℕ) → all ≡ e + l → all ≤ both → both ≡ wanted + looked → wanted ≡ entries → looked ≡ asked → e + l ≤ entries + asked
most_of e l all both wanted looked entries asked e1 e2 e3 e4 e5 = omega arith

-- the sections that the lines want, by worker
sections_are : (t : Trace) → IsValid t → upto (λ n. sections n (reverse (lines_of t.rounds))) 0 t.head.workers ≡ enter_count (reverse (lines_of t.rounds))
sections_are t valid = let sums : Sums t.head 65536 0 (reverse (lines_of t.rounds)) = sums_of t 65536 0 valid (omega arith) in sums.sections

-- each worker's counts stand for its lines
abbrev pub AllEnter : {W : Type 0} → Trace → List W → (W → ℕ) → (W → ℕ) → (W → Phase) → Type 0
AllEnter {W} t ws entered late phase = (n : ℕ) (w : W) → slice_get ws n ≡ Some w → EntriesStand n (reverse (lines_of t.rounds)) (entered w) (late w) (phase w)

-- all workers' entries are no more than the sections that the lines want, and their looks
pub entries_most : {W : Type 0} (t : Trace) (ws : List W) (entered late : W → ℕ) (phase : W → Phase) → IsValid t → length ws ≡ t.head.workers → AllEnter t ws entered late phase
    → sum_by entered ws + sum_by late ws ≤ enter_count (reverse (lines_of t.rounds)) + kind_count is_look t
entries_most t ws entered late phase valid count each =
    let lines = reverse (lines_of t.rounds) in
    let both : upto (λ n. sections n lines + looks n lines) 0 t.head.workers ≡ upto (λ n. sections n lines) 0 t.head.workers + upto (λ n. looks n lines) 0 t.head.workers =
    upto-add (λ n. sections n lines) (λ n. looks n lines) 0 t.head.workers in
    most_of _ _ _ _ _ _ _ _ (sum-both entered late ws)
    (sum-workers-le (λ w. entered w + late w) ws (λ n. sections n lines + looks n lines) t.head.workers count (λ n w at. (each n w at).most)) both
    (sections_are t valid) (looks_are t valid)

-- what the sequences of the line have to do with the clock
pub record HandsFit (c : ClockHead) (line : ClockLine) : Type 0 where
  pub read_odd : line.read % 2 ≡ 1
  pub write_odd : line.write % 2 ≡ 1
  pub start : c.start ≤ line.read
  pub in_order : line.read ≤ line.write
  pub within : line.write ≤ line.read + c.window

pub clock_stands : {W : Type 0} (t : Trace) (c : ClockHead) (line : ClockLine) (ws : List W) (entered late : W → ℕ) (phase : W → Phase) → IsValid t → length ws ≡ t.head.workers → AllEnter t ws entered late phase
    → ((n : ℕ) (w : W) → slice_get ws n ≡ Some w → 0 < late w → c.start + c.window ≤ line.write)
    → line.entered ≡ sum_by entered ws → line.late ≡ sum_by late ws → HandsFit c line → ClockStands t c line
clock_stands t c line ws entered late phase valid count each far is_entered is_late hands =
    let lines = reverse (lines_of t.rounds) in
    let wanted : ℕ → ℕ = λ n. sections n lines in
    let P : ℕ → Type 0 = λ k. upto wanted 0 k ≤ sum_by (λ w. entered w + late w) ws in
    let enough : upto wanted 0 t.head.workers ≤ sum_by (λ w. entered w + late w) ws =
    subst P count (le-upto (λ w. entered w + late w) ws wanted 0 (λ n w at. same_le _ _ _ (ap wanted (sym (from_zero n))) (each n w at).enough)) in
    record {
      read_odd = hands.read_odd;
      write_odd = hands.write_odd;
      start = hands.start;
      in_order = hands.in_order;
      within = hands.within;
      entries = at_least _ _ _ _ _ _ (le_then _ _ _ enough (sum-both entered late ws)) (sections_are t valid) is_entered is_late;
      in_time = λ none. is_entered ∙ (sum-workers entered ws wanted t.head.workers count
          (λ n w at. (each n w at).in_time (none_of (late w) (sum_by late ws) line.late (sum-term late ws n w at) is_late none)) ∙ sections_are t valid);
      never_late = λ below. is_late ∙ sum-none late ws (λ n w at. not_late (late w) (c.start + c.window) line.write (far n w at) below);
    }
