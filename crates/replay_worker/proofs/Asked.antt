-- Answers Hold in a row, and what follows them.
use Rattle.std.proofs.Common.{◌≡◌, ◌+◌, ◌<◌, ◌≤◌, ℕ, zero, suc, List, [], ◌∷◌, ◌++◌, refl, sym, ap, ◌∙◌, subst, length, arith}
use Rattle.smr_clock.specs.declared.host.Host.{Ghosts}
use Rattle.replay_worker.specs.declared.gate.Call.{Call}
use Rattle.replay_worker.specs.declared.gate.Call.TheVariants.{Asked, Done}
use Rattle.replay_worker.specs.declared.gate.Go.{Go}
use Rattle.replay_worker.specs.declared.gate.Go.TheVariants as answers
use Rattle.replay_worker.specs.declared.worker_run.WorkerRun.{WorkerRun}
use Rattle.replay_worker.specs.Asking.{HearsEach, HearsOne, Heard, IsAskedLast, Waits, heard_by, held_for}

pub held-none : (n i : ℕ) (before : List Call) → before ≡ held_for n i before 0
unfolding held_for
held-none n i before = refl

pub held-more : (n i times : ℕ) (before calls after : List Call) → calls ≡ held_for n i before times → after ≡ calls ++ Asked n i answers.Hold ∷ [] → after ≡ held_for n i before (times + 1)
unfolding held_for
held-more n i times before calls after held one =
    let e : suc times ≡ times + 1 = omega arith in
    let more : after ≡ held_for n i before (suc times) = one ∙ ap (λ (l : List Call). l ++ Asked n i answers.Hold ∷ []) held in
    subst (λ (k : ℕ). after ≡ held_for n i before k) e more

-- the last of some answers
pub held-last : (n i times : ℕ) (before calls : List Call) → 0 < times → calls ≡ held_for n i before times → IsAskedLast n i calls
unfolding held_for
held-last n i zero before calls some held = absurd (omega (arith, some))
held-last n i (suc times) before calls some held = record { earlier = held_for n i before times; answer = answers.Hold; last = held }

pub never-both : (go : Go) → go ≡ answers.Go → go ≡ answers.Hold → ⊥
never-both go is held = absurd (cc)

-- ---- one operation after another

pub hears-more : (n i : ℕ) (was mid waited is : Heard) → HearsEach n was i mid → Waits n (i + 1) mid waited → is ≡ record waited { calls = waited.calls ++ Done n (i + 1) ∷ [] } → HearsEach n was (i + 1) is
unfolding HearsEach
hears-more n i was mid waited is before waits told =
    let e : i + 1 ≡ suc i = omega arith in
    let one : HearsOne n (i + 1) mid is = record { waited = waited; waits = waits; told = told } in
    let next : HearsOne n (suc i) mid is = subst (λ (k : ℕ). HearsOne n k mid is) e one in
    let more : HearsEach n was (suc i) is = (mid, before, next) in
    subst (λ (k : ℕ). HearsEach n was k is) (sym e) more

pub hears-all : {X : Type 0} (n place : ℕ) (ops own : List X) (was is : Heard) → length ops ≤ place → place ≤ length ops → ops ≡ own → HearsEach n was place is → HearsEach n was (length own) is
hears-all n place ops own was is past within same hears =
    let last : place ≡ length ops = omega (arith, past, within) in
    subst (λ (k : ℕ). HearsEach n was k is) (last ∙ ap length same) hears

module _ {N H C S Part : Type 0} {h : Ghosts H Part} where
  pub hears-begun : (n : ℕ) (calls : List Call) (r : WorkerRun N H C S Part h) → calls ≡ [] → HearsEach n (heard_by [] r) 0 (heard_by calls r)
  unfolding HearsEach
  hears-begun n calls r none = ap (λ (calls : List Call). heard_by calls r) none

  -- the operation leaves what was counted of the gate
  pub told_so : (n i : ℕ) (calls told : List Call) (waited next : WorkerRun N H C S Part h) → told ≡ calls ++ Done n i ∷ [] → next.asked ≡ waited.asked → next.gave_up ≡ waited.gave_up
      → heard_by told next ≡ record (heard_by calls waited) { calls = calls ++ Done n i ∷ [] }
  told_so n i calls told waited next heard asked gave_up = λ j. record { calls = heard j; asked = asked j; gave_up = gave_up j }
