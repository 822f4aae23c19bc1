-- A worker's own list, operation after operation.
use Rattle.std.proofs.Common.{◌≡◌, ℕ, zero, suc, ◌+◌, ◌<◌, List, [], ◌∷◌, ◌++◌, refl, ap, ◌∙◌, arith, length, map, take, get_or}
use Rattle.std.proofs.lemmas.List.{take_more}
use Rattle.trace_text.specs.declared.trace.Op.{Op}
use Rattle.trace_text.specs.Lines.{Line, Does}
use Rattle.trace_text.specs.Valid.{LineFits, LinesFit}
use Rattle.replay_worker.specs.OwnLines.{worked}

worked-snoc : (n : ℕ) (ops : List Op) (op : Op) (before : List Line) → worked n (ops ++ op ∷ []) before ≡ Does n op ∷ worked n ops before
unfolding worked
worked-snoc n [] op before = refl
worked-snoc n (first ∷ ops) op before = worked-snoc n ops op (Does n first ∷ before)

pub worked-none : (n : ℕ) (ops : List Op) (before : List Line) → worked n (take 0 ops) before ≡ before
unfolding worked
worked-none n [] before = refl
worked-none n (op ∷ ops) before = refl

pub worked-more : (n i : ℕ) (ops : List Op) (d : Op) (before : List Line) → i < length ops → worked n (take (i + 1) ops) before ≡ Does n (get_or ops i d) ∷ worked n (take i ops) before
worked-more n i ops d before below = ap (λ list. worked n list before) (take_more ops i d below) ∙ worked-snoc n (take i ops) (get_or ops i d) before

pub length-worked : (n : ℕ) (ops : List Op) (before : List Line) → length (worked n ops before) ≡ length ops + length before
unfolding worked
length-worked n [] before = omega arith
length-worked n (op ∷ ops) before = omega (arith, length-worked n ops (Does n op ∷ before))

-- the next operation of the list fits after those before it
pub next_fits : (n i : ℕ) (ops : List Op) (d : Op) (before : List Line) → i < length ops → LinesFit before (map (Does n) ops) → LineFits (worked n (take i ops) before) (Does n (get_or ops i d))
unfolding worked
next_fits n i [] d before below fit = absurd (omega arith)
next_fits n zero (op ∷ ops) d before below fit = fit.0
next_fits n (suc i) (op ∷ ops) d before below fit = next_fits n i ops d (Does n op ∷ before) (omega arith) fit.1
