-- An operation still fits where its worker's others are, behind those of the workers before it.
use Rattle.std.proofs.Common.{◌≡◌, ℕ, zero, suc, ◌+◌, ◌<◌, ◌≤◌, List, ◌∷◌, ◌++◌, map, refl, sym, ap, ap₂, subst, ◌∙◌, inl, inr, append_assoc, arith}
use Rattle.std.proofs.lemmas.Bool.{cases_eq}
use Rattle.std.specs.List.{range_with_len}
use Rattle.trace_text.specs.declared.trace.Op.{Op}
use Rattle.trace_text.specs.Lines.{Line, Does, worker_lines}
use Rattle.trace_text.specs.Valid.{LinesFit}
use Rattle.trace_text.proofs.LineOrder.{StillFit, behind, goes_behind}

-- what so many workers do, from number `k` on
abbrev pub lines_from : ℕ → ℕ → (ℕ → List Op) → List Line
lines_from k n ops = worker_lines k (map ops (range_with_len k n))

same_lists : (f g : ℕ → List Op) (k n : ℕ) → ((v : ℕ) → k ≤ v → g v ≡ f v) → map g (range_with_len k n) ≡ map f (range_with_len k n)
same_lists f g k zero same = refl
same_lists f g k (suc n) same =
    ap₂ (λ (ops : List Op) (lists : List (List Op)). ops ∷ lists) (same k (omega arith)) (same_lists f g (k + 1) n (λ v le. same v (omega arith)))

-- worker `w` does this operation first, and then what it does by `f`; the others do what they do by `f`
pub record IsWith (w : ℕ) (op : Op) (f g : ℕ → List Op) : Type 0 where
  pub own : g w ≡ op ∷ f w
  pub others : (v : ℕ) → (v ≡ w → ⊥) → g v ≡ f v

-- the worker is the first one
is_first : (f g : ℕ → List Op) (w : ℕ) (op : Op) (k n : ℕ) → IsWith w op f g → w ≡ k → lines_from k (suc n) g ≡ Does w op ∷ lines_from k (suc n) f
is_first f g w op k n is e =
    let own : g k ≡ op ∷ f k = ap g (sym e) ∙ is.own ∙ ap (λ (v : ℕ). op ∷ f v) e in
    let others : map g (range_with_len (k + 1) n) ≡ map f (range_with_len (k + 1) n) = same_lists f g (k + 1) n (λ v le. is.others v (λ e'. omega arith)) in
    ap₂ (λ (ops : List Op) (lists : List (List Op)). map (Does k) ops ++ worker_lines (k + 1) lists) own others
    ∙ ap (λ (v : ℕ). Does v op ∷ lines_from k (suc n) f) (sym e)

-- it comes later
is_later : (f g : ℕ → List Op) (w : ℕ) (op : Op) (rest : List Line) (k n : ℕ) → IsWith w op f g → (w ≡ k → ⊥)
    → StillFit (Does w op ∷ (lines_from (k + 1) n f ++ rest)) (lines_from (k + 1) n g ++ rest)
    → StillFit (Does w op ∷ (lines_from k (suc n) f ++ rest)) (lines_from k (suc n) g ++ rest)
is_later f g w op rest k n is ne still before fits =
    let front : List Line = map (Does k) (f k) in
    let old : List Line = lines_from (k + 1) n f in
    let new : List Line = lines_from (k + 1) n g in
    let P : List Line → Type 0 = λ lines. LinesFit before lines in
    let apart : LinesFit before (Does w op ∷ (front ++ (old ++ rest))) = subst (λ (lines : List Line). LinesFit before (Does w op ∷ lines)) (append_assoc front old rest) fits in
    let moved : LinesFit before (front ++ Does w op ∷ (old ++ rest)) = goes_behind w op k (f k) (old ++ rest) ne before apart in
    let whole : LinesFit before (front ++ (new ++ rest)) = behind front (Does w op ∷ (old ++ rest)) (new ++ rest) still before moved in
    subst (λ (ops : List Op). LinesFit before ((map (Does k) ops ++ new) ++ rest)) (sym (is.others k (λ e. ne (sym e))))
    (subst P (sym (append_assoc front new rest)) whole)

pub joins_its_own : (f g : ℕ → List Op) (w : ℕ) (op : Op) (rest : List Line) → IsWith w op f g → (k n : ℕ) → k ≤ w → w < k + n
    → StillFit (Does w op ∷ (lines_from k n f ++ rest)) (lines_from k n g ++ rest)
joins_its_own f g w op rest is k zero le lt = absurd (omega arith)
joins_its_own f g w op rest is k (suc n) le lt = elim (cases_eq w k) [
  | inl e ↦ λ before fits. subst (λ (lines : List Line). LinesFit before (lines ++ rest)) (sym (is_first f g w op k n is e)) fits
  | inr ne ↦ is_later f g w op rest k n is ne (joins_its_own f g w op rest is (k + 1) n (omega arith) (omega arith))
]
