-- Runs, joined end to end.
use Rattle.std.proofs.Common.{◌≡◌, ℕ, List, [], ◌∷◌, ◌++◌, take, refl, sym, subst, ◌+◌, ◌<◌, length, get_or, slice_get, Some, zero, suc, arith, inl}
use Rattle.std.proofs.lemmas.List.{take_more}
use Rattle.smr_core.specs.declared.turns.Step.{Step}
use Rattle.smr_core.specs.declared.turns.Seen.{Seen}
use Rattle.smr_core.specs.CoreState.{State}
use Rattle.smr_core.specs.declared.turns.StepRefused.{StepRefused}
use Rattle.smr_core.specs.CoreStep.{IsStep, Run, StepIsRefused, StopsAt}

-- a run goes on by a run
pub run-append : (s mid s' : State) (steps more : List Step) (sees rest : List Seen) → Run s steps sees mid → Run mid more rest s' → Run s (steps ++ more) (sees ++ rest) s'
run-append s mid s' [] more [] rest p q = subst (λ (t : State). Run t more rest s') p q
run-append s mid s' (step ∷ steps) more (saw ∷ sees) rest p q = (p.0, p.1, run-append p.0 mid s' steps more sees rest p.2 q)
run-append s mid s' [] more (saw ∷ sees) rest p q = absurd p
run-append s mid s' (step ∷ steps) more [] rest p q = absurd p

-- a run goes on by one step
pub run-push : (s mid s' : State) (steps : List Step) (sees : List Seen) (step : Step) (saw : Seen) → Run s steps sees mid → IsStep mid step saw s' → Run s (steps ++ step ∷ []) (sees ++ saw ∷ []) s'
run-push s mid s' steps sees step saw p q = run-append s mid s' steps (step ∷ []) sees (saw ∷ []) p (s', q, refl)

-- the first n steps of a list, and then the next
pub run_more : (s mid s' : State) (steps : List Step) (n : ℕ) (sees : List Seen) (d : Step) (saw : Seen) → n < length steps
    → Run s (take n steps) sees mid → IsStep mid (get_or steps n d) saw s' → Run s (take (n + 1) steps) (sees ++ saw ∷ []) s'
run_more s mid s' steps n sees d saw below p q =
    subst (λ (l : List Step). Run s l (sees ++ saw ∷ []) s') (sym (take_more steps n d below))
    (run-push s mid s' (take n steps) sees (get_or steps n d) saw p q)

slice_get-below : {A : Type 0} → (l : List A) (n : ℕ) (d : A) → n < length l → slice_get l n ≡ Some (get_or l n d)
slice_get-below [] n d h = absurd (omega arith)
slice_get-below (x ∷ xs) zero d h = refl
slice_get-below (x ∷ xs) (suc n) d h = slice_get-below xs n d (omega arith)

-- the first n steps of a list, and the next is refused
pub stops : (s mid s' : State) (steps : List Step) (n : ℕ) (sees : List Seen) (d : Step) (refused : StepRefused) → n < length steps
    → Run s (take n steps) sees mid → StepIsRefused mid (get_or steps n d) refused → s' ≡ mid → StopsAt s steps n refused s'
stops s mid s' steps n sees d refused below p q e =
    record {
      sees = sees;
      run = subst (λ (t : State). Run s (take n steps) sees t) (sym e) p;
      cause = inl (get_or steps n d, slice_get-below steps n d below, subst (λ (t : State). StepIsRefused t (get_or steps n d) refused) (sym e) q);
    }
