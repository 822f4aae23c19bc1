-- A schedule prints one thing at most, and nothing where a line is refused.
use Rattle.std.proofs.Common.{◌≡◌, ℕ, zero, suc, List, [], ◌∷◌, ◌++◌, ◌≤◌, length, take, slice_get, Option, Some, refl, sym, ap, ◌∙◌, subst}
use Rattle.std.specs.List.{flat_map}
use Rattle.std.specs.Option.{option_map_or}
use Rattle.smr_core.specs.declared.turns.Seen.{Seen}
use Rattle.smr_core.specs.declared.turns.StepRefused.{StepRefused}
use Rattle.smr_core.specs.declared.turns.Turn.{Turn}
use Rattle.smr_core.specs.CoreState.{State, opening}
use Rattle.smr_core.specs.CoreStep.{StepIsRefused}
use Rattle.smr_core.specs.Turns.{TurnRun, first_step}
use Rattle.smr_core.specs.TurnLaws.{TurnIsDetermined, TakenIsNotRefused}
use Rattle.trace_schedule.specs.declared.schedule.Schedule.{Schedule}
use Rattle.trace_schedule.specs.declared.schedule.TurnLine.{TurnLine}
use Rattle.trace_schedule.specs.ScheduleText.{IsOutput, Prints, RefusesLine, config_of, hands_line, seen_line, turns_of}
use Rattle.trace_schedule.specs.ScheduleLaws.{OutputIsOne, RefusedPrintsNothing}
use Rattle.trace_schedule.proofs.ScheduleLemmas.{prints-all}

module _ (determined : TurnIsDetermined) where
  turn_run-one : (s : State) (turns : List Turn) (xs ys : List (List Seen)) (m t : State)
      → TurnRun s turns xs m → TurnRun s turns ys t → (xs ≡ ys) × (m ≡ t)
  turn_run-one s [] [] [] m t p q = (refl, p ∙ sym q)
  turn_run-one s (turn ∷ turns) (x ∷ xs) (y ∷ ys) m t p q =
      let e = determined s p.0 q.0 turn x y p.1 q.1 in
      let r = turn_run-one p.0 turns xs ys m t p.2 (subst (λ (z : State). TurnRun z turns ys t) (sym e.1) q.2) in
      (ap (λ (z : List Seen). z ∷ xs) e.0 ∙ ap (λ (l : List (List Seen)). y ∷ l) r.0, r.1)
  turn_run-one s [] [] (y ∷ ys) m t p q = absurd q
  turn_run-one s [] (x ∷ xs) ys m t p q = absurd p
  turn_run-one s (turn ∷ turns) [] ys m t p q = absurd p
  turn_run-one s (turn ∷ turns) (x ∷ xs) [] m t p q = absurd q

  pub output-is-one : OutputIsOne
  output-is-one schedule a b p q =
      let e = turn_run-one (opening (config_of schedule))
      (turns_of schedule.lines) p.prints.sees q.prints.sees p.last q.last
      p.prints.run q.prints.run in
      p.text ∙ ap (λ (l : List ℕ). l ++ hands_line p.last) p.prints.text
      ∙ ap (λ (sees : List (List Seen)). flat_map (λ (saw : List Seen). flat_map (seen_line schedule.version) saw) sees
      ++ hands_line p.last) e.0
      ∙ ap (λ (s : State). flat_map (λ (saw : List Seen). flat_map (seen_line schedule.version) saw) q.prints.sees ++ hands_line s) e.1
      ∙ ap (λ (l : List ℕ). l ++ hands_line q.last) (sym q.prints.text) ∙ sym q.text

  module _ (not_refused : TakenIsNotRefused) where
    taken : (s : State) (lines : List TurnLine) (n : ℕ) (l : TurnLine) (refused : StepRefused) (xs ys : List (List Seen)) (last mid : State)
        → TurnRun s (turns_of lines) xs last → slice_get lines n ≡ Some l → TurnRun s (turns_of (take n lines)) ys mid
        → RefusesLine mid l refused → ⊥
    taken s [] zero l refused xs ys last mid p there q r = cc
    taken s [] (suc n) l refused xs ys last mid p there q r = cc
    taken s (x ∷ lines) zero l refused [] ys last mid p there q r = absurd p
    taken s (x ∷ lines) zero l refused (saw ∷ xs) (y ∷ ys) last mid p there q r = absurd q
    taken s (x ∷ lines) zero l refused (saw ∷ xs) [] last mid p there q r =
        let same : x ≡ l = ap (λ (o : Option TurnLine). option_map_or (λ (z : TurnLine). z) o x) there in
        let here : StepIsRefused s (first_step l.turn) refused =
        subst (λ (z : State). StepIsRefused z (first_step l.turn) refused) q r.step in
        not_refused s p.0 x.turn saw refused p.1 r.not_memory
        (subst (λ (z : TurnLine). StepIsRefused s (first_step z.turn) refused) (sym same) here)
    taken s (x ∷ lines) (suc n) l refused [] ys last mid p there q r = absurd p
    taken s (x ∷ lines) (suc n) l refused (saw ∷ xs) [] last mid p there q r = absurd q
    taken s (x ∷ lines) (suc n) l refused (saw ∷ xs) (y ∷ ys) last mid p there q r =
        let e = determined s q.0 p.0 x.turn y saw q.1 p.1 in
        taken p.0 lines n l refused xs ys last mid p.2 there
        (subst (λ (z : State). TurnRun z (turns_of (take n lines)) ys mid) e.1 q.2) r

    pub refused-prints-nothing : RefusedPrintsNothing
    refused-prints-nothing schedule a p n l refused r =
        taken (opening (config_of schedule)) schedule.lines n l refused p.prints.sees r.before.sees p.last r.mid
        p.prints.run r.there r.before.run r.refuses

-- all lines print the text before the sequences
pub whole-output : (schedule : Schedule) (n : ℕ) (last : State) (printed text : List ℕ) → length schedule.lines ≤ n
    → Prints schedule.version (opening (config_of schedule)) (take n schedule.lines) printed last → text ≡ printed ++ hands_line last
    → IsOutput schedule text
whole-output schedule n last printed text all p e =
    record {
      last = last;
      printed = printed;
      prints = prints-all schedule.version (opening (config_of schedule)) last schedule.lines n printed all p;
      text = e;
    }
