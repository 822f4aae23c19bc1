-- A step, a run and a turn are determined by the state, and what is taken isn't refused.
use Rattle.std.proofs.Common.{◌≡◌, ◌≢◌, ℕ, ◌<◌, ◌≤◌, List, [], ◌∷◌, ◌++◌, length, map, slice_get, slice_index, slice_set, refl, sym, ap, ◌∙◌, subst, arith, Bool, true, false, cond, ⊎_elim}
use Rattle.std.specs.Option.{option_map_or}
use Rattle.smr_core.specs.declared.steps.Actor.{Actor}
use Rattle.smr_core.specs.declared.holder.Holder.{Holder}
use Rattle.smr_core.specs.declared.turns.Step.{Step}
use Rattle.smr_core.specs.declared.turns.Step.TheVariants.{EnterLoad, EnterStore, EnterCheck, Clear, Leave, Come, AdvanceRead, AdvanceLoad, AdvanceSwap, PollRead, PollLoad, PollPresent, PollScan, PollSwap, Note, Absorb}
use Rattle.smr_core.specs.declared.turns.Seen.{Seen}
use Rattle.smr_core.specs.declared.turns.StepRefused.{StepRefused}
use Rattle.smr_core.specs.declared.turns.StepRefused.TheVariants.{NoSeat, OutOfTurn, Crowded, Memory}
use Rattle.smr_core.specs.declared.turns.Turn.TheVariants.{One, Enter, Advance, PollLoads, Poll}
use Rattle.smr_core.specs.ClockState.{write_place, seats_below, spent}
use Rattle.smr_core.specs.ClockStep as clock
use Rattle.smr_core.specs.CoreState.{State, IsActor, most_holders}
use Rattle.smr_core.specs.CoreStep.{IsStep, Moves, MakesNote, TakesIn, Needs, StepIsRefused, Run, IsIdleNote, taker}
use Rattle.smr_core.specs.Turns.{is_hand, is_late, saw_at, set_in, set_at, turn_steps}
use Rattle.smr_core.specs.TurnLaws.{TurnIsDetermined, TakenIsNotRefused}
use Rattle.smr_core.proofs.PlaceLemmas.{same_place, place_within}
use Rattle.smr_core.proofs.TurnLemmas.{sure_by}

-- ---- one step

moved : State → Step → (Holder → ℕ) → (Holder → ℕ → ℕ) → (Actor → ℕ → Actor) → Actor → State
moved s step i f g a =
    record {
      config = s.config;
      words = slice_set s.words (i a.holder) (f a.holder (slice_index s.words (i a.holder)));
      actors = slice_set s.actors (taker step) (g a (slice_index s.words (i a.holder)));
    }

moves-one : (s : State) (step : Step) (i : Holder → ℕ) (f : Holder → ℕ → ℕ) (g : Actor → ℕ → Actor) (sees : Actor → ℕ → Seen) (x y : Seen) (m t : State)
    → Moves s step i f g sees x m → Moves s step i f g sees y t → (x ≡ y) × (m ≡ t)
unfolding moved
moves-one s step i f g sees x y m t p q =
    let same : p.actor ≡ q.actor = same_place s.actors (taker step) p.actor q.actor p.there q.there in (
      p.saw_it ∙ ap (λ (a : Actor). sees a (slice_index s.words (i a.holder))) same ∙ sym q.saw_it,
      p.after ∙ ap (λ (a : Actor). moved s step i f g a) same ∙ sym q.after,
    )

noted : State → ℕ → Actor → State
noted s n a =
    let worker = clock.write_loaded s.config a.holder (slice_index s.words write_place) in
    record {
      config = s.config;
      words = s.words;
      actors = slice_set s.actors n (record a { holder = worker }) ++ record { holder = clock.note_of worker; tag = 0; reading = 0 } ∷ [];
    }

note-one : (s : State) (n : ℕ) (x y : Seen) (m t : State) → MakesNote s (Note n) x m → MakesNote s (Note n) y t → (x ≡ y) × (m ≡ t)
unfolding noted
note-one s n x y m t p q =
    let same : p.actor ≡ q.actor = same_place s.actors n p.actor q.actor p.there q.there in
    (p.saw_it ∙ sym q.saw_it, p.after ∙ ap (λ (a : Actor). noted s n a) same ∙ sym q.after)

taken_in : State → ℕ → ℕ → Actor → Actor → State
taken_in s n other a note =
    record {
      config = s.config;
      words = s.words;
      actors = slice_set (slice_set s.actors n (record a { holder = clock.joined a.holder note.holder })) other (record note { holder = spent });
    }

absorb-one : (s : State) (n other : ℕ) (x y : Seen) (m t : State) → TakesIn s (Absorb n other) other x m → TakesIn s (Absorb n other) other y t → (x ≡ y) × (m ≡ t)
unfolding taken_in
absorb-one s n other x y m t p q =
    let same : p.actor ≡ q.actor = same_place s.actors n p.actor q.actor p.there q.there in
    let note : p.note ≡ q.note = same_place s.actors other p.note q.note p.note_there q.note_there in (
      p.saw_it ∙ sym q.saw_it,
      p.after ∙ ap (λ (a : Actor). taken_in s n other a p.note) same ∙ ap (λ (b : Actor). taken_in s n other q.actor b) note ∙ sym q.after,
    )

step-one : (s : State) (step : Step) (x y : Seen) (m t : State) → IsStep s step x m → IsStep s step y t → (x ≡ y) × (m ≡ t)
step-one s (EnterLoad n) x y m t p q = moves-one s (EnterLoad n) _ _ _ _ x y m t p q
step-one s (EnterStore n) x y m t p q = moves-one s (EnterStore n) _ _ _ _ x y m t p q
step-one s (EnterCheck n) x y m t p q = moves-one s (EnterCheck n) _ _ _ _ x y m t p q
step-one s (Clear n) x y m t p q = moves-one s (Clear n) _ _ _ _ x y m t p q
step-one s (Leave n) x y m t p q = moves-one s (Leave n) _ _ _ _ x y m t p q
step-one s (Come n) x y m t p q = moves-one s (Come n) _ _ _ _ x y m t p q
step-one s (AdvanceRead n) x y m t p q = moves-one s (AdvanceRead n) _ _ _ _ x y m t p q
step-one s (AdvanceLoad n) x y m t p q = moves-one s (AdvanceLoad n) _ _ _ _ x y m t p q
step-one s (AdvanceSwap n) x y m t p q = moves-one s (AdvanceSwap n) _ _ _ _ x y m t p q
step-one s (PollRead n tag) x y m t p q = moves-one s (PollRead n tag) _ _ _ _ x y m t p q
step-one s (PollLoad n) x y m t p q = moves-one s (PollLoad n) _ _ _ _ x y m t p q
step-one s (PollPresent n) x y m t p q = moves-one s (PollPresent n) _ _ _ _ x y m t p q
step-one s (PollScan n) x y m t p q = moves-one s (PollScan n) _ _ _ _ x y m t p q
step-one s (PollSwap n) x y m t p q = moves-one s (PollSwap n) _ _ _ _ x y m t p q
step-one s (Note n) x y m t p q = note-one s n x y m t p q
step-one s (Absorb n note) x y m t p q = absorb-one s n note x y m t p q

-- ---- runs and turns

run-one : (s : State) (steps : List Step) (xs ys : List Seen) (m t : State) → Run s steps xs m → Run s steps ys t → (xs ≡ ys) × (m ≡ t)
run-one s [] [] [] m t p q = (refl, p ∙ sym q)
run-one s (step ∷ steps) (x ∷ xs) (y ∷ ys) m t p q =
    let e = step-one s step x y p.0 q.0 p.1 q.1 in
    let r = run-one p.0 steps xs ys m t p.2 (subst (λ (z : State). Run z steps ys t) (sym e.1) q.2) in
    (ap (λ (z : Seen). z ∷ xs) e.0 ∙ ap (λ (l : List Seen). y ∷ l) r.0, r.1)
run-one s [] [] (y ∷ ys) m t p q = absurd q
run-one s [] (x ∷ xs) ys m t p q = absurd p
run-one s (step ∷ steps) [] ys m t p q = absurd p
run-one s (step ∷ steps) (x ∷ xs) [] m t p q = absurd q

-- Two runs that begin with the same steps see the same there, however they go on. What is asked of what is seen may be anything.
module _ {X : Type 0} (f : Seen → X) (d : X) where
  asked : ℕ → List Seen → X
  asked n sees = option_map_or f (slice_get sees n) d

  first-one : (s : State) (a : Step) (more other : List Step) (xs ys : List Seen) (m t : State)
      → Run s (a ∷ more) xs m → Run s (a ∷ other) ys t → asked 0 xs ≡ asked 0 ys
  unfolding asked
  first-one s a more other (x ∷ xs) (y ∷ ys) m t p q = ap f (step-one s a x y p.0 q.0 p.1 q.1).0
  first-one s a more other [] ys m t p q = absurd p
  first-one s a more other (x ∷ xs) [] m t p q = absurd q

  second-one : (s : State) (a b : Step) (more other : List Step) (xs ys : List Seen) (m t : State)
      → Run s (a ∷ b ∷ more) xs m → Run s (a ∷ b ∷ other) ys t → asked 1 xs ≡ asked 1 ys
  unfolding asked
  second-one s a b more other (x ∷ xs) (y ∷ ys) m t p q =
      let e = step-one s a x y p.0 q.0 p.1 q.1 in
      first-one p.0 b more other xs ys m t p.2 (subst (λ (z : State). Run z (b ∷ other) ys t) (sym e.1) q.2)
  second-one s a b more other [] ys m t p q = absurd p
  second-one s a b more other (x ∷ xs) [] m t p q = absurd q

  third-one : (s : State) (a b c : Step) (more other : List Step) (xs ys : List Seen) (m t : State)
      → Run s (a ∷ b ∷ c ∷ more) xs m → Run s (a ∷ b ∷ c ∷ other) ys t → asked 2 xs ≡ asked 2 ys
  unfolding asked
  third-one s a b c more other (x ∷ xs) (y ∷ ys) m t p q =
      let e = step-one s a x y p.0 q.0 p.1 q.1 in
      second-one p.0 b c more other xs ys m t p.2 (subst (λ (z : State). Run z (b ∷ c ∷ other) ys t) (sym e.1) q.2)
  third-one s a b c more other [] ys m t p q = absurd p
  third-one s a b c more other (x ∷ xs) [] m t p q = absurd q

-- the steps of a poll, by whether it goes on and by its set
poll_by : State → ℕ → ℕ → Bool → ℕ → List Step
poll_by s n tag goes set =
    PollRead n tag ∷ PollLoad n ∷ cond goes (PollPresent n ∷ (map (λ seat. PollScan n) (seats_below set s.config.seats) ++ PollSwap n ∷ [])) []

poll-one : (s m t : State) (n tag : ℕ) (goes : Bool) (xs ys : List Seen) → Run s (poll_by s n tag goes (set_at 2 xs)) xs m → Run s (poll_by s n tag goes (set_at 2 ys)) ys t
    → (xs ≡ ys) × (m ≡ t)
unfolding poll_by asked
poll-one s m t n tag false xs ys p q = run-one s (PollRead n tag ∷ PollLoad n ∷ []) xs ys m t p q
poll-one s m t n tag true xs ys p q =
    run-one s (poll_by s n tag true (set_at 2 ys)) xs ys m t
    (subst (λ (set : ℕ). Run s (poll_by s n tag true set) xs m)
    (third-one set_in 0 s (PollRead n tag) (PollLoad n) (PollPresent n) _ _ xs ys m t p q) p) q

pub turn-is-determined : TurnIsDetermined
unfolding asked poll_by
turn-is-determined s m t (One step) xs ys p q = run-one s (step ∷ []) xs ys m t p q
turn-is-determined s m t (Enter n) xs ys p q =
    run-one s (turn_steps s.config (Enter n) ys) xs ys m t
    (subst (λ (c : Bool). Run s (EnterLoad n ∷ EnterStore n ∷ EnterCheck n ∷ cond c (Clear n ∷ []) []) xs m)
    (third-one is_late false s (EnterLoad n) (EnterStore n) (EnterCheck n) _ _ xs ys m t p q) p) q
turn-is-determined s m t (Advance n) xs ys p q =
    run-one s (turn_steps s.config (Advance n) ys) xs ys m t
    (subst (λ (c : Bool). Run s (AdvanceRead n ∷ AdvanceLoad n ∷ cond c (AdvanceSwap n ∷ []) []) xs m)
    (second-one is_hand false s (AdvanceRead n) (AdvanceLoad n) _ _ xs ys m t p q) p) q
turn-is-determined s m t (PollLoads n) xs ys p q =
    run-one s (turn_steps s.config (PollLoads n) ys) xs ys m t
    (subst (λ (c : Bool). Run s (PollLoad n ∷ cond c (PollPresent n ∷ []) []) xs m)
    (first-one is_hand false s (PollLoad n) _ _ xs ys m t p q) p) q
turn-is-determined s m t (Poll n tag) xs ys p q =
    poll-one s m t n tag (saw_at 1 is_hand ys) xs ys
    (subst (λ (c : Bool). Run s (poll_by s n tag c (set_at 2 xs)) xs m)
    (second-one is_hand false s (PollRead n tag) (PollLoad n) _ _ xs ys m t p q) p) q

-- ---- what is taken isn't refused

note-taken : (s : State) (n : ℕ) (x : Seen) (m : State) → MakesNote s (Note n) x m → (refused : StepRefused) → refused ≢ Memory → StepIsRefused s (Note n) refused → ⊥
note-taken s n x m p (NoSeat missing count) no_memory r =
    let here : n < length s.actors = place_within s.actors n p.actor p.there in
    let same : missing ≡ n = r.0.0 in
    let past : length s.actors ≤ missing = r.0.1 in
    absurd (omega arith)
note-taken s n x m p (OutOfTurn k in_phase in_task) no_memory r =
    let same : r.0 ≡ p.actor = same_place s.actors n r.0 p.actor (subst (λ (j : ℕ). IsActor s j r.0) r.2.0 r.1) p.there in
    r.2.1 (subst (λ (z : Actor). Needs s.config (Note n) z.holder) (sym same) p.needs)
note-taken s n x m p (Crowded count) no_memory r =
    let full : length s.actors ≡ most_holders = r.2 in
    let room : length s.actors < most_holders = p.room in
    absurd (omega arith)
note-taken s n x m p Memory no_memory r = no_memory refl

absorb-taken : (s : State) (n other : ℕ) (x : Seen) (m : State) → TakesIn s (Absorb n other) other x m → (refused : StepRefused) → StepIsRefused s (Absorb n other) refused → ⊥
absorb-taken s n other x m p (NoSeat missing count) r =
    let here : n < length s.actors = place_within s.actors n p.actor p.there in
    let there : other < length s.actors = place_within s.actors other p.note p.note_there in
    ⊎_elim (λ z. let past : length s.actors ≤ n = z.1 in absurd (omega arith)) (λ z. let past : length s.actors ≤ other = z.2 in absurd (omega arith)) r.0
absorb-taken s n other x m p (OutOfTurn k in_phase in_task) r =
    ⊎_elim
    (λ z.
    let same : r.0 ≡ p.actor = same_place s.actors n r.0 p.actor (subst (λ (j : ℕ). IsActor s j r.0) z.0 r.1) p.there in
    z.2 (subst (λ (w : Actor). Needs s.config (Absorb n other) w.holder) (sym same) p.needs))
    (λ z.
    let same : r.0 ≡ p.note = same_place s.actors other r.0 p.note (subst (λ (j : ℕ). IsActor s j r.0) z.0 r.1) p.note_there in
    z.2 (subst (λ (w : Actor). IsIdleNote w.holder) (sym same) p.note_needs))
    r.2
absorb-taken s n other x m p (Crowded count) r = r.0
absorb-taken s n other x m p Memory r = r.0

step-taken : (s : State) (step : Step) (x : Seen) (m : State) → IsStep s step x m → (refused : StepRefused) → refused ≢ Memory → StepIsRefused s step refused → ⊥
step-taken s (EnterLoad n) x m p refused no_memory r = sure_by s (EnterLoad n) p.actor p.there p.needs (λ _ h. h) (λ _ _ z. z) (λ z. z) refused r
step-taken s (EnterStore n) x m p refused no_memory r = sure_by s (EnterStore n) p.actor p.there p.needs (λ _ h. h) (λ _ _ z. z) (λ z. z) refused r
step-taken s (EnterCheck n) x m p refused no_memory r = sure_by s (EnterCheck n) p.actor p.there p.needs (λ _ h. h) (λ _ _ z. z) (λ z. z) refused r
step-taken s (Clear n) x m p refused no_memory r = sure_by s (Clear n) p.actor p.there p.needs (λ _ h. h) (λ _ _ z. z) (λ z. z) refused r
step-taken s (Leave n) x m p refused no_memory r = sure_by s (Leave n) p.actor p.there p.needs (λ _ h. h) (λ _ _ z. z) (λ z. z) refused r
step-taken s (Come n) x m p refused no_memory r = sure_by s (Come n) p.actor p.there p.needs (λ _ h. h) (λ _ _ z. z) (λ z. z) refused r
step-taken s (AdvanceRead n) x m p refused no_memory r = sure_by s (AdvanceRead n) p.actor p.there p.needs (λ _ h. h) (λ _ _ z. z) (λ z. z) refused r
step-taken s (AdvanceLoad n) x m p refused no_memory r = sure_by s (AdvanceLoad n) p.actor p.there p.needs (λ _ h. h) (λ _ _ z. z) (λ z. z) refused r
step-taken s (AdvanceSwap n) x m p refused no_memory r = sure_by s (AdvanceSwap n) p.actor p.there p.needs (λ _ h. h) (λ _ _ z. z) (λ z. z) refused r
step-taken s (PollRead n tag) x m p refused no_memory r = sure_by s (PollRead n tag) p.actor p.there p.needs (λ _ h. h) (λ _ _ z. z) (λ z. z) refused r
step-taken s (PollLoad n) x m p refused no_memory r = sure_by s (PollLoad n) p.actor p.there p.needs (λ _ h. h) (λ _ _ z. z) (λ z. z) refused r
step-taken s (PollPresent n) x m p refused no_memory r = sure_by s (PollPresent n) p.actor p.there p.needs (λ _ h. h) (λ _ _ z. z) (λ z. z) refused r
step-taken s (PollScan n) x m p refused no_memory r = sure_by s (PollScan n) p.actor p.there p.needs (λ _ h. h) (λ _ _ z. z) (λ z. z) refused r
step-taken s (PollSwap n) x m p refused no_memory r = sure_by s (PollSwap n) p.actor p.there p.needs (λ _ h. h) (λ _ _ z. z) (λ z. z) refused r
step-taken s (Note n) x m p refused no_memory r = note-taken s n x m p refused no_memory r
step-taken s (Absorb n note) x m p refused no_memory r = absorb-taken s n note x m p refused r

run-taken : (s : State) (step : Step) (steps : List Step) (sees : List Seen) (m : State) (refused : StepRefused)
    → Run s (step ∷ steps) sees m → refused ≢ Memory → StepIsRefused s step refused → ⊥
run-taken s step steps [] m refused p no_memory r = absurd p
run-taken s step steps (x ∷ sees) m refused p no_memory r = step-taken s step x p.0 p.1 refused no_memory r

pub taken-is-not-refused : TakenIsNotRefused
taken-is-not-refused s m (One step) sees refused p no_memory r = run-taken s step [] sees m refused p no_memory r
taken-is-not-refused s m (Enter n) sees refused p no_memory r = run-taken s (EnterLoad n) (EnterStore n ∷ EnterCheck n ∷ cond (saw_at 2 is_late sees) (Clear n ∷ []) []) sees m refused p no_memory r
taken-is-not-refused s m (Advance n) sees refused p no_memory r = run-taken s (AdvanceRead n) (AdvanceLoad n ∷ cond (saw_at 1 is_hand sees) (AdvanceSwap n ∷ []) []) sees m refused p no_memory r
taken-is-not-refused s m (PollLoads n) sees refused p no_memory r = run-taken s (PollLoad n) (cond (saw_at 0 is_hand sees) (PollPresent n ∷ []) []) sees m refused p no_memory r
taken-is-not-refused s m (Poll n tag) sees refused p no_memory r =
    run-taken s (PollRead n tag)
    (PollLoad n ∷ cond (saw_at 1 is_hand sees) (PollPresent n ∷ (map (λ seat. PollScan n) (seats_below (set_at 2 sees) s.config.seats) ++ PollSwap n ∷ [])) [])
    sees m refused p no_memory r
