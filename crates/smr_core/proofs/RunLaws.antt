-- The laws over runs of the core, and what a yes means.
use Rattle.std.proofs.Common.{◌≡◌, ℕ, suc, ◌-◌, ◌^◌, ◌≤◌, ◌⊎◌, List, [], ◌∷◌, ◌++◌, length, set, sym, refl, ap, ◌∙◌, subst, inl, inr, ⊎_elim, arith, le_trans, Bool, cond, leb, Option, Some, None, Contains, get_or-set_same}
use borrow.Author.Tests.{leb-true}
use Rattle.std.proofs.lemmas.Bool.{cases_lt}
use mathlib.Core.Option.{some}
use lib.ListN.{get_elem?}
use Rattle.smr_seq.specs.Reading.{low, reading, IsReading}
use Rattle.smr_seq.proofs.ReadingLemmas.{IsReading-reading, IsReading-unique, none-reading}
use Rattle.smr_core.specs.declared.clock_core.ClockConfig.{ClockConfig}
use Rattle.smr_core.specs.declared.steps.Actor.{Actor}
use Rattle.smr_core.specs.declared.holder.Holder.{Holder}
use Rattle.smr_core.specs.declared.holder.Phase.{Phase}
use Rattle.smr_core.specs.declared.holder.Phase.TheVariants as phase
use Rattle.smr_core.specs.declared.holder.Task.{Task}
use Rattle.smr_core.specs.declared.holder.Task.TheVariants as task
use Rattle.smr_core.specs.declared.turns.Step.{Step}
use Rattle.smr_core.specs.declared.turns.Step.TheVariants.{EnterLoad, EnterStore, EnterCheck, Clear, Leave, Come, AdvanceRead, AdvanceLoad, AdvanceSwap, PollRead, PollLoad, PollPresent, PollScan, PollSwap, Note, Absorb}
use Rattle.smr_core.specs.declared.turns.Seen.{Seen}
use Rattle.smr_core.specs.declared.turns.Seen.TheVariants as seen
use Rattle.smr_core.specs.ClockState.{write_hand, read_hand, write_place, read_place, place_after_seats, IsInSection, IsExpired}
use Rattle.smr_core.specs.ClockStep as clock
use Rattle.smr_core.specs.ClockLaw.{HolderFits}
use Rattle.smr_core.specs.CoreState.{State, IsActor, CoreLaw, opening}
use Rattle.smr_core.specs.CoreStep.{IsStep, Run, Needs, taker, poll_goes_on, poll_sees, swap_sees, check_sees}
use Rattle.smr_core.specs.YesMeans as means
use Rattle.smr_core.specs.YesMeans.{IsReached, LeadsTo, IsPolling, AnswersYes, YesAtLoad, YesAtSwap, SaysYes, IsOver}
use Rattle.smr_core.proofs.PlaceLemmas.{same_place, set_here}
use Rattle.smr_core.proofs.KindLemmas.{by_test, in_phase, in_task}
use Rattle.smr_core.proofs.CoreLemmas.{CoreLater, core_keeps, holder_there}
use Rattle.smr_core.proofs.Keeps.Swaps.{goal-le-left}
use Rattle.smr_core.proofs.OpeningLemmas.{opening-law}
use Rattle.smr_core.proofs.RunLemmas.{run-append, run-push}
use Rattle.smr_core.proofs.ActorLemmas.{Becomes, Change, stays, acts, taken, actor_after}

-- ---- one step

pub yes-is-known : means.YesIsKnown
yes-is-known window tag l v floor g small vf wf says gl e =
    ⊎_elim
    (λ near. let x : g ≤ v = says g (record { up_to = gl; low_half = e; near = near }) in le_trans x vf)
    (λ far. omega arith)
    (cases_lt (l - g) (2 ^ 31))

pub yes-means-expired : means.YesMeansExpired
yes-means-expired a ws r hands tag l v g lw vr says gl e =
    let window : write_hand ws - read_hand ws ≤ a.window = hands.within_window in
    yes-is-known a.window tag l v (read_hand ws) g r.greatest_window vr (omega arith) says gl e

-- ---- the law over runs

later_refl : (s : State) → CoreLaw s → CoreLater s s
later_refl s law = record { law = law; config = refl; write_not_lower = omega arith; read_not_lower = omega arith }

later_trans : (s t u : State) → CoreLater s t → CoreLater t u → CoreLater s u
later_trans s t u p q =
    record {
      law = q.law;
      config = q.config ∙ p.config;
      write_not_lower = le_trans p.write_not_lower q.write_not_lower;
      read_not_lower = le_trans p.read_not_lower q.read_not_lower;
    }

pub run_keeps : (s : State) (steps : List Step) (sees : List Seen) (s' : State) → CoreLaw s → Run s steps sees s' → CoreLater s s'
run_keeps s [] [] s' law r = subst (λ (t : State). CoreLater s t) (sym r) (later_refl s law)
run_keeps s (step ∷ steps) (saw ∷ sees) s' law r =
    let first = core_keeps s step saw r.0 law r.1 in
    later_trans s r.0 s' first (run_keeps r.0 steps sees s' first.law r.2)
run_keeps s [] (saw ∷ sees) s' law r = absurd r
run_keeps s (step ∷ steps) [] s' law r = absurd r

pub reached-law : (s : State) → IsReached s → CoreLaw s
reached-law s r = (run_keeps (opening r.config) r.steps r.saw s (opening-law r.config r.in_range) r.run).law

leads_later : (s later : State) → CoreLaw s → LeadsTo s later → CoreLater s later
leads_later s later law r = run_keeps s r.steps r.saw later law r.run

-- ---- an actor over runs

contains_head : {A : Type 0} (x : A) (xs : List A) → Contains (x ∷ xs) x
contains_head x xs = (0, omega arith, refl)

contains_tail : {A : Type 0} (x y : A) (xs : List A) → Contains xs y → Contains (x ∷ xs) y
contains_tail x y xs c = let k = c.1 in (suc c.0, omega arith, c.2)

-- What each step of a kind that is allowed keeps of an actor, a run of such steps keeps.
kept_by_run : (n : ℕ) (P : Actor → Type 0) (Allowed : Step → Type 0)
    → ((s : State) (step : Step) (x y : Actor) → Allowed step → Change s step n x y → P x → P y)
    → (s : State) (steps : List Step) (sees : List Seen) (s' : State) (x : Actor) → ((step : Step) → Contains steps step → Allowed step)
    → Run s steps sees s' → IsActor s n x → P x → (y : Actor) × IsActor s' n y × P y
kept_by_run n P Allowed each s [] [] s' x all r at p = (x, subst (λ (t : State). IsActor t n x) (sym r) at, p)
kept_by_run n P Allowed each s (step ∷ steps) (saw ∷ sees) s' x all r at p =
    let after = actor_after s step saw r.0 n x r.1 at in
    kept_by_run n P Allowed each r.0 steps sees s' after.0 (λ t c. all t (contains_tail step t steps c)) r.2 after.1
    (each s step x after.0 (all step (contains_head step steps)) after.2 p)
kept_by_run n P Allowed each s [] (saw ∷ sees) s' x all r at p = absurd r
kept_by_run n P Allowed each s (step ∷ steps) [] s' x all r at p = absurd r

-- the actor after a load that may end its operation
poll_load_cases : (a : ClockConfig) (x : Actor) (found : ℕ) (P : Actor → Type 0) → P (record x { holder = clock.poll_ended a x.holder found })
    → ((goal : ℕ) → P (record x { holder = clock.poll_loaded a x.holder found; reading = goal })) → (o : Option ℕ) → P (poll_goes_on a x found o)
poll_load_cases a x found P ended goes None = ended
poll_load_cases a x found P ended goes (Some goal) =
    by_test (leb goal x.holder.read)
    (λ b. P (cond b (record x { holder = clock.poll_ended a x.holder found }) (record x { holder = clock.poll_loaded a x.holder found; reading = goal })))
    (λ _. ended) (λ _. goes goal)

advance_load_cases : (a : ClockConfig) (x : Actor) (found : ℕ) (P : Actor → Type 0) → P (record x { holder = clock.advance_ended a x.holder found })
    → P (record x { holder = record (clock.write_loaded a x.holder found) { task = task.AdvLoaded; write = found } })
    → P (record x { holder = clock.advance_loaded a x.holder found })
advance_load_cases a x found P ended goes =
    by_test (clock.is_spent found)
    (λ b. P (record x {
      holder = cond b (clock.advance_ended a x.holder found) (cond (clock.is_too_far a x.holder.read found) (clock.advance_ended a x.holder found)
          (record (clock.write_loaded a x.holder found) { task = task.AdvLoaded; write = found }));
    }))
    (λ _. ended)
    (λ _. by_test (clock.is_too_far a x.holder.read found)
    (λ b. P (record x { holder = cond b (clock.advance_ended a x.holder found) (record (clock.write_loaded a x.holder found) { task = task.AdvLoaded; write = found }) }))
    (λ _. ended) (λ _. goes))

yes_is_hand : {a b : ℕ} → seen.Hand a ≡ seen.Yes b → ⊥
yes_is_hand e = cc

yes_is_no : {a b : ℕ} → seen.Yes a ≡ seen.No b → ⊥
yes_is_no e = cc

yes-injective : (a b : ℕ) → seen.Yes a ≡ seen.Yes b → a ≡ b
yes-injective a b e = cc

inside_late : {a b c d : ℕ} → seen.Inside a b ≡ seen.Late c d → ⊥
inside_late e = cc

inside_loaded : (a b c d : ℕ) → seen.Inside a b ≡ seen.Inside c d → a ≡ c
inside_loaded a b c d e = cc

inside_found : (a b c d : ℕ) → seen.Inside a b ≡ seen.Inside c d → b ≡ d
inside_found a b c d e = cc

outside_inside : phase.Outside ≡ phase.Inside → ⊥
outside_inside e = cc

loaded_inside : phase.Loaded ≡ phase.Inside → ⊥
loaded_inside e = cc

stored_inside : phase.Stored ≡ phase.Inside → ⊥
stored_inside e = cc

vacant_inside : phase.Vacant ≡ phase.Inside → ⊥
vacant_inside e = cc

note_inside : phase.Note ≡ phase.Inside → ⊥
note_inside e = cc

-- a poll that has its write sequence
abbrev HasHand : Task → Type 0
HasHand t = (t ≡ task.PollLoaded) ⊎ (t ≡ task.Scanning)

both_tasks : (t : Task) → t ≡ task.PollRead → HasHand t → ⊥
both_tasks t p q = ⊎_elim (λ l. let both : task.PollRead ≡ task.PollLoaded = sym p ∙ l in cc) (λ l. let both : task.PollRead ≡ task.Scanning = sym p ∙ l in cc) q

abbrev IsNoPoll : Task → Type 0
IsNoPoll t = (t ≡ task.PollRead → ⊥) × (HasHand t → ⊥)

idle : IsNoPoll task.Idle
idle = ((λ h. cc), (λ h. ⊎_elim (λ l. cc) (λ l. cc) h))

adv_read : IsNoPoll task.AdvRead
adv_read = ((λ h. cc), (λ h. ⊎_elim (λ l. cc) (λ l. cc) h))

adv_loaded : IsNoPoll task.AdvLoaded
adv_loaded = ((λ h. cc), (λ h. ⊎_elim (λ l. cc) (λ l. cc) h))

-- ---- a poll that has its write sequence goes on with it, until it is in no poll

module _ (tag hand goal : ℕ) where
  -- the actor polls for this tag, with this hand and this reading, or it is in no poll
  abbrev SamePoll : Actor → Type 0
  SamePoll x =
      (HasHand x.holder.task × (x.tag ≡ tag) × (x.holder.write ≡ hand) × (x.reading ≡ goal))
      ⊎ IsNoPoll x.holder.task

  same_poll_acts : (n : ℕ) (s : State) (step : Step) (x y : Actor) → ((t : ℕ) → step ≡ PollRead n t → ⊥) → taker step ≡ n → Needs s.config step x.holder → Becomes s step x y
      → SamePoll x → SamePoll y
  same_poll_acts n s (EnterLoad k) x y ok e needs b p = subst SamePoll b p
  same_poll_acts n s (EnterStore k) x y ok e needs b p = subst SamePoll b p
  same_poll_acts n s (EnterCheck k) x y ok e needs b p = subst SamePoll b p
  same_poll_acts n s (Clear k) x y ok e needs b p = subst SamePoll b p
  same_poll_acts n s (Leave k) x y ok e needs b p = subst SamePoll b p
  same_poll_acts n s (Come k) x y ok e needs b p = subst SamePoll b p
  same_poll_acts n s (AdvanceRead k) x y ok e needs b p = subst SamePoll b (inr adv_read)
  same_poll_acts n s (AdvanceLoad k) x y ok e needs b p =
      subst SamePoll b (advance_load_cases s.config x (write_hand s.words) SamePoll (inr idle) (inr adv_loaded))
  same_poll_acts n s (AdvanceSwap k) x y ok e needs b p = subst SamePoll b (inr idle)
  same_poll_acts n s (PollRead k t) x y ok e needs b p = absurd (ok t (ap (λ (j : ℕ). PollRead j t) e))
  same_poll_acts n s (PollLoad k) x y ok e needs b p = ⊎_elim (λ q. absurd (both_tasks x.holder.task needs q.0)) (λ q. absurd (q.0 needs)) p
  same_poll_acts n s (PollPresent k) x y ok e needs b p = ⊎_elim (λ q. subst SamePoll b (inl (inr refl, q.1, q.2, q.3))) (λ q. absurd (q.1 (inl needs))) p
  same_poll_acts n s (PollScan k) x y ok e needs b p = subst SamePoll b p
  same_poll_acts n s (PollSwap k) x y ok e needs b p = subst SamePoll b (inr idle)
  same_poll_acts n s (Note k) x y ok e needs b p = subst SamePoll b p
  same_poll_acts n s (Absorb k m) x y ok e needs b p = subst SamePoll b.1 p

  same_poll_kept : (n : ℕ) (s : State) (step : Step) (x y : Actor) → ((t : ℕ) → step ≡ PollRead n t → ⊥) → Change s step n x y → SamePoll x → SamePoll y
  same_poll_kept n s step x y ok (stays e) p = subst SamePoll e p
  same_poll_kept n s step x y ok (acts e needs b) p = same_poll_acts n s step x y ok e needs b p
  same_poll_kept n s step x y ok (taken note e) p = subst SamePoll e (inr idle)

-- ---- the load of a poll that goes on, and its yes

-- a load that sees a hand found a reading, and the poll goes on after it
goes_on : (a : ClockConfig) (x : Actor) (found hand : ℕ) (o : Option ℕ) → seen.Hand hand ≡ poll_sees x found o
    → (goal : ℕ) × (o ≡ Some goal) × (poll_goes_on a x found o ≡ record x { holder = clock.poll_loaded a x.holder found; reading = goal })
goes_on a x found hand None e = absurd (yes_is_hand e)
goes_on a x found hand (Some goal) e =
    by_test (leb goal x.holder.read)
    (λ b. seen.Hand hand ≡ cond b (seen.Yes x.holder.read) (seen.Hand found)
    → (g : ℕ) × (Some goal ≡ Some g) × (cond b (record x { holder = clock.poll_ended a x.holder found }) (record x { holder = clock.poll_loaded a x.holder found; reading = goal })
    ≡ record x { holder = clock.poll_loaded a x.holder found; reading = g }))
    (λ _ q. absurd (yes_is_hand q)) (λ _ q. (goal, refl, refl)) e

-- a load that sees yes found no reading, or one that its read sequence has come to
ends_with_yes : (x : Actor) (found read : ℕ) (o : Option ℕ) → reading x.tag found ≡ o → seen.Yes read ≡ poll_sees x found o
    → (read ≡ x.holder.read) × SaysYes x.tag found x.holder.read
ends_with_yes x found read None r e = (yes-injective read x.holder.read e, λ g h. absurd (none-reading x.tag found g r h))
ends_with_yes x found read (Some goal) r e =
    by_test (leb goal x.holder.read)
    (λ b. seen.Yes read ≡ cond b (seen.Yes x.holder.read) (seen.Hand found) → leb goal x.holder.read ≡ b → (read ≡ x.holder.read) × SaysYes x.tag found x.holder.read)
    (λ _ q below. (
      yes-injective read x.holder.read q,
      λ g h. let l : goal ≤ x.holder.read = leb-true goal x.holder.read below in
          let same : g ≡ goal = IsReading-unique x.tag found g goal h (IsReading-reading x.tag found goal r) in omega arith,
    ))
    (λ _ q _. absurd (yes_is_hand (sym q))) e refl

-- an exchange that sees yes last found a read sequence that has come to the reading
swap_with_yes : (x : Actor) (found read : ℕ) → seen.Yes read ≡ swap_sees x found → (read ≡ clock.last_found x.holder found) × (x.reading ≤ clock.last_found x.holder found)
swap_with_yes x found read e =
    by_test (leb x.reading (clock.last_found x.holder found))
    (λ b. seen.Yes read ≡ cond b (seen.Yes (clock.last_found x.holder found)) (seen.No (clock.last_found x.holder found)) → leb x.reading (clock.last_found x.holder found) ≡ b
    → (read ≡ clock.last_found x.holder found) × (x.reading ≤ clock.last_found x.holder found))
    (λ _ q below. (yes-injective read (clock.last_found x.holder found) q, leb-true x.reading (clock.last_found x.holder found) below))
    (λ _ q _. absurd (yes_is_no q)) e refl

-- ---- yes, at the load

module _ (s after : State) (n tag g : ℕ) (law : CoreLaw s) (p : IsPolling s n tag) (le : g ≤ write_hand s.words) (half : low g ≡ tag) where
  expired_at_load : YesAtLoad s n after → IsExpired after.words g
  expired_at_load y =
      let m = y.1 in
      let me : m.actor ≡ p.actor = same_place s.actors n m.actor p.actor m.there p.there in
      let later = core_keeps s (PollLoad n) (seen.Yes y.0) after law m in
      let says = ends_with_yes m.actor (write_hand s.words) y.0 (reading m.actor.tag (write_hand s.words)) refl m.saw_it in
      let of_tag : m.actor.tag ≡ tag = ap (λ (x : Actor). x.tag) me ∙ p.of_tag in
      let says_tag : SaysYes tag (write_hand s.words) m.actor.holder.read = subst (λ (t : ℕ). SaysYes t (write_hand s.words) m.actor.holder.read) of_tag says.1 in
      let fits : HolderFits s.config s.words m.actor.holder = law.clock.holders n m.actor.holder (holder_there s n m.actor m.there) in
      let read : m.actor.holder.read ≤ read_hand s.words = (in_task s.config s.words m.actor.holder task.PollRead fits m.needs).1 in
      yes-means-expired after.config after.words later.law.clock.numbers later.law.clock.hands tag (write_hand s.words) m.actor.holder.read g
      later.write_not_lower (le_trans read later.read_not_lower) says_tag le half

  -- ---- yes, at the exchange

  -- after a load that goes on, the poll has this tag, this hand and the reading
  after_load : (y : YesAtSwap s n after)
      → (goal : ℕ) × (actor : Actor) × IsActor y.loaded n actor × IsReading tag (write_hand s.words) goal × SamePoll tag (write_hand s.words) goal actor
  after_load y =
      let m = y.load in
      let me : m.actor ≡ p.actor = same_place s.actors n m.actor p.actor m.there p.there in
      let of_tag : m.actor.tag ≡ tag = ap (λ (x : Actor). x.tag) me ∙ p.of_tag in
      let on = goes_on s.config m.actor (write_hand s.words) y.hand (reading m.actor.tag (write_hand s.words)) m.saw_it in
      let reads : IsReading tag (write_hand s.words) on.0 =
      subst (λ (t : ℕ). IsReading t (write_hand s.words) on.0) of_tag (IsReading-reading m.actor.tag (write_hand s.words) on.0 on.1) in
      let there : IsActor y.loaded n (record m.actor { holder = clock.poll_loaded s.config m.actor.holder (write_hand s.words); reading = on.0 }) =
      subst (λ (t : State). IsActor t n (record m.actor { holder = clock.poll_loaded s.config m.actor.holder (write_hand s.words); reading = on.0 })) (sym m.after)
      (subst (λ (x : Actor). get_elem? (set s.actors n (poll_goes_on s.config m.actor (write_hand s.words) (reading m.actor.tag (write_hand s.words)))) n ≡ some x) on.2
      (set_here s.actors n (poll_goes_on s.config m.actor (write_hand s.words) (reading m.actor.tag (write_hand s.words))) m.actor m.there)) in
      (on.0, record m.actor { holder = clock.poll_loaded s.config m.actor.holder (write_hand s.words); reading = on.0 }, there, reads, inl (inl refl, of_tag, refl, refl))

  expired_at_swap : YesAtSwap s n after → IsExpired after.words g
  expired_at_swap y =
      let loaded = core_keeps s (PollLoad n) (seen.Hand y.hand) y.loaded law y.load in
      let begun = after_load y in
      let scanned = run_keeps y.loaded y.steps y.saw y.scanned loaded.law y.scan in
      let kept = kept_by_run n (λ x. SamePoll tag (write_hand s.words) begun.0 x) (λ step. (t : ℕ) → step ≡ PollRead n t → ⊥)
      (λ u step x z ok change q. same_poll_kept tag (write_hand s.words) begun.0 n u step x z ok change q)
      y.loaded y.steps y.saw y.scanned begun.1 (λ step c t e. y.same_poll t (subst (λ (x : Step). Contains y.steps x) e c)) y.scan begun.2 begun.4 in
      let m = y.swap in
      let me : kept.0 ≡ m.actor = same_place y.scanned.actors n kept.0 m.actor kept.1 m.there in
      let mine : SamePoll tag (write_hand s.words) begun.0 m.actor = subst (λ (x : Actor). SamePoll tag (write_hand s.words) begun.0 x) me kept.2 in
      let aim : m.actor.reading ≡ begun.0 = ⊎_elim (λ q. q.3) (λ q. absurd (q.1 (inr m.needs.0))) mine in
      let answer = swap_with_yes m.actor (read_hand y.scanned.words) y.read m.saw_it in
      let last = core_keeps y.scanned (PollSwap n) (seen.Yes y.read) after scanned.law m in
      let places : length y.scanned.words ≡ place_after_seats y.scanned.config = scanned.law.words in
      let hand : read_hand after.words ≡ clock.last_found m.actor.holder (read_hand y.scanned.words) =
      ap (λ (t : State). read_hand t.words) m.after ∙ get_or-set_same y.scanned.words read_place (clock.last_found m.actor.holder (read_hand y.scanned.words)) 0 (omega arith) in
      let come : m.actor.reading ≤ clock.last_found m.actor.holder (read_hand y.scanned.words) = answer.1 in
      let says : SaysYes tag (write_hand s.words) (read_hand after.words) =
      λ x r. let same : x ≡ begun.0 = IsReading-unique tag (write_hand s.words) x begun.0 r begun.3 in omega arith in
      yes-means-expired after.config after.words last.law.clock.numbers last.law.clock.hands tag (write_hand s.words) (read_hand after.words) g
      (le_trans loaded.write_not_lower (le_trans scanned.write_not_lower last.write_not_lower)) (omega arith) says le half

  answer_later : AnswersYes s n after → CoreLater s after
  answer_later (inl y) = core_keeps s (PollLoad n) (seen.Yes y.0) after law y.1
  answer_later (inr y) =
      let loaded = core_keeps s (PollLoad n) (seen.Hand y.hand) y.loaded law y.load in
      let scanned = run_keeps y.loaded y.steps y.saw y.scanned loaded.law y.scan in
      later_trans s y.loaded after loaded (later_trans y.loaded y.scanned after scanned (core_keeps y.scanned (PollSwap n) (seen.Yes y.read) after scanned.law y.swap))

  expired_at_answer : AnswersYes s n after → IsExpired after.words g
  expired_at_answer (inl y) = expired_at_load y
  expired_at_answer (inr y) = expired_at_swap y

-- ---- the laws

-- each open section's mark is at least the read sequence
marks : (s : State) (n : ℕ) (x : Actor) (w : ℕ) → CoreLaw s → IsActor s n x → IsInSection x.holder w → read_hand s.words ≤ w
marks s n x w law at i =
    let f : HolderFits s.config s.words x.holder = law.clock.holders n x.holder (holder_there s n x at) in
    subst (λ (m : ℕ). read_hand s.words ≤ m) i.1 (in_phase s.config s.words x.holder phase.Inside f i.0).5

over : (s : State) (g : ℕ) → CoreLaw s → IsExpired s.words g → IsOver s g
over s g law e = (e, λ n x w at i before. let m : read_hand s.words ≤ w = marks s n x w law at i in omega arith)

pub yes-is-expired : means.YesIsExpired
yes-is-expired s after later n tag g r p y leads le half =
    let law : CoreLaw s = reached-law s r in
    let answered = answer_later s after n tag g law p le half y in
    let expired : g ≤ read_hand after.words = expired_at_answer s after n tag g law p le half y in
    let last = leads_later after later answered.law leads in
    over later g last.law (le_trans expired last.read_not_lower)

pub hands-never-fall : means.HandsNeverFall
hands-never-fall s later r leads = let l = leads_later s later (reached-law s r) leads in (l.read_not_lower, l.write_not_lower)

pub window-is-kept : means.WindowIsKept
window-is-kept s r = let law = reached-law s r in (law.clock.hands.in_order, law.clock.hands.within_window)

pub marks-are-kept : means.MarksAreKept
marks-are-kept s n x w r at i = marks s n x w (reached-law s r) at i

-- ---- a goal that an advance answered

goal_answered : (a b : ℕ) (m k : Bool) → seen.Goal a m ≡ seen.Goal b k → a ≡ b
goal_answered a b m k e = cc

-- it is at most the write sequence from then on
goal-le-write : (s after : State) (n g : ℕ) (moved : Bool) → CoreLaw s → IsStep s (AdvanceSwap n) (seen.Goal g moved) after → g ≤ write_hand after.words
goal-le-write s after n g moved law m =
    let fits : HolderFits s.config s.words m.actor.holder = law.clock.holders n m.actor.holder (holder_there s n m.actor m.there) in
    let t = in_task s.config s.words m.actor.holder task.AdvLoaded fits m.needs in
    let places : length s.words ≡ place_after_seats s.config = law.words in
    let left : ℕ = clock.exchanged m.actor.holder.write (clock.goal_of m.actor.holder) (write_hand s.words) in
    let here : write_hand after.words ≡ clock.exchanged m.actor.holder.write (clock.goal_of m.actor.holder) (write_hand s.words) =
    ap (λ (u : State). write_hand u.words) m.after
    ∙ get_or-set_same s.words write_place (clock.exchanged m.actor.holder.write (clock.goal_of m.actor.holder) (write_hand s.words)) 0 (omega arith) in
    let goal : g ≡ clock.goal_of m.actor.holder = goal_answered g (clock.goal_of m.actor.holder) moved _ m.saw_it in
    let below : clock.goal_of m.actor.holder ≤ clock.exchanged m.actor.holder.write (clock.goal_of m.actor.holder) (write_hand s.words) =
    goal-le-left s.config s.words m.actor.holder law.clock.hands t in
    omega arith

pub goal-is-expired : means.GoalIsExpired
goal-is-expired s0 s1 s after later m n g moved r advance leads p y end =
    let law0 = reached-law s0 r in
    let first = core_keeps s0 (AdvanceSwap m) (seen.Goal g moved) s1 law0 advance in
    let below : g ≤ write_hand s1.words = goal-le-write s0 s1 m g moved law0 advance in
    let rest = leads_later s1 s first.law leads in
    let r' : IsReached s =
    record {
      config = r.config;
      in_range = r.in_range;
      steps = r.steps ++ AdvanceSwap m ∷ [] ++ leads.steps;
      saw = r.saw ++ seen.Goal g moved ∷ [] ++ leads.saw;
      run = run-append (opening r.config) s1 s (r.steps ++ AdvanceSwap m ∷ []) leads.steps (r.saw ++ seen.Goal g moved ∷ []) leads.saw
          (run-push (opening r.config) s0 s1 r.steps r.saw (AdvanceSwap m) (seen.Goal g moved) r.run advance) leads.run;
    } in
    yes-is-expired s after later n (low g) g r' p y end (le_trans below rest.write_not_lower) refl

-- ---- the tag of a poll

module _ (tag : ℕ) where
  abbrev OfTag : Actor → Type 0
  OfTag x = x.holder.task ≡ task.PollRead → x.tag ≡ tag

  of_tag_acts : (n : ℕ) (s : State) (step : Step) (x y : Actor) → ((t : ℕ) → step ≡ PollRead n t → ⊥) → taker step ≡ n → Becomes s step x y → OfTag x → OfTag y
  of_tag_acts n s (EnterLoad k) x y ok e b p = subst OfTag b p
  of_tag_acts n s (EnterStore k) x y ok e b p = subst OfTag b p
  of_tag_acts n s (EnterCheck k) x y ok e b p = subst OfTag b p
  of_tag_acts n s (Clear k) x y ok e b p = subst OfTag b p
  of_tag_acts n s (Leave k) x y ok e b p = subst OfTag b p
  of_tag_acts n s (Come k) x y ok e b p = subst OfTag b p
  of_tag_acts n s (AdvanceRead k) x y ok e b p = subst OfTag b (λ h. cc)
  of_tag_acts n s (AdvanceLoad k) x y ok e b p = subst OfTag b (advance_load_cases s.config x (write_hand s.words) OfTag (λ h. cc) (λ h. cc))
  of_tag_acts n s (AdvanceSwap k) x y ok e b p = subst OfTag b (λ h. cc)
  of_tag_acts n s (PollRead k t) x y ok e b p = absurd (ok t (ap (λ (j : ℕ). PollRead j t) e))
  of_tag_acts n s (PollLoad k) x y ok e b p =
      subst OfTag b (poll_load_cases s.config x (write_hand s.words) OfTag (λ h. cc) (λ goal h. cc) (reading x.tag (write_hand s.words)))
  of_tag_acts n s (PollPresent k) x y ok e b p = subst OfTag b (λ h. cc)
  of_tag_acts n s (PollScan k) x y ok e b p = subst OfTag b p
  of_tag_acts n s (PollSwap k) x y ok e b p = subst OfTag b (λ h. cc)
  of_tag_acts n s (Note k) x y ok e b p = subst OfTag b p
  of_tag_acts n s (Absorb k m) x y ok e b p = subst OfTag b.1 p

  of_tag_kept : (n : ℕ) (s : State) (step : Step) (x y : Actor) → ((t : ℕ) → step ≡ PollRead n t → ⊥) → Change s step n x y → OfTag x → OfTag y
  of_tag_kept n s step x y ok (stays e) p = subst OfTag e p
  of_tag_kept n s step x y ok (acts e needs b) p = of_tag_acts n s step x y ok e b p
  of_tag_kept n s step x y ok (taken note e) p = subst OfTag e (λ h. cc)

pub poll-keeps-its-tag : means.PollKeepsItsTag
poll-keeps-its-tag s0 s1 s n tag saw steps sees m run none x at reads =
    let begun : Actor = record m.actor { holder = clock.poll_read m.actor.holder (read_hand s0.words); tag = tag } in
    let there : IsActor s1 n (record m.actor { holder = clock.poll_read m.actor.holder (read_hand s0.words); tag = tag }) =
    subst (λ (t : State). IsActor t n (record m.actor { holder = clock.poll_read m.actor.holder (read_hand s0.words); tag = tag })) (sym m.after)
    (set_here s0.actors n (record m.actor { holder = clock.poll_read m.actor.holder (read_hand s0.words); tag = tag }) m.actor m.there) in
    let kept = kept_by_run n (λ y. OfTag tag y) (λ step. (t : ℕ) → step ≡ PollRead n t → ⊥)
    (λ u step y z ok change q. of_tag_kept tag n u step y z ok change q)
    s1 steps sees s (record m.actor { holder = clock.poll_read m.actor.holder (read_hand s0.words); tag = tag })
    (λ step c t e. none t (subst (λ (y : Step). Contains steps y) e c)) run there (λ _. refl) in
    let me : kept.0 ≡ x = same_place s.actors n kept.0 x kept.1 at in
    subst (λ (y : Actor). OfTag tag y) me kept.2 reads

-- ---- the entry mark

both_phases : (p q r : Phase) → p ≡ q → p ≡ r → q ≡ r
both_phases p q r e f = sym e ∙ f

module _ (loaded found : ℕ) where
  abbrev InSameSection : Actor → Type 0
  InSameSection x = (x.holder.phase ≡ phase.Inside) × (x.holder.mark ≡ found) × (x.holder.loaded ≡ loaded)

  same_section_acts : (n : ℕ) (s : State) (step : Step) (x y : Actor) → (step ≡ Clear n → ⊥) → taker step ≡ n → Needs s.config step x.holder → Becomes s step x y
      → InSameSection x → InSameSection y
  same_section_acts n s (EnterLoad k) x y ok e needs b p = let r = both_phases x.holder.phase phase.Outside phase.Inside needs p.0 in absurd (outside_inside r)
  same_section_acts n s (EnterStore k) x y ok e needs b p = let r = both_phases x.holder.phase phase.Loaded phase.Inside needs p.0 in absurd (loaded_inside r)
  same_section_acts n s (EnterCheck k) x y ok e needs b p = let r = both_phases x.holder.phase phase.Stored phase.Inside needs p.0 in absurd (stored_inside r)
  same_section_acts n s (Clear k) x y ok e needs b p = absurd (ok (ap Clear e))
  same_section_acts n s (Leave k) x y ok e needs b p = let r = both_phases x.holder.phase phase.Outside phase.Inside needs.0 p.0 in absurd (outside_inside r)
  same_section_acts n s (Come k) x y ok e needs b p = let r = both_phases x.holder.phase phase.Vacant phase.Inside needs p.0 in absurd (vacant_inside r)
  same_section_acts n s (AdvanceRead k) x y ok e needs b p = subst InSameSection b p
  same_section_acts n s (AdvanceLoad k) x y ok e needs b p = subst InSameSection b (advance_load_cases s.config x (write_hand s.words) InSameSection p p)
  same_section_acts n s (AdvanceSwap k) x y ok e needs b p = subst InSameSection b p
  same_section_acts n s (PollRead k t) x y ok e needs b p = subst InSameSection b p
  same_section_acts n s (PollLoad k) x y ok e needs b p =
      subst InSameSection b (poll_load_cases s.config x (write_hand s.words) InSameSection p (λ goal. p) (reading x.tag (write_hand s.words)))
  same_section_acts n s (PollPresent k) x y ok e needs b p = subst InSameSection b p
  same_section_acts n s (PollScan k) x y ok e needs b p = subst InSameSection b p
  same_section_acts n s (PollSwap k) x y ok e needs b p = subst InSameSection b p
  same_section_acts n s (Note k) x y ok e needs b p = subst InSameSection b p
  same_section_acts n s (Absorb k m) x y ok e needs b p = subst InSameSection b.1 p

  same_section_kept : (n : ℕ) (s : State) (step : Step) (x y : Actor) → (step ≡ Clear n → ⊥) → Change s step n x y → InSameSection x → InSameSection y
  same_section_kept n s step x y ok (stays e) p = subst InSameSection e p
  same_section_kept n s step x y ok (acts e needs b) p = same_section_acts n s step x y ok e needs b p
  same_section_kept n s step x y ok (taken note e) p = let r = both_phases x.holder.phase phase.Note phase.Inside note p.0 in absurd (note_inside r)

-- a check that sees the section open
check_inside : (a : ClockConfig) (h : Holder) (now loaded found : ℕ) → seen.Inside loaded found ≡ check_sees a h now
    → (loaded ≡ h.loaded) × (found ≡ now) × ((clock.enter_checked a h now).phase ≡ phase.Inside)
check_inside a h now loaded found e =
    by_test (clock.is_overtaken a h.loaded now)
    (λ b. seen.Inside loaded found ≡ cond b (seen.Late h.loaded now) (seen.Inside h.loaded now)
    → (loaded ≡ h.loaded) × (found ≡ now) × (cond b phase.Late phase.Inside ≡ phase.Inside))
    (λ _ q. absurd (inside_late q)) (λ _ q. (inside_loaded loaded found h.loaded now q, inside_found loaded found h.loaded now q, refl)) e

pub entry-is-the-third-step : means.EntryIsTheThirdStep
entry-is-the-third-step s after later n loaded found steps saw r m run none =
    let c = check_inside s.config m.actor.holder (write_hand s.words) loaded found m.saw_it in
    let begun : Actor = record m.actor { holder = clock.enter_checked s.config m.actor.holder (write_hand s.words) } in
    let there : IsActor after n (record m.actor { holder = clock.enter_checked s.config m.actor.holder (write_hand s.words) }) =
    subst (λ (t : State). IsActor t n (record m.actor { holder = clock.enter_checked s.config m.actor.holder (write_hand s.words) })) (sym m.after)
    (set_here s.actors n (record m.actor { holder = clock.enter_checked s.config m.actor.holder (write_hand s.words) }) m.actor m.there) in
    let kept = kept_by_run n (λ y. InSameSection loaded found y) (λ step. step ≡ Clear n → ⊥)
    (λ u step y z ok change q. same_section_kept loaded found n u step y z ok change q)
    after steps saw later (record m.actor { holder = clock.enter_checked s.config m.actor.holder (write_hand s.words) })
    (λ step h e. none (subst (λ (y : Step). Contains steps y) e h)) run there (c.2, sym c.1, sym c.0) in
    (c.1, (kept.0, kept.1, (kept.2.0, kept.2.1), kept.2.2))
