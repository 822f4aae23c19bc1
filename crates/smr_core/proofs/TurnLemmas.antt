-- Within an operation each step but the first is sure: what it needs is what the step before it left.
use Rattle.std.proofs.Common.{◌≡◌, ℕ, ◌+◌, ◌<◌, ◌≤◌, ◌⊎◌, List, [], ◌∷◌, ◌++◌, length, map, slice_index, refl, sym, ap, ◌∙◌, subst, arith, Bool, true, false, cond, leb, Option, Some, None, inl, inr}
use Rattle.std.proofs.lemmas.Bool.{false≢true}
use Rattle.std.proofs.lemmas.List.{map-append}
use Rattle.smr_seq.specs.Reading.{reading}
use Rattle.smr_core.specs.declared.clock_core.ClockConfig.{ClockConfig}
use Rattle.smr_core.specs.declared.steps.Actor.{Actor}
use Rattle.smr_core.specs.declared.holder.Holder.{Holder}
use Rattle.smr_core.specs.declared.holder.Phase.TheVariants as phase
use Rattle.smr_core.specs.declared.holder.Task.TheVariants as task
use Rattle.smr_core.specs.declared.turns.Step.{Step}
use Rattle.smr_core.specs.declared.turns.Step.TheVariants.{EnterLoad, EnterStore, EnterCheck, Clear, AdvanceRead, AdvanceLoad, AdvanceSwap, PollRead, PollLoad, PollPresent, PollScan, PollSwap}
use Rattle.smr_core.specs.declared.turns.Seen.{Seen}
use Rattle.smr_core.specs.declared.turns.Seen.TheVariants as seen
use Rattle.smr_core.specs.declared.turns.StepRefused.{StepRefused}
use Rattle.smr_core.specs.declared.turns.StepRefused.TheVariants.{NoSeat, OutOfTurn, Crowded, Memory}
use Rattle.smr_core.specs.declared.turns.Turn.TheVariants.{Enter, Poll}
use Rattle.smr_core.specs.ClockState.{write_place, presence_place, seat_place, next_present, seats_below}
use Rattle.smr_core.specs.ClockStep as clock
use Rattle.smr_core.specs.CoreState.{State, IsActor}
use Rattle.smr_core.specs.CoreStep.{IsStep, Moves, Needs, StepIsRefused, Run, IsMissing, IsOutOfTurn, MayMakeNote, taker, poll_goes_on, poll_sees, load_sees}
use Rattle.smr_core.specs.Turns.{IsSure, IsTurn, Scans, is_hand, is_late, saw_at, set_in, set_at}
use Rattle.smr_core.proofs.PlaceLemmas.{set_here, same_place, place_within}
use Rattle.smr_core.proofs.RunLemmas.{run-push}

-- ---- what isn't refused

-- a step of one actor, which is there and whose phase and task suit it
pub sure_by : (s : State) (step : Step) (x : Actor) → IsActor s (taker step) x → Needs s.config step x.holder
    → ((m : ℕ) → IsMissing s step m → (m ≡ taker step) × (length s.actors ≤ m))
    → ((at : ℕ) (h : Holder) → IsOutOfTurn s step at h → (at ≡ taker step) × (Needs s.config step h → ⊥))
    → (MayMakeNote s step → ⊥)
    → (refused : StepRefused) → StepIsRefused s step refused → ⊥
sure_by s step x at needs missing turn note (NoSeat m count) r =
    let out = missing m r.0 in
    let here : taker step < length s.actors = place_within s.actors (taker step) x at in
    let same : m ≡ taker step = out.0 in
    let past : length s.actors ≤ m = out.1 in
    absurd (omega arith)
sure_by s step x at needs missing turn note (OutOfTurn k in_phase in_task) r =
    let out = turn k r.0.holder r.2 in
    let same : r.0 ≡ x = same_place s.actors (taker step) r.0 x (subst (λ (j : ℕ). IsActor s j r.0) out.0 r.1) at in
    out.1 (subst (λ (z : Actor). Needs s.config step z.holder) (sym same) needs)
sure_by s step x at needs missing turn note (Crowded count) r = note r.0
sure_by s step x at needs missing turn note Memory r = note r.0

-- the actor of a step that changes one actor, after it
moved_there : (s : State) (step : Step) (i : Holder → ℕ) (f : Holder → ℕ → ℕ) (g : Actor → ℕ → Actor) (sees : Actor → ℕ → Seen) (saw : Seen) (s' : State)
    → (m : Moves s step i f g sees saw s') → IsActor s' (taker step) (g m.actor (slice_index s.words (i m.actor.holder)))
moved_there s step i f g sees saw s' m =
    subst (λ (t : State). IsActor t (taker step) (g m.actor (slice_index s.words (i m.actor.holder)))) (sym m.after)
    (set_here s.actors (taker step) (g m.actor (slice_index s.words (i m.actor.holder))) m.actor m.there)

-- ---- an enter

pub store-sure : (s : State) (n : ℕ) (saw : Seen) (mid : State) → IsStep s (EnterLoad n) saw mid → IsSure mid (EnterStore n)
store-sure s n saw mid m =
    sure_by mid (EnterStore n) _ (moved_there s (EnterLoad n) _ _ _ _ saw mid m) refl (λ _ h. h) (λ _ _ z. z) (λ z. z)

pub check-sure : (s : State) (n : ℕ) (saw : Seen) (mid : State) → IsStep s (EnterStore n) saw mid → IsSure mid (EnterCheck n)
check-sure s n saw mid m =
    sure_by mid (EnterCheck n) _ (moved_there s (EnterStore n) _ _ _ _ saw mid m) refl (λ _ h. h) (λ _ _ z. z) (λ z. z)

by_test : (b : Bool) (P : Bool → Type 0) → P true → P false → P b
by_test true P t f = t
by_test false P t f = f

pub clear-sure : (s : State) (n : ℕ) (saw : Seen) (mid : State) → IsStep s (EnterCheck n) saw mid → IsSure mid (Clear n)
clear-sure s n saw mid m =
    sure_by mid (Clear n) _ (moved_there s (EnterCheck n) _ _ _ _ saw mid m)
    (by_test (clock.is_overtaken s.config m.actor.holder.loaded (slice_index s.words write_place))
    (λ b. (cond b phase.Late phase.Inside ≡ phase.Inside) ⊎ (cond b phase.Late phase.Inside ≡ phase.Late)) (inr refl) (inl refl))
    (λ _ h. h) (λ _ _ z. z) (λ z. z)

-- ---- an advance

pub advance_load-sure : (s : State) (n : ℕ) (saw : Seen) (mid : State) → IsStep s (AdvanceRead n) saw mid → IsSure mid (AdvanceLoad n)
advance_load-sure s n saw mid m =
    sure_by mid (AdvanceLoad n) _ (moved_there s (AdvanceRead n) _ _ _ _ saw mid m) refl (λ _ h. h) (λ _ _ z. z) (λ z. z)

advance_goes : (a : ClockConfig) (h : Holder) (found : ℕ) → is_hand (load_sees a h found) ≡ true → (clock.advance_loaded a h found).task ≡ task.AdvLoaded
advance_goes a h found =
    by_test (clock.is_spent found)
    (λ b. is_hand (cond b (seen.Spent found) (cond (clock.is_too_far a h.read found) (seen.TooFar h.read found) (seen.Hand found))) ≡ true
    → (cond b (clock.advance_ended a h found) (cond (clock.is_too_far a h.read found) (clock.advance_ended a h found)
    (record (clock.write_loaded a h found) { task = task.AdvLoaded; write = found }))).task ≡ task.AdvLoaded)
    (λ e. absurd (false≢true e))
    (by_test (clock.is_too_far a h.read found)
    (λ b. is_hand (cond b (seen.TooFar h.read found) (seen.Hand found)) ≡ true
    → (cond b (clock.advance_ended a h found) (record (clock.write_loaded a h found) { task = task.AdvLoaded; write = found })).task ≡ task.AdvLoaded)
    (λ e. absurd (false≢true e))
    (λ _. refl))

pub advance_swap-sure : (s : State) (n : ℕ) (saw : Seen) (mid : State) → IsStep s (AdvanceLoad n) saw mid → is_hand saw ≡ true → IsSure mid (AdvanceSwap n)
advance_swap-sure s n saw mid m hand =
    sure_by mid (AdvanceSwap n) _ (moved_there s (AdvanceLoad n) _ _ _ _ saw mid m)
    (advance_goes s.config m.actor.holder (slice_index s.words write_place) (subst (λ (z : Seen). is_hand z ≡ true) m.saw_it hand))
    (λ _ h. h) (λ _ _ z. z) (λ z. z)

-- ---- a poll

pub poll_load-sure : (s : State) (n tag : ℕ) (saw : Seen) (mid : State) → IsStep s (PollRead n tag) saw mid → IsSure mid (PollLoad n)
poll_load-sure s n tag saw mid m =
    sure_by mid (PollLoad n) _ (moved_there s (PollRead n tag) _ _ _ _ saw mid m) refl (λ _ h. h) (λ _ _ z. z) (λ z. z)

poll_goes : (a : ClockConfig) (x : Actor) (found : ℕ) (o : Option ℕ) → is_hand (poll_sees x found o) ≡ true → (poll_goes_on a x found o).holder.task ≡ task.PollLoaded
poll_goes a x found None = λ e. absurd (false≢true e)
poll_goes a x found (Some goal) =
    by_test (leb goal x.holder.read)
    (λ b. is_hand (cond b (seen.Yes x.holder.read) (seen.Hand found)) ≡ true
    → (cond b (record x { holder = clock.poll_ended a x.holder found }) (record x { holder = clock.poll_loaded a x.holder found; reading = goal })).holder.task ≡ task.PollLoaded)
    (λ e. absurd (false≢true e))
    (λ _. refl)

pub present-sure : (s : State) (n : ℕ) (saw : Seen) (mid : State) → IsStep s (PollLoad n) saw mid → is_hand saw ≡ true → IsSure mid (PollPresent n)
present-sure s n saw mid m hand =
    sure_by mid (PollPresent n) _ (moved_there s (PollLoad n) _ _ _ _ saw mid m)
    (poll_goes s.config m.actor (slice_index s.words write_place) (reading m.actor.tag (slice_index s.words write_place)) (subst (λ (z : Seen). is_hand z ≡ true) m.saw_it hand))
    (λ _ h. h) (λ _ _ z. z) (λ z. z)

pub scans-first : (s : State) (n : ℕ) (saw : Seen) (mid : State) → IsStep s (PollPresent n) saw mid → Scans mid n (set_in saw) (next_present s.config (set_in saw) 0)
scans-first s n saw mid m =
    let found : ℕ = slice_index s.words (presence_place s.config) in
    let same : slice_index s.words (presence_place s.config) ≡ set_in saw = sym (ap set_in m.saw_it) in
    record {
      actor = record m.actor { holder = clock.poll_present s.config m.actor.holder (slice_index s.words (presence_place s.config)) };
      there = moved_there s (PollPresent n) _ _ _ _ saw mid m;
      scanning = refl;
      of_set = same;
      scanned = ap (λ (z : ℕ). next_present s.config z 0) same;
    }

pub scans-next : (s : State) (n set k : ℕ) (saw : Seen) (mid : State) → Scans s n set k → IsStep s (PollScan n) saw mid → Scans mid n set (next_present s.config set (k + 1))
scans-next s n set k saw mid sc m =
    let same : sc.actor ≡ m.actor = same_place s.actors n sc.actor m.actor sc.there m.there in
    let of_set : m.actor.holder.present ≡ set = ap (λ (z : Actor). z.holder.present) (sym same) ∙ sc.of_set in
    let at : m.actor.holder.scanned ≡ k = ap (λ (z : Actor). z.holder.scanned) (sym same) ∙ sc.scanned in
    record {
      actor = record m.actor { holder = clock.poll_scanned s.config m.actor.holder (slice_index s.words (seat_place m.actor.holder.scanned)) };
      there = moved_there s (PollScan n) _ _ _ _ saw mid m;
      scanning = m.needs.0;
      of_set = of_set;
      scanned = λ i. next_present s.config (of_set i) (at i + 1);
    }

pub scan-sure : (s : State) (n set k : ℕ) → Scans s n set k → k < s.config.seats → IsSure s (PollScan n)
scan-sure s n set k sc below =
    sure_by s (PollScan n) sc.actor sc.there (sc.scanning, subst (λ (z : ℕ). z < s.config.seats) (sym sc.scanned) below) (λ _ h. h) (λ _ _ z. z) (λ z. z)

pub swap-sure : (s : State) (n set k : ℕ) → Scans s n set k → k ≡ s.config.seats → IsSure s (PollSwap n)
swap-sure s n set k sc all =
    sure_by s (PollSwap n) sc.actor sc.there (sc.scanning, sc.scanned ∙ all) (λ _ h. h) (λ _ _ z. z) (λ z. z)

-- a step leaves the numbers that the clock was made with
pub scan-config : (s : State) (n : ℕ) (saw : Seen) (mid : State) → IsStep s (PollScan n) saw mid → mid.config ≡ s.config
scan-config s n saw mid m = ap (λ (t : State). t.config) m.after

-- ---- whole turns

-- a poll has seen the write sequence and this set of seats
abbrev pub HasBegun : ℕ → List Seen → Type 0
HasBegun set (x ∷ y ∷ z ∷ sees) = (is_hand y ≡ true) × (set_in z ≡ set)
HasBegun set _ = ⊥

pub begun-stays : (set : ℕ) (sees : List Seen) (saw : Seen) → HasBegun set sees → HasBegun set (sees ++ saw ∷ [])
begun-stays set [] saw b = absurd b
begun-stays set (x ∷ []) saw b = absurd b
begun-stays set (x ∷ y ∷ []) saw b = absurd b
begun-stays set (x ∷ y ∷ z ∷ sees) saw b = b

begun-hand : (set : ℕ) (sees : List Seen) → HasBegun set sees → saw_at 1 is_hand sees ≡ true
begun-hand set [] b = absurd b
begun-hand set (x ∷ []) b = absurd b
begun-hand set (x ∷ y ∷ []) b = absurd b
begun-hand set (x ∷ y ∷ z ∷ sees) b = b.0

begun-set : (set : ℕ) (sees : List Seen) → HasBegun set sees → set_at 2 sees ≡ set
begun-set set [] b = absurd b
begun-set set (x ∷ []) b = absurd b
begun-set set (x ∷ y ∷ []) b = absurd b
begun-set set (x ∷ y ∷ z ∷ sees) b = b.1

-- the steps of a poll that has loaded the words of these seats
abbrev pub poll_so_far : ℕ → ℕ → List ℕ → List Step
poll_so_far n tag seats = PollRead n tag ∷ PollLoad n ∷ PollPresent n ∷ map (λ seat. PollScan n) seats

pub run-scan : (s mid s' : State) (n tag k : ℕ) (seats : List ℕ) (sees : List Seen) (saw : Seen) → Run s (poll_so_far n tag seats) sees mid
    → IsStep mid (PollScan n) saw s' → Run s (poll_so_far n tag (seats ++ k ∷ [])) (sees ++ saw ∷ []) s'
run-scan s mid s' n tag k seats sees saw run step =
    subst (λ (l : List Step). Run s (PollRead n tag ∷ PollLoad n ∷ PollPresent n ∷ l) (sees ++ saw ∷ []) s') (sym (map-append (λ (seat : ℕ). PollScan n) seats (k ∷ [])))
    (run-push s mid s' (poll_so_far n tag seats) sees (PollScan n) saw run step)

pub poll-whole : (s mid s' : State) (n tag set k : ℕ) (sees : List Seen) (saw : Seen) → Run s (poll_so_far n tag (seats_below set k)) sees mid
    → k ≡ s.config.seats → HasBegun set sees → IsStep mid (PollSwap n) saw s' → IsTurn s (Poll n tag) (sees ++ saw ∷ []) s'
poll-whole s mid s' n tag set k sees saw run all begun step =
    let more = begun-stays set sees saw begun in
    subst (λ (b : Bool). Run s (PollRead n tag ∷ PollLoad n
    ∷ cond b (PollPresent n ∷ (map (λ seat. PollScan n) (seats_below (set_at 2 (sees ++ saw ∷ [])) s.config.seats) ++ PollSwap n ∷ [])) []) (sees ++ saw ∷ []) s')
    (sym (begun-hand set (sees ++ saw ∷ []) more))
    (subst (λ (p : ℕ). Run s (PollRead n tag ∷ PollLoad n ∷ PollPresent n ∷ (map (λ seat. PollScan n) (seats_below p s.config.seats) ++ PollSwap n ∷ [])) (sees ++ saw ∷ []) s')
    (sym (begun-set set (sees ++ saw ∷ []) more))
    (subst (λ (j : ℕ). Run s (PollRead n tag ∷ PollLoad n ∷ PollPresent n ∷ (map (λ seat. PollScan n) (seats_below set j) ++ PollSwap n ∷ [])) (sees ++ saw ∷ []) s') all
    (run-push s mid s' (poll_so_far n tag (seats_below set k)) sees (PollSwap n) saw run step)))

pub run-three : (s m1 m2 s' : State) (a b c : Step) (x y z : Seen) → IsStep s a x m1 → IsStep m1 b y m2 → IsStep m2 c z s' → Run s (a ∷ b ∷ c ∷ []) (x ∷ y ∷ z ∷ []) s'
run-three s m1 m2 s' a b c x y z p q r = (m1, p, (m2, q, (s', r, refl)))

pub enter-inside : (s m1 m2 s' : State) (n : ℕ) (x y z : Seen) (sees : List Seen) → sees ≡ x ∷ y ∷ z ∷ []
    → IsStep s (EnterLoad n) x m1 → IsStep m1 (EnterStore n) y m2 → IsStep m2 (EnterCheck n) z s' → is_late z ≡ false → IsTurn s (Enter n) sees s'
enter-inside s m1 m2 s' n x y z sees e p q r in_time =
    subst (λ (l : List Seen). IsTurn s (Enter n) l s') (sym e)
    (subst (λ (b : Bool). Run s (EnterLoad n ∷ EnterStore n ∷ EnterCheck n ∷ cond b (Clear n ∷ []) []) (x ∷ y ∷ z ∷ []) s') (sym in_time)
    (run-three s m1 m2 s' (EnterLoad n) (EnterStore n) (EnterCheck n) x y z p q r))

pub enter-late : (s m1 m2 m3 s' : State) (n : ℕ) (x y z w : Seen) (sees : List Seen) → sees ≡ x ∷ y ∷ z ∷ w ∷ []
    → IsStep s (EnterLoad n) x m1 → IsStep m1 (EnterStore n) y m2 → IsStep m2 (EnterCheck n) z m3 → is_late z ≡ true → IsStep m3 (Clear n) w s' → IsTurn s (Enter n) sees s'
enter-late s m1 m2 m3 s' n x y z w sees e p q r late v =
    subst (λ (l : List Seen). IsTurn s (Enter n) l s') (sym e)
    (subst (λ (b : Bool). Run s (EnterLoad n ∷ EnterStore n ∷ EnterCheck n ∷ cond b (Clear n ∷ []) []) (x ∷ y ∷ z ∷ w ∷ []) s') (sym late)
    (run-push s m3 s' (EnterLoad n ∷ EnterStore n ∷ EnterCheck n ∷ []) (x ∷ y ∷ z ∷ []) (Clear n) w
    (run-three s m1 m2 m3 (EnterLoad n) (EnterStore n) (EnterCheck n) x y z p q r) v))
