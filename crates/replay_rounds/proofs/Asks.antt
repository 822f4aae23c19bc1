-- What the rounds ask of the workers' gate, with one round more at the end.
use Rattle.std.proofs.Common.{◌≡◌, ℕ, zero, suc, ◌+◌, ◌<◌, ◌≤◌, List, [], ◌∷◌, refl, sym, ap, ◌∙◌, subst, arith, length, take, get_or}
use Rattle.std.proofs.lemmas.List.{take_all}
use Rattle.std.proofs.lemmas.Option.{get_or_from_slice_get, same_Some, slice_get_within}
use Rattle.std.specs.Prelude.{All, OnOk}
use Rattle.smr_clock.specs.declared.host.Host.{Ghosts}
use Rattle.trace_text.specs.declared.trace.Round.{Round}
use Rattle.replay_worker.specs.declared.gate.Gate.{Ghosts as GateGhosts}
use Rattle.replay_worker.specs.declared.worker_run.WorkerRun.{WorkerRun}
use Rattle.replay_worker.specs.Asking.{AsksGate}
use Rattle.replay_worker.specs.Giving.{KeepsRest, with_slots}
use Rattle.replay_worker.specs.OwnLines.{own_ops}
use Rattle.replay_rounds.specs.Asks.{AllAsk, AllAskRound, AsksIn, AsksRounds, EachAsks, GateCounts, gate_counts}
use Rattle.replay_rounds.specs.Parts.{ops_in}
use Rattle.replay_rounds.specs.Rounds.{HasEnded}
use Rattle.replay_rounds.proofs.RoundLists.{at_other, before}

module _ {N H C S Part : Type 0} {h : Ghosts H Part} {G V : Type 0} (gates : GateGhosts G V) (gate : G) where
  -- a turn that ended
  has_asked : (n count : ℕ) (was is : WorkerRun N H C S Part h) → HasEnded is → OnOk is.ended (AsksGate gates gate n count was is) → AsksGate gates gate n count was is
  has_asked n count was is ended asks =
      let A : Type 0 = AsksGate gates gate n count was is in
      subst (λ e. OnOk e A) ended asks

  in_round : (n count : ℕ) (was is : WorkerRun N H C S Part h) → AsksGate gates gate n count was is → AsksIn gates gate n count (gate_counts was) (gate_counts is)
  in_round n count was is asks = record { visit = asks.visit; of_gate = asks.of_gate; hears = asks.hears }

  -- a whole round: the lines behind it leave what was counted
  pub asks_round : (rounds : List Round) (k : ℕ) (old mid new : List (WorkerRun N H C S Part h)) → length mid ≡ length old → All HasEnded mid → EachAsks gates gate rounds k old mid → KeepsRest mid new → AllAskRound gates gate rounds k old new
  asks_round rounds k old mid new size ended each keeps n was is at now =
      let b = before (λ (x : WorkerRun N H C S Part h). with_slots x []) mid new n is keeps now in
      let count = length (own_ops rounds k n) in
      let below : n < length old = slice_get_within old n was at in
      let found : get_or mid n is ≡ b.was = get_or_from_slice_get mid n b.was is b.at in
      let Q : WorkerRun N H C S Part h → Type 0 = λ r. OnOk r.ended (AsksGate gates gate n count (get_or old n is) r) in
      let R : WorkerRun N H C S Part h → Type 0 = λ r. OnOk b.was.ended (AsksGate gates gate n count r b.was) in
      let P : WorkerRun N H C S Part h → Type 0 = λ r. HasEnded r in
      let turn = subst R (get_or_from_slice_get old n was is at) (subst Q found (each n is below)) in
      let done : HasEnded b.was = subst P found (ended n is (slice_get_within mid n b.was b.at)) in
      let I : GateCounts → Type 0 = λ counts. AsksIn gates gate n count (gate_counts was) counts in
      let same : gate_counts is ≡ gate_counts b.was = ap (λ (x : WorkerRun N H C S Part h). gate_counts x) b.same in
      subst I (sym same) (in_round n count was b.was (has_asked n count was b.was done turn))

module _ {G V : Type 0} (gates : GateGhosts G V) (gate : G) (n : ℕ) where
  rounds_none : (rounds : List Round) (was : GateCounts) → AsksRounds gates gate n was (take 0 rounds) was
  unfolding AsksRounds
  rounds_none [] was = refl
  rounds_none (r ∷ rounds) was = refl

  rounds_suc : (k : ℕ) (rounds : List Round) (old now new : GateCounts) → k < length rounds → AsksRounds gates gate n old (take k rounds) now → AsksIn gates gate n (length (own_ops rounds k n)) now new
      → AsksRounds gates gate n old (take (suc k) rounds) new
  unfolding AsksRounds
  rounds_suc k [] old now new below asks next = absurd (omega arith)
  rounds_suc zero (r ∷ rounds) old now new below same next =
      let P : GateCounts → Type 0 = λ w. AsksIn gates gate n (length (ops_in r n)) w new in
      (new, subst P same next, rounds_none rounds new)
  rounds_suc (suc k) (r ∷ rounds) old now new below asks next = (asks.0, asks.1, rounds_suc k rounds asks.0 now new (omega arith) asks.2 next)

module _ {N H C S Part : Type 0} {h : Ghosts H Part} {G V : Type 0} (gates : GateGhosts G V) (gate : G) where
  -- before the first round
  pub ask_none : (rounds : List Round) (workers : List (WorkerRun N H C S Part h)) → AllAsk gates gate (take 0 rounds) workers workers
  ask_none rounds workers n was is at now =
      let P : WorkerRun N H C S Part h → Type 0 = λ r. AsksRounds gates gate n (gate_counts was) (take 0 rounds) (gate_counts r) in
      subst P (same_Some was is (sym at ∙ now)) (rounds_none gates gate n rounds (gate_counts was))

  -- with the next round
  pub ask_more : (rounds : List Round) (k : ℕ) (old mid new : List (WorkerRun N H C S Part h)) → k < length rounds → length new ≡ length mid → AllAsk gates gate (take k rounds) old mid
      → AllAskRound gates gate rounds k mid new → AllAsk gates gate (take (k + 1) rounds) old new
  ask_more rounds k old mid new below size asks next n was is at now =
      let on : k + 1 ≡ suc k = omega arith in
      let there = at_other mid new n is size now in
      let r = get_or mid n is in
      let P : ℕ → Type 0 = λ i. AsksRounds gates gate n (gate_counts was) (take i rounds) (gate_counts is) in
      subst P (sym on) (rounds_suc gates gate n k rounds (gate_counts was) (gate_counts r) (gate_counts is) below (asks n was r at there) (next n r is there now))

  -- after the last
  pub ask_all : (rounds : List Round) (k : ℕ) (old new : List (WorkerRun N H C S Part h)) → length rounds ≤ k → AllAsk gates gate (take k rounds) old new → AllAsk gates gate rounds old new
  ask_all rounds k old new past asks =
      let P : List Round → Type 0 = λ list. AllAsk gates gate list old new in
      subst P (take_all k rounds past) asks
