-- The lines between two rounds with one more behind them, and the rounds with one round more.
use Rattle.std.proofs.Common.{◌≡◌, ℕ, zero, suc, ◌+◌, ◌<◌, ◌≤◌, List, [], ◌∷◌, Option, refl, sym, ap, subst, arith, length, take, get_or}
use Rattle.std.proofs.lemmas.List.{take_all}
use Rattle.std.specs.Option.{option_map_or}
use Rattle.std.specs.Prelude.{All}
use Rattle.smr_clock.specs.declared.clock.Clock.{Clock}
use Rattle.smr_clock.specs.declared.host.Host.{Ghosts}
use Rattle.trace_text.specs.declared.trace.Between.{Between}
use Rattle.trace_text.specs.declared.trace.Op.{Op}
use Rattle.trace_text.specs.declared.trace.Round.{Round}
use Rattle.trace_text.specs.declared.trace.Trace.{Trace}
use Rattle.replay_worker.specs.declared.name_calls.NameCalls.{Ghosts as NameGhosts}
use Rattle.replay_worker.specs.declared.worker_run.WorkerRun.{WorkerRun}
use Rattle.replay_worker.specs.Items.{CountedZone}
use Rattle.replay_worker.specs.NameLines.{DoesAll, line_state}
use Rattle.replay_rounds.specs.Betweens.{DoBetweens, DoesBetween, DoRound, DoRoundAt, DoRounds}
use Rattle.replay_rounds.specs.Parts.{betweens_of, ops_in}
use Rattle.replay_rounds.specs.Rounds.{AllWorked, HasEnded}
use Rattle.replay_rounds.proofs.AfterRound.{turns}

-- ---- the lines between two rounds

module _ {N H C S Part : Type 0} {h : Ghosts H Part} where
  -- before the first one
  pub done_none : (zones : List (CountedZone H Part h)) (betweens : List Between) (workers : List (WorkerRun N H C S Part h)) → DoBetweens zones (take 0 betweens) workers workers
  unfolding DoBetweens
  done_none zones [] workers = refl
  done_none zones (b ∷ betweens) workers = refl

  done_suc : (zones : List (CountedZone H Part h)) (k : ℕ) (betweens : List Between) (d : Between) (old mid new : List (WorkerRun N H C S Part h)) → k < length betweens → DoBetweens zones (take k betweens) old mid → DoesBetween zones (get_or betweens k d) mid new
      → DoBetweens zones (take (suc k) betweens) old new
  unfolding DoBetweens
  done_suc zones k [] d old mid new below done next = absurd (omega arith)
  done_suc zones zero (b ∷ betweens) d old mid new below same next =
      let P : List (WorkerRun N H C S Part h) → Type 0 = λ before. DoesBetween zones b before new in
      (new, subst P same next, done_none zones betweens new)
  done_suc zones (suc k) (b ∷ betweens) d old mid new below done next = (done.0, done.1, done_suc zones k betweens d done.0 mid new (omega arith) done.2 next)

  -- with the next one
  pub done_more : (zones : List (CountedZone H Part h)) (betweens : List Between) (k : ℕ) (d : Between) (old mid new : List (WorkerRun N H C S Part h)) → k < length betweens → DoBetweens zones (take k betweens) old mid → DoesBetween zones (get_or betweens k d) mid new
      → DoBetweens zones (take (k + 1) betweens) old new
  done_more zones betweens k d old mid new below done next =
      let on : k + 1 ≡ suc k = omega arith in
      let P : ℕ → Type 0 = λ i. DoBetweens zones (take i betweens) old new in
      subst P (sym on) (done_suc zones k betweens d old mid new below done next)

  -- after the last one
  pub done_all : (zones : List (CountedZone H Part h)) (betweens : List Between) (k : ℕ) (old new : List (WorkerRun N H C S Part h)) → length betweens ≤ k → DoBetweens zones (take k betweens) old new → DoBetweens zones betweens old new
  done_all zones betweens k old new past done =
      let P : List Between → Type 0 = λ list. DoBetweens zones list old new in
      subst P (take_all k betweens past) done

-- ---- the rounds

module _ {N H C S Part : Type 0} {h : Ghosts H Part} (names : NameGhosts N H C S Part) (cache : C) where
  -- a whole round
  pub round_done : (t : Trace) (zones : List (CountedZone H Part h)) (clock : Clock H Part) (k : ℕ) (old mid new : List (WorkerRun N H C S Part h)) → length mid ≡ length old → All HasEnded mid → AllWorked names cache t zones clock k old mid → DoBetweens zones (betweens_of t.rounds k) mid new
      → DoRoundAt names cache zones t.rounds k old new
  round_done t zones clock k old mid new size ended worked done r here =
      let turned = turns names cache t zones clock k old mid size ended worked in
      let behind_round : Option Round → List Between = λ o. option_map_or (λ (x : Round). x.between) o [] in
      let P : List Between → Type 0 = λ list. DoBetweens zones list mid new in
      record {
        worked = mid;
        count = size;
        each = λ n was is at now.
            let own : Option Round → List Op = λ o. option_map_or (λ (x : Round). ops_in x n) o [] in
            let Q : List Op → Type 0 = λ ops. DoesAll names cache zones (line_state was) ops (line_state is) in
            subst Q (ap own here) (turned.each n was is at now).plays;
        behind = subst P (ap behind_round here) done;
      }

module _ {N H C S Part : Type 0} {h : Ghosts H Part} (names : NameGhosts N H C S Part) (cache : C) (zones : List (CountedZone H Part h)) where
  -- before the first round
  pub rounds_begun : (rounds : List Round) (workers : List (WorkerRun N H C S Part h)) → DoRounds names cache zones (take 0 rounds) workers workers
  unfolding DoRounds
  rounds_begun [] workers = refl
  rounds_begun (r ∷ rounds) workers = refl

  rounds_suc : (k : ℕ) (rounds : List Round) (old mid new : List (WorkerRun N H C S Part h)) → k < length rounds → DoRounds names cache zones (take k rounds) old mid → DoRoundAt names cache zones rounds k mid new
      → DoRounds names cache zones (take (suc k) rounds) old new
  unfolding DoRounds
  rounds_suc k [] old mid new below done next = absurd (omega arith)
  rounds_suc zero (r ∷ rounds) old mid new below same next =
      let P : List (WorkerRun N H C S Part h) → Type 0 = λ before. DoRound names cache zones r before new in
      (new, subst P same (next r refl), rounds_begun rounds new)
  rounds_suc (suc k) (r ∷ rounds) old mid new below done next = (done.0, done.1, rounds_suc k rounds done.0 mid new (omega arith) done.2 next)

  -- with the next round
  pub rounds_more : (rounds : List Round) (k : ℕ) (old mid new : List (WorkerRun N H C S Part h)) → k < length rounds → DoRounds names cache zones (take k rounds) old mid → DoRoundAt names cache zones rounds k mid new
      → DoRounds names cache zones (take (k + 1) rounds) old new
  rounds_more rounds k old mid new below done next =
      let on : k + 1 ≡ suc k = omega arith in
      let P : ℕ → Type 0 = λ i. DoRounds names cache zones (take i rounds) old new in
      subst P (sym on) (rounds_suc k rounds old mid new below done next)

  -- after the last
  pub rounds_ended : (rounds : List Round) (k : ℕ) (old new : List (WorkerRun N H C S Part h)) → length rounds ≤ k → DoRounds names cache zones (take k rounds) old new → DoRounds names cache zones rounds old new
  rounds_ended rounds k old new past done =
      let P : List Round → Type 0 = λ list. DoRounds names cache zones list old new in
      subst P (take_all k rounds past) done
