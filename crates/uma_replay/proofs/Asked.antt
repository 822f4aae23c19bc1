-- From what each worker counted of its gate to the list of the givings-up.
use Rattle.std.proofs.Common.{◌≡◌, ℕ, zero, suc, List, [], ◌∷◌, Some, refl, sym, ap, ◌∙◌, subst, length, get_or}
use Rattle.std.proofs.lemmas.Option.{none-some, same_Some}
use Rattle.std.specs.Prelude.{slice_get}
use Rattle.smr_clock.specs.declared.host.Host.{Ghosts}
use Rattle.trace_text.specs.declared.trace.Round.{Round}
use Rattle.replay_worker.specs.declared.gate.Gate.{Ghosts as GateGhosts}
use Rattle.replay_worker.specs.declared.worker_run.WorkerRun.{WorkerRun}
use Rattle.replay_rounds.specs.Asks.{AllAsk, AsksRounds, GateCounts, gate_counts, not_asked}
use Rattle.replay_rounds.proofs.RoundLists.{at_other}
use Rattle.uma_replay.specs.Asked.{AreGivenUp}
use Rattle.uma_replay.specs.Playing.{gave_ups_of}

module _ {N H C S Part : Type 0} {h : Ghosts H Part} {G V : Type 0} (gates : GateGhosts G V) (gate : G) where
  -- the worker of a count
  record Of (runs : List (WorkerRun N H C S Part h)) (n count : ℕ) : Type 0 where
    r : WorkerRun N H C S Part h
    at : slice_get runs n ≡ Some r
    is : r.gave_up ≡ count

  of_count : (runs : List (WorkerRun N H C S Part h)) (n count : ℕ) → slice_get (gave_ups_of runs) n ≡ Some count → Of runs n count
  of_count [] n count at = absurd (none-some count at)
  of_count (r ∷ rest) zero count at = record { r = r; at = refl; is = same_Some r.gave_up count at }
  of_count (r ∷ rest) (suc n) count at =
      let o = of_count rest n count at in
      record { r = o.r; at = o.at; is = o.is }

  pub given_up : (rounds : List Round) (first all : List (WorkerRun N H C S Part h)) (gave_ups : List ℕ) → length all ≡ length first → ((n : ℕ) (r : WorkerRun N H C S Part h) → slice_get first n ≡ Some r → (r.asked ≡ 0) × (r.gave_up ≡ 0))
      → AllAsk gates gate rounds first all → gave_ups ≡ gave_ups_of all → AreGivenUp gates gate rounds gave_ups
  given_up rounds first all gave_ups size new asks same n count at =
      let o = of_count all n count (sym (ap (λ (l : List ℕ). slice_get l n) same) ∙ at) in
      let was = get_or first n o.r in
      let there : slice_get first n ≡ Some was = at_other first all n o.r size o.at in
      let none : gate_counts was ≡ not_asked = λ i. record { asked = (new n was there).0 i; gave_up = (new n was there).1 i } in
      let so : gate_counts o.r ≡ record { asked = o.r.asked; gave_up = count } = λ i. record { asked = o.r.asked; gave_up = o.is i } in
      let P : GateCounts → Type 0 = λ counts. AsksRounds gates gate n counts rounds (gate_counts o.r) in
      let Q : GateCounts → Type 0 = λ counts. AsksRounds gates gate n not_asked rounds counts in
      (o.r.asked, subst Q so (subst P none (asks n was o.r there o.at)))
