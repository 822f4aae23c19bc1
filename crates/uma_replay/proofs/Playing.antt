-- The workers did the rounds one after another, and stay.
use Rattle.std.proofs.Common.{◌≡◌, ℕ, List, Some, refl, ap, ◌∙◌, sym, subst, le_refl}
use Rattle.std.proofs.lemmas.Option.{same_Some}
use Rattle.std.specs.Prelude.{reverse, slice_get}
use Rattle.smr_clock.specs.declared.clock.Clock.{Clock}
use Rattle.smr_clock.specs.declared.host.Host.{Ghosts}
use Rattle.smr_clock.specs.Belongs.{IsPassOf}
use Rattle.trace_text.specs.declared.trace.Trace.{Trace}
use Rattle.trace_text.specs.Lines.{lines_of}
use Rattle.replay_worker.specs.declared.gate.Gate.{Ghosts as GateGhosts}
use Rattle.replay_worker.specs.declared.name_calls.NameCalls.{Ghosts as NameGhosts}
use Rattle.replay_worker.specs.declared.name_work.NameWork.{NameWork}
use Rattle.replay_worker.specs.declared.worker_run.WorkerRun.{WorkerRun}
use Rattle.replay_worker.specs.declared.worker.Worker.{Worker}
use Rattle.replay_worker.specs.Attendance.{worker_in}
use Rattle.replay_worker.specs.Items.{CountedZone}
use Rattle.replay_worker.specs.Together.{crew}
use Rattle.replay_worker.specs.Worker.{seen_of}
use Rattle.replay_rounds.specs.declared.setting.Setting.{Setting}
use Rattle.replay_rounds.specs.Setting.{IsSetUp}
use Rattle.replay_rounds.specs.Clock.{floor_of}
use Rattle.replay_rounds.specs.Betweens.{DoRounds}
use Rattle.replay_rounds.specs.Rounds.{AllAsked}
use Rattle.replay_rounds.specs.RoundsPlayed.{IsPlayed}
use Rattle.replay_rounds.proofs.AfterRound.{in_crew}
use Rattle.uma_replay.specs.Playing.{AllBack, AllStay, AreFirst, HaveEnded, HavePlayed, Stays, gave_ups_of, name_works_of}
use Rattle.uma_replay.proofs.ComingBack.{back_stay}
use Rattle.uma_replay.proofs.Staying.{all_chain, found_before}

module _ {H Part : Type 0} {h : Ghosts H Part} where
  stays_self : (clock : Clock H Part) (w : Worker H Part h) → IsPassOf clock w.pass → Stays clock w w
  stays_self clock w here = record { seats = refl; slots = refl; entered = refl; late = refl; here = here; phase = refl; seen = le_refl (seen_of w); floor = le_refl (floor_of w) }

  all_stay_self : (clock : Clock H Part) (workers : List (Worker H Part h)) → ((n : ℕ) (w : Worker H Part h) → slice_get workers n ≡ Some w → IsPassOf clock w.pass) → AllStay clock workers workers
  all_stay_self clock workers here = record {
    count = refl;
    each = λ n v w at at'.
        let One : Worker H Part h → Type 0 = λ x. Stays clock v x in
        subst One (same_Some v w (sym at ∙ at')) (stays_self clock v (here n v at));
  }

  -- who came back has a pass of the clock
  backs_here : (clock : Clock H Part) (old back : List (Worker H Part h)) → AllBack clock old back → (n : ℕ) (w : Worker H Part h) → slice_get back n ≡ Some w → IsPassOf clock w.pass
  backs_here clock old back comes n w at = let was = found_before old back n w comes.count at in (comes.each n was.0 w was.1 at).here

module _ {N H C S Part : Type 0} {h : Ghosts H Part} (names : NameGhosts N H C S Part) (cache : C) where
  -- the workers that played as a slice of a vector lie in it again
  pub played_back : {G V : Type 0} (gates : GateGhosts G V) (gate : G) (t : Trace) (clock : Clock H Part) (slice zones : List (CountedZone H Part h)) (lent old new back : List (WorkerRun N H C S Part h)) → slice ≡ zones → lent ≡ old → back ≡ new
      → IsPlayed names cache gates gate t slice clock lent new → IsPlayed names cache gates gate t zones clock old back
  played_back gates gate t clock slice zones lent old new back same_zones same_old same_new played =
      let P : List (CountedZone H Part h) → Type 0 = λ list. IsPlayed names cache gates gate t list clock old back in
      let Q : List (WorkerRun N H C S Part h) → Type 0 = λ list. IsPlayed names cache gates gate t slice clock list back in
      let R : List (WorkerRun N H C S Part h) → Type 0 = λ list. IsPlayed names cache gates gate t slice clock lent list in
      subst P same_zones (subst Q same_old (subst R (sym same_new) played))

  -- all together when all rounds are done, and each is back
  pub together_of : (t : Trace) (s : Setting H Part h) (begun ended : List (WorkerRun N H C S Part h)) (back : List (Worker H Part h)) → IsSetUp t s → AreFirst names cache t.head.domains s.workers.items begun
      → AllBack s.clock (crew ended) back → DoRounds names cache s.zones.items t.rounds begun ended → HavePlayed names cache t s.zones.items s.clock back (name_works_of ended)
  together_of t s begun ended back is first comes did = record {
    begun = begun;
    are_new = λ n r at. (is.begin.each n (worker_in r) (sym (ap (λ list. slice_get list n) first.are) ∙ in_crew n begun r at), first.each n r at);
    ended = ended;
    rounds = did;
    back = back;
    comes = comes;
    stay = all_stay_self s.clock back (backs_here s.clock (crew ended) back comes);
    name_works_are = refl;
  }

  -- and since then
  pub together_stay : (t : Trace) (zones : List (CountedZone H Part h)) (clock : Clock H Part) (old new : List (Worker H Part h)) (name_works : List (NameWork N H C S Part)) → AllStay clock old new → HavePlayed names cache t zones clock old name_works
      → HavePlayed names cache t zones clock new name_works
  together_stay t zones clock old new name_works stay played = record {
    begun = played.begun;
    are_new = played.are_new;
    ended = played.ended;
    rounds = played.rounds;
    back = played.back;
    comes = played.comes;
    stay = all_chain clock played.back old new played.stay stay;
    name_works_are = played.name_works_are;
  }

-- ---- how often they gave up

module _ {N H C S Part : Type 0} {h : Ghosts H Part} where
  -- when all rounds are done, and each is back
  pub ended_of : (t : Trace) (clock : Clock H Part) (ended : List (WorkerRun N H C S Part h)) (back : List (Worker H Part h)) (name_works : List (NameWork N H C S Part)) (gave_ups : List ℕ)
      → AllAsked (reverse (lines_of t.rounds)) ended → AllBack clock (crew ended) back → name_works ≡ name_works_of ended → gave_ups ≡ gave_ups_of ended → HaveEnded t clock back name_works gave_ups
  ended_of t clock ended back name_works gave_ups asked comes same_name_works same_gave_ups = record {
    ended = ended;
    asked = asked;
    stay = back_stay clock (crew ended) back comes;
    name_works_are = same_name_works;
    gave_ups_are = same_gave_ups;
  }

  -- and since then
  pub ended_stay : (t : Trace) (clock : Clock H Part) (old new workers : List (Worker H Part h)) (before name_works : List (NameWork N H C S Part)) (counts gave_ups : List ℕ) → AllStay clock old new → workers ≡ new
      → name_works ≡ before → gave_ups ≡ counts → HaveEnded t clock old before counts → HaveEnded t clock workers name_works gave_ups
  ended_stay t clock old new workers before name_works counts gave_ups stay same same_name_works same_gave_ups e =
      let All : List (Worker H Part h) → Type 0 = λ ws. AllStay clock (crew e.ended) ws in
      record {
        ended = e.ended;
        asked = e.asked;
        stay = subst All (sym same) (all_chain clock (crew e.ended) old new e.stay stay);
        name_works_are = same_name_works ∙ e.name_works_are;
        gave_ups_are = same_gave_ups ∙ e.gave_ups_are;
      }
