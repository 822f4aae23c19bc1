-- The steps of all workers, and what they are at each one's seats, from what the workers did together.
use Rattle.std.proofs.Common.{◌≡◌, ℕ, List, [], ◌∷◌, ◌++◌, Option, None, Some, length, get_or, map, refl, sym, ap, ◌∙◌, subst}
use Rattle.std.proofs.lemmas.List.{length-map}
use Rattle.std.proofs.lemmas.Option.{none-some, same_Some}
use Rattle.std.specs.Prelude.{slice_get}
use Rattle.smr_clock.specs.declared.host.Host.{Ghosts}
use Rattle.trace_text.specs.declared.trace.Between.{Between}
use Rattle.trace_text.specs.declared.trace.Between.TheVariants.{Give, SetMax}
use Rattle.trace_text.specs.declared.trace.Op.{Op}
use Rattle.trace_text.specs.declared.trace.Round.{Round}
use Rattle.replay_worker.specs.declared.name_calls.NameCalls.{Ghosts as NameGhosts}
use Rattle.replay_worker.specs.declared.name_work.NameWork.{NameWork}
use Rattle.replay_worker.specs.declared.worker_run.WorkerRun.{WorkerRun}
use Rattle.replay_worker.specs.declared.worker.Worker.{Worker}
use Rattle.replay_worker.specs.Giving.{KeepsRest, with_slots}
use Rattle.replay_worker.specs.Items.{CountedZone}
use Rattle.replay_worker.specs.NameLines.{LineState, DoesAll, line_state}
use Rattle.replay_worker.proofs.Attending.{same_bare}
use Rattle.replay_worker.proofs.GiveSums.{rest_gives}
use Rattle.replay_rounds.specs.Betweens.{DoBetweens, DoRounds}
use Rattle.replay_rounds.specs.Parts.{ops_in}
use Rattle.replay_rounds.proofs.RoundLists.{at_other, before}
use Rattle.uma_replay.specs.Steps.{AreRounds, AreSteps, Step, steps_of}
use Rattle.uma_replay.proofs.NameStory as name_story
use Rattle.uma_replay.proofs.SeatLines.{Stories, step_by, stories-append, stories-cons, stories-none}

module _ {N H C S Part : Type 0} {h : Ghosts H Part} where
  abbrev bare : WorkerRun N H C S Part h → WorkerRun N H C S Part h
  bare r = with_slots r []

  -- the lines between two rounds leave all but slots
  betweens_rest : (zones : List (CountedZone H Part h)) (betweens : List Between) (old new : List (WorkerRun N H C S Part h)) → DoBetweens zones betweens old new → KeepsRest old new
  unfolding DoBetweens
  betweens_rest zones [] old new same = ap (map bare) same
  betweens_rest zones (Give giver slot taker slot2 ∷ betweens) old new did = betweens_rest zones betweens did.0 new did.2 ∙ rest_gives giver slot taker slot2 old did.0 did.1
  betweens_rest zones (SetMax zone limit ∷ betweens) old new did = betweens_rest zones betweens did.0 new did.2 ∙ ap (map bare) did.1.1

  rest_count : (old new : List (WorkerRun N H C S Part h)) → KeepsRest old new → length new ≡ length old
  rest_count old new keeps = sym (length-map new bare) ∙ (ap length keeps ∙ length-map old bare)

module _ {N H C S Part : Type 0} {h : Ghosts H Part} (names : NameGhosts N H C S Part) (cache : C) (zones : List (CountedZone H Part h)) where
  -- what the steps are at each of the worker's seats, and of names
  pub record Tells (steps : List (Step N H C S Part h)) (old new : LineState N H C S Part h) : Type 0 where
    pub seats : Stories zones steps old new
    pub name_lines : name_story.Story names cache steps old.name_work new.name_work

  tells-none : (old new : LineState N H C S Part h) → new ≡ old → Tells [] old new
  tells-none old new same = record {
    seats = stories-none zones old new (ap (λ (d : LineState N H C S Part h). d.worker.seats) same);
    name_lines = name_story.story-none names cache old.name_work new.name_work (ap (λ (d : LineState N H C S Part h). d.name_work) same);
  }

  tells-append : (steps more : List (Step N H C S Part h)) (old mid next new : LineState N H C S Part h) → next.worker.seats ≡ mid.worker.seats → next.name_work ≡ mid.name_work → Tells steps old mid → Tells more next new → Tells (steps ++ more) old new
  tells-append steps more old mid next new seats name_work first rest =
      let P : NameWork N H C S Part → Type 0 = λ n. name_story.Story names cache steps old.name_work n in
      record {
        seats = stories-append zones steps more old mid next new seats first.seats rest.seats;
        name_lines = name_story.story-append names cache steps more old.name_work next.name_work new.name_work (subst P (sym name_work) first.name_lines) rest.name_lines;
      }

  -- a worker's own list in a round
  record Walk (ops : List Op) (old new : LineState N H C S Part h) : Type 0 where
    steps : List (Step N H C S Part h)
    are : AreSteps names cache zones ops old steps new
    tells : Tells steps old new

  walk : (ops : List Op) (old new : LineState N H C S Part h) → DoesAll names cache zones old ops new → Walk ops old new
  unfolding DoesAll
  walk [] old new same = record {
    steps = [];
    are = same;
    tells = tells-none old new same;
  }
  walk (op ∷ ops) old new did =
      let rest = walk ops did.0 new did.2 in
      record {
        steps = step_by op old did.0 ∷ rest.steps;
        are = (refl, refl, did.1, rest.are);
        tells = record {
          seats = stories-cons names cache zones op rest.steps old did.0 new did.1.changes rest.tells.seats;
          name_lines = name_story.story-cons names cache zones op rest.steps old did.0 new.name_work did.1.changes rest.tells.name_lines;
        };
      }

  -- ---- the turns of a round, by the worker's place before and after it

  abbrev Turns : List Op → Option (WorkerRun N H C S Part h) → Option (WorkerRun N H C S Part h) → Type 0
  Turns ops o p = (was is : WorkerRun N H C S Part h) → o ≡ Some was → p ≡ Some is → DoesAll names cache zones (line_state was) ops (line_state is)

  abbrev turn_steps : (ops : List Op) (o p : Option (WorkerRun N H C S Part h)) → Turns ops o p → List (Step N H C S Part h)
  turn_steps ops None p each = []
  turn_steps ops (Some was) None each = []
  turn_steps ops (Some was) (Some is) each = (walk ops (line_state was) (line_state is) (each was is refl refl)).steps

  record IsTurn (ops : List Op) (was is : WorkerRun N H C S Part h) (steps : List (Step N H C S Part h)) : Type 0 where
    are : AreSteps names cache zones ops (line_state was) steps (line_state is)
    tells : Tells steps (line_state was) (line_state is)

  is_turn : (ops : List Op) (o p : Option (WorkerRun N H C S Part h)) (each : Turns ops o p) (was is : WorkerRun N H C S Part h) → o ≡ Some was → p ≡ Some is → IsTurn ops was is (turn_steps ops o p each)
  is_turn ops None p each was is at now = absurd (none-some was at)
  is_turn ops (Some first) None each was is at now = absurd (none-some is now)
  is_turn ops (Some first) (Some last) each was is at now =
      let w = walk ops (line_state first) (line_state last) (each first last refl refl) in
      let one : IsTurn ops first last w.steps = record { are = w.are; tells = w.tells } in
      let P : WorkerRun N H C S Part h → Type 0 = λ r. IsTurn ops r last w.steps in
      let Q : WorkerRun N H C S Part h → Type 0 = λ r. IsTurn ops was r w.steps in
      subst Q (same_Some last is now) (subst P (same_Some first was at) one)

  -- ---- all rounds

  pub record Walks (rounds : List Round) (old new : List (WorkerRun N H C S Part h)) : Type 0 where
    pub steps : List (ℕ → List (Step N H C S Part h))
    pub are : AreRounds names cache zones rounds old steps new
    pub count : length new ≡ length old
    pub each : (n : ℕ) (was is : WorkerRun N H C S Part h) → slice_get old n ≡ Some was → slice_get new n ≡ Some is → Tells (steps_of n steps) (line_state was) (line_state is)

  pub walks : (rounds : List Round) (old new : List (WorkerRun N H C S Part h)) → DoRounds names cache zones rounds old new → Walks rounds old new
  unfolding DoRounds
  walks [] old new same = record {
    steps = [];
    are = same;
    count = ap length same;
    each = λ n was is at now.
        let one : is ≡ was = same_Some is was (sym now ∙ (ap (λ (list : List (WorkerRun N H C S Part h)). slice_get list n) same ∙ at)) in
        tells-none (line_state was) (line_state is) (ap (λ (r : WorkerRun N H C S Part h). line_state r) one);
  }
  walks (r ∷ rounds) old new did =
      let next = did.0 in
      let round = did.1 in
      let rest = walks rounds next new did.2 in
      let keeps : KeepsRest round.worked next = betweens_rest zones r.between round.worked next round.behind in
      let own : ℕ → List (Step N H C S Part h) = λ n. turn_steps (ops_in r n) (slice_get old n) (slice_get round.worked n) (round.each n) in
      record {
        steps = own ∷ rest.steps;
        are = (
          next,
          record {
            worked = round.worked;
            count = round.count;
            each = λ n was is at now. (is_turn (ops_in r n) (slice_get old n) (slice_get round.worked n) (round.each n) was is at now).are;
            behind = round.behind;
          },
          rest.are,
        );
        count = rest.count ∙ (rest_count round.worked next keeps ∙ round.count);
        each = λ n was is at now.
            let mid = get_or next n is in
            let at_mid = at_other next new n is rest.count now in
            let b = before bare round.worked next n mid keeps at_mid in
            let first = (is_turn (ops_in r n) (slice_get old n) (slice_get round.worked n) (round.each n) was b.was at b.at).tells in
            tells-append (own n) (steps_of n rest.steps) (line_state was) (line_state b.was) (line_state mid) (line_state is) (ap (λ (w : Worker H Part h). w.seats) (same_bare mid b.was b.same)) (ap (λ (r : WorkerRun N H C S Part h). r.name_work) b.same) first (rest.each n mid is at_mid now);
      }
