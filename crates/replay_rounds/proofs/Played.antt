-- From one round to the next, and from the first to the last.
use Rattle.std.proofs.Common.{◌≡◌, ℕ, ◌+◌, ◌<◌, ◌≤◌, List, [], ◌∷◌, refl, sym, ap, ◌∙◌, subst, length, map, reverse}
use Rattle.std.proofs.lemmas.Option.{same_Some}
use Rattle.std.specs.Prelude.{All, Result, Ok, Err, OnOk}
use Rattle.smr_clock.specs.declared.clock.Clock.{Clock}
use Rattle.smr_clock.specs.declared.host.Host.{Ghosts}
use Rattle.trace_text.specs.declared.trace.Between.{Between}
use Rattle.trace_text.specs.declared.trace.Trace.{Trace}
use Rattle.trace_text.specs.Lines.{Line, Moves, lines_of}
use Rattle.trace_text.specs.Reading.{is_away}
use Rattle.replay_worker.specs.declared.name_calls.NameCalls.{Ghosts as NameGhosts}
use Rattle.replay_worker.specs.declared.name_work.NameWork.{NameWork}
use Rattle.replay_worker.specs.declared.worker_run.WorkerRun.{WorkerRun}
use Rattle.replay_worker.specs.declared.worker.Worker.{Worker}
use Rattle.replay_worker.specs.Attendance.{worker_in}
use Rattle.replay_worker.specs.Giving.{KeepsRest, with_slots}
use Rattle.replay_worker.specs.Items.{CountedZone}
use Rattle.replay_worker.specs.NamesStand.{NamesStand}
use Rattle.replay_worker.specs.OwnLines.{stacked, lines_before}
use Rattle.replay_worker.specs.Together.{AllAbsent, AllNamed}
use Rattle.replay_worker.proofs.Attending.{same_bare, same_out}
use Rattle.replay_worker.proofs.LineCounts.{binds-more, looks-more, unbinds-more}
use Rattle.replay_rounds.specs.DoneBy.{done_by}
use Rattle.replay_rounds.specs.Parts.{after_workers, betweens_of}
use Rattle.replay_rounds.specs.Rounds.{AllAsked, AllMoved, AllWorked, AreAfter, GaveUpAsBefore, HasEnded, IsBegun, FitsTrace}
use Rattle.replay_rounds.proofs.AfterRound.{SameNumbers, absent_after, turns, stand_after, named_after, named_as, asked_after}
use Rattle.replay_rounds.proofs.Bounds.{some_of, none_done, none_asked, none_given_up, done_as, asked_as}
use Rattle.replay_rounds.proofs.Items.{adds_after}
use Rattle.replay_rounds.proofs.RoundLists.{before, map-same}
use Rattle.replay_rounds.proofs.RoundLines.{betweens_fit, lines_before-all, lines_before-more, none_before}
use Rattle.replay_rounds.proofs.SameFor.{done_by-more, done_by-none, none_counted}

module _ {N H C S Part : Type 0} {h : Ghosts H Part} (names : NameGhosts N H C S Part) (cache : C) where
  -- there is a worker
  pub some_workers : (t : Trace) (zones : List (CountedZone H Part h)) (clock : Clock H Part) (workers : List (WorkerRun N H C S Part h)) → FitsTrace names cache t zones clock workers → 0 < length workers
  some_workers t zones clock workers suits = some_of suits.worker_count suits.valid.head.workers.0

-- ---- the lines between two rounds leave the counts as they are

done_by-moves : (n : ℕ) (betweens : List Between) (lines : List Line) → done_by n (stacked (map Moves betweens) lines) ≡ done_by n lines
unfolding stacked
done_by-moves n [] lines = refl
done_by-moves n (b ∷ betweens) lines = done_by-moves n betweens (Moves b ∷ lines) ∙ none_counted (done_by-more n (Moves b) lines) refl

same_numbers-moves : (n : ℕ) (betweens : List Between) (lines : List Line) → SameNumbers n (stacked (map Moves betweens) lines) lines
unfolding stacked
same_numbers-moves n [] lines = record { looks_same = refl; binds_same = refl; unbinds_same = refl }
same_numbers-moves n (b ∷ betweens) lines =
    let rest = same_numbers-moves n betweens (Moves b ∷ lines) in
    record {
      looks_same = rest.looks_same ∙ none_counted (looks-more n (Moves b) lines) refl;
      binds_same = rest.binds_same ∙ none_counted (binds-more n (Moves b) lines) refl;
      unbinds_same = rest.unbinds_same ∙ none_counted (unbinds-more n (Moves b) lines) refl;
    }

module _ {N H C S Part : Type 0} {h : Ghosts H Part} (names : NameGhosts N H C S Part) (cache : C) where
  named_moved : (betweens : List Between) (lines : List Line) (old new : List (WorkerRun N H C S Part h)) → KeepsRest old new → AllNamed names cache lines old → AllNamed names cache (stacked (map Moves betweens) lines) new
  named_moved betweens lines old new keeps named n r at =
      let b = before (λ (x : WorkerRun N H C S Part h). with_slots x []) old new n r keeps at in
      let P : ℕ → Type 0 = λ late. NamesStand names cache n (stacked (map Moves betweens) lines) late r.name_work in
      let Q : NameWork N H C S Part → Type 0 = λ name_work. NamesStand names cache n (stacked (map Moves betweens) lines) (worker_in b.was).late name_work in
      subst P (sym (ap (λ (w : Worker H Part h). w.late) (same_bare r b.was b.same)))
      (subst Q (sym (ap (λ (x : WorkerRun N H C S Part h). x.name_work) b.same))
      (named_as names cache n (stacked (map Moves betweens) lines) lines (worker_in b.was).late b.was.name_work (same_numbers-moves n betweens lines) (named n b.was b.at)))

is_away-moves : (n : ℕ) (betweens : List Between) (lines : List Line) → is_away (stacked (map Moves betweens) lines) n ≡ is_away lines n
unfolding stacked
is_away-moves n [] lines = refl
is_away-moves n (b ∷ betweens) lines = is_away-moves n betweens (Moves b ∷ lines)

module _ {N H C S Part : Type 0} {h : Ghosts H Part} where
  absent_moved : (betweens : List Between) (lines : List Line) (old new : List (WorkerRun N H C S Part h)) → KeepsRest old new → AllAbsent lines old → AllAbsent (stacked (map Moves betweens) lines) new
  absent_moved betweens lines old new keeps absent n r at =
      let b = before (λ (x : WorkerRun N H C S Part h). with_slots x []) old new n r keeps at in
      same_out r b.was b.same ∙ (absent n b.was b.at ∙ sym (is_away-moves n betweens lines))

  asked_moved : (betweens : List Between) (lines : List Line) (old new : List (WorkerRun N H C S Part h)) → KeepsRest old new → AllAsked lines old → AllAsked (stacked (map Moves betweens) lines) new
  asked_moved betweens lines old new keeps asked n r at =
      let b = before (λ (x : WorkerRun N H C S Part h). with_slots x []) old new n r keeps at in
      let was = asked n b.was b.at in
      let done = done_by-moves n betweens lines in
      record {
        asked_some = done_as done (ap (λ (x : WorkerRun N H C S Part h). x.asked) b.same) was.asked_some;
        asked_few = asked_as (ap (λ (x : WorkerRun N H C S Part h). x.asked) b.same) done was.asked_few;
        gave_up_few = done_as (ap (λ (x : WorkerRun N H C S Part h). x.gave_up) b.same) done was.gave_up_few;
      }

  gave_up_kept : (old new : List (WorkerRun N H C S Part h)) → length new ≡ length old → KeepsRest old new → GaveUpAsBefore old new
  gave_up_kept old new size keeps = map-same (λ (x : WorkerRun N H C S Part h). x.gave_up) old new size (λ n was is at now.
      let b = before (λ (x : WorkerRun N H C S Part h). with_slots x []) old new n is keeps now in
      ap (λ (x : WorkerRun N H C S Part h). x.gave_up) b.same ∙ ap (λ (x : WorkerRun N H C S Part h). x.gave_up) (same_Some b.was was (sym b.at ∙ at)))

  pub still_free : (old mid new : List (WorkerRun N H C S Part h)) → length new ≡ length mid → KeepsRest mid new → GaveUpAsBefore old mid → GaveUpAsBefore old new
  still_free old mid new size keeps same = gave_up_kept mid new size keeps ∙ same

module _ {N H C S Part : Type 0} {h : Ghosts H Part} (names : NameGhosts N H C S Part) (cache : C) where
  -- ---- a whole round

  pub after_round : (t : Trace) (zones : List (CountedZone H Part h)) (clock : Clock H Part) (k : ℕ) (old mid new : List (WorkerRun N H C S Part h)) → FitsTrace names cache t zones clock old → AreAfter names cache zones clock (lines_before t.rounds k) old
      → length mid ≡ length old → All HasEnded mid → AllWorked names cache t zones clock k old mid → KeepsRest mid new → AllMoved (betweens_of t.rounds k) mid new
      → AreAfter names cache zones clock (lines_before t.rounds (k + 1)) new
  after_round t zones clock k old mid new suits after size ended worked keeps moved =
      let done = turns names cache t zones clock k old mid size ended worked in
      let now = moved zones clock (after_workers t.rounds k) (betweens_fit t.rounds k suits.valid.lines) (stand_after names cache t zones clock k old mid done) in
      let P : List Line → Type 0 = λ lines. AreAfter names cache zones clock lines new in
      subst P (sym (lines_before-more t.rounds k)) record {
        stand = now.stand;
        adds_up = λ z. now.adds_up z (adds_after names cache t zones clock k old mid done z after.stand (after.adds_up z));
        named = named_moved names cache (betweens_of t.rounds k) (after_workers t.rounds k) mid new keeps (named_after names cache t zones clock k old mid done);
        absent = absent_moved (betweens_of t.rounds k) (after_workers t.rounds k) mid new keeps (absent_after names cache t zones clock k old mid done);
        asked = asked_moved (betweens_of t.rounds k) (after_workers t.rounds k) mid new keeps (asked_after names cache t zones clock k old mid done after.asked);
      }

  -- ---- the first round and the last

  pub begun : (t : Trace) (zones : List (CountedZone H Part h)) (clock : Clock H Part) (workers : List (WorkerRun N H C S Part h)) → IsBegun names cache zones clock workers → AreAfter names cache zones clock (lines_before t.rounds 0) workers
  begun t zones clock workers ready =
      let P : List Line → Type 0 = λ lines. AreAfter names cache zones clock lines workers in
      subst P (sym (none_before t.rounds)) record {
        stand = ready.stand;
        adds_up = ready.adds_up;
        named = ready.named;
        absent = ready.absent;
        asked = λ n r at. record {
          asked_some = none_done (done_by-none n);
          asked_few = none_asked (done_by n []) (ready.unasked n r at).0;
          gave_up_few = none_given_up (done_by n []) (ready.unasked n r at).1;
        };
      }

  pub ended : (t : Trace) (zones : List (CountedZone H Part h)) (clock : Clock H Part) (k : ℕ) (workers : List (WorkerRun N H C S Part h)) → length t.rounds ≤ k → AreAfter names cache zones clock (lines_before t.rounds k) workers
      → AreAfter names cache zones clock (reverse (lines_of t.rounds)) workers
  ended t zones clock k workers past after =
      let P : List Line → Type 0 = λ lines. AreAfter names cache zones clock lines workers in
      subst P (lines_before-all t.rounds k past) after

-- ---- what holds where a call answers Ok

pub both_ok : {T E : Type 0} (r : Result T E) (P Q W : Type 0) → OnOk r P → OnOk r Q → (P → Q → W) → OnOk r W
both_ok (Ok x) P Q W p q both = both p q
both_ok (Err e) P Q W p q both = p

pub three_ok : {T E P Q R W : Type 0} (r : Result T E) → (P → Q → R → W) → OnOk r P → OnOk r Q → OnOk r R → OnOk r W
three_ok (Ok x) all p q s = all p q s
three_ok (Err e) all p q s = tt
