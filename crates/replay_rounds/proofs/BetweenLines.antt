-- The lines between two rounds, one after another.
use Rattle.std.proofs.Common.{◌≡◌, ℕ, ◌+◌, ◌<◌, List, [], ◌∷◌, ◌++◌, refl, sym, ap, ◌∙◌, subst, length, map, take, get_or}
use Rattle.std.specs.Prelude.{OnOk, Result, Ok, Err}
use Rattle.std.proofs.lemmas.List.{take_more}
use Rattle.smr_clock.specs.declared.host.Host.{Ghosts}
use Rattle.trace_text.specs.declared.trace.Between.{Between}
use Rattle.trace_text.specs.declared.trace.Between.TheVariants.{Give, SetMax}
use Rattle.trace_text.specs.Lines.{Line, Moves}
use Rattle.trace_text.specs.Valid.{LinesFit}
use Rattle.replay_worker.specs.declared.worker_run.WorkerRun.{WorkerRun}
use Rattle.replay_worker.specs.Giving.{MovesOn}
use Rattle.replay_worker.specs.OwnLines.{stacked}
use Rattle.replay_worker.specs.Together.{AllStand, crew}
use Rattle.replay_worker.proofs.Alike.{LinesFit-front, LinesFit-back}
use Rattle.replay_worker.proofs.LimitSteps.{limit_moves}
use Rattle.replay_rounds.specs.Rounds.{AllMoved, IsMoved}
use Rattle.replay_rounds.proofs.RoundLines.{stacked-snoc}

module _ {N H C S Part : Type 0} {h : Ghosts H Part} where
  -- before the first one
  pub moved_none : (betweens : List Between) (workers : List (WorkerRun N H C S Part h)) → AllMoved (take 0 betweens) workers workers
  unfolding stacked
  moved_none betweens workers zones clock lines fit all = record { stand = all; adds_up = λ z adds. adds }

mapped : (xs : List Between) (b : Between) → map Moves (xs ++ b ∷ []) ≡ map Moves xs ++ Moves b ∷ []
mapped [] b = refl
mapped (x ∷ xs) b = ap (λ (lines : List Line). Moves x ∷ lines) (mapped xs b)

module _ {N H C S Part : Type 0} {h : Ghosts H Part} where
  -- a line that changes a limit leaves the workers as they are
  pub limit_moved : (zone limit : ℕ) (workers : List (WorkerRun N H C S Part h)) → IsMoved (SetMax zone limit) workers workers
  limit_moved zone limit workers zones clock lines fit all = limit_moves zones clock lines zone limit (crew workers) all

  -- a line that moves what a slot holds, which its call said of it
  pub give_moved : {T E : Type 0} (r : Result T E) (giver slot taker slot2 : ℕ) (old new : List (WorkerRun N H C S Part h)) → OnOk r (MovesOn giver slot taker slot2 old new) → OnOk r (IsMoved (Give giver slot taker slot2) old new)
  give_moved (Ok x) giver slot taker slot2 old new moves = λ zones clock lines fit all. moves zones clock lines fit.1 all
  give_moved (Err e) giver slot taker slot2 old new moves = tt

  one_behind : (xs : List Between) (b : Between) (old mid new : List (WorkerRun N H C S Part h)) → AllMoved xs old mid → IsMoved b mid new → AllMoved (xs ++ b ∷ []) old new
  one_behind xs b old mid new first next zones clock lines fit all =
      let fits = subst (LinesFit lines) (mapped xs b) fit in
      let so_far = first zones clock lines (LinesFit-front (map Moves xs) (Moves b ∷ []) lines fits) all in
      let now = next zones clock (stacked (map Moves xs) lines) (LinesFit-back (map Moves xs) (Moves b ∷ []) lines fits).0 so_far.stand in
      let P : List Line → Type 0 = λ on_top. AllStand zones clock on_top (crew new) in
      record {
        stand = subst P (sym (stacked-snoc (map Moves xs) (Moves b) lines) ∙ ap (λ ls. stacked ls lines) (sym (mapped xs b))) now.stand;
        adds_up = λ z adds. now.adds_up z (so_far.adds_up z adds);
      }

  -- with the next one
  pub moved_more : (betweens : List Between) (i : ℕ) (d : Between) (old mid new : List (WorkerRun N H C S Part h)) → i < length betweens → AllMoved (take i betweens) old mid → IsMoved (get_or betweens i d) mid new
      → AllMoved (take (i + 1) betweens) old new
  moved_more betweens i d old mid new below first next =
      let P : List Between → Type 0 = λ list. AllMoved list old new in
      subst P (sym (take_more betweens i d below)) (one_behind (take i betweens) (get_or betweens i d) old mid new first next)
