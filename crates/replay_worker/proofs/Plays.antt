-- What lines do one after another, with one line more at the end.
use Rattle.std.proofs.Common.{ℕ, ◌+◌, ◌<◌, List, [], ◌∷◌, ◌++◌, refl, sym, subst, length, take, get_or}
use Rattle.std.proofs.lemmas.List.{take_more}
use Rattle.smr_clock.specs.declared.host.Host.{Ghosts}
use Rattle.trace_text.specs.declared.trace.Op.{Op}
use Rattle.replay_worker.specs.declared.name_calls.NameCalls.{Ghosts as NameGhosts}
use Rattle.replay_worker.specs.Items.{CountedZone}
use Rattle.replay_worker.specs.NameLines.{LineState, DoesLine, DoesAll}

module _ {N H C S Part : Type 0} {h : Ghosts H Part} (names : NameGhosts N H C S Part) (cache : C) (zones : List (CountedZone H Part h)) where
  pub plays-none : (ops : List Op) (w : LineState N H C S Part h) → DoesAll names cache zones w (take 0 ops) w
  unfolding DoesAll
  plays-none [] w = refl
  plays-none (op ∷ ops) w = refl

  plays-snoc : (ops : List Op) (op : Op) (old now new : LineState N H C S Part h) → DoesAll names cache zones old ops now → DoesLine names cache zones now op new → DoesAll names cache zones old (ops ++ op ∷ []) new
  unfolding DoesAll
  plays-snoc [] op old now new same step =
      let P : LineState N H C S Part h → Type 0 = λ w. DoesLine names cache zones w op new in
      (new, subst P same step, refl)
  plays-snoc (first ∷ ops) op old now new plays step = (plays.0, plays.1, plays-snoc ops op plays.0 now new plays.2 step)

  pub plays-more : (i : ℕ) (ops : List Op) (d : Op) (old now new : LineState N H C S Part h) → i < length ops → DoesAll names cache zones old (take i ops) now → DoesLine names cache zones now (get_or ops i d) new
      → DoesAll names cache zones old (take (i + 1) ops) new
  plays-more i ops d old now new below plays step =
      let P : List Op → Type 0 = λ list. DoesAll names cache zones old list new in
      subst P (sym (take_more ops i d below)) (plays-snoc (take i ops) (get_or ops i d) old now new plays step)
