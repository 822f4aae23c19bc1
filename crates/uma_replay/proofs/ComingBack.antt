-- Workers that came back where they were away.
use Rattle.std.proofs.Common.{◌≡◌, ℕ, ◌+◌, ◌<◌, inl, inr, List, [], ◌∷◌, ◌++◌, sym, ap, ◌∙◌, subst, arith, length-append, le_of_eq, map}
use Rattle.std.proofs.lemmas.List.{map-append}
use Rattle.std.proofs.lemmas.Option.{slice_get_within}
use Rattle.smr_clock.specs.declared.clock.Clock.{Clock}
use Rattle.smr_clock.specs.declared.host.Host.{Ghosts}
use Rattle.smr_clock.specs.declared.view.View.{View}
use Rattle.smr_clock.specs.Belongs.{IsPassOf}
use Rattle.replay_worker.specs.declared.worker_run.WorkerRun.{WorkerRun}
use Rattle.replay_worker.specs.declared.worker.Worker.{Worker}
use Rattle.replay_worker.specs.Attendance.{worker_in}
use Rattle.replay_worker.specs.Performs.{KeepsAll}
use Rattle.replay_worker.specs.Together.{crew}
use Rattle.replay_rounds.specs.Lending.{seen_slot}
use Rattle.uma_replay.specs.Playing.{AllBack, AllStay, ComesBack, Stays}
use Rattle.uma_replay.proofs.Pushed.{at_end}

never_past : {n a b : ℕ} {P : Type 0} → n < a → n ≡ b → b ≡ a → P
never_past below is same = absurd (omega arith)

one_longer : {a b c d : ℕ} → a ≡ c + 1 → b ≡ d + 1 → c ≡ d → a ≡ b
one_longer e f g = omega arith

module _ {H Part : Type 0} {h : Ghosts H Part} where
  comes_stay : (clock : Clock H Part) (old new : Worker H Part h) → ComesBack clock old new → Stays clock old new
  comes_stay clock old new comes = record {
    seats = comes.keeps.seats;
    slots = ap (map seen_slot) comes.keeps.slots;
    entered = comes.keeps.entered;
    late = comes.keeps.late;
    here = comes.here;
    phase = ap (λ (v : View Part). v.holder.phase) comes.keeps.known;
    seen = le_of_eq (sym (ap (λ (v : View Part). v.holder.seen) comes.keeps.known));
    floor = le_of_eq (sym (ap (λ (v : View Part). v.holder.floor) comes.keeps.known));
  }

  pub back_stay : (clock : Clock H Part) (old new : List (Worker H Part h)) → AllBack clock old new → AllStay clock old new
  back_stay clock old new back = record { count = back.count; each = λ n v w at at'. comes_stay clock v w (back.each n v w at at') }

  one_back : (clock : Clock H Part) (old new : List (Worker H Part h)) (v w : Worker H Part h) → AllBack clock old new → ComesBack clock v w → AllBack clock (old ++ v ∷ []) (new ++ w ∷ [])
  one_back clock old new v w back comes = record {
    count = one_longer (length-append new (w ∷ [])) (length-append old (v ∷ [])) back.count;
    each = λ n x y at at'. elim (at_end old v n x at) [
      | inl before ↦ elim (at_end new w n y at') [
        | inl before' ↦ back.each n x y before before'
        | inr last' ↦ never_past (slice_get_within old n x before) last'.0 back.count
      ]
      | inr last ↦ elim (at_end new w n y at') [
        | inl before' ↦ never_past (slice_get_within new n y before') last.0 (sym back.count)
        | inr last' ↦
            let P : Worker H Part h → Type 0 = λ a. ComesBack clock a y in
            let Q : Worker H Part h → Type 0 = λ b. ComesBack clock v b in
            subst P (sym last.1) (subst Q (sym last'.1) comes)
      ]
    ];
  }

pub pushed_map : {A B : Type 0} (f : A → B) (xs : List A) (x : A) (ys all : List B) → ys ≡ map f xs → all ≡ ys ++ f x ∷ [] → all ≡ map f (xs ++ x ∷ [])
pushed_map f xs x ys all is pushed = pushed ∙ (ap (λ list. list ++ f x ∷ []) is ∙ sym (map-append f xs (x ∷ [])))

module _ {N H C S Part : Type 0} {h : Ghosts H Part} where
  -- one more
  pub back_more : (clock : Clock H Part) (runs : List (WorkerRun N H C S Part h)) (workers all : List (Worker H Part h)) (r : WorkerRun N H C S Part h) (w : Worker H Part h) → AllBack clock (crew runs) workers
      → IsPassOf clock w.pass → KeepsAll (worker_in r) w → all ≡ workers ++ w ∷ [] → AllBack clock (crew (runs ++ r ∷ [])) all
  back_more clock runs workers all r w back here keeps pushed =
      let P : List (Worker H Part h) → Type 0 = λ list. AllBack clock list (workers ++ w ∷ []) in
      let Q : List (Worker H Part h) → Type 0 = λ list. AllBack clock (crew (runs ++ r ∷ [])) list in
      subst Q (sym pushed) (subst P (sym (map-append worker_in runs (r ∷ []))) (one_back clock (crew runs) workers (worker_in r) w back (record { here = here; keeps = keeps })))
