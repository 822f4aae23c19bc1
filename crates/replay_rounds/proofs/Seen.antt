-- Slots that got back what looks as what they lent look as before.
use Rattle.std.proofs.Common.{◌≡◌, ◌≤◌, ◌<◌, ℕ, zero, suc, Bool, true, false, cond, List, [], ◌∷◌, ◌++◌, length, get_or, map, Option, Some, None, refl, sym, ap, ◌∙◌, subst}
use Rattle.std.specs.Prelude.{option_to_list, slice_get}
use Rattle.std.proofs.lemmas.List.{get_or-map, map-append, length-map}
use Rattle.std.proofs.lemmas.Option.{none-some, same_Some, slice_get-get_or}
use Rattle.smr_clock.specs.declared.host.Host.{Ghosts}
use Rattle.uma_keg.specs.Lent.{Seen, seen_of, all_seen}
use Rattle.replay_worker.specs.declared.worker.Held.{Held}
use Rattle.replay_worker.specs.declared.worker.Worker.{Worker}
use Rattle.replay_worker.specs.declared.count_hooks.Counted.{Counted}
use Rattle.replay_worker.specs.Items.{LiveItem}
use Rattle.replay_rounds.specs.Lending.{seen_slot, KeepsWorker, KeepsWorkers}
use Rattle.replay_rounds.specs.Slots.{all_lent, all_marks, all_refilled, left_in, left_of, lender, lent_items, mark_of, marks_of, over, refilled, refilled_worker, MarksFit}
use Rattle.replay_rounds.proofs.Loops.{below_as, threaded-length}

-- the slots look as before, and the items that are left look as these
record GivesBack (of : ℕ → Bool) (old : List (Option Held)) (back : List LiveItem) (more : List (Seen Counted)) : Type 0 where
  slots : map seen_slot (refilled (marks_of of old) back (left_in of old)) ≡ map seen_slot old
  lives : all_seen (over (marks_of of old) back) ≡ more

no_cons : {A : Type 0} (x : A) (xs : List A) → [] ≡ x ∷ xs → ⊥
no_cons x xs same = cc

parts : {A : Type 0} (x y : A) (xs ys : List A) → x ∷ xs ≡ y ∷ ys → (x ≡ y) × (xs ≡ ys)
parts x y xs ys same = (cc, cc)

-- a slot that lent nothing
keeps : (of : ℕ → Bool) (old : List (Option Held)) (slot : Option Held) (back : List LiveItem) (more : List (Seen Counted)) → mark_of of slot ≡ None → left_of of slot ≡ slot → GivesBack of old back more → GivesBack of (slot ∷ old) back more
keeps of old slot back more none left is = record {
  slots = (λ i. map seen_slot (refilled (none i ∷ marks_of of old) back (left i ∷ left_in of old))) ∙ ap (λ l. seen_slot slot ∷ l) is.slots;
  lives = ap (λ m. all_seen (over (m ∷ marks_of of old) back)) none ∙ is.lives;
}

-- a slot that lent its item gets one that looks the same
takes : (of : ℕ → Bool) (old : List (Option Held)) (it : Held) (item : LiveItem) (back : List LiveItem) (more : List (Seen Counted)) → mark_of of (Some it) ≡ Some it.zone → left_of of (Some it) ≡ None → seen_of item ≡ seen_of it.item
    → GivesBack of old back more → GivesBack of (Some it ∷ old) (item ∷ back) more
takes of old it item back more marked left same is = record {
  slots = (λ i. map seen_slot (refilled (marked i ∷ marks_of of old) (item ∷ back) (left i ∷ left_in of old)))
      ∙ ap (λ s. Some (it.zone, s) ∷ map seen_slot (refilled (marks_of of old) back (left_in of old))) same ∙ ap (λ l. seen_slot (Some it) ∷ l) is.slots;
  lives = ap (λ m. all_seen (over (m ∷ marks_of of old) (item ∷ back))) marked ∙ is.lives;
}

-- a slot that holds an item, by whether it is lent
held_same : (of : ℕ → Bool) (old : List (Option Held)) (it : Held) (b : Bool) → of it.zone ≡ b → (back : List LiveItem) (more : List (Seen Counted))
    → all_seen back ≡ all_seen (option_to_list (cond b (Some it.item) None) ++ lent_items of old) ++ more
    → ((rest : List LiveItem) → all_seen rest ≡ all_seen (lent_items of old) ++ more → GivesBack of old rest more) → GivesBack of (Some it ∷ old) back more
held_same of old it false is back more seen rest =
    keeps of old (Some it) back more (ap (λ b. cond b (Some it.zone) None) is) (ap (λ b. cond b None (Some it)) is) (rest back seen)
held_same of old it true is [] more seen rest = absurd (no_cons (seen_of it.item) (all_seen (lent_items of old) ++ more) seen)
held_same of old it true is (item ∷ back) more seen rest =
    let both = parts (seen_of item) (seen_of it.item) (all_seen back) (all_seen (lent_items of old) ++ more) seen in
    takes of old it item back more (ap (λ b. cond b (Some it.zone) None) is) (ap (λ b. cond b None (Some it)) is) both.0 (rest back both.1)

gives_back : (of : ℕ → Bool) (old : List (Option Held)) (back : List LiveItem) (more : List (Seen Counted)) → all_seen back ≡ all_seen (lent_items of old) ++ more → GivesBack of old back more
gives_back of [] back more seen = record { slots = refl; lives = seen }
gives_back of (None ∷ old) back more seen = keeps of old None back more refl refl (gives_back of old back more seen)
gives_back of (Some it ∷ old) back more seen =
    let is : all_seen back ≡ all_seen (option_to_list (cond (of it.zone) (Some it.item) None) ++ lent_items of old) ++ more = seen in
    held_same of old it (of it.zone) refl back more is (λ rest same. gives_back of old rest more same)

module _ {H Part : Type 0} {h : Ghosts H Part} where
  -- ---- all workers

  keeps_worker : (of : ℕ → Bool) (w : Worker H Part h) (back : List LiveItem) → map seen_slot (refilled (marks_of of w.slots) back (left_in of w.slots)) ≡ map seen_slot w.slots → KeepsWorker w (refilled_worker (marks_of of w.slots) back (lender of w))
  keeps_worker of w back slots = record { pass = refl; seats = refl; slots = slots; entered = refl; late = refl }

  each_same : (of : ℕ → Bool) (workers : List (Worker H Part h)) (back : List LiveItem) → all_seen back ≡ all_seen (all_lent of workers)
      → (n : ℕ) (before after : Worker H Part h) → slice_get workers n ≡ Some before → slice_get (all_refilled (all_marks of workers) back (map (lender of) workers)) n ≡ Some after → KeepsWorker before after
  each_same of [] back seen n before after at then = absurd (none-some before at)
  each_same of (w ∷ workers) back seen zero before after at then =
      let split : all_seen back ≡ all_seen (lent_items of w.slots) ++ all_seen (all_lent of workers) = seen ∙ map-append seen_of (lent_items of w.slots) (all_lent of workers) in
      let kept = keeps_worker of w back (gives_back of w.slots back (all_seen (all_lent of workers)) split).slots in
      let P : Worker H Part h → Type 0 = λ x. KeepsWorker x after in
      let Q : Worker H Part h → Type 0 = λ x. KeepsWorker w x in
      subst P (same_Some w before at) (subst Q (same_Some (refilled_worker (marks_of of w.slots) back (lender of w)) after then) kept)
  each_same of (w ∷ workers) back seen (suc n) before after at then =
      let split : all_seen back ≡ all_seen (lent_items of w.slots) ++ all_seen (all_lent of workers) = seen ∙ map-append seen_of (lent_items of w.slots) (all_lent of workers) in
      each_same of workers (over (marks_of of w.slots) back) (gives_back of w.slots back (all_seen (all_lent of workers)) split).lives n before after at then

  -- what the census gave back, in reverse and then the last first
  pub all_same : (of : ℕ → Bool) (workers now : List (Worker H Part h)) (back : List LiveItem) → all_seen back ≡ all_seen (all_lent of workers) → now ≡ all_refilled (all_marks of workers) back (map (lender of) workers) → KeepsWorkers workers now
  all_same of workers now back seen is =
      let P : List (Worker H Part h) → Type 0 = λ list. KeepsWorkers workers list in
      subst P (sym is)
      (record {
        count = threaded-length refilled_worker over (all_marks of workers) back (map (lender of) workers) ∙ length-map workers (lender of);
        each = each_same of workers back seen;
      })

-- ---- the marks are as many as the slots

one_fits : (of : ℕ → Bool) (slots : List (Option Held)) → length (marks_of of slots) ≡ length (left_in of slots)
one_fits of slots = length-map slots (mark_of of) ∙ sym (length-map slots (left_of of))

module _ {H Part : Type 0} {h : Ghosts H Part} where
  all_fit : (of : ℕ → Bool) (workers : List (Worker H Part h)) → map length (all_marks of workers) ≡ map (λ (w : Worker H Part h). length w.slots) (map (lender of) workers)
  all_fit of [] = refl
  all_fit of (w ∷ workers) = λ i. one_fits of w.slots i ∷ all_fit of workers i

  few_marks : (of : ℕ → Bool) (workers : List (Worker H Part h)) → ((n : ℕ) (w : Worker H Part h) → slice_get workers n ≡ Some w → length w.slots ≤ 65536) → (n : ℕ) (m : List (Option ℕ)) → slice_get (all_marks of workers) n ≡ Some m → length m ≤ 65536
  few_marks of [] few n m at = absurd (none-some m at)
  few_marks of (w ∷ workers) few zero m at =
      let P : ℕ → Type 0 = λ k. k ≤ 65536 in
      let same : length w.slots ≡ length m = sym (length-map w.slots (mark_of of)) ∙ ap length (same_Some (marks_of of w.slots) m at) in
      subst P same (few zero w refl)
  few_marks of (w ∷ workers) few (suc n) m at = few_marks of workers (λ k v there. few (suc k) v there) n m at

  pub marks_fit : (of : ℕ → Bool) (workers : List (Worker H Part h)) → ((n : ℕ) (w : Worker H Part h) → slice_get workers n ≡ Some w → length w.slots ≤ 65536) → MarksFit (all_marks of workers) (map (lender of) workers)
  marks_fit of workers few = record { same = all_fit of workers; few = few_marks of workers few }

  same_length : (marks : List (List (Option ℕ))) (workers : List (Worker H Part h)) → MarksFit marks workers → length marks ≡ length workers
  same_length marks workers fit = sym (length-map marks length) ∙ ap length fit.same ∙ length-map workers (λ (w : Worker H Part h). length w.slots)

  pub worker_within : (marks : List (List (Option ℕ))) (workers : List (Worker H Part h)) (i : ℕ) → MarksFit marks workers → i < length marks → i < length workers
  worker_within marks workers i fit below = below_as i (length marks) (length workers) below (same_length marks workers fit)

  -- a worker's marks are as many as its slots
  pub marks_at : (marks : List (List (Option ℕ))) (workers : List (Worker H Part h)) (i : ℕ) (m : List (Option ℕ)) (w : Worker H Part h) → MarksFit marks workers → i < length marks → length (get_or marks i m) ≡ length (get_or workers i w).slots
  marks_at marks workers i m w fit below =
      sym (get_or-map length marks i m 0 below) ∙ ap (λ l. get_or l i 0) fit.same ∙ get_or-map (λ (w : Worker H Part h). length w.slots) workers i w 0 (worker_within marks workers i fit below)

  pub few_at : (marks : List (List (Option ℕ))) (workers : List (Worker H Part h)) (i : ℕ) (m : List (Option ℕ)) → MarksFit marks workers → i < length marks → length (get_or marks i m) ≤ 65536
  few_at marks workers i m fit below = fit.few i (get_or marks i m) (slice_get-get_or marks i m below)
