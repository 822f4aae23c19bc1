-- What the workers learn of the clock's hands, one after another.
use Rattle.std.proofs.Common.{◌≡◌, ℕ, ◌+◌, ◌<◌, ◌≤◌, inl, inr, List, [], ◌∷◌, Some, refl, sym, ap, ◌∙◌, subst, length, get_or}
use Rattle.std.proofs.Math.Nat.{le_refl}
use Rattle.std.proofs.lemmas.Option.{get_or_from_slice_get}
use Rattle.std.proofs.lemmas.List.{length-set}
use Rattle.std.specs.Prelude.{slice_get, slice_set, slice_index_or}
use Rattle.smr_clock.specs.declared.clock.Clock.{Clock}
use Rattle.smr_clock.specs.declared.pass.Note.{Note}
use Rattle.smr_clock.specs.declared.host.Host.{Ghosts}
use Rattle.smr_clock.specs.Belongs.{IsPassOf, setup_of}
use Rattle.smr_clock.specs.Notes.{note_holder}
use Rattle.replay_worker.specs.declared.worker.Worker.{Worker}
use Rattle.replay_worker.specs.Worker.{seen_of}
use Rattle.replay_rounds.proofs.Lists.{has_too, written}
use Rattle.replay_rounds.specs.Clock.{AllLearn, Gathers, Learns, LearnsAt, LooksAt, PassesOn, ReadsHands, TakesAt, floor_of}
use Rattle.replay_rounds.proofs.Heard.{one_at, first_set, heard, known, below_both, below_one, none_below, le_both, le_same}

module _ {H Part : Type 0} {h : Ghosts H Part} where
  learns_self : (clock : Clock H Part) (w : Worker H Part h) → IsPassOf clock w.pass → Learns clock w w
  learns_self clock w here = record { seats = refl; slots = refl; entered = refl; late = refl; here = here; phase = refl; seen = le_refl (seen_of w); floor = le_refl (floor_of w) }

  learns_more : (clock : Clock H Part) (a b c : Worker H Part h) → Learns clock a b → Learns clock b c → Learns clock a c
  learns_more clock a b c p q = record {
    seats = q.seats ∙ p.seats;
    slots = q.slots ∙ p.slots;
    entered = q.entered ∙ p.entered;
    late = q.late ∙ p.late;
    here = q.here;
    phase = q.phase ∙ p.phase;
    seen = le_both (seen_of a) (seen_of b) (seen_of c) p.seen q.seen;
    floor = le_both (floor_of a) (floor_of b) (floor_of c) p.floor q.floor;
  }

  learn_none : (clock : Clock H Part) (workers : List (Worker H Part h)) → ((n : ℕ) (w : Worker H Part h) → slice_get workers n ≡ Some w → IsPassOf clock w.pass) → AllLearn clock workers workers
  learn_none clock workers here = record {
    count = refl;
    each = λ n before after was is. let P : Worker H Part h → Type 0 = λ w. Learns clock before w in subst P (one_at workers n before after was is) (learns_self clock before (here n before was));
  }

  -- one more learned
  learn_step : (clock : Clock H Part) (i : ℕ) (old mid new : List (Worker H Part h)) (after : Worker H Part h) → AllLearn clock old mid → LearnsAt clock i mid new after → AllLearn clock old new
  learn_step clock i old mid new after all one = record {
    count = ap length one.set ∙ length-set mid i after ∙ all.count;
    each = λ n b a was is.
        let P : List (Worker H Part h) → Type 0 = λ l. slice_get l n ≡ Some a in
        elim (written mid i after n a (subst P one.set is)) [
          | inl here ↦
              let m = has_too mid old n b (sym all.count) was in
              let same : one.before ≡ m.0 = sym (one.at b) ∙ ap (λ (j : ℕ). get_or mid j b) (sym here.0) ∙ get_or_from_slice_get mid n m.0 b m.1 in
              let Q : Worker H Part h → Type 0 = λ w. Learns clock w after in
              let R : Worker H Part h → Type 0 = λ w. Learns clock m.0 w in
              learns_more clock b m.0 a (all.each n b m.0 was m.1) (subst R here.1 (subst Q same one.learns))
          | inr there ↦ all.each n b a was there.1
        ];
  }

  -- each pass is still of the clock
  pub here_after : (clock : Clock H Part) (old new : List (Worker H Part h)) → AllLearn clock old new → (n : ℕ) (w : Worker H Part h) → slice_get new n ≡ Some w → IsPassOf clock w.pass
  here_after clock old new all n w at = let b = has_too old new n w all.count at in (all.each n b.0 w b.1 at).here

  passed_on : (clock : Clock H Part) (k : ℕ) (old mid new : List (Worker H Part h)) → AllLearn clock old mid → PassesOn clock k mid new → AllLearn clock old new
  passed_on clock k old mid new all passes =
      learn_step clock 0 old passes.between new passes.takes.after (learn_step clock k old mid passes.between passes.gives.after all passes.gives.learns) passes.takes.learns

  -- before the first is told of another
  pub gathers_one : (clock : Clock H Part) (note : Note H Part h) (old new : List (Worker H Part h)) → ((n : ℕ) (w : Worker H Part h) → slice_get old n ≡ Some w → IsPassOf clock w.pass) → (setup_of clock).config.start ≤ (note_holder note).floor
      → TakesAt clock 0 old note new → Gathers clock 1 old new
  gathers_one clock note old new here begun takes = record {
    learn = learn_step clock 0 old old new takes.after (learn_none clock old here) takes.learns;
    seen = λ n f w below first at. le_same (seen_of w) (seen_of f) (ap seen_of (one_at new 0 w f (first_of_all n w below at) first));
    floor = λ n f w below first at. le_same (floor_of w) (floor_of f) (ap floor_of (one_at new 0 w f (first_of_all n w below at) first));
    start = λ f first.
        let P : List (Worker H Part h) → Type 0 = λ l. slice_get l 0 ≡ Some f in
        let Q : Worker H Part h → Type 0 = λ w. (setup_of clock).config.start ≤ floor_of w in
        subst Q (first_set old takes.after f (subst P takes.learns.set first)) (le_both (setup_of clock).config.start (note_holder note).floor (floor_of takes.after) begun takes.knows.floor);
  }
    where
      first_of_all : (n : ℕ) (w : Worker H Part h) → n < 1 → slice_get new n ≡ Some w → slice_get new 0 ≡ Some w
      first_of_all n w below at = let P : ℕ → Type 0 = λ j. slice_get new j ≡ Some w in subst P (below_one n below) at

module _ {H Part : Type 0} {h : Ghosts H Part} (clock : Clock H Part) (k : ℕ) (old mid new : List (Worker H Part h)) (g : Gathers clock k old mid) (passes : PassesOn clock k mid new) where
  both_set : new ≡ slice_set (slice_set mid k passes.gives.after) 0 passes.takes.after
  both_set = passes.takes.learns.set ∙ ap (λ (l : List (Worker H Part h)). slice_set l 0 passes.takes.after) passes.gives.learns.set

  learned : AllLearn clock mid new
  learned = passed_on clock k mid mid new (learn_none clock mid (here_after clock old mid g.learn)) passes

  -- at a place of the list that was set twice, and of the new one
  there : (n : ℕ) (w : Worker H Part h) → slice_get new n ≡ Some w → slice_get (slice_set (slice_set mid k passes.gives.after) 0 passes.takes.after) n ≡ Some w
  there n w at = let P : List (Worker H Part h) → Type 0 = λ l. slice_get l n ≡ Some w in subst P both_set at

  back : (n : ℕ) (w : Worker H Part h) → slice_get (slice_set (slice_set mid k passes.gives.after) 0 passes.takes.after) n ≡ Some w → slice_get new n ≡ Some w
  back n w at = let P : List (Worker H Part h) → Type 0 = λ l. slice_get l n ≡ Some w in subst P (sym both_set) at

  told_seen : seen_of passes.gives.after ≤ seen_of passes.takes.after
  told_seen = let P : ℕ → Type 0 = λ s. s ≤ seen_of passes.takes.after in subst P passes.gives.tells.seen passes.takes.knows.seen

  told_floor : floor_of passes.gives.after ≤ floor_of passes.takes.after
  told_floor = let P : ℕ → Type 0 = λ s. s ≤ floor_of passes.takes.after in subst P passes.gives.tells.floor passes.takes.knows.floor

  pub gathers_more : Gathers clock (k + 1) old new
  gathers_more = record {
    learn = passed_on clock k old mid new g.learn passes;
    seen = λ n f w below first at. heard seen_of k mid passes.gives.after passes.takes.after g.seen (λ a b was is. (learned.each 0 a b was (back 0 b is)).seen) told_seen n f w below (there 0 f first) (there n w at);
    floor = λ n f w below first at. heard floor_of k mid passes.gives.after passes.takes.after g.floor (λ a b was is. (learned.each 0 a b was (back 0 b is)).floor) told_floor n f w below (there 0 f first) (there n w at);
    start = λ f first.
        let b = has_too mid new 0 f learned.count first in
        le_both (setup_of clock).config.start (floor_of b.0) (floor_of f) (g.start b.0 b.1) (learned.each 0 b.0 f b.1 first).floor;
  }

module _ {H Part : Type 0} {h : Ghosts H Part} where
  at_zero : (l : List (Worker H Part h)) (x : Worker H Part h) → 0 < length l → ((d : Worker H Part h) → slice_index_or l 0 d ≡ x) → slice_get l 0 ≡ Some x
  at_zero [] x below is = absurd (none_below below)
  at_zero (y ∷ l) x below is = ap Some (is x)

  -- once all told it
  pub gathers_all : (clock : Clock H Part) (k : ℕ) (old mid : List (Worker H Part h)) → length old ≤ k → Gathers clock k old mid → Gathers clock (length old) old mid
  gathers_all clock k old mid enough g = record {
    learn = g.learn;
    seen = λ n f w below first at. g.seen n f w (below_both n (length old) k below enough) first at;
    floor = λ n f w below first at. g.floor n f w (below_both n (length old) k below enough) first at;
    start = g.start;
  }

-- once all others told it, and it looked
module _ {H Part : Type 0} {h : Ghosts H Part} (clock : Clock H Part) (old mid new : List (Worker H Part h)) (read write : ℕ) (some : 0 < length old) (g : Gathers clock (length old) old mid) (looks : LooksAt clock mid read write new) where
  as_many : length old ≡ length mid
  as_many = sym g.learn.count

  of_all : (know : Worker H Part h → ℕ) → ((n : ℕ) (f w : Worker H Part h) → n < length old → slice_get mid 0 ≡ Some f → slice_get mid n ≡ Some w → know w ≤ know f) → (n : ℕ) (f w : Worker H Part h) → n < length mid → slice_get mid 0 ≡ Some f → slice_get mid n ≡ Some w → know w ≤ know f
  of_all know each = let P : ℕ → Type 0 = λ m. (n : ℕ) (f w : Worker H Part h) → n < m → slice_get mid 0 ≡ Some f → slice_get mid n ≡ Some w → know w ≤ know f in subst P as_many each

  looked_at : LearnsAt clock 0 mid new looks.after
  looked_at = record { before = looks.before; at = looks.at; learns = looks.looks.learns; set = looks.set }

  pub all_learned : AllLearn clock old new
  all_learned = learn_step clock 0 old mid new looks.after g.learn looked_at

  there_set : (n : ℕ) (w : Worker H Part h) → slice_get new n ≡ Some w → slice_get (slice_set mid 0 looks.after) n ≡ Some w
  there_set n w at = let P : List (Worker H Part h) → Type 0 = λ l. slice_get l n ≡ Some w in subst P looks.set at

  -- who looked, before
  begun : slice_get mid 0 ≡ Some looks.before
  begun = at_zero mid looks.before (let P : ℕ → Type 0 = λ n. 0 < n in subst P as_many some) looks.at

  pub reads_hands : ReadsHands clock new read write
  reads_hands = record {
    first = λ w at. (let P : Worker H Part h → Type 0 = λ v. (seen_of v ≡ write) × (floor_of v ≡ read) in subst P (first_set mid looks.after w (there_set 0 w at)) (looks.looks.seen, looks.looks.floor));
    greatest_seen = λ n w at.
        let P : ℕ → Type 0 = λ s. seen_of w ≤ s in
        subst P looks.looks.seen (known seen_of mid looks.after n looks.before w (of_all seen_of g.seen) begun looks.looks.learns.seen (there_set n w at));
    greatest_floor = λ n w at.
        let P : ℕ → Type 0 = λ s. floor_of w ≤ s in
        subst P looks.looks.floor (known floor_of mid looks.after n looks.before w (of_all floor_of g.floor) begun looks.looks.learns.floor (there_set n w at));
    read_odd = looks.looks.read_odd;
    write_odd = looks.looks.write_odd;
    start =
        let P : ℕ → Type 0 = λ s. (setup_of clock).config.start ≤ s in
        subst P looks.looks.floor (le_both (setup_of clock).config.start (floor_of looks.before) (floor_of looks.after) (g.start looks.before begun) looks.looks.learns.floor);
    in_order = looks.looks.in_order;
    within = looks.looks.within;
  }
