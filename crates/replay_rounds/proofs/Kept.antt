-- What stays of the workers whose items were lent to a census and put back.
use Rattle.std.proofs.Common.{◌≡◌, ℕ, zero, suc, ◌+◌, ◌<◌, ◌≤◌, List, [], ◌∷◌, Bool, true, false, cond, Option, None, Some, refl, sym, ap, ◌∙◌, subst, length, map}
use Rattle.std.proofs.lemmas.List.{length-map}
use Rattle.std.proofs.lemmas.Option.{same_Some, none-some}
use Rattle.std.specs.Prelude.{◌==◌, slice_get}
use Rattle.std.specs.List.{sum_by}
use Rattle.std.specs.Option.{option_map_or}
use Rattle.smr_clock.specs.declared.clock.Clock.{Clock}
use Rattle.smr_clock.specs.declared.pass.Pass.{Pass}
use Rattle.smr_clock.specs.declared.host.Host.{Ghosts}
use Rattle.trace_text.specs.declared.trace.ZoneHead.{ZoneHead}
use Rattle.uma_keg.specs.Lent.{Seen, seen_of as seen_item}
use Rattle.uma_life.specs.Hook.{Hook}
use Rattle.uma_life.specs.Sum.{times_of}
use Rattle.uma_seat.specs.Sums.{times_in_seat, deferred_in_seat}
use Rattle.uma_zone.specs.Zone.{zone_home}
use Rattle.replay_worker.specs.declared.worker.Held.{Held}
use Rattle.replay_worker.specs.declared.worker.Worker.{Worker}
use Rattle.replay_worker.specs.declared.count_hooks.Counted.{Counted}
use Rattle.replay_worker.specs.Items.{counted_life, CountedZone, LiveItem}
use Rattle.replay_worker.specs.Live.{is_of, item_of, live_count, lives_of}
use Rattle.replay_worker.specs.Slots.{slot_at}
use Rattle.replay_worker.specs.Together.{all_live}
use Rattle.replay_worker.specs.Worker.{FitsZones, HasSeats, IsHeld}
use Rattle.smr_clock.specs.Belongs.{IsPassOf}
use Rattle.replay_rounds.specs.Kegs.{keg_place}
use Rattle.replay_rounds.proofs.Lists.{has_too}
use Rattle.replay_rounds.specs.Lending.{AllFit, AreFew, KeepsWorker, KeepsWorkers, live_times, lent_times, seen_slot, slot_times}
use Rattle.replay_rounds.specs.Closes.{seat_times, seat_deferred}
use Rattle.replay_rounds.proofs.Heard.{one_at}
use Rattle.replay_rounds.proofs.Picks.{sum_same, sum_through, sum_filtered}

-- ---- by what is seen of the slots

seen_is_of : ℕ → Option (ℕ × Seen Counted) → Bool
seen_is_of z None = false
seen_is_of z (Some s) = s.0 == z

abbrev unit : Bool → ℕ
unit b = cond b 1 0

seen_counts : (z : ℕ) (o : Option Held) → unit (is_of z o) ≡ unit (seen_is_of z (seen_slot o))
unfolding seen_is_of
seen_counts z None = refl
seen_counts z (Some it) = refl

live_seen : (z : ℕ) (slots : List (Option Held)) → live_count z slots ≡ sum_by (λ s. unit (seen_is_of z s)) (map seen_slot slots)
live_seen z slots = sum_through (λ (o : Option Held). unit (is_of z o)) (λ (s : Option (ℕ × Seen Counted)). unit (seen_is_of z s)) seen_slot slots (seen_counts z)

same_live : (z : ℕ) (xs ys : List (Option Held)) → map seen_slot ys ≡ map seen_slot xs → live_count z ys ≡ live_count z xs
same_live z xs ys same = live_seen z ys ∙ ap (sum_by (λ (s : Option (ℕ × Seen Counted)). unit (seen_is_of z s))) same ∙ sym (live_seen z xs)

-- how often the item of a slot passed a hook, by what is seen of it
seen_times : Hook → ℕ → Option (ℕ × Seen Counted) → ℕ
seen_times hook z None = 0
seen_times hook z (Some s) = cond (s.0 == z) (times_of (counted_life s.1.body).tally hook) 0

picked_item : (hook : Hook) (b : Bool) (item : LiveItem) → option_map_or (live_times hook) (cond b (Some item) None) 0 ≡ cond b (live_times hook item) 0
picked_item hook true item = refl
picked_item hook false item = refl

seen_passed : (hook : Hook) (z : ℕ) (o : Option Held) → option_map_or (live_times hook) (item_of z o) 0 ≡ seen_times hook z (seen_slot o)
unfolding seen_times
seen_passed hook z None = refl
seen_passed hook z (Some it) = picked_item hook (it.zone == z) it.item

times_seen : (hook : Hook) (z : ℕ) (slots : List (Option Held)) → sum_by (live_times hook) (lives_of z slots) ≡ sum_by (seen_times hook z) (map seen_slot slots)
times_seen hook z slots =
    sum_filtered (item_of z) (live_times hook) slots
    ∙ sum_through (λ (o : Option Held). option_map_or (live_times hook) (item_of z o) 0) (seen_times hook z) seen_slot slots (seen_passed hook z)

same_times : (hook : Hook) (z : ℕ) (xs ys : List (Option Held)) → map seen_slot ys ≡ map seen_slot xs → sum_by (live_times hook) (lives_of z ys) ≡ sum_by (live_times hook) (lives_of z xs)
same_times hook z xs ys same = times_seen hook z ys ∙ ap (sum_by (seen_times hook z)) same ∙ sym (times_seen hook z xs)

-- ---- by all workers

module _ {H Part : Type 0} {h : Ghosts H Part} (old new : List (Worker H Part h)) (keeps : KeepsWorkers old new) where
  pub live_kept : (z : ℕ) → all_live z new ≡ all_live z old
  live_kept z = sum_same (λ (w : Worker H Part h). live_count z w.slots) old new keeps.count (λ n a b was is. same_live z a.slots b.slots (keeps.each n a b was is).slots)

  pub times_kept : (hook : Hook) (z : ℕ) → sum_by (slot_times hook z) new ≡ sum_by (slot_times hook z) old
  times_kept hook z = sum_same (slot_times hook z) old new keeps.count (λ n a b was is. same_times hook z a.slots b.slots (keeps.each n a b was is).slots)

  pub seat_times_kept : (hook : Hook) (z : ℕ) → sum_by (seat_times hook z) new ≡ sum_by (seat_times hook z) old
  seat_times_kept hook z =
      sum_same (seat_times hook z) old new keeps.count (λ n a b was is. ap (λ seats. option_map_or (times_in_seat hook) (slice_get seats.items z) 0) (keeps.each n a b was is).seats)

  pub seat_deferred_kept : (z : ℕ) → sum_by (seat_deferred z) new ≡ sum_by (seat_deferred z) old
  seat_deferred_kept z =
      sum_same (seat_deferred z) old new keeps.count (λ n a b was is. ap (λ seats. option_map_or deferred_in_seat (slice_get seats.items z) 0) (keeps.each n a b was is).seats)

  pub lent_kept : (hook : Hook) (p z : ℕ) (lines : List ZoneHead) → lent_times hook p z lines new ≡ lent_times hook p z lines old
  lent_kept hook p z [] = refl
  lent_kept hook p z (line ∷ lines) =
      ap (λ (n : ℕ). cond (keg_place z line == p) n 0 + lent_times hook p (z + 1) lines new) (times_kept hook z)
      ∙ ap (λ (n : ℕ). cond (keg_place z line == p) (sum_by (slot_times hook z) old) 0 + n) (lent_kept hook p (z + 1) lines)

-- ---- that they fit

seen_at : (slots : List (Option Held)) (slot : ℕ) → seen_slot (slot_at slots slot) ≡ slot_at (map seen_slot slots) slot
seen_at [] slot = refl
seen_at (o ∷ slots) zero = refl
seen_at (o ∷ slots) (suc slot) = seen_at slots slot

-- what is seen of what a slot holds
abbrev seen_held : Held → ℕ × Seen Counted
seen_held it = (it.zone, seen_item it.item)

seen_there : (o : Option Held) (it : Held) → Some (seen_held it) ≡ seen_slot o → (was : Held) × (o ≡ Some was) × (seen_held was ≡ seen_held it)
seen_there None it same = absurd (none-some (seen_held it) (sym same))
seen_there (Some was) it same = (was, refl, sym (same_Some (seen_held it) (seen_held was) same))

module _ {H Part : Type 0} {h : Ghosts H Part} where
  held_kept : (zones : List (CountedZone H Part h)) (was it : Held) → seen_held was ≡ seen_held it → IsHeld zones was → IsHeld zones it
  held_kept zones was it same held =
      let P : ℕ → Type 0 = λ z. slice_get zones z ≡ Some held.zone in
      let Q : ℕ × Seen Counted → Type 0 = λ s. (s.1.table ≡ (zone_home held.zone).book) × (s.1.zone ≡ (zone_home held.zone).zone) × (s.1.domain < (zone_home held.zone).domains) in
      record { zone = held.zone; at = subst P (λ i. (same i).0) held.at; home = subst Q same held.home }

  worker_kept : (zones : List (CountedZone H Part h)) (clock : Clock H Part) (old new : Worker H Part h) → KeepsWorker old new → FitsZones zones clock old → FitsZones zones clock new
  worker_kept zones clock old new kept fits = record {
    seats = (let P : _ → Type 0 = λ seats. HasSeats zones seats.items in subst P (sym kept.seats) fits.seats);
    pass = (let P : Pass H Part h → Type 0 = λ pass. IsPassOf clock pass in subst P (sym kept.pass) fits.pass);
    slots = λ slot it found.
        let same : Some (seen_held it) ≡ seen_slot (slot_at old.slots slot) = ap seen_slot (sym found) ∙ seen_at new.slots slot ∙ ap (λ (l : List (Option (ℕ × Seen Counted))). slot_at l slot) kept.slots ∙ sym (seen_at old.slots slot) in
        let was = seen_there (slot_at old.slots slot) it same in
        held_kept zones was.0 it was.2 (fits.slots slot was.0 was.1);
  }

  pub fits_kept : (zones : List (CountedZone H Part h)) (clock : Clock H Part) (old new : List (Worker H Part h)) → KeepsWorkers old new → AllFit zones clock old → AllFit zones clock new
  fits_kept zones clock old new keeps fits n w at = let was = has_too old new n w keeps.count at in worker_kept zones clock was.0 w (keeps.each n was.0 w was.1 at) (fits n was.0 was.1)

  pub few_kept : (old new : List (Worker H Part h)) → KeepsWorkers old new → AreFew old → AreFew new
  few_kept old new keeps few = record {
    few = (let P : ℕ → Type 0 = λ n. n ≤ 16 in subst P (sym keeps.count) few.few);
    slots = λ n w at.
        let was = has_too old new n w keeps.count at in
        let as_many : length was.0.slots ≡ length w.slots = sym (length-map was.0.slots seen_slot) ∙ ap length (sym (keeps.each n was.0 w was.1 at).slots) ∙ length-map w.slots seen_slot in
        let P : ℕ → Type 0 = λ m. m ≤ 65536 in
        subst P as_many (few.slots n was.0 was.1);
  }

  keeps_one : (w : Worker H Part h) → KeepsWorker w w
  keeps_one w = record { pass = refl; seats = refl; slots = refl; entered = refl; late = refl }

  pub keeps_none : (workers : List (Worker H Part h)) → KeepsWorkers workers workers
  keeps_none workers = record {
    count = refl;
    each = λ n a b was is. (let P : Worker H Part h → Type 0 = λ w. KeepsWorker a w in subst P (one_at workers n a b was is) (keeps_one a));
  }

  pub keeps_more : (old mid new : List (Worker H Part h)) → KeepsWorkers old mid → KeepsWorkers mid new → KeepsWorkers old new
  keeps_more old mid new first then = record {
    count = then.count ∙ first.count;
    each = λ n a b was is.
        let m = has_too mid old n a (sym first.count) was in
        let p = first.each n a m.0 was m.1 in
        let q = then.each n m.0 b m.1 is in
        record { pass = q.pass ∙ p.pass; seats = q.seats ∙ p.seats; slots = q.slots ∙ p.slots; entered = q.entered ∙ p.entered; late = q.late ∙ p.late };
  }

  pub keeps_back : (old new : List (Worker H Part h)) → KeepsWorkers old new → KeepsWorkers new old
  keeps_back old new keeps = record {
    count = sym keeps.count;
    each = λ n a b was is.
        let k = keeps.each n b a is was in
        record { pass = sym k.pass; seats = sym k.seats; slots = sym k.slots; entered = sym k.entered; late = sym k.late };
  }
