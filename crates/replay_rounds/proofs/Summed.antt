-- The sums of one worker's seat after another.
use Rattle.std.proofs.Common.{◌≡◌, ℕ, ◌+◌, ◌*◌, ◌<◌, ◌≤◌, ◌^◌, List, length, take, take_all, get_or, Option, Some, refl, sym, ap, ◌∙◌, subst, zero-le, le_refl}
use Rattle.std.proofs.lemmas.List.Sums.{sum_by_more}
use Rattle.std.proofs.lemmas.Option.{same_Some, slice_get_within}
use Rattle.std.specs.Prelude.{slice_get}
use Rattle.std.specs.List.{sum_by}
use Rattle.std.specs.Option.{option_map_or}
use Rattle.smr_clock.specs.declared.host.Host.{Ghosts}
use Rattle.uma_life.specs.Sum.{sum_of}
use Rattle.uma_bucket.specs.declared.shelved.Sums.{Sums}
use Rattle.uma_bucket.specs.Home.{AreHome}
use Rattle.uma_bucket.specs.Sums.{nothing_held, Adds, AreOfAtMost, Balance}
use Rattle.uma_bucket.proofs.Added.{fewer, none_passed}
use Rattle.uma_seat.specs.Seat.{seat_home, top_tickets}
use Rattle.uma_seat.specs.Sums.{times_in_seat, deferred_in_seat}
use Rattle.uma_zone.specs.Zone.{zone_index, IsSeatOf}
use Rattle.replay_worker.specs.declared.worker.Worker.{Worker}
use Rattle.replay_worker.specs.Items.{CountedSeat, CountedZone}
use Rattle.replay_rounds.specs.Closes.{seat_times, seat_deferred}
use Rattle.replay_rounds.specs.Summing.{AreOfSeat, HasSeat, SumsOfFirst, SumsUp}
use Rattle.replay_rounds.proofs.Modulo.{one_seat_more, no_seat_yet, room_for_seats, seats_fit, seat_fits, one_more, zero_plus}

module _ {H Part : Type 0} {h : Ghosts H Part} where
  -- ---- one seat

  pub of_seat : (z : ℕ) (w : Worker H Part h) (seat : CountedSeat H Part h) (sums : Sums) → slice_get w.seats.items z ≡ Some seat
      → Adds (λ hook. times_in_seat hook seat) (deferred_in_seat seat) nothing_held sums → AreOfAtMost 704 sums → (AreHome (seat_home seat) (top_tickets seat) → Balance (seat_home seat).zone sums)
      → AreOfSeat z w sums
  of_seat z w seat sums at adds few balance = record {
    few = few;
    tally = λ hook. adds.tally hook ∙ zero_plus (sum_of nothing_held.tally hook) (times_in_seat hook seat) (none_passed hook) ∙ sym (ap (λ (o : Option (CountedSeat H Part h)). option_map_or (times_in_seat hook) o 0) at);
    deferred = adds.deferred_too ∙ zero_plus 0 (deferred_in_seat seat) refl ∙ sym (ap (λ (o : Option (CountedSeat H Part h)). option_map_or deferred_in_seat o 0) at);
    balance = λ zone has.
        let P : CountedSeat H Part h → Type 0 = λ s. IsSeatOf zone s in
        let of_zone = subst P (same_Some has.seat seat (sym has.at ∙ at)) has.of_zone in
        let Q : ℕ → Type 0 = λ n. Balance n sums in
        subst Q (ap (λ h. h.zone) of_zone.of_domains.same_home ∙ ap (λ h. h.zone) zone.home) (balance of_zone.of_domains.top_home);
  }
  -- ---- one worker after another

module _ {H Part : Type 0} {h : Ghosts H Part} (zone : CountedZone H Part h) (z : ℕ) (workers : List (Worker H Part h)) where
  pub none_so_far : (sums : Sums) → AreOfAtMost (2 ^ 34) sums → Balance (zone_index zone) sums → SumsOfFirst 0 zone z workers sums
  none_so_far sums few balance = record {
    few = (let P : ℕ → Type 0 = λ n. AreOfAtMost n sums in subst P no_seat_yet few);
    balance = balance;
    tally = λ hook. zero-le;
    deferred = zero-le;
  }

  pub one_more_seat : (i : ℕ) (w : Worker H Part h) (sums others next : Sums) → i < length workers → w ≡ get_or workers i w → HasSeat zone z w → SumsOfFirst i zone z workers sums → AreOfSeat z w others
      → Adds (sum_of others.tally) others.deferred sums next
      → ((count more : ℕ) → AreOfAtMost count sums → AreOfAtMost more others → AreOfAtMost (count + more) next)
      → ((n : ℕ) → Balance n sums → Balance n others → Balance n next)
      → SumsOfFirst (i + 1) zone z workers next
  one_more_seat i w sums others next below is has so seat adds few balance = record {
    few = (let P : ℕ → Type 0 = λ n. AreOfAtMost n next in subst P (one_seat_more i) (few (2 ^ 34 + 704 * i) 704 so.few seat.few));
    balance = balance (zone_index zone) so.balance (seat.balance zone has);
    tally = λ hook.
        one_more (sum_by (seat_times hook z) (take i workers)) (sum_by (seat_times hook z) (take (i + 1) workers)) (seat_times hook z (get_or workers i w)) (sum_of sums.tally hook) (sum_of next.tally hook) (sum_of others.tally hook)
        (so.tally hook) (adds.tally hook) (seat.tally hook ∙ ap (seat_times hook z) is) (sum_by_more (seat_times hook z) workers i w below);
    deferred =
        one_more (sum_by (seat_deferred z) (take i workers)) (sum_by (seat_deferred z) (take (i + 1) workers)) (seat_deferred z (get_or workers i w)) sums.deferred next.deferred others.deferred
        so.deferred adds.deferred_too (seat.deferred ∙ ap (seat_deferred z) is) (sum_by_more (seat_deferred z) workers i w below);
  }

  pub all_seats : (i : ℕ) (sums : Sums) → i ≡ length workers → length workers ≤ 16 → SumsOfFirst i zone z workers sums → SumsUp zone z workers sums
  all_seats i sums all most so = record {
    few = fewer sums (2 ^ 34 + 704 * i) (2 ^ 35) (let P : ℕ → Type 0 = λ n. 2 ^ 34 + 704 * n ≤ 2 ^ 35 in subst P (sym all) (seats_fit (length workers) most)) so.few;
    balance = so.balance;
    tally = λ hook. (let P : List (Worker H Part h) → Type 0 = λ l. sum_by (seat_times hook z) l ≤ sum_of sums.tally hook in subst P (whole i all) (so.tally hook));
    deferred = (let P : List (Worker H Part h) → Type 0 = λ l. sum_by (seat_deferred z) l ≤ sums.deferred in subst P (whole i all) so.deferred);
  }
    where
      whole : (i : ℕ) → i ≡ length workers → take i workers ≡ workers
      whole i all = ap (λ (n : ℕ). take n workers) all ∙ take_all (length workers) workers (le_refl (length workers))

module _ {H Part : Type 0} {h : Ghosts H Part} where
  pub room_so_far : (zone : CountedZone H Part h) (z i : ℕ) (workers : List (Worker H Part h)) (sums : Sums) → i < length workers → length workers ≤ 16 → SumsOfFirst i zone z workers sums → AreOfAtMost (2 ^ 62) sums
  room_so_far zone z i workers sums below most so = fewer sums (2 ^ 34 + 704 * i) (2 ^ 62) (room_for_seats i (length workers) below most) so.few

  pub room_of_seat : (z : ℕ) (w : Worker H Part h) (sums : Sums) → AreOfSeat z w sums → AreOfAtMost (2 ^ 62) sums
  room_of_seat z w sums seat = fewer sums 704 (2 ^ 62) seat_fits seat.few

  pub within_seats : (zone : CountedZone H Part h) (z : ℕ) (w : Worker H Part h) → HasSeat zone z w → z < length w.seats.items
  within_seats zone z w has = slice_get_within w.seats.items z has.seat has.at
