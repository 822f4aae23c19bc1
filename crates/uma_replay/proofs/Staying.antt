-- Workers that stay as they were, but for what their passes learn and for the tokens of their items.
use Rattle.std.proofs.Common.{◌≡◌, ℕ, zero, suc, ◌+◌, ◌<◌, ◌≤◌, inl, inr, ◌⊎◌, List, [], ◌∷◌, Bool, false, cond, length, map, get_or, Option, None, Some, refl, sym, ap, ◌∙◌, subst, arith, le_trans}
use Rattle.std.proofs.lemmas.List.{length-map}
use Rattle.std.proofs.lemmas.List.Sums.{sum_by-cons}
use Rattle.std.proofs.lemmas.Option.{none-some, same_Some, slice_get_within}
use Rattle.std.specs.Prelude.{◌==◌, vec_items, slice_get, count_by, sum_by}
use Rattle.std.specs.Option.{option_map_or}
use Rattle.smr_clock.specs.declared.clock.Clock.{Clock}
use Rattle.smr_clock.specs.declared.host.Host.{Ghosts}
use Rattle.smr_clock.specs.Belongs.{IsPassOf}
use Rattle.smr_core.specs.declared.holder.Phase.{Phase}
use Rattle.smr_core.specs.declared.holder.Phase.TheVariants.{Inside, Outside}
use Rattle.trace_text.specs.Lines.{Line}
use Rattle.uma_keg.specs.Lent.{Seen, seen_of as seen_item}
use Rattle.uma_zone.specs.Zone.{zone_home}
use Rattle.zone_stats.specs.declared.ledger.SeatLedger.{SeatLedger}
use Rattle.replay_worker.specs.declared.worker.Held.{Held}
use Rattle.replay_worker.specs.declared.worker.Worker.{Worker}
use Rattle.replay_worker.specs.declared.count_hooks.Counted.{Counted}
use Rattle.replay_worker.specs.Counting.{looks, sections}
use Rattle.replay_worker.specs.EntriesStand.{EntriesStand}
use Rattle.replay_worker.specs.Items.{CountedZone}
use Rattle.replay_worker.specs.Live.{is_of, live_count}
use Rattle.replay_worker.specs.Slots.{slot_at}
use Rattle.replay_worker.specs.Stands.{Stands}
use Rattle.replay_worker.specs.Together.{AllStand, AddsUp, ledger_at, all_live, all_allocs, all_frees}
use Rattle.replay_worker.specs.Worker.{FitsZones, HasSeats, IsHeld, phase_of, seen_of}
use Rattle.replay_rounds.specs.Lending.{seen_slot, KeepsWorker, KeepsWorkers}
use Rattle.replay_rounds.specs.Clock.{AllLearn, Learns, ReadsHands, floor_of}
use Rattle.uma_replay.specs.Playing.{AllStay, Stays}
use Rattle.uma_replay.proofs.PlainStands.{some_at}

module _ {H Part : Type 0} {h : Ghosts H Part} where
  pub stays_learn : (clock : Clock H Part) (old new : Worker H Part h) → Learns clock old new → Stays clock old new
  stays_learn clock old new l = record {
    seats = l.seats;
    slots = ap (map seen_slot) l.slots;
    entered = l.entered;
    late = l.late;
    here = l.here;
    phase = l.phase;
    seen = l.seen;
    floor = l.floor;
  }

same_most : (a b : ℕ) → b ≡ a → a ≤ b
same_most a b is = omega arith

module _ {H Part : Type 0} {h : Ghosts H Part} where
  pub stays_kept : (clock : Clock H Part) (old new : Worker H Part h) → IsPassOf clock old.pass → KeepsWorker old new → Stays clock old new
  stays_kept clock old new here k = record {
    seats = k.seats;
    slots = k.slots;
    entered = k.entered;
    late = k.late;
    here = let P : _ → Type 0 = λ pass. IsPassOf clock pass in subst P (sym k.pass) here;
    phase = ap (λ pass. phase_of (record old { pass = pass })) k.pass;
    seen = same_most _ _ (ap (λ pass. seen_of (record old { pass = pass })) k.pass);
    floor = same_most _ _ (ap (λ pass. floor_of (record old { pass = pass })) k.pass);
  }

-- ---- slots

seen_at : (xs : List (Option Held)) (slot : ℕ) → seen_slot (slot_at xs slot) ≡ get_or (map seen_slot xs) slot None
seen_at [] slot = refl
seen_at (x ∷ xs) zero = refl
seen_at (x ∷ xs) (suc slot) = seen_at xs slot

same_seen : (old new : List (Option Held)) (slot : ℕ) → map seen_slot new ≡ map seen_slot old → seen_slot (slot_at new slot) ≡ seen_slot (slot_at old slot)
same_seen old new slot same = seen_at new slot ∙ (ap (λ xs. get_or xs slot None) same ∙ sym (seen_at old slot))

-- what is seen of what a slot holds
record WasHeld (old : Option Held) (it : Held) : Type 0 where
  before : Held
  is : old ≡ Some before
  zone : it.zone ≡ before.zone
  item : seen_item it.item ≡ seen_item before.item

was_held : (old new : Option Held) (it : Held) → seen_slot new ≡ seen_slot old → new ≡ Some it → WasHeld old it
was_held None new it same is = absurd (none-some (it.zone, seen_item it.item) (sym same ∙ ap seen_slot is))
was_held (Some before) new it same is =
    let both : (it.zone, seen_item it.item) ≡ (before.zone, seen_item before.item) = same_Some (it.zone, seen_item it.item) (before.zone, seen_item before.item) (sym (ap seen_slot is) ∙ same) in
    record { before = before; is = refl; zone = ap (λ p. p.0) both; item = ap (λ p. p.1) both }

module _ {H Part : Type 0} {h : Ghosts H Part} where
  held_before : (zones : List (CountedZone H Part h)) (it before : Held) → it.zone ≡ before.zone → seen_item it.item ≡ seen_item before.item → IsHeld zones before → IsHeld zones it
  held_before zones it before zone item was =
      let home = was.home in
      let P : ℕ → Type 0 = λ n. n < (zone_home was.zone).domains in
      record {
        zone = was.zone;
        at = ap (slice_get zones) zone ∙ was.at;
        home = (ap (λ (s : Seen Counted). s.table) item ∙ home.0, ap (λ (s : Seen Counted). s.zone) item ∙ home.1, subst P (sym (ap (λ (s : Seen Counted). s.domain) item)) home.2);
      }

  -- ---- one worker

  pub fits_stay : (zones : List (CountedZone H Part h)) (clock : Clock H Part) (old new : Worker H Part h) → Stays clock old new → FitsZones zones clock old → FitsZones zones clock new
  fits_stay zones clock old new s f =
      let P : _ → Type 0 = λ seats. HasSeats zones (vec_items seats) in
      record {
        seats = subst P (sym s.seats) f.seats;
        pass = s.here;
        slots = λ slot it at.
            let was = was_held (slot_at old.slots slot) (slot_at new.slots slot) it (same_seen old.slots new.slots slot s.slots) at in
            held_before zones it was.before was.zone was.item (f.slots slot was.before was.is);
      }

first_le : (a b c : ℕ) → a ≡ b → b ≤ c → a ≤ c
first_le a b c same below = omega arith

either_phase : (a b : Phase) → a ≡ b → (b ≡ Outside) ⊎ (b ≡ Inside) → (a ≡ Outside) ⊎ (a ≡ Inside)
either_phase a b same (inl is) = inl (same ∙ is)
either_phase a b same (inr is) = inr (same ∙ is)

late_none : (l l' : ℕ) → l' ≡ l → l' ≡ 0 → l ≡ 0
late_none l l' same none = omega arith

kept_counts : (wanted more e l e' l' : ℕ) → e' ≡ e → l' ≡ l → wanted ≤ e + l → e + l ≤ wanted + more → (wanted ≤ e' + l') × (e' + l' ≤ wanted + more)
kept_counts wanted more e l e' l' e1 e2 enough most = (omega arith, omega arith)

entries_stay : (n : ℕ) (lines : List Line) (e l e' l' : ℕ) (phase phase' : Phase) → e' ≡ e → l' ≡ l → phase' ≡ phase → EntriesStand n lines e l phase → EntriesStand n lines e' l' phase'
entries_stay n lines e l e' l' phase phase' same_e same_l same s =
    let both = kept_counts (sections n lines) (looks n lines) e l e' l' same_e same_l s.enough s.most in
    record {
      enough = both.0;
      in_time = λ none. same_e ∙ s.in_time (late_none l l' same_l none);
      most = both.1;
      inside = λ none open_one. same ∙ s.inside (late_none l l' same_l none) open_one;
    }

more_seen : (a b c : ℕ) → a ≤ b → b ≤ c → a ≤ c
more_seen a b c first second = omega arith

some_late : (a b : ℕ) → a ≡ b → 0 < a → 0 < b
some_late a b same some = omega arith

module _ {H Part : Type 0} {h : Ghosts H Part} where
  pub stands_stay : (zones : List (CountedZone H Part h)) (clock : Clock H Part) (n : ℕ) (lines : List Line) (old new : Worker H Part h) → Stays clock old new → Stands zones clock n lines old → Stands zones clock n lines new
  stands_stay zones clock n lines old new s f = record {
    ledgers = λ z zone seat at_zone at_seat. f.ledgers z zone seat at_zone (sym (ap (λ seats. slice_get (vec_items seats) z) s.seats) ∙ at_seat);
    filled = λ slot it at.
        let was = was_held (slot_at old.slots slot) (slot_at new.slots slot) it (same_seen old.slots new.slots slot s.slots) at in
        f.filled slot was.before was.is ∙ ap Some (sym was.zone);
    few = first_le (length new.slots) (length old.slots) 65536 (sym (length-map new.slots seen_slot) ∙ (ap length s.slots ∙ length-map old.slots seen_slot)) f.few;
    outside = λ not. s.phase ∙ f.outside not;
    between = either_phase (phase_of new) (phase_of old) s.phase f.between;
    entries = entries_stay n lines old.entered old.late new.entered new.late (phase_of old) (phase_of new) s.entered s.late s.phase f.entries;
    begun = more_seen _ (seen_of old) (seen_of new) f.begun s.seen;
    overtaken = λ late. more_seen _ (seen_of old) (seen_of new) (f.overtaken (some_late new.late old.late s.late late)) s.seen;
  }

-- ---- all workers

below_old : (n a b : ℕ) → n < a → a ≡ b → n < b
below_old n a b below same = omega arith

module _ {H Part : Type 0} {h : Ghosts H Part} where
  pub found_before : (old new : List (Worker H Part h)) (n : ℕ) (after : Worker H Part h) → length new ≡ length old → slice_get new n ≡ Some after → (before : Worker H Part h) × (slice_get old n ≡ Some before)
  found_before old new n after count at = some_at old n (below_old n (length new) (length old) (slice_get_within new n after at) count)

  pub all_stand : (zones : List (CountedZone H Part h)) (clock : Clock H Part) (lines : List Line) (old new : List (Worker H Part h)) → AllStay clock old new → AllStand zones clock lines old → AllStand zones clock lines new
  all_stand zones clock lines old new s a = record {
    fits = λ n w at. let was = found_before old new n w s.count at in fits_stay zones clock was.0 w (s.each n was.0 w was.1 at) (a.fits n was.0 was.1);
    stands = λ n w at. let was = found_before old new n w s.count at in stands_stay zones clock n lines was.0 w (s.each n was.0 w was.1 at) (a.stands n was.0 was.1);
  }

one_slot : (all rest all' rest' unit : ℕ) → all ≡ unit + rest → all' ≡ unit + rest' → rest ≡ rest' → all ≡ all'
one_slot all rest all' rest' unit e1 e2 e3 = omega arith

sums_same : {W : Type 0} (f : W → ℕ) (old new : List W) → length new ≡ length old → ((n : ℕ) (before after : W) → slice_get old n ≡ Some before → slice_get new n ≡ Some after → f after ≡ f before)
    → sum_by f new ≡ sum_by f old
sums_same f [] [] count each = refl
sums_same f [] (w ∷ new) count each = absurd (omega arith)
sums_same f (v ∷ old) [] count each = absurd (omega arith)
sums_same f (v ∷ old) (w ∷ new) count each =
    omega (arith, sum_by-cons f w new, sum_by-cons f v old, each 0 v w refl refl, sums_same f old new (omega arith) (λ n. each (suc n)))

abbrev seen_is_of : ℕ → Option (ℕ × Seen Counted) → Bool
seen_is_of z seen = option_map_or (λ (zone, item). zone == z) seen false

live_seen : (z : ℕ) (slots : List (Option Held)) → live_count z slots ≡ count_by (seen_is_of z) (map seen_slot slots)
live_seen z [] = refl
live_seen z (None ∷ slots) = one_slot _ _ _ _ _ (sum_by-cons (λ o. cond (is_of z o) 1 0) None slots) (sum_by-cons (λ o. cond (seen_is_of z o) 1 0) (seen_slot None) (map seen_slot slots)) (live_seen z slots)
live_seen z (Some it ∷ slots) =
    one_slot _ _ _ _ _ (sum_by-cons (λ o. cond (is_of z o) 1 0) (Some it) slots) (sum_by-cons (λ o. cond (seen_is_of z o) 1 0) (seen_slot (Some it)) (map seen_slot slots)) (live_seen z slots)

module _ {H Part : Type 0} {h : Ghosts H Part} where
  live_same : (clock : Clock H Part) (z : ℕ) (old new : Worker H Part h) → Stays clock old new → live_count z new.slots ≡ live_count z old.slots
  live_same clock z old new s = live_seen z new.slots ∙ (ap (count_by (seen_is_of z)) s.slots ∙ sym (live_seen z old.slots))

  abbrev counted_at : ℕ → (SeatLedger → ℕ) → Worker H Part h → ℕ
  counted_at z g w = option_map_or g (ledger_at z w) 0

  seat_same : (clock : Clock H Part) (z : ℕ) (g : SeatLedger → ℕ) (old new : Worker H Part h) → Stays clock old new → counted_at z g new ≡ counted_at z g old
  seat_same clock z g old new s = ap (λ seats. counted_at z g (record old { seats = seats })) s.seats

sums_add : (live frees allocs live' frees' allocs' : ℕ) → live + frees ≡ allocs → live' ≡ live → frees' ≡ frees → allocs' ≡ allocs → live' + frees' ≡ allocs'
sums_add live frees allocs live' frees' allocs' sum e1 e2 e3 = omega arith

module _ {H Part : Type 0} {h : Ghosts H Part} where
  pub adds_stay : (clock : Clock H Part) (old new : List (Worker H Part h)) → AllStay clock old new → (z : ℕ) → AddsUp z old → AddsUp z new
  adds_stay clock old new s z sum =
      sums_add (all_live z old) (all_frees z old) (all_allocs z old) (all_live z new) (all_frees z new) (all_allocs z new) sum
      (sums_same (λ (w : Worker H Part h). live_count z w.slots) old new s.count (λ n v w at at'. live_same clock z v w (s.each n v w at at')))
      (sums_same (counted_at z (λ ledger. ledger.frees)) old new s.count (λ n v w at at'. seat_same clock z (λ ledger. ledger.frees) v w (s.each n v w at at')))
      (sums_same (counted_at z (λ ledger. ledger.allocs)) old new s.count (λ n v w at at'. seat_same clock z (λ ledger. ledger.allocs) v w (s.each n v w at at')))

  pub stays_chain : (clock : Clock H Part) (old mid new : Worker H Part h) → Stays clock old mid → Stays clock mid new → Stays clock old new
  stays_chain clock old mid new first next = record {
    seats = next.seats ∙ first.seats;
    slots = next.slots ∙ first.slots;
    entered = next.entered ∙ first.entered;
    late = next.late ∙ first.late;
    here = next.here;
    phase = next.phase ∙ first.phase;
    seen = le_trans first.seen next.seen;
    floor = le_trans first.floor next.floor;
  }

  pub all_chain : (clock : Clock H Part) (old mid new : List (Worker H Part h)) → AllStay clock old mid → AllStay clock mid new → AllStay clock old new
  all_chain clock old mid new first next = record {
    count = next.count ∙ first.count;
    each = λ n v w at at'. let between = found_before mid new n w next.count at' in
        stays_chain clock v between.0 w (first.each n v between.0 at between.1) (next.each n between.0 w between.1 at');
  }

  pub learn_stay : (clock : Clock H Part) (old new : List (Worker H Part h)) → AllLearn clock old new → AllStay clock old new
  learn_stay clock old new l = record { count = l.count; each = λ n v w at at'. stays_learn clock v w (l.each n v w at at') }

  pub kept_stay : (zones : List (CountedZone H Part h)) (clock : Clock H Part) (lines : List Line) (old new : List (Worker H Part h)) → AllStand zones clock lines old → KeepsWorkers old new → AllStay clock old new
  kept_stay zones clock lines old new a k = record { count = k.count; each = λ n v w at at'. stays_kept clock v w (a.fits n v at).pass (k.each n v w at at') }

  -- the sequences are read by the passes alone
  pub hands_stay : (clock : Clock H Part) (old new : List (Worker H Part h)) (read write : ℕ) → KeepsWorkers old new → ReadsHands clock old read write → ReadsHands clock new read write
  hands_stay clock old new read write k r = record {
    first = λ w at. let was = found_before old new 0 w k.count at in
        let kept = k.each 0 was.0 w was.1 at in
        (ap (λ pass. seen_of (record w { pass = pass })) kept.pass ∙ (r.first was.0 was.1).0, ap (λ pass. floor_of (record w { pass = pass })) kept.pass ∙ (r.first was.0 was.1).1);
    greatest_seen = λ n w at. let was = found_before old new n w k.count at in
        let kept = k.each n was.0 w was.1 at in
        first_le _ _ _ (ap (λ pass. seen_of (record w { pass = pass })) kept.pass) (r.greatest_seen n was.0 was.1);
    greatest_floor = λ n w at. let was = found_before old new n w k.count at in
        let kept = k.each n was.0 w was.1 at in
        first_le _ _ _ (ap (λ pass. floor_of (record w { pass = pass })) kept.pass) (r.greatest_floor n was.0 was.1);
    read_odd = r.read_odd;
    write_odd = r.write_odd;
    start = r.start;
    in_order = r.in_order;
    within = r.within;
  }
