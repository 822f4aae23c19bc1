-- Seats and slots go on belonging to the zones as one of them is written.
use Rattle.std.proofs.Common.{◌≡◌, ℕ, zero, suc, ◌<◌, inl, inr, List, [], ◌∷◌, Option, None, Some, refl, sym, ◌∙◌, subst, arith, length}
use Rattle.std.proofs.lemmas.Bool.{cases_eq}
use Rattle.std.proofs.lemmas.List.{length-set}
use Rattle.std.proofs.lemmas.Option.{same_Some, none-some}
use Rattle.std.specs.Prelude.{slice_get, slice_set, option_map}
use Rattle.smr_clock.specs.declared.host.Host.{Ghosts}
use Rattle.uma_zone.specs.Zone.{IsSeatOf}
use Rattle.uma_zone.specs.declared.zone.alloc.AllocAsk.{AllocAsk}
use Rattle.replay_worker.specs.declared.worker.Held.{Held}
use Rattle.replay_worker.specs.Items.{CountedSeat, CountedZone, LiveItem}
use Rattle.replay_worker.specs.Live.{holding}
use Rattle.replay_worker.specs.Requests.{Ends}
use Rattle.replay_worker.specs.Slots.{slot_at, filled, with_held, emptied}
use Rattle.replay_worker.specs.Worker.{HasSeats, IsHeld}
use Rattle.replay_worker.proofs.SlotLemmas.{slot_at-with_same, slot_at-with_other, slot_at-emptied_same, slot_at-emptied_other}
use Rattle.replay_worker.proofs.StandSteps.{zones_go}

-- a place within a list has an entry
pub some_within : {X : Type 0} (xs : List X) (k : ℕ) → k < length xs → (x : X) × (slice_get xs k ≡ Some x)
some_within [] k below = absurd (omega arith)
some_within (x ∷ xs) zero below = (x, refl)
some_within (x ∷ xs) (suc k) below = some_within xs k (omega arith)

module _ {H Part : Type 0} {h : Ghosts H Part} where
  pub HasSeats-set : (zones : List (CountedZone H Part h)) (seats : List (CountedSeat H Part h)) (w : ℕ) (of : CountedZone H Part h) (before after : CountedSeat H Part h) → HasSeats zones seats
      → slice_get zones w ≡ Some of → slice_get seats w ≡ Some before → IsSeatOf of after → HasSeats zones (slice_set seats w after)
  HasSeats-set zones seats w of before after has is_zone at is_seat = record {
    count = length-set seats w after ∙ has.count;
    each = let P : ℕ → CountedZone H Part h → CountedSeat H Part h → Type 0 = λ i zone seat. IsSeatOf zone seat in
        zones_go zones seats (slice_set seats w after) w of before after P is_zone at refl is_seat
        (λ i zone seat apart is_other found. has.each i zone seat is_other found);
  }

  abbrev pub AreHeld : List (CountedZone H Part h) → List (Option Held) → Type 0
  AreHeld zones slots = (slot : ℕ) (it : Held) → slot_at slots slot ≡ Some it → IsHeld zones it

  pub AreHeld-with : (zones : List (CountedZone H Part h)) (slots : List (Option Held)) (slot : ℕ) (new : Held) → IsHeld zones new → AreHeld zones slots → AreHeld zones (with_held slots slot new)
  AreHeld-with zones slots slot new is_held are at it found = elim (cases_eq at slot) [
    | inl same ↦
        let P : ℕ → Type 0 = λ i. slot_at (with_held slots slot new) i ≡ Some it in
        let Q : Held → Type 0 = IsHeld zones in
        subst Q (same_Some new it (sym (slot_at-with_same slots slot new) ∙ subst P same found)) is_held
    | inr apart ↦ are at it (sym (slot_at-with_other slots slot at new apart) ∙ found)
  ]

  pub AreHeld-filled : (zones : List (CountedZone H Part h)) (slots : List (Option Held)) (z slot : ℕ) (of : CountedZone H Part h) (ask : AllocAsk) (before after : CountedSeat H Part h) (got : Option LiveItem)
      → slice_get zones z ≡ Some of → Ends of ask before got after → AreHeld zones slots → AreHeld zones (filled slots slot (option_map (holding z) got))
  AreHeld-filled zones slots z slot of ask before after (Some item) is_zone ends are =
      AreHeld-with zones slots slot (holding z item) (record { zone = of; at = is_zone; home = ends.1 }) are
  AreHeld-filled zones slots z slot of ask before after None is_zone ends are = are

  pub AreHeld-emptied : (zones : List (CountedZone H Part h)) (slots : List (Option Held)) (slot : ℕ) → AreHeld zones slots → AreHeld zones (emptied slots slot)
  AreHeld-emptied zones slots slot are at it found = elim (cases_eq at slot) [
    | inl same ↦
        let P : ℕ → Type 0 = λ i. slot_at (emptied slots slot) i ≡ Some it in
        absurd (none-some it (sym (slot_at-emptied_same slots slot) ∙ subst P same found))
    | inr apart ↦ are at it (sym (slot_at-emptied_other slots slot at apart) ∙ found)
  ]
