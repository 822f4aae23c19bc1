-- A worker before its first line: a new seat of each zone, and empty slots.
use Rattle.std.proofs.Common.{◌≡◌, ℕ, zero, suc, inl, inr, ◌⊎◌, List, [], ◌∷◌, ◌++◌, Option, None, Some, refl, sym, ◌∙◌, subst, arith, length, zero-le}
use Rattle.std.proofs.lemmas.List.{get_or_past}
use Rattle.std.proofs.lemmas.Option.{same_Some, none-some}
use Rattle.std.specs.Prelude.{slice_get}
use Rattle.smr_clock.specs.declared.clock.Clock.{Clock}
use Rattle.smr_clock.specs.declared.host.Host.{Ghosts}
use Rattle.smr_clock.specs.Belongs.{IsPassOf}
use Rattle.replay_worker.specs.declared.worker.Held.{Held}
use Rattle.replay_worker.specs.declared.worker.Worker.{Worker}
use Rattle.replay_worker.specs.Items.{CountedSeat, CountedZone}
use Rattle.replay_worker.specs.Making.{AreSeats, IsNewSeat}
use Rattle.replay_worker.specs.Slots.{slot_at}
use Rattle.replay_worker.specs.Worker.{FitsZones}

-- what a list with one more at its end has at a place
pushed : {X : Type 0} (xs : List X) (x : X) (z : ℕ) (y : X) → slice_get (xs ++ x ∷ []) z ≡ Some y → ((z ≡ length xs) × (x ≡ y)) ⊎ (slice_get xs z ≡ Some y)
pushed [] x zero y e = inl (refl, same_Some x y e)
pushed [] x (suc z) y e = absurd (none-some y e)
pushed (w ∷ xs) x zero y e = inr e
pushed (w ∷ xs) x (suc z) y e = elim (pushed xs x z y e) [
  | inl last ↦ inl (omega (arith, last.0), last.1)
  | inr before ↦ inr before
]

module _ {H Part : Type 0} {h : Ghosts H Part} where
  abbrev pub AreNew : List (CountedZone H Part h) → ℕ → List (CountedSeat H Part h) → Type 0
  AreNew zones domain seats = (z : ℕ) (zone : CountedZone H Part h) (seat : CountedSeat H Part h) → slice_get zones z ≡ Some zone → slice_get seats z ≡ Some seat → IsNewSeat zone domain seat

  pub AreNew-more : (zones : List (CountedZone H Part h)) (domain : ℕ) (seats : List (CountedSeat H Part h)) (of : CountedZone H Part h) (new : CountedSeat H Part h) → slice_get zones (length seats) ≡ Some of → IsNewSeat of domain new
      → AreNew zones domain seats → AreNew zones domain (seats ++ new ∷ [])
  AreNew-more zones domain seats of new at_zone is_new are z zone seat is_zone at = elim (pushed seats new z seat at) [
    | inl last ↦
        let Z : ℕ → Type 0 = λ i. slice_get zones i ≡ Some zone in
        let of_is : of ≡ zone = same_Some of zone (sym at_zone ∙ subst Z last.0 is_zone) in
        let P : CountedZone H Part h → Type 0 = λ x. IsNewSeat x domain new in
        let Q : CountedSeat H Part h → Type 0 = λ x. IsNewSeat zone domain x in
        subst Q last.1 (subst P of_is is_new)
    | inr before ↦ are z zone seat is_zone before
  ]

  pub fits_new : (zones : List (CountedZone H Part h)) (clock : Clock H Part) (domain : ℕ) (w : Worker H Part h) → AreSeats zones domain w.seats.items → IsPassOf clock w.pass → w.slots ≡ [] → FitsZones zones clock w
  fits_new zones clock domain w seats pass slots = record {
    seats = record { count = seats.count; each = λ z zone seat is_zone at. (seats.each z zone seat is_zone at).seat_of };
    pass = pass;
    slots = λ slot it found.
        let P : List (Option Held) → Type 0 = λ list. slot_at list slot ≡ Some it in
        let none : Option Held = None in
        absurd (none-some it (sym (get_or_past [] slot none zero-le) ∙ subst P slots found));
  }
