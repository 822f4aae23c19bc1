-- A worker before its first line.
use Rattle.std.proofs.Common.{◌≡◌, ℕ, ◌≤◌, ◌%◌, List, [], ◌∷◌, ◌++◌, Option, None, Some, inl, inr, refl, sym, ap, ◌∙◌, subst, length, zero-le, arith}
use Rattle.std.proofs.lemmas.List.{get_or_past}
use Rattle.std.proofs.lemmas.Option.{none-some}
use Rattle.std.specs.Prelude.{IfOk, Result, Ok, Err, slice_get}
use Rattle.smr_clock.specs.declared.clock.Clock.{Clock}
use Rattle.smr_clock.specs.declared.pass.Pass.{Pass}
use Rattle.smr_clock.specs.declared.host.Host.{Ghosts}
use Rattle.smr_clock.specs.Belongs.{holder}
use Rattle.smr_core.specs.declared.holder.Phase.TheVariants.{Outside}
use Rattle.uma_seat.specs.Seat.{ledger_of}
use Rattle.zone_stats.specs.declared.ledger.SeatLedger.{SeatLedger}
use Rattle.zone_stats.specs.declared.refusal.Refusal.{Refusal}
use Rattle.zone_stats.specs.LedgerSteps.{IsNew}
use Rattle.replay_worker.specs.declared.worker.Held.{Held}
use Rattle.replay_worker.specs.declared.worker.Worker.{Worker}
use Rattle.replay_worker.specs.Counting.{asked, argued}
use Rattle.replay_worker.specs.Items.{CountedSeat, CountedZone}
use Rattle.replay_worker.specs.LedgerStands.{LedgerStands}
use Rattle.replay_worker.specs.Making.{AreSeats, IsNewWorker}
use Rattle.replay_worker.specs.Slots.{slot_at}
use Rattle.replay_worker.specs.Stands.{Stands, NamesZone}
use Rattle.replay_worker.specs.Worker.{FitsZones}
use Rattle.replay_rounds.specs.Beginners.{IsUnused, IsBeginner}
use Rattle.replay_worker.specs.Clocks.{IsNewPass}
use Rattle.replay_worker.proofs.EntrySteps.{entries_none}
use Rattle.replay_rounds.proofs.Lists.{pushed, has_too, none_above, none_below}

asked_none : (n z : ℕ) → asked n z [] ≡ 0
unfolding asked
asked_none n z = refl

argued_none : (n z : ℕ) → argued n z [] ≡ 0
unfolding argued
argued_none n z = refl

-- a new ledger stands for no line
ledger_stands : (Names : Refusal → Type 0) (n z : ℕ) (ledger : SeatLedger) → IsNew ledger → LedgerStands Names n z [] ledger
ledger_stands Names n z ledger new = record {
  requests = new.requests ∙ sym (asked_none n z);
  some_args = none_below _ new.fails;
  all_args = none_below _ (argued_none n z);
  frees = none_below _ new.frees;
  kept = λ refusal is. absurd (none-some refusal (sym new.last ∙ is));
}

-- no slot of an empty list is filled
nothing_in : (slots : List (Option Held)) (slot : ℕ) (it : Held) → slots ≡ [] → slot_at slots slot ≡ Some it → ⊥
nothing_in slots slot it empty found =
    let P : List (Option Held) → Type 0 = λ list. slot_at list slot ≡ Some it in
    let none : Option Held = None in
    none-some it (sym (get_or_past [] slot none zero-le) ∙ subst P empty found)

no_slots : (slots : List (Option Held)) → slots ≡ [] → length slots ≤ 65536
no_slots slots is = let none : length slots ≡ 0 = ap length is in omega arith

module _ {H Part : Type 0} {h : Ghosts H Part} where
  stands_new : (zones : List (CountedZone H Part h)) (clock : Clock H Part) (n domain : ℕ) (pass : Pass H Part h) (w : Worker H Part h) → IsNewWorker zones pass domain w → IsNewPass clock pass → Stands zones clock n [] w
  stands_new zones clock n domain pass w new new_pass =
      let outside : (holder w.pass).phase ≡ Outside = ap (λ (p : Pass H Part h). (holder p).phase) new.pass_kept ∙ new_pass.outside in
      record {
        ledgers = λ z zone seat at_zone at_seat. ledger_stands (NamesZone zone) n z (ledger_of seat) (new.seats.each z zone seat at_zone at_seat).fresh.ledger;
        few = no_slots w.slots new.slots;
        filled = λ slot it found. absurd (nothing_in w.slots slot it new.slots found);
        outside = λ _. outside;
        between = inl outside;
        entries = entries_none n w.entered w.late (holder w.pass).phase new.entered new.late;
        begun = subst (λ (p : Pass H Part h). clock.setup.config.start ≤ (holder p).seen) (sym new.pass_kept) new_pass.begun;
        overtaken = λ some. absurd (none_above new.late some);
      }

  unused_at : (zones : List (CountedZone H Part h)) (domain : ℕ) (seats : List (CountedSeat H Part h)) → AreSeats zones domain seats → (z : ℕ) (seat : CountedSeat H Part h) → slice_get seats z ≡ Some seat → IsUnused domain seat
  unused_at zones domain seats are z seat at_seat =
      let zone = has_too zones seats z seat are.count at_seat in
      let new = are.each z zone.0 seat zone.1 at_seat in
      record { own = new.fresh.own; usable = new.fresh.usable; ledger = new.fresh.ledger }

  pub beginner : (zones : List (CountedZone H Part h)) (clock : Clock H Part) (domain : ℕ) (pass : Pass H Part h) (w : Worker H Part h) → FitsZones zones clock w → IsNewWorker zones pass domain w → IsNewPass clock pass → IsBeginner zones clock domain w
  beginner zones clock domain pass w fits new new_pass = record {
    fits = fits;
    stands = λ n. stands_new zones clock n domain pass w new new_pass;
    empty = new.slots;
    seats = unused_at zones domain w.seats.items new.seats;
  }

  -- the same of what a call answers
  pub beginner_is : {E : Type 0} (r : Result (Worker H Part h) E) (zones : List (CountedZone H Part h)) (clock : Clock H Part) (domain : ℕ) (pass : Pass H Part h) → IfOk r (FitsZones zones clock) → IfOk r (IsNewWorker zones pass domain) → IsNewPass clock pass
      → IfOk r (IsBeginner zones clock domain)
  beginner_is (Ok w) zones clock domain pass fits new new_pass = beginner zones clock domain pass w fits new new_pass
  beginner_is (Err e) zones clock domain pass fits new new_pass = tt

  abbrev pub Begin : List (CountedZone H Part h) → Clock H Part → ℕ → List (Worker H Part h) → Type 0
  Begin zones clock domains workers = (n : ℕ) (r : Worker H Part h) → slice_get workers n ≡ Some r → IsBeginner zones clock (n % domains) r

  pub Begin-more : (zones : List (CountedZone H Part h)) (clock : Clock H Part) (domains : ℕ) (workers : List (Worker H Part h)) (new : Worker H Part h) → IsBeginner zones clock (length workers % domains) new → Begin zones clock domains workers
      → Begin zones clock domains (workers ++ new ∷ [])
  Begin-more zones clock domains workers new is are n r at = elim (pushed workers new n r at) [
    | inl last ↦
        let P : ℕ → Type 0 = λ i. IsBeginner zones clock (i % domains) new in
        let Q : Worker H Part h → Type 0 = λ x. IsBeginner zones clock (n % domains) x in
        subst Q last.1 (subst P (sym last.0) is)
    | inr before ↦ are n r before
  ]
