-- The sums of one zone after another.
use Rattle.std.proofs.Common.{◌≡◌, ℕ, ◌+◌, ◌^◌, inl, inr, List, [], ◌∷◌, ◌++◌, Some, sym, ap, ◌∙◌, subst, length}
use Rattle.std.proofs.lemmas.List.{length-append}
use Rattle.std.proofs.lemmas.Option.{none-some, same_Some}
use Rattle.std.specs.Prelude.{slice_get}
use Rattle.smr_clock.specs.declared.clock.Clock.{Clock}
use Rattle.smr_clock.specs.declared.host.Host.{Ghosts}
use Rattle.uma_bucket.specs.declared.shelved.Sums.{Sums}
use Rattle.uma_bucket.specs.Sums.{AreOfAtMost}
use Rattle.replay_worker.specs.declared.worker.Worker.{Worker}
use Rattle.replay_worker.specs.Items.{CountedZone}
use Rattle.replay_rounds.proofs.Lists.{has_too, pushed}
use Rattle.replay_rounds.specs.Lending.{AllFit}
use Rattle.replay_rounds.specs.Summing.{HasSeat, SumsUp}
use Rattle.replay_rounds.specs.Taking.{AllSumUp}

module _ {H Part : Type 0} {h : Ghosts H Part} where
  -- a worker that fits has a seat of each zone
  pub has_seats : (zones : List (CountedZone H Part h)) (clock : Clock H Part) (workers : List (Worker H Part h)) → AllFit zones clock workers → (z n : ℕ) (zone : CountedZone H Part h) (w : Worker H Part h) → slice_get zones z ≡ Some zone → slice_get workers n ≡ Some w → HasSeat zone z w
  has_seats zones clock workers fits z n zone w is_zone at =
      let seats = (fits n w at).seats in
      let seat = has_too w.seats.items zones z zone (sym seats.count) is_zone in
      record { seat = seat.0; at = seat.1; of_zone = seats.each z zone seat.0 is_zone seat.1 }

  -- the first so many zones were summed up
  pub record SumsSoFar (zones : List (CountedZone H Part h)) (workers : List (Worker H Part h)) (count : ℕ) (sums : List Sums) : Type 0 where
    pub as_many : length sums ≡ count
    pub each : (z : ℕ) (zone : CountedZone H Part h) (s : Sums) → slice_get zones z ≡ Some zone → slice_get sums z ≡ Some s → SumsUp zone z workers s

module _ {H Part : Type 0} {h : Ghosts H Part} (zones : List (CountedZone H Part h)) (workers : List (Worker H Part h)) where
  pub sums_none : (sums : List Sums) → sums ≡ [] → SumsSoFar zones workers 0 sums
  sums_none sums is = record {
    as_many = ap length is;
    each = λ z zone s is_zone at. (let P : List Sums → Type 0 = λ l. slice_get l z ≡ Some s in absurd (none-some s (subst P is at)));
  }

  pub sums_more : (count : ℕ) (old new : List Sums) (of : CountedZone H Part h) (s : Sums) → SumsSoFar zones workers count old → slice_get zones count ≡ Some of → SumsUp of count workers s → new ≡ old ++ s ∷ [] → SumsSoFar zones workers (count + 1) new
  sums_more count old new of s so is_of up is = record {
    as_many = ap length is ∙ length-append old (s ∷ []) ∙ ap (λ (n : ℕ). n + 1) so.as_many;
    each = λ z zone t is_zone at.
        let P : List Sums → Type 0 = λ l. slice_get l z ≡ Some t in
        elim (pushed old s z t (subst P is at)) [
          | inl last ↦
              let place : count ≡ z = sym so.as_many ∙ sym last.0 in
              let Z : ℕ → Type 0 = λ n. slice_get zones n ≡ Some of in
              let of_is : of ≡ zone = same_Some of zone (sym (subst Z place is_of) ∙ is_zone) in
              let A : CountedZone H Part h → Type 0 = λ x. SumsUp x z workers t in
              let B : ℕ → Type 0 = λ n. SumsUp of n workers t in
              let C : Sums → Type 0 = λ x. SumsUp of count workers x in
              subst A of_is (subst B place (subst C last.1 up))
          | inr before ↦ so.each z zone t is_zone before
        ];
  }

  pub sums_all : (count : ℕ) (sums : List Sums) → count ≡ length zones → SumsSoFar zones workers count sums → AllSumUp zones workers sums
  sums_all count sums all so = record { count = so.as_many ∙ all; each = so.each }

  pub all_small : (sums : List Sums) → AllSumUp zones workers sums → (n : ℕ) (s : Sums) → slice_get sums n ≡ Some s → AreOfAtMost (2 ^ 35) s
  all_small sums all n s at = let zone = has_too zones sums n s all.count at in (all.each n zone.0 s zone.1 at).few
