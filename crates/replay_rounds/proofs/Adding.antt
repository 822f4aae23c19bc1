-- The sums of a keg's zones are added one after another.
use Rattle.std.proofs.Common.{◌≡◌, ℕ, ◌+◌, ◌*◌, ◌^◌, ◌<◌, ◌≤◌, List, Bool, true, false, cond, refl, sym, ap, ◌∙◌, subst, arith, length, drop, get_or, zero-le}
use Rattle.std.proofs.lemmas.Option.{get_or_from_slice_get, slice_get-get_or}
use Rattle.trace_text.specs.declared.trace.ZoneHead.{ZoneHead}
use Rattle.uma_life.specs.declared.tally.TallySum.{TallySum}
use Rattle.uma_life.specs.Hook.{Hook}
use Rattle.uma_life.specs.Sum.{AreBelow, sum_of}
use Rattle.uma_bucket.specs.declared.shelved.Sums.{Sums}
use Rattle.uma_bucket.specs.Sums.{AreOfAtMost}
use Rattle.replay_rounds.specs.Picking.{picked}
use Rattle.replay_rounds.specs.Taking.{is_of_keg, keg_sums}
use Rattle.replay_rounds.proofs.Picks.{picked_next, picked_past}

-- ---- plain numbers

moved_on : (old new x y rest whole : ℕ) → old + (x + rest) ≡ whole → new ≡ old + y → y ≡ x → new + rest ≡ whole
moved_on old new x y rest whole so step same = omega arith

at_end : (all rest whole : ℕ) → all + rest ≡ whole → rest ≡ 0 → all ≡ whole
at_end all rest whole so none = omega arith

step_fits : (old new y i : ℕ) → old < 2 ^ 126 + i * 2 ^ 99 → new ≡ old + y → y ≤ 2 ^ 99 → new < 2 ^ 126 + (i + 1) * 2 ^ 99
step_fits old new y i so step few = omega arith

room_still : (old i n : ℕ) → old < 2 ^ 126 + i * 2 ^ 99 → i < n → n ≤ 16 → old < 2 ^ 127
room_still old i n so below most = omega arith

begun_fits : (a : ℕ) → a < 2 ^ 126 → a < 2 ^ 126 + 0 * 2 ^ 99
begun_fits a less = omega arith

zone_fits : (a : ℕ) → a ≤ 2 ^ 35 * 2 ^ 64 → a ≤ 2 ^ 99
zone_fits a le = omega arith

picked_few : (t : Bool) (a : ℕ) → a ≤ 2 ^ 99 → cond t a 0 ≤ 2 ^ 99
picked_few true a le = le
picked_few false a le = zero-le

-- below the end of a list it doesn't matter what a place past it has
pub same_default : {X : Type 0} (xs : List X) (i : ℕ) (d e : X) → i < length xs → get_or xs i d ≡ get_or xs i e
same_default xs i d e below = sym (get_or_from_slice_get xs i (get_or xs i d) e (slice_get-get_or xs i d below))

-- ---- the loop

-- the zones before place `number` were added: with those still to come it is what it shall be
pub record AddedTo (number p : ℕ) (lines : List ZoneHead) (sums : List Sums) (was now : TallySum) : Type 0 where
  pub rest : (hook : Hook) → sum_of now hook + picked (is_of_keg p) (λ s. sum_of s.tally hook) number (drop number lines) (drop number sums) ≡ sum_of was hook + keg_sums hook p lines sums
  pub fits : (hook : Hook) → sum_of now hook < 2 ^ 126 + number * 2 ^ 99

module _ (p : ℕ) (lines : List ZoneHead) (sums : List Sums) where
  pub added_none : (was : TallySum) → AreBelow (2 ^ 126) was → AddedTo 0 p lines sums was was
  added_none was few = record { rest = λ hook. refl; fits = λ hook. begun_fits (sum_of was hook) (few hook) }

  pub added_room : (i : ℕ) (was now : TallySum) → i < length lines → length lines ≤ 16 → AddedTo i p lines sums was now → AreBelow (2 ^ 127) now
  added_room i was now below most so hook = room_still (sum_of now hook) i (length lines) (so.fits hook) below most

  pub added_more : (i : ℕ) (was now next : TallySum) (line : ZoneHead) (s : Sums) → i < length lines → i < length sums → line ≡ get_or lines i line → s ≡ get_or sums i s → AreOfAtMost (2 ^ 35) s
      → ((hook : Hook) → sum_of next hook ≡ sum_of now hook + cond (is_of_keg p i line) (sum_of s.tally hook) 0) → AddedTo i p lines sums was now → AddedTo (i + 1) p lines sums was next
  added_more i was now next line s below also is_line is_s few step so = record {
    rest = λ hook.
        let term : Sums → ℕ = λ v. sum_of v.tally hook in
        let P : ℕ → Type 0 = λ n. sum_of now hook + n ≡ sum_of was hook + keg_sums hook p lines sums in
        moved_on (sum_of now hook) (sum_of next hook) (cond (is_of_keg p i (get_or lines i line)) (term (get_or sums i s)) 0) (cond (is_of_keg p i line) (term s) 0)
        (picked (is_of_keg p) term (i + 1) (drop (i + 1) lines) (drop (i + 1) sums)) (sum_of was hook + keg_sums hook p lines sums)
        (subst P (picked_next (is_of_keg p) term lines sums i line s below also) (so.rest hook)) (step hook)
        (ap (λ (l : ZoneHead). cond (is_of_keg p i l) (term s) 0) is_line ∙ ap (λ (v : Sums). cond (is_of_keg p i (get_or lines i line)) (term v) 0) is_s);
    fits = λ hook.
        step_fits (sum_of now hook) (sum_of next hook) (cond (is_of_keg p i line) (sum_of s.tally hook) 0) i (so.fits hook) (step hook)
        (picked_few (is_of_keg p i line) (sum_of s.tally hook) (zone_fits (sum_of s.tally hook) (few.tally hook)));
  }

  pub added_all : (i : ℕ) (was now : TallySum) → length lines ≤ i → AddedTo i p lines sums was now → (hook : Hook) → sum_of now hook ≡ sum_of was hook + keg_sums hook p lines sums
  added_all i was now past so hook =
      let term : Sums → ℕ = λ v. sum_of v.tally hook in
      at_end (sum_of now hook) (picked (is_of_keg p) term i (drop i lines) (drop i sums)) (sum_of was hook + keg_sums hook p lines sums) (so.rest hook) (picked_past (is_of_keg p) term lines (drop i sums) i past)
