-- A step of a host's seat, on a word of the host's or on a hand.
use Rattle.std.proofs.Common.{◌≡◌, ℕ, ◌<◌, List, refl, sym, ap, ◌∙◌, subst, ⊎_elim, arith, Bool, true, false}
use Rattle.std.specs.Prelude.{◌==◌, slice_index}
use borrow.Author.Tests.{eqb-true, ne_eqb}
use mathlib.Core.Option.{some}
use lib.ListN.{get_elem?}
use Rattle.atomic_table.specs.Table.{State, Me, Allows, keeps}
use Rattle.smr_core.specs.declared.clock_core.ClockConfig.{ClockConfig}
use Rattle.smr_core.specs.declared.holder.Holder.{Holder}
use Rattle.smr_core.specs.ClockState.{write_place, read_place, place_after_seats}
use Rattle.smr_core.specs.ClockLaw.{ClockLaw}
use Rattle.smr_clock.specs.declared.clock.Setup.{Setup}
use Rattle.smr_clock.specs.declared.view.View.{View}
use Rattle.smr_clock.specs.declared.host.HostAct.TheVariants.{Load}
use Rattle.smr_clock.specs.Views.{holders_of}
use Rattle.smr_clock.specs.HostLaws.{Rule, Includes}
use Rattle.smr_clock.specs.Steps.{IsWriteFound, IsReadFound}
use Rattle.smr_clock.specs.HostSteps.{Change, IsHand, SeatKeeps, SeatStepped, FindsAt, FindsHand, looked, looked_at, with_host}
use Rattle.smr_clock.proofs.Found.{write_found, read_found}
use Rattle.smr_clock.proofs.Kept.{holder_there}

by_test : (b : Bool) (Q : Bool → Type 0) → (b ≡ true → Q true) → (b ≡ false → Q false) → Q b
by_test true Q t f = t refl
by_test false Q t f = f refl

finds : (a : ClockConfig) (ws : List ℕ) (hs : List Holder) (id : ℕ) (h : Holder) (word : ℕ) → ClockLaw a ws hs → get_elem? hs id ≡ some h → FindsHand h word (slice_index ws word)
finds a ws hs id h word law at =
    by_test (word == write_place) (λ b. FindsAt b (word == read_place) h (slice_index ws word))
    (λ e. subst (λ (n : ℕ). IsWriteFound h (slice_index ws n)) (sym (eqb-true word write_place e)) (write_found a ws hs id h law at))
    (λ e.
    by_test (word == read_place) (λ b. FindsAt false b h (slice_index ws word))
    (λ f. subst (λ (n : ℕ). IsReadFound h (slice_index ws n)) (sym (eqb-true word read_place f)) (read_found a ws hs id h law at))
    (λ f. tt))

-- a hand stands in front of a host's words
pub hand_below : (a : ClockConfig) (word : ℕ) → IsHand word → word < place_after_seats a
hand_below a word hand = ⊎_elim (λ e. omega arith) (λ e. omega arith) hand

-- a word behind the sequences is none
no_write : (word : ℕ) → read_place < word → (word == write_place) ≡ false
no_write word above = ne_eqb word write_place (λ e. omega arith)

no_read : (word : ℕ) → read_place < word → (word == read_place) ≡ false
no_read word above = ne_eqb word read_place (λ e. omega arith)

-- a word of the host's teaches nothing of a hand
pub looked_else : {P : Type 0} (v : View P) (word found : ℕ) → read_place < word → looked v word found ≡ v
looked_else v word found above =
    ap (λ (b : Bool). looked_at b (word == read_place) v found) (no_write word above) ∙ ap (λ (b : Bool). looked_at false b v found) (no_read word above)

module _ {P : Type 0} (holds : Rule P) where
  at_own : (includes : Includes holds) (a : Setup) (slots id : ℕ) (me : Me (Unit {0}) (View P)) (word : ℕ) (changes : Change P) → SeatKeeps holds a id me.0 word Load changes
      → Allows (λ (s : State (Unit {0}) (View P)). holds a s.words s.views) slots id me word (λ n. n) (λ found after. SeatStepped me.0 word Load changes found after.0 × (after.1 ≡ me.1))
  at_own includes a slots id me word changes kept s held counted at small =
      let t = kept s.words s.views held at small in
      let law = (includes a s.words s.views held).law in (
        with_host (looked me.0 word (slice_index s.words word)) t.0,
        keeps,
        tt,
        t.2,
        ((finds a.config s.words (holders_of s.views) id me.0.holder word law (holder_there a s.views id me.0 me.0 at), t.0, t.1, refl), refl),
      )

  pub hand_allowed : (includes : Includes holds) (a k : Setup) (slots id : ℕ) (me : Me (Unit {0}) (View P)) (word : ℕ) (changes : Change P) → a ≡ k → SeatKeeps holds a id me.0 word Load changes
      → Allows (λ (s : State (Unit {0}) (View P)). holds k s.words s.views) slots id me word (λ n. n) (λ found after. SeatStepped me.0 word Load changes found after.0 × (after.1 ≡ me.1))
  hand_allowed includes a k slots id me word changes own kept =
      subst (λ (b : Setup). Allows (λ (s : State (Unit {0}) (View P)). holds b s.words s.views) slots id me word (λ n. n) (λ found after. SeatStepped me.0 word Load changes found after.0 × (after.1 ≡ me.1))) own
      (at_own includes a slots id me word changes kept)
