-- A step of a host's own may be taken where the host's rule is kept.
use Rattle.std.proofs.Common.{◌≡◌, ℕ, refl, sym, ◌∙◌, subst}
use Rattle.atomic_table.specs.Table.{State, Me, Allows, Splits, Joins, keeps}
use Rattle.smr_core.proofs.PlaceLemmas.{set_else}
use Rattle.smr_clock.specs.declared.clock.Setup.{Setup}
use Rattle.smr_clock.specs.declared.view.View.{View}
use Rattle.smr_clock.specs.declared.host.HostAct.{HostAct}
use Rattle.smr_clock.specs.HostLaws.{Rule}
use Rattle.smr_clock.specs.Views.{spent_view}
use Rattle.smr_clock.specs.Steps.{IsWriteFound, write_looking, note_view, joined_view}
use Rattle.smr_clock.specs.HostSteps.{Change, HostKeeps, HostStepped, SplitKeeps, JoinKeeps, with_host, word_after}

at_key : {P : Type 0} (holds : Rule P) (k : Setup) (slots id : ℕ) (me : Me (Unit {0}) (View P)) (word : ℕ) (act : HostAct) (changes : Change P)
    → HostKeeps holds k id me.0 word act changes
    → Allows (λ (s : State (Unit {0}) (View P)). holds k s.words s.views) slots id me word (word_after act)
    (λ found after. HostStepped me.0 word act changes found after.0 × (after.1 ≡ me.1))
at_key holds k slots id me word act changes kept s held counted at small =
    let t = kept s.words s.views held at small in
    (with_host me.0 t.0, keeps, tt, t.2, ((t.0, t.1, refl), refl))

-- the clock's setup is the table's key, and the act is the one that was given
pub host_allowed : {P : Type 0} (holds : Rule P) (a k : Setup) (slots id : ℕ) (me : Me (Unit {0}) (View P)) (word : ℕ) (given act : HostAct) (changes : Change P)
    → a ≡ k → given ≡ act → HostKeeps holds a id me.0 word given changes
    → Allows (λ (s : State (Unit {0}) (View P)). holds k s.words s.views) slots id me word (word_after act)
    (λ found after. HostStepped me.0 word act changes found after.0 × (after.1 ≡ me.1))
host_allowed holds a k slots id me word given act changes own is kept =
    at_key holds k slots id me word act changes
    (subst (λ (b : Setup). HostKeeps holds b id me.0 word act changes) own
    (subst (λ (x : HostAct). HostKeeps holds a id me.0 word x changes) is kept))

module _ {P : Type 0} (holds : Rule P) (a k : Setup) (own : a ≡ k) where
  pub split_allowed : (id : ℕ) (v v' : View P) (found : ℕ) (left right : P → P) → IsWriteFound v.holder found → v' ≡ write_looking v found → (old : ℕ) → id ≡ old → SplitKeeps holds a old v left right
      → Splits (λ (s : State (Unit {0}) (View P)). holds k s.words s.views) id v' (with_host v' (left v'.host)) (note_view right v')
  split_allowed id v v' found left right is after old same kept =
      subst (λ (b : Setup). Splits (λ (s : State (Unit {0}) (View P)). holds b s.words s.views) id v' (with_host v' (left v'.host)) (note_view right v')) own
      (subst (λ (x : View P). Splits (λ (s : State (Unit {0}) (View P)). holds a s.words s.views) id x (with_host x (left x.host)) (note_view right x)) (sym after)
      (subst (λ (n : ℕ). Splits (λ (s : State (Unit {0}) (View P)). holds a s.words s.views) n (write_looking v found) (with_host (write_looking v found) (left v.host)) (note_view right (write_looking v found))) (sym same)
      (λ s held there. kept found is s.words s.views held there)))

  pub join_allowed : (id : ℕ) (v : View P) (at : ℕ) (other : View P) (both : P → P → P) (blank : P) → JoinKeeps holds a id v at other both blank
      → Joins (λ (s : State (Unit {0}) (View P)). holds k s.words s.views) id v at other (joined_view both v other) (spent_view blank)
  join_allowed id v at other both blank kept =
      subst (λ (b : Setup). Joins (λ (s : State (Unit {0}) (View P)). holds b s.words s.views) id v at other (joined_view both v other) (spent_view blank)) own
      (λ s held here apart there. kept s.words s.views held here (sym (set_else s.views id at (joined_view both v other) apart) ∙ there) apart)
