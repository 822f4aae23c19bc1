-- Each step on the word keeps the law of the lock.
use Rattle.std.proofs.Common.{◌≡◌, ◌≢◌, ℕ, zero, suc, List, [], ◌∷◌, ◌++◌, Some, Option, sym, refl, ap, subst, ◌∙◌, arith}
use Rattle.std.proofs.lemmas.List.Elements.{All-set, All-append}
use Rattle.std.specs.Prelude.{◌==◌, All, slice_index, slice_set}
use mathlib.Core.Option.{Option as Place, none, some, some-injective}
use native.Mathlib.Decide.{ℕ_discrete}
use lib.ListN.{get_elem?}
use prog.Atomic.{either}
use Rattle.atomic_table.specs.Table.{rest, State, Me, Act, keeps, takes, gives, opening, homes_after, carried_after, Valid, Allows, Arrives, Final}
use Rattle.atomic_table.proofs.Lists.{exchanged}
use Rattle.keyed_lock.specs.declared.lock.TheConstants.{UNLOCKED, SLOT, WORD}
use Rattle.keyed_lock.specs.Protocol.{IsHome, ObeysLaw, Holds, TakesLock}

All-one : {X : Type 0} (P : X → Type 0) (x : X) → P x → All P (x ∷ [])
All-one P x p zero d h = p
All-one P x p (suc k) d h = absurd (omega arith)

-- a word that a compare-exchange sets to `new` where it was unlocked does not say unlocked
pub exchanged_held : (new : ℕ) → new ≢ UNLOCKED → (n : ℕ) → either (n == UNLOCKED) new n ≢ UNLOCKED
exchanged_held new held n = exchanged n UNLOCKED new (λ m. m ≢ UNLOCKED) (λ _. held) (λ ne. ne)

module _ {T K : Type 0} (rule : K → T → Type 0) (k : K) where
  abbrev AreKey : List K → Type 0
  AreKey views = All (λ v. v ≡ k) views

  pub opens : (x : T) → rule k x → ObeysLaw rule k (opening (UNLOCKED ∷ []) (Some x ∷ []) k)
  opens x kept = (UNLOCKED, some (Some x), refl, refl, All-one (λ v. v ≡ k) k refl, λ _. (x, kept, refl))

  -- A seat that holds nothing makes the word f of what it was, and `views` says the views after by that of the seat
  abbrev Steps : (ℕ → ℕ) → (K → List K) → List ℕ → List (Place (Option T)) → Type 0
  Steps f views words homes = (w : K) × (a : Act (Option T)) × Valid homes [] a
      × ObeysLaw rule k record { words = slice_set words WORD (f (slice_index words WORD)); homes = homes_after homes [] a; views = views w }
      × TakesLock rule (k, []) (slice_index words WORD) (w, carried_after [] a)

  -- it takes the value where it finds the word unlocked, and else nothing
  found : (f : ℕ → ℕ) (views : K → List K) (word : ℕ) (slot : Place (Option T)) → (word ≡ UNLOCKED → IsHome rule k slot) → f word ≢ UNLOCKED → AreKey (views k) → Dec (word ≡ UNLOCKED) → Steps f views (word ∷ []) (slot ∷ [])
  found f views word slot home held all (yes e) =
      let it : IsHome rule k slot = home e in
      (k, takes SLOT (Some it.0), ap some it.2, (f word, none, refl, refl, all, λ z. absurd (held z)), (refl, λ _. (it.0, it.1, refl), λ ne. absurd (ne e)))
  found f views word slot home held all (no ne) = (k, keeps, tt, (f word, slot, refl, refl, all, λ z. absurd (held z)), (refl, λ e. absurd (ne e), λ _. refl))

  steps : (s : State (Option T) K) → ObeysLaw rule k s → (f : ℕ → ℕ) → ((n : ℕ) → f n ≢ UNLOCKED) → (views : K → List K) → AreKey (views k) → Steps f views s.words s.homes
  steps s law f held views all =
      let base : Steps f views (law.0 ∷ []) (law.1 ∷ []) = found f views law.0 law.1 law.5 (held law.0) all (ℕ_discrete law.0 UNLOCKED) in
      subst (λ words. Steps f views words s.homes) (sym law.2) (subst (λ homes. Steps f views (law.0 ∷ []) homes) (sym law.3) base)

  -- the step of a new seat
  pub may_arrive : (slots new : ℕ) → new ≢ UNLOCKED → Arrives (ObeysLaw rule k) slots WORD (λ _. new) (TakesLock rule (k, []))
  may_arrive slots new held s law one fits =
      steps s law (λ _. new) (λ _. held) (λ w. s.views ++ w ∷ []) (All-append (λ v. v ≡ k) s.views (k ∷ []) law.4 (All-one (λ v. v ≡ k) k refl))

  -- the step of a seat that holds nothing
  pub may_take : (slots id : ℕ) (me : Me (Option T) K) (f : ℕ → ℕ) → me ≡ (k, []) → ((n : ℕ) → f n ≢ UNLOCKED) → Allows (ObeysLaw rule k) slots id me WORD f (TakesLock rule me)
  may_take slots id me f is held =
      let Q : Me (Option T) K → Type 0 = λ m. Allows (ObeysLaw rule k) slots id m WORD f (TakesLock rule m) in
      subst Q (sym is) (λ s law one seen fits. steps s law f held (λ w. slice_set s.views id w) (All-set (λ v. v ≡ k) s.views id k refl law.4))

  -- the holder puts the value back and makes the word unlocked
  pub may_unlock : (slots id : ℕ) (me : Me (Option T) K) → me.0 ≡ k → Holds rule me → Allows (ObeysLaw rule k) slots id me WORD (λ _. UNLOCKED) (λ found after. Unit {0})
  may_unlock slots id me is held s law one seen fits =
      let x : T = held.0 in
      let kept : rule k x = subst (λ v. rule v x) is held.1 in
      let P : List ℕ → List (Place (Option T)) → List (ℕ × Option T) → Type 0 = λ words homes carried. (w : K) × (a : Act (Option T)) × Valid homes carried a
      × ObeysLaw rule k record { words = slice_set words WORD UNLOCKED; homes = homes_after homes carried a; views = slice_set s.views id w } × Unit {0} in
      let all : AreKey (slice_set s.views id k) = All-set (λ v. v ≡ k) s.views id k refl law.4 in
      let base : P (law.0 ∷ []) (law.1 ∷ []) ((SLOT, Some x) ∷ []) = (k, gives, tt, (UNLOCKED, some (Some x), refl, refl, all, λ _. (x, kept, refl)), tt) in
      subst (λ words. P words s.homes me.1) (sym law.2) (subst (λ homes. P (law.0 ∷ []) homes me.1) (sym law.3) (subst (λ carried. P (law.0 ∷ []) (law.1 ∷ []) carried) (sym held.2) base))

  -- what `exchange` asks of a holder
  pub last_taken : (me : Me (Option T) K) → Holds rule me → (old : Option T) × (me.1 ≡ (SLOT, old) ∷ rest me.1)
  last_taken me held = (Some held.0, held.2 ∙ ap (λ carried. (SLOT, Some held.0) ∷ rest carried) (sym held.2))

  -- a table that was closed while its word said unlocked has the value
  pub closes : (words : List ℕ) (slots : List (Option T)) → Final (ObeysLaw rule k) words slots → get_elem? words WORD ≡ some UNLOCKED → (x : T) × rule k x × (get_elem? slots SLOT ≡ some (Some x))
  closes words slots end unlocked =
      let s : State (Option T) K = end.0 in
      let law : ObeysLaw rule k s = end.1 in
      let word : law.0 ≡ UNLOCKED = some-injective law.0 UNLOCKED (subst (λ l. get_elem? l WORD ≡ some UNLOCKED) (sym end.2 ∙ law.2) unlocked) in
      let home : IsHome rule k law.1 = law.5 word in
      let there : get_elem? s.homes SLOT ≡ some (some (Some home.0)) = subst (λ homes. get_elem? homes SLOT ≡ some (some (Some home.0))) (sym law.3) (ap some home.2) in
      (home.0, home.1, end.4 SLOT (Some home.0) there)

  -- and the value that is found there is that one
  pub closes_kept : (words : List ℕ) (slots : List (Option T)) (value : T) → Final (ObeysLaw rule k) words slots → get_elem? words WORD ≡ some UNLOCKED → get_elem? slots SLOT ≡ some (Some value) → rule k value
  closes_kept words slots value end unlocked there =
      let home : (x : T) × rule k x × (get_elem? slots SLOT ≡ some (Some x)) = closes words slots end unlocked in
      let both : some (Some home.0) ≡ some (Some value) = sym home.2 ∙ there in
      let same : home.0 ≡ value = cc in
      subst (rule k) same home.1
