-- Each step keeps the rule.
use Rattle.std.proofs.Common.{◌≡◌, ℕ, zero, suc, ◌≤◌, List, [], ◌∷◌, sym, refl, subst, arith}
use Rattle.std.specs.Prelude.{All, max, slice_index, slice_index_or, slice_set}
use Rattle.std.proofs.lemmas.List.Elements.{All-set, All-append}
use mathlib.Core.Option.{none, some, some-injective, some-ne-none}
use lib.ListN.{get_elem?}
use Rattle.atomic_table.specs.Table.{Me, Act, keeps, step, homes_after, carried_after, Valid, Allows, Splits}
use Rattle.keyed_lock.specs.Rising.{OnlyRises, Raises}

-- what holds of all holds of the one at i
All-at : {X : Type 0} (P : X → Type 0) (xs : List X) (i : ℕ) (x : X) → All P xs → get_elem? xs i ≡ some x → P x
All-at P [] i x all e = absurd (some-ne-none x (sym e))
All-at P (y ∷ ys) zero x all e = let here : P y = all 0 y (omega arith) in subst P (some-injective y x e) here
All-at P (y ∷ ys) (suc i) x all e = All-at P ys i x (λ j d h. all (suc j) d (omega arith)) e

All-one : {X : Type 0} (P : X → Type 0) (x : X) → P x → All P (x ∷ [])
All-one P x p zero d h = p
All-one P x p (suc k) d h = absurd (omega arith)

module _ {S : Type 0} where
  pub may_raise : (slots id height : ℕ) (me : Me S ℕ) → Allows OnlyRises slots id me 0 (λ n. max n height) (Raises (step slots 0 height 0 none) me)
  may_raise slots id height me s law one seen fits =
      let word : ℕ = law.0 in
      let top : ℕ = max word height in
      let below : me.0 ≤ word = All-at (λ known. known ≤ word) s.views id me.0 law.2 seen in
      let up : All (λ known. known ≤ top) s.views = λ i d h. let old : slice_index_or s.views i d ≤ word = law.2 i d h in omega arith in
      let P : List ℕ → Type 0 = λ ws. (w : ℕ) × (a : Act S) × Valid s.homes me.1 a
      × OnlyRises record { words = slice_set ws 0 (max (slice_index ws 0) height); homes = homes_after s.homes me.1 a; views = slice_set s.views id w }
      × Raises (step slots 0 height 0 none) me (slice_index ws 0) (w, carried_after me.1 a) in
      let base : P (word ∷ []) = (top, keeps, tt, (top, refl, All-set (λ known. known ≤ top) s.views id top (omega arith) up), (below, refl)) in
      subst P (sym law.1) base

  pub may_copy : (id known : ℕ) → Splits {S = S} OnlyRises id known known known
  may_copy id known s law seen =
      let P : ℕ → Type 0 = λ height. height ≤ law.0 in
      let below : P known = All-at P s.views id known law.2 seen in
      (law.0, law.1, All-append P (slice_set s.views id known) (known ∷ []) (All-set P s.views id known below law.2) (All-one P known below))
