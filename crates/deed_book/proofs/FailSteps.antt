-- Each step keeps the law of the fail book.
use Rattle.std.proofs.Common.{◌≡◌, ℕ, ◌+◌, List, [], ◌∷◌, ◌++◌, length, set, sum_by, option_to_list, cond, Option, None, sym, refl, ap, ◌∙◌, subst, arith}
use Rattle.std.proofs.lemmas.List.Sums.{sum_by-cons, sum_by-append}
use mathlib.Core.Option.{some, some-injective}
use mathlib.Core.Logic.{dite}
use native.Mathlib.Decide.{ℕ_discrete}
use lib.ListN.{get_elem?}
use Rattle.atomic_table.specs.Table.{State, Me, Allows, Splits, Joins, keeps}
use Rattle.atomic_table.proofs.Lists.{at_longer, set_else}
use Rattle.deed_book.specs.declared.deed.Cause.{Cause}
use Rattle.deed_book.specs.declared.fail_book.FailView.{FailView}
use Rattle.deed_book.specs.FailViews.{cause, share_view, unraised, storing_first, storing_second, raising, settled, split_off, joining_in}
use Rattle.deed_book.specs.FailBookLaw.{FailBookLaw, AddsUp, is_cause}
use Rattle.deed_book.proofs.Lists.{set_there, sum_by-set_at}

-- what all shares and units weigh
abbrev held_by : (Cause → ℕ) → List FailView → ℕ
held_by weight views = sum_by (λ (v : FailView). sum_by weight v.held) views

abbrev pending_of : (Cause → ℕ) → FailView → ℕ
pending_of weight v = sum_by weight (option_to_list v.pending)

same_book : (views : List FailView) (v : FailView) (law : FailBookLaw views) → get_elem? views 0 ≡ some v → law.book ≡ v
same_book views v law at = some-injective law.book v (sym law.first ∙ at)

-- the law, of a first view that is known
balance_at : (views : List FailView) (v : FailView) → FailBookLaw views → get_elem? views 0 ≡ some v → (weight : Cause → ℕ) → sum_by weight v.raised ≡ held_by weight views + pending_of weight v
balance_at views v law at weight = subst (λ (b : FailView). sum_by weight b.raised ≡ held_by weight views + pending_of weight b) (same_book views v law at) (law.balanced weight)

pub opens : FailBookLaw (unraised ∷ [])
opens = record { book = unraised; first = refl; balanced = λ weight. refl }

-- a step of the book's seat keeps the law where what it raises is what it holds or what is pending
changes : (views : List FailView) (v w : FailView) → FailBookLaw views → get_elem? views 0 ≡ some v
    → ((weight : Cause → ℕ) → sum_by weight w.raised + (sum_by weight v.held + pending_of weight v) ≡ sum_by weight v.raised + (sum_by weight w.held + pending_of weight w))
    → FailBookLaw (set views 0 w)
changes views v w law at even =
    record {
      book = w;
      first = set_there views 0 w v at;
      balanced = λ weight. omega (arith, even weight, balance_at views v law at weight, sum_by-set_at (λ (u : FailView). sum_by weight u.held) views 0 v w at);
    }

changes_at : (views : List FailView) (id : ℕ) (v w : FailView) → id ≡ 0 → FailBookLaw views → get_elem? views id ≡ some v
    → ((weight : Cause → ℕ) → sum_by weight w.raised + (sum_by weight v.held + pending_of weight v) ≡ sum_by weight v.raised + (sum_by weight w.held + pending_of weight w))
    → FailBookLaw (set views id w)
changes_at views id v w first law at even =
    subst (λ (i : ℕ). FailBookLaw (set views i w)) (sym first) (changes views v w law (ap (get_elem? views) (sym first) ∙ at) even)

pub storing_first_allowed : (slots id : ℕ) (me : Me (Unit {0}) FailView) (word number : ℕ) → id ≡ 0
    → Allows (λ (s : State (Unit {0}) FailView). FailBookLaw s.views) slots id me word (λ _. number) (λ _ after. after ≡ (storing_first me.0 number, me.1))
storing_first_allowed slots id me word number first s law counted at small =
    (storing_first me.0 number, keeps, tt, changes_at s.views id me.0 (storing_first me.0 number) first law at (λ weight. refl), refl)

pub storing_second_allowed : (slots id : ℕ) (me : Me (Unit {0}) FailView) (word number : ℕ) → id ≡ 0
    → Allows (λ (s : State (Unit {0}) FailView). FailBookLaw s.views) slots id me word (λ _. number) (λ _ after. after ≡ (storing_second me.0 number, me.1))
storing_second_allowed slots id me word number first s law counted at small =
    (storing_second me.0 number, keeps, tt, changes_at s.views id me.0 (storing_second me.0 number) first law at (λ weight. refl), refl)

pub raising_allowed : (slots id : ℕ) (me : Me (Unit {0}) FailView) (word kind : ℕ) → id ≡ 0 → me.0.pending ≡ None
    → Allows (λ (s : State (Unit {0}) FailView). FailBookLaw s.views) slots id me word (λ _. kind) (λ _ after. after ≡ (raising me.0 kind, me.1))
raising_allowed slots id me word kind first none s law counted at small =
    let v = me.0 in
    let new = cause kind v.first v.second in
    let even : (weight : Cause → ℕ) → sum_by weight (v.raised ++ new ∷ []) + (sum_by weight v.held + pending_of weight v) ≡ sum_by weight v.raised + (sum_by weight v.held + sum_by weight (new ∷ [])) =
    λ weight. let nothing : pending_of weight v ≡ 0 = ap (λ (p : Option Cause). sum_by weight (option_to_list p)) none in omega (arith, sum_by-append weight v.raised (new ∷ [])) in
    (raising v kind, keeps, tt, changes_at s.views id v (raising v kind) first law at even, refl)

splits : (views : List FailView) (v : FailView) → FailBookLaw views → get_elem? views 0 ≡ some v → FailBookLaw (set views 0 (settled v) ++ split_off v ∷ [])
splits views v law at =
    let left = set views 0 (settled v) in
    record {
      book = settled v;
      first = at_longer left (split_off v ∷ []) 0 (settled v) (set_there views 0 (settled v) v at);
      balanced = λ weight.
          let held = λ (u : FailView). sum_by weight u.held in
          omega (arith, balance_at views v law at weight, sum_by-set_at held views 0 v (settled v) at, sum_by-append held left (split_off v ∷ []), sum_by-cons held (split_off v) []);
    }

pub splitting_allowed : (id : ℕ) (v : FailView) → id ≡ 0 → Splits (λ (s : State (Unit {0}) FailView). FailBookLaw s.views) id v (settled v) (split_off v)
splitting_allowed id v first s law at =
    subst (λ (i : ℕ). FailBookLaw (set s.views i (settled v) ++ split_off v ∷ [])) (sym first) (splits s.views v law (ap (get_elem? s.views) (sym first) ∙ at))

-- what two seats hold is what the one holds once the other is joined into it
held_once_joined : (weight : Cause → ℕ) (views : List FailView) (id : ℕ) (v : FailView) (other : ℕ) (w : FailView) → get_elem? views id ≡ some v → get_elem? (set views id (joining_in v w)) other ≡ some w
    → held_by weight (set (set views id (joining_in v w)) other (share_view [])) ≡ held_by weight views
held_once_joined weight views id v other w at there =
    let held = λ (u : FailView). sum_by weight u.held in
    let both = joining_in v w in
    omega (
      arith,
      sum_by-append weight v.held w.held,
      sum_by-set_at held views id v both at,
      sum_by-set_at held (set views id both) other w (share_view []) there,
    )

-- Where the seat that is joined is the first one, the book never was raised, so all is empty; else the book's list and what is pending stay.
joins : (views : List FailView) (id : ℕ) (v : FailView) (other : ℕ) (w : FailView) → w.raised ≡ [] → FailBookLaw views → get_elem? views id ≡ some v → ¬ (other ≡ id) → get_elem? (set views id (joining_in v w)) other ≡ some w
    → FailBookLaw (set (set views id (joining_in v w)) other (share_view []))
joins views id v other w unraised law at apart there =
    let both = joining_in v w in
    let all = set (set views id both) other (share_view []) in
    let same = λ (weight : Cause → ℕ). held_once_joined weight views id v other w at there in
    dite (ℕ_discrete other 0)
    (λ zero.
    let at' : get_elem? views 0 ≡ some w = ap (get_elem? views) (sym zero) ∙ (sym (set_else views id other both apart) ∙ there) in
    record {
      book = share_view [];
      first = ap (get_elem? all) (sym zero) ∙ set_there (set views id both) other (share_view []) w there;
      balanced = λ weight.
          let none : sum_by weight w.raised ≡ 0 = ap (sum_by weight) unraised in
          let was = balance_at views w law at' weight in
          omega (arith, same weight);
    })
    (λ some_other. dite (ℕ_discrete id 0)
    (λ zero.
    let at' : get_elem? views 0 ≡ some v = ap (get_elem? views) (sym zero) ∙ at in
    record {
      book = both;
      first = set_else (set views id both) other 0 (share_view []) (λ e. some_other (sym e)) ∙ ap (get_elem? (set views id both)) (sym zero) ∙ set_there views id both v at;
      balanced = λ weight. balance_at views v law at' weight ∙ ap (λ (n : ℕ). n + pending_of weight v) (sym (same weight));
    })
    (λ not_first.
    record {
      book = law.book;
      first = set_else (set views id both) other 0 (share_view []) (λ e. some_other (sym e)) ∙ set_else views id 0 both (λ e. not_first (sym e)) ∙ law.first;
      balanced = λ weight. law.balanced weight ∙ ap (λ (n : ℕ). n + pending_of weight law.book) (sym (same weight));
    }))

pub joining_allowed : (id : ℕ) (v : FailView) (other : ℕ) (w : FailView) → w.raised ≡ [] → Joins (λ (s : State (Unit {0}) FailView). FailBookLaw s.views) id v other w (joining_in v w) (share_view [])
joining_allowed id v other w unraised s law at apart there = joins s.views id v other w unraised law at apart there

sum_by-one : (causes : List Cause) → sum_by (λ (c : Cause). 1) causes ≡ length causes
sum_by-one [] = refl
sum_by-one (c ∷ cs) = omega (arith, sum_by-cons (λ (x : Cause). 1) c cs, sum_by-one cs)

pub adds_up : (views : List FailView) (book : FailView) → FailBookLaw views → get_elem? views 0 ≡ some book → AddsUp views book
adds_up views book law at =
    let weights = balance_at views book law at in
    record {
      weights = weights;
      numbers = sym (sum_by-one book.raised) ∙ weights (λ (c : Cause). 1) ∙ (λ i. sum_by (λ (v : FailView). sum_by-one v.held i) views + sum_by-one (option_to_list book.pending) i);
      causes = λ c. weights (λ (d : Cause). cond (is_cause c d) 1 0);
    }
