-- That nothing is usable stays so.
use Rattle.std.proofs.Common.{◌≡◌, ◌==◌, ◌&&◌, ℕ, Bool, true, false, not, cond, List, [], ◌∷◌, ◌++◌, length, get_or, set, Option, Some, None, IfNone, slice_set, inl, inr, sym, ap, ◌∙◌, subst}
use Rattle.std.proofs.Math.Dec.{eqb-suc-zero}
use Rattle.std.proofs.lemmas.Bool.{cases_lt}
use Rattle.std.proofs.lemmas.List.{get_or_past, get_or-set_same, length-set}
use Rattle.uma_seat.specs.Stack.{Stack, stack_at, empty_stack}

-- an empty bucket in the place of a domain's is empty, also where there is no such domain
none_put : {X : Type 0} (stacks : List (Stack X)) (domain room : ℕ) → (stack_at (slice_set stacks domain (empty_stack room)) domain).items ≡ []
none_put stacks domain room = elim (cases_lt domain (length stacks)) [
  | inl within ↦ ap (λ (s : Stack _). s.items) (get_or-set_same stacks domain (empty_stack room) (empty_stack 0) within)
  | inr past ↦ ap (λ (s : Stack _). s.items) (get_or_past (slice_set stacks domain (empty_stack room)) domain (empty_stack 0) (rw length-set past))
]

-- What was usable of a seat was empty, after the exchange that an allocation begins with. So it is behind it.
pub none_left : {X : Type 0} (smr : Bool) (domain room : ℕ) (items : List X) (left : Stack X) (stacks now : List (Stack X))
    → (cond (not smr && (length items == 0)) (stack_at stacks domain) (record { items = items; room = room })).items ≡ []
    → now ≡ cond (not smr && (length items == 0)) (slice_set stacks domain (empty_stack room)) stacks
    → left.items ≡ []
    → cond smr [] (stack_at now domain).items ++ left.items ≡ []
none_left true domain room items left stacks now ready is none = none
none_left {X} false domain room [] left stacks now ready is none =
    let free : (stack_at now domain).items ≡ [] = ap (λ (l : List (Stack X)). (stack_at l domain).items) is ∙ none_put stacks domain room in
    ap (λ (l : List X). l ++ left.items) free ∙ none
none_left false domain room (x ∷ xs) left stacks now ready is none =
    let some = subst (λ (b : Bool). (cond b (stack_at stacks domain) (record { items = x ∷ xs; room = room })).items ≡ []) (eqb-suc-zero (length xs)) ready in
    absurd (cc)

-- so too where the seat is made for the same, and where an item was taken there is nothing to say
pub still_none : {X : Type 0} (taken : Option X) (smr smr' : Bool) (domain domain' : ℕ) (top ready left : Stack X) (stacks now : List (Stack X)) → smr' ≡ smr → domain' ≡ domain
    → ready ≡ cond (not smr && (length top.items == 0)) (stack_at stacks domain) top
    → now ≡ cond (not smr && (length top.items == 0)) (slice_set stacks domain (empty_stack top.room)) stacks
    → IfNone taken (ready.items ≡ []) → IfNone taken (left.items ≡ []) → IfNone taken (cond smr' [] (stack_at now domain').items ++ left.items ≡ [])
still_none None smr smr' domain domain' top ready left stacks now same same' is put none none' =
    subst (λ (s : Bool). cond s [] (stack_at now domain').items ++ left.items ≡ []) (sym same)
    (subst (λ (d : ℕ). cond smr [] (stack_at now d).items ++ left.items ≡ []) (sym same') (none_left smr domain top.room top.items left stacks now (sym (ap (λ (s : Stack _). s.items) is) ∙ none) put none'))
still_none (Some x) smr smr' domain domain' top ready left stacks now same same' is put none none' = tt
