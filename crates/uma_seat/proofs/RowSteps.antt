-- One bucket of a row changes.
use Rattle.std.proofs.Common.{◌≡◌, ◌<◌, ◌+◌, ℕ, List, [], ◌∷◌, ◌++◌, map, length, get_or, set, Option, Some, None, IfSome, IfNone, IsSome, refl, sym, ap, ◌∙◌, subst, arith, inl, inr}
use Rattle.std.specs.Prelude.{◌≢◌}
use Rattle.std.proofs.lemmas.Bool.{cases_lt}
use Rattle.std.specs.List.{All}
use Rattle.std.proofs.lemmas.List.{get_or-map, length-map, map-set}
use Rattle.std.proofs.lemmas.List.Elements.{All-pop, All-nil}
use Rattle.uma_life.specs.declared.states.Ticket.{Ticket}
use Rattle.uma_bucket.specs.declared.freed.Loose.{Loose}
use Rattle.uma_bucket.specs.Freed.{freed_item, freed_ticket}
use Rattle.uma_bucket.specs.Home.{Home, IsHome, AreHome}
use Rattle.uma_bucket.specs.Loose.{loose_items, loose_tickets}
use Rattle.uma_seat.specs.Row.{TakesAt}
use Rattle.uma_seat.specs.Stack.{Stack, loose_stack, stack_at, with_item, empty_stack}

abbrev pub stack_with : {A : Type 0} → List A → ℕ → Stack A
stack_with items room = record { items = items; room = room }

pub same_stack : {A : Type 0} (xs ys : List A) (n m : ℕ) → xs ≡ ys → n ≡ m → stack_with xs n ≡ stack_with ys m
same_stack xs ys n m items room = ap (λ (l : List _). stack_with l n) items ∙ ap (λ (k : ℕ). stack_with ys k) room

pub none_of : {A : Type 0} (xs : List A) → length xs ≡ 0 → xs ≡ []
none_of [] none = refl
none_of (x ∷ xs) none = absurd (omega (arith, none))

-- what holds of all holds of the last
pub All-last : {X : Type 0} (P : X → Type 0) (xs ys : List X) (x : X) → xs ≡ ys ++ x ∷ [] → All P xs → P x
All-last P xs ys x was all = (All-pop P xs ys (Some x) was all).1

pub All-there : {X : Type 0} (P : X → Type 0) (xs : List X) (i : ℕ) (x : X) → i < length xs → x ≡ get_or xs i x → All P xs → P x
All-there P xs i x within there all = subst P (sym there) (all i x within)

-- what holds below n but for one number, and of n, holds below n + 1
pub none_more : (P : ℕ → Type 0) (n own : ℕ) → ((k : ℕ) → k < n → k ≢ own → P k) → (n ≢ own → P n) → (k : ℕ) → k < n + 1 → k ≢ own → P k
none_more P n own before here k below other = elim (cases_lt k n) [
  | inl within ↦ before k within other
  | inr past ↦ let is : n ≡ k = omega (arith, past, below) in subst P is (here (λ same. other (sym is ∙ same)))
]

pub none_home : {A : Type 0} (ticket : A → Ticket) (home : Home) (xs : List A) → xs ≡ [] → AreHome home (map ticket xs)
none_home {A = A} ticket home xs none = subst (λ (l : List A). AreHome home (map ticket l)) (sym none) (All-nil (IsHome home))

-- empty buckets are at home anywhere
pub new_home : {T : Type 0} {g : _} (home : Home) (size : ℕ) (xs : List (Loose T g)) → All (λ loose. loose_stack loose ≡ empty_stack size) xs → All (λ loose. AreHome home (loose_tickets loose)) xs
new_home home size xs empty i loose within =
    let items = loose_items (get_or xs i loose) in
    none_home freed_ticket home items (none_of items (sym (length-map items freed_item) ∙ ap length (ap (λ (s : Stack _). s.items) (empty i loose within))))

module _ {B A : Type 0} (stack : B → Stack A) (xs : List B) (i : ℕ) where
  pub at_row : (b : B) → i < length xs → b ≡ get_or xs i b → stack_at (map stack xs) i ≡ stack b
  at_row b within there = get_or-map stack xs i b (empty_stack 0) within ∙ ap stack (sym there)

  pub set_row : (new : B) (s : Stack A) → stack new ≡ s → map stack (set xs i new) ≡ set (map stack xs) i s
  set_row new s is = map-set stack xs i new ∙ ap (set (map stack xs) i) is

  -- the bucket at i with one item more
  pub pushed : (b new : B) (item : A) → i < length xs → b ≡ get_or xs i b → (stack new).items ≡ (stack b).items ++ item ∷ [] → (stack new).room ≡ (stack b).room → stack new ≡ with_item (stack_at (map stack xs) i) item
  pushed b new item within there items room =
      same_stack (stack new).items ((stack b).items ++ item ∷ []) (stack new).room (stack b).room items room
      ∙ ap (λ (s : Stack A). with_item s item) (sym (at_row b within there))

  -- the item on top of the bucket at i is taken
  pub taken_at : (b new : B) (result : Option A) → i < length xs → b ≡ get_or xs i b → IfSome result (λ item. (stack b).items ≡ (stack new).items ++ item ∷ []) → (stack new).room ≡ (stack b).room
      → IfSome result (λ item. TakesAt (map stack xs) i item (map stack (set xs i new)))
  taken_at b new None within there last room = tt
  taken_at b new (Some item) within there last room =
      let here = at_row b within there in
      record {
        left = (stack new).items;
        was = ap (λ (s : Stack A). s.items) here ∙ last;
        buckets = set_row new (stack_with (stack new).items (stack_at (map stack xs) i).room) (same_stack (stack new).items (stack new).items (stack new).room _ refl (room ∙ ap (λ (s : Stack A). s.room) (sym here)));
      }

pub no_none : {A : Type 0} (P : Type 0) (r : Option A) → IsSome r → IfNone r P
no_none P None some = absurd (cc)
no_none P (Some x) some = tt
