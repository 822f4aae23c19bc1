-- What a seat has cached where an item is taken, and that it stays one of its zone.
use Rattle.std.proofs.Common.{◌≡◌, ◌≢◌, ◌<◌, ◌+◌, ◌==◌, ◌&&◌, ℕ, Bool, true, false, not, cond, Option, Some, None, IfSome, IfNone, List, [], ◌∷◌, ◌++◌, length, sum_by, slice_set, inl, inr, refl, sym, ap, ◌∙◌, subst, arith}
use Rattle.std.proofs.lemmas.Bool.{cases_eq, eqb-true}
use Rattle.std.proofs.lemmas.List.{length-append, length-map}
use Rattle.std.proofs.lemmas.List.Sums.{sum_by-set}
use Rattle.uma_life.specs.declared.states.Cached.{Cached}
use Rattle.uma_bucket.specs.declared.bucket.Bucket.{Bucket}
use Rattle.uma_bucket.specs.Home.{Home, AreHome}
use Rattle.uma_seat.specs.declared.seat.SeatCache.{SeatCache}
use Rattle.uma_seat.specs.declared.seating.Seating.{Seating}
use Rattle.uma_seat.specs.declared.counts.Counts.{Counts}
use Rattle.uma_seat.specs.declared.rows.PlainRow.{PlainRow}
use Rattle.uma_seat.specs.Counts.{fails_in}
use Rattle.uma_seat.specs.Row.{stacks_of}
use Rattle.uma_seat.specs.Seating.{home_of}
use Rattle.uma_seat.specs.Stack.{Stack, stack_of, stack_at, empty_stack}
use Rattle.uma_seat.specs.Seat.{seat_home, seat_smr, seat_domain, top_of, top_tickets, plain_of, usable_of, is_exchanged, top_ready, plain_ready, Pops, TakesCross, HasNoCross, IsSameSeat, KeepsTop, KeepsPlain, KeepsCounts, KeepsMisses, KeepsPorts}
use Rattle.uma_zone.specs.Domains.{domains_home}
use Rattle.uma_zone.proofs.DomainSeats.{refilled_seat, still_seat}
use Rattle.uma_zone.specs.declared.zone.Zone.{Zone}
use Rattle.uma_zone.specs.Zone.{IsSeatOf}
use Rattle.uma_reclaim.specs.Cached.{cached_in}
use Rattle.uma_reclaim.proofs.Rows.{sum_none, sum_exchanged}

abbrev len_of : {X : Type 0} → Stack X → ℕ
len_of stack = length stack.items

-- an exchange is with an empty bucket
exchanged_empty : (smr : Bool) (n : ℕ) → not smr && (n == 0) ≡ true → n ≡ 0
exchanged_empty true n is = absurd (cc)
exchanged_empty false n is = eqb-true n 0 is

-- no bucket has an item where the own one has none, and the others haven't
none_here : {X : Type 0} (smr : Bool) (own at domains : ℕ) (row : List (Stack X)) → length row ≡ cond smr 0 domains → length (cond smr [] (stack_at row own).items) ≡ 0 → at < length row → at ≡ own → length (stack_at row at).items ≡ 0
none_here true own at domains row count none within same = absurd (omega (arith, count, within))
none_here false own at domains row count none within same = ap (λ (n : ℕ). length (stack_at row n).items) same ∙ none

none_at : {X : Type 0} (smr : Bool) (own domains : ℕ) (row : List (Stack X)) → length row ≡ cond smr 0 domains → length (cond smr [] (stack_at row own).items) ≡ 0
    → ((domain : ℕ) → domain < length row → domain ≢ own → (stack_at row domain).items ≡ []) → (at : ℕ) → at < length row → length (stack_at row at).items ≡ 0
none_at smr own domains row count none others at within = elim (cases_eq at own) [
  | inl same ↦ none_here smr own at domains row count none within same
  | inr other ↦ ap length (others at within other)
]

-- what follows from two facts that hold where there is no value
pub none_both : {X : Type 0} (result : Option X) {A B C : Type 0} → IfNone result A → IfNone result B → (A → B → C) → IfNone result C
none_both None a b f = f a b
none_both (Some x) a b f = tt

-- and where there is one
pub some_both : {X : Type 0} (result : Option X) {A B C : X → Type 0} → IfSome result A → IfSome result B → ((x : X) → A x → B x → C x) → IfSome result C
some_both None a b f = tt
some_both (Some x) a b f = f x a b

module _ {T H P : Type 0} {g h : _} where
  -- the exchange moves no item away
  same_ready : (seat : SeatCache T H P g h) → length (top_ready seat).items + sum_by len_of (plain_ready seat) ≡ cached_in seat
  same_ready seat =
      sum_exchanged len_of (empty_stack 0) (is_exchanged seat) (plain_of seat) (plain_ready seat) (seat_domain seat) (empty_stack (top_of seat).room) (top_of seat) (top_ready seat) refl refl
      (exchanged_empty (seat_smr seat) (length (top_of seat).items)) refl refl

  -- a usable item was taken
  pub one_usable : (old new : SeatCache T H P g h) (item : Cached T g) → Pops (top_ready old) (Some item) (top_of new) → plain_of new ≡ plain_ready old → cached_in new + 1 ≡ cached_in old
  one_usable old new item pops plain =
      let one : length (top_ready old).items ≡ length ((top_of new).items ++ item ∷ []) = ap length pops.1 in
      let row : sum_by len_of (plain_of new) ≡ sum_by len_of (plain_ready old) = ap (sum_by len_of) plain in
      omega (arith, one, row, length-append (top_of new).items (item ∷ []), same_ready old)

  -- none was usable
  pub same_cached : (old new : SeatCache T H P g h) → Pops (top_ready old) None (top_of new) → plain_of new ≡ plain_ready old → cached_in new ≡ cached_in old
  same_cached old new pops plain =
      let was : length (top_ready old).items ≡ 0 = ap length pops.1.0 in
      let is : length (top_of new).items ≡ 0 = ap length pops.1.1 in
      let row : sum_by len_of (plain_of new) ≡ sum_by len_of (plain_ready old) = ap (sum_by len_of) plain in
      omega (arith, was, is, row, same_ready old)

  -- a cross item was taken
  pub one_cross : (old new : SeatCache T H P g h) (item : Cached T g) → TakesCross old item new → KeepsTop old new → cached_in new + 1 ≡ cached_in old
  one_cross old new item cross top =
      let left : Stack (Cached T g) = record { items = cross.takes.left; room = (stack_at (plain_of old) cross.domain).room } in
      let put = sum_by-set len_of (plain_of old) cross.domain left (empty_stack 0) cross.within in
      let row : sum_by len_of (plain_of new) ≡ sum_by len_of (slice_set (plain_of old) cross.domain left) = ap (sum_by len_of) cross.takes.buckets in
      let one : length (stack_at (plain_of old) cross.domain).items ≡ length (cross.takes.left ++ item ∷ []) = ap length cross.takes.was in
      let same : length (top_of new).items ≡ length (top_of old).items = ap (λ (b : Bucket T g). length (stack_of b).items) top in
      omega (arith, put, row, one, same, length-append cross.takes.left (item ∷ []))

  -- neither a usable nor a cross item is there
  pub none_cached : (seat : SeatCache T H P g h) → usable_of seat ≡ [] → HasNoCross seat → cached_in seat ≡ 0
  none_cached seat usable cross =
      let own = cond (seat_smr seat) [] (stack_at (plain_of seat) (seat_domain seat)).items in
      let both : length (own ++ (top_of seat).items) ≡ 0 = ap length usable in
      let none : length own ≡ 0 = omega (arith, both, length-append own (top_of seat).items) in
      let count : length (plain_of seat) ≡ cond (seat_smr seat) 0 seat.seating.domains = length-map seat.plain.buckets.items stack_of ∙ seat.plain_buckets in
      let row : sum_by len_of (plain_of seat) ≡ 0 = sum_none len_of (empty_stack 0) (plain_of seat) (none_at (seat_smr seat) (seat_domain seat) seat.seating.domains (plain_of seat) count none cross) in
      omega (arith, both, row, length-append own (top_of seat).items)

  -- what is usable is the same where the seat is made for the same
  pub still_usable : (old new : SeatCache T H P g h) → IsSameSeat old new → KeepsTop old new → KeepsPlain old new → usable_of old ≡ [] → usable_of new ≡ []
  still_usable old new same top plain none =
      let usable = λ (made : Seating H P) (row : PlainRow T g) (bucket : Bucket T g). cond made.smr [] (stack_at (stacks_of row) made.domain).items ++ (stack_of bucket).items in
      ap (λ (made : Seating H P). usable made new.plain new.top) same.0 ∙ ap (λ (row : PlainRow T g). usable old.seating row new.top) plain ∙ ap (λ (bucket : Bucket T g). usable old.seating old.plain bucket) top ∙ none

  -- so are the cross items
  pub still_no_cross : (old new : SeatCache T H P g h) → IsSameSeat old new → KeepsPlain old new → HasNoCross old → HasNoCross new
  still_no_cross old new same plain none =
      let Without : Seating H P → PlainRow T g → Type 0 = λ made row. (domain : ℕ) → domain < length (stacks_of row) → domain ≢ made.domain → (stack_at (stacks_of row) domain).items ≡ [] in
      subst (λ (made : Seating H P). Without made new.plain) (sym same.0) (subst (λ (row : PlainRow T g). Without old.seating row) (sym plain) none)

  -- as many are cached where neither the allocation bucket nor a domain's changed
  pub still_cached : (old new : SeatCache T H P g h) → KeepsTop old new → KeepsPlain old new → cached_in new ≡ cached_in old
  still_cached old new top plain =
      let cached = λ (bucket : Bucket T g) (row : PlainRow T g). length (stack_of bucket).items + sum_by len_of (stacks_of row) in
      ap (λ (bucket : Bucket T g). cached bucket new.plain) top ∙ ap (λ (row : PlainRow T g). cached old.top row) plain

module _ {T K H P : Type 0} {g k h : _} (zone : Zone T K H P g k h) (old new : SeatCache T H P g h) where
  -- a seat that is made for the same is one of its zone
  pub taken_of : IsSameSeat old new → AreHome (seat_home new) (top_tickets new) → KeepsCounts old new → KeepsMisses old new → KeepsPorts old new → IsSeatOf zone old → IsSeatOf zone new
  taken_of same here counts misses ports was =
      let home : seat_home new ≡ domains_home zone.domains = ap home_of same.0 ∙ was.of_domains.same_home in
      record {
        of_domains = refilled_seat zone.domains old new new.top same.0 misses ports refl (subst (λ (x : Home). AreHome x (top_tickets new)) home here) was.of_domains;
        fails = ap (λ (c : Counts). fails_in c) counts ∙ was.fails;
      }

  -- one whose allocation bucket is the same too
  pub still_of : IsSameSeat old new → KeepsTop old new → KeepsCounts old new → KeepsMisses old new → KeepsPorts old new → IsSeatOf zone old → IsSeatOf zone new
  still_of same top counts misses ports was = record {
    of_domains = still_seat zone.domains old new same.0 misses ports top was.of_domains;
    fails = ap (λ (c : Counts). fails_in c) counts ∙ was.fails;
  }
