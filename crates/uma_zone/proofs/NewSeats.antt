-- What a zone's new seat is.
use Rattle.std.proofs.Common.{◌≡◌, ℕ, zero, suc, Bool, true, false, cond, List, [], ◌∷◌, ◌++◌, refl, sym, ap, ◌∙◌, subst}
use Rattle.std.specs.List.{All}
use Rattle.std.proofs.lemmas.List.Elements.{All-head, All-tail}
use Rattle.deed_book.specs.Deed.{TableId}
use Rattle.deed_book.specs.declared.fail_book.FailShare.{FailShare}
use Rattle.deed_book.specs.FailShare.{causes_in}
use Rattle.inbox.specs.declared.inbox.Port.{Port}
use Rattle.uma_bucket.specs.declared.shelved.InboxKey.{InboxKey}
use Rattle.uma_bucket.specs.declared.shelved.Shelved.{Shelved}
use Rattle.uma_seat.specs.declared.seat.SeatCache.{SeatCache}
use Rattle.uma_seat.specs.declared.seating.Seating.{Seating}
use Rattle.uma_seat.specs.Seat.{seat_smr, seat_domain, top_of, plain_of, free_bucket, ports_of, IsNewSeat}
use Rattle.uma_seat.specs.Stack.{Stack, stack_at, empty_stack}
use Rattle.uma_zone.specs.Ports.{pushed_by}
use Rattle.uma_zone.specs.Seat.{IsFresh}

-- no bucket of a new row has an item
none_at : {A : Type 0} (stacks : List (Stack A)) (room domain : ℕ) → All (λ stack. stack ≡ empty_stack room) stacks → (stack_at stacks domain).items ≡ []
none_at [] room domain all = refl
none_at (stack ∷ stacks) room zero all = ap (λ (s : Stack _). s.items) (All-head (λ s. s ≡ empty_stack room) stack stacks all)
none_at (stack ∷ stacks) room (suc domain) all = none_at stacks room domain (All-tail (λ s. s ≡ empty_stack room) stack stacks all)

none_ahead : {A : Type 0} (smr : Bool) (xs : List A) → xs ≡ [] → cond smr [] xs ≡ []
none_ahead true xs none = refl
none_ahead false xs none = none

-- a new seat has counted nothing and has no item
pub fresh_seat : {T H P : Type 0} {g h : _} (seat : SeatCache T H P g h) (seating : Seating H P) (size domain : ℕ) (fails : TableId) (misses : FailShare) (ports : List (Port (Shelved T H P g h) (InboxKey H P))) → seating.domain ≡ domain → causes_in misses ≡ [] → All (λ pushed. pushed ≡ []) (pushed_by ports) → ports_of seat ≡ ports → IsNewSeat size seating fails misses seat → IsFresh size domain seat
fresh_seat seat seating size domain fails misses ports own none pushed has new = record {
  own = ap (λ (s : Seating _ _). s.domain) new.seated ∙ own;
  top = new.top;
  plain = new.plain;
  freed = new.freed;
  usable = ap (λ (l : List _). l ++ (top_of seat).items) (none_ahead (seat_smr seat) (free_bucket seat).items (none_at (plain_of seat) size (seat_domain seat) new.plain)) ∙ ap (λ (s : Stack _). s.items) new.top;
  spares = new.spares;
  shelf = new.shelf;
  sent = subst (λ (l : List (Port _ _)). All (λ pushed. pushed ≡ []) (pushed_by l)) (sym has) pushed;
  ledger = new.ledger;
  fetches = new.fetches;
  misses = ap causes_in new.misses_kept ∙ none;
}
