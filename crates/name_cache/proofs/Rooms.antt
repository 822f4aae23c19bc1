-- A seat that had room made, and one to which the zone handed out an entry then.
use Rattle.std.proofs.Common.{◌≡◌, List, [], ◌∷◌, ◌++◌, map, cond, ◌∙◌, sym, ap, subst, refl}
use Rattle.std.proofs.lemmas.List.{append-nil}
use Rattle.zone_stats.specs.declared.ledger.SeatLedger.{SeatLedger}
use Rattle.zone_stats.specs.LedgerSteps.{CountsAlloc}
use Rattle.uma_seat.specs.Counts.{ledger_in}
use Rattle.uma_seat.specs.Row.{stacks_of}
use Rattle.uma_seat.specs.Stack.{stack_of, stack_at}
use Rattle.uma_seat.specs.Seat.{ledger_of, shelf_of, usable_of, IsSameSeat, KeepsTop, KeepsPlain, KeepsFreed, KeepsCounts}
use Rattle.uma_zone.specs.Alloc.{Serves}
use Rattle.uma_zone.specs.Flushed.{HasLastOf, bound_of}
use Rattle.name_cache.specs.Types.{ZoneOfEntries, EntrySeat, EntryBucket, LiveEntry}
use Rattle.name_cache.specs.Bind.{WantsMemory}
use Rattle.name_cache.specs.Room.{entry_ask, MakesRoom, Allocates}

-- what ends a list without elements has none
empty_end : {A B : Type 0} (f : A → B) (gone : List B) (is : List A) → [] ≡ gone ++ map f is → is ≡ []
empty_end f [] [] e = refl
empty_end f [] (x ∷ xs) e = absurd (let t : [] ≡ f x ∷ map f xs = e in cc)
empty_end f (g ∷ gs) is e = absurd (let t : [] ≡ g ∷ (gs ++ map f is) = e in cc)

-- a flushed shelf of which the last are there is one
pub flushed_still : (was is : List EntryBucket) → was ≡ [] → HasLastOf was is → is ≡ []
flushed_still was is none last = empty_end bound_of last.gone is (ap (map bound_of) (sym none) ∙ last.split)

-- all of the buckets are gone
pub all_gone : (was is : List EntryBucket) → is ≡ [] → HasLastOf was is
all_gone was is none = record { gone = map bound_of was; split = sym (append-nil (map bound_of was)) ∙ ap (λ (l : List EntryBucket). map bound_of was ++ map bound_of l) (sym none) }

-- ---- a seat that had room made

pub usable_same : (old new : EntrySeat) → IsSameSeat old new → KeepsTop old new → KeepsPlain old new → usable_of new ≡ usable_of old
usable_same old new same top plain = λ k. cond (same.0 k).smr [] (stack_at (stacks_of (plain k)) (same.0 k).domain).items ++ (stack_of (top k)).items

pub wants_room : (old new : EntrySeat) → IsSameSeat old new → KeepsTop old new → KeepsPlain old new → KeepsFreed old new → KeepsCounts old new → HasLastOf (shelf_of old) (shelf_of new) → WantsMemory old new
wants_room old new same top plain freed counts stay = record { ledger = ap ledger_in counts; usable = usable_same old new same top plain; freed = freed; shelf = stay }

-- ---- old, then one with room, and two once an entry was handed out
module _ (old one two : EntrySeat) (made : MakesRoom old one) where
  pub counted_from_old : CountsAlloc (ledger_of one) (ledger_of two) → CountsAlloc (ledger_of old) (ledger_of two)
  counted_from_old alloc = subst (λ (l : SeatLedger). CountsAlloc l (ledger_of two)) (ap ledger_in made.counts) alloc

  pub allocates : (zone : ZoneOfEntries) (handed : LiveEntry) → Serves zone entry_ask one handed two → CountsAlloc (ledger_of one) (ledger_of two) → KeepsFreed one two → HasLastOf (shelf_of one) (shelf_of two) → Allocates zone old handed two
  allocates zone handed served alloc still last = record {
    room = one;
    made = made;
    served = served;
    counted = counted_from_old alloc;
    freed = still ∙ made.freed;
    shelf = flushed_still (shelf_of one) (shelf_of two) made.shelf last;
  }
