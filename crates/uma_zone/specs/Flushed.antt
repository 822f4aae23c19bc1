-- Own: what a flush leaves on a seat's shelf.
use Rattle.std.specs.Prelude.{◌≡◌, ◌<◌, ℕ, List, [], ◌∷◌, ◌++◌, map, Option, Some, None}
use Rattle.smr_clock.specs.declared.clock.Setup.{Setup}
use Rattle.smr_clock.specs.declared.view.View.{View}
use Rattle.smr_clock.specs.Belongs.{TableId}
use Rattle.uma_life.specs.declared.states.Ticket.{Ticket}
use Rattle.uma_bucket.specs.Home.{Home}
use Rattle.uma_bucket.specs.declared.shelved.Shelved.{Shelved}
use Rattle.uma_bucket.specs.declared.shelved.Shelved.TheVariants.{Loose}
use Rattle.uma_seat.specs.Freeing.{IsTried}
use Rattle.uma_bucket.specs.Shelved.{count_of, shelved_domain, shelved_tickets, IsShelvedAt, IsShelvedOf}

module _ {T H P : Type 0} {g h : _} where
  -- To which domain a bucket goes, and its items in their order. It is the same for a loose bucket once that is sealed.
  abbrev pub bound_of : Shelved T H P g h → ℕ × List Ticket
  bound_of shelved = (shelved_domain shelved, shelved_tickets shelved)

  -- The last of the buckets that were there are there still, in their order; the others are gone, the oldest first.
  pub record HasLastOf (was is : List (Shelved T H P g h)) : Type 0 where
    pub gone : List (ℕ × List Ticket)
    pub split : map bound_of was ≡ gone ++ map bound_of is

  -- A bucket was tried once to be sealed where it is loose, by a pass whose view was v before and v' after. Every other one is as it was, and the pass did nothing.
  abbrev pub TriesOnce : (P → P) → View P → Shelved T H P g h → Shelved T H P g h → View P → Type 0
  TriesOnce copied v (Loose domain loose) is v' = IsTried copied v domain loose is v'
  TriesOnce copied v was is v' = (is ≡ was) × (v' ≡ v)

  -- The oldest bucket of a shelf was taken, and tried once to be sealed where it is loose.
  pub record TakesTried (copied : P → P) (v : View P) (was : List (Shelved T H P g h)) (tried : Shelved T H P g h) (is : List (Shelved T H P g h)) (v' : View P) : Type 0 where
    pub oldest : Shelved T H P g h
    pub taken : was ≡ oldest ∷ is
    pub tries : TriesOnce copied v oldest tried v'

  -- A bucket that the domains of a zone may list, whose items are at home there and whose notes are of this clock: it isn't empty, its own are, and it goes to a domain that there is.
  pub record CanBePut (home : Home) (clock : TableId × Setup) (shelved : Shelved T H P g h) : Type 0 where
    pub filled : 0 < count_of shelved
    pub at_home : IsShelvedAt home shelved
    pub of_clock : IsShelvedOf clock shelved

  -- the last of these buckets
  pub record AreLastOf (was is : List (Shelved T H P g h)) : Type 0 where
    pub gone : List (Shelved T H P g h)
    pub split : was ≡ gone ++ is

  -- the buckets of a shelf of one or two that were taken from it, the oldest first
  abbrev pub in_order : Option (Shelved T H P g h) → Option (Shelved T H P g h) → List (Shelved T H P g h)
  in_order None None = []
  in_order None (Some newest) = newest ∷ []
  in_order (Some oldest) None = oldest ∷ []
  in_order (Some oldest) (Some newest) = oldest ∷ newest ∷ []
