-- Own: what contracts see of a full bucket on its way to the lists of a domain.
use Rattle.std.specs.Prelude.{◌≡◌, ◌<◌, ℕ, List, [], ◌∷◌, length}
use Rattle.std.specs.List.{All}
use Rattle.smr_clock.specs.declared.clock.Setup.{Setup}
use Rattle.smr_clock.specs.Belongs.{TableId}
use Rattle.smr_clock.specs.Notes.{note_clock}
use Rattle.uma_life.specs.declared.states.Ticket.{Ticket}
use Rattle.uma_bucket.specs.declared.shelved.Shelved.{Shelved}
use Rattle.uma_bucket.specs.declared.shelved.Shelved.TheVariants.{Plain, Loose, Sealed}
use Rattle.uma_bucket.specs.Bucket.{items_of, tickets_of}
use Rattle.uma_bucket.specs.Home.{Home, AreHome}
use Rattle.uma_bucket.specs.Loose.{loose_items, loose_tickets}
use Rattle.uma_bucket.specs.Sealed.{sealed_bucket, sealed_note}

module _ {T H P : Type 0} {g h : _} where
  -- how many items it has
  abbrev pub count_of : Shelved T H P g h → ℕ
  count_of (Plain domain bucket) = length (items_of bucket)
  count_of (Loose domain bucket) = length (loose_items bucket)
  count_of (Sealed domain bucket) = length (loose_items (sealed_bucket bucket))

  -- the domain to whose list it goes
  abbrev pub shelved_domain : Shelved T H P g h → ℕ
  shelved_domain (Plain domain bucket) = domain
  shelved_domain (Loose domain bucket) = domain
  shelved_domain (Sealed domain bucket) = domain

  -- the deeds and domains of its items, in their order
  abbrev pub shelved_tickets : Shelved T H P g h → List Ticket
  shelved_tickets (Plain domain bucket) = tickets_of bucket
  shelved_tickets (Loose domain bucket) = loose_tickets bucket
  shelved_tickets (Sealed domain bucket) = loose_tickets (sealed_bucket bucket)

  -- the clock of its note, where it is sealed
  abbrev pub note_clocks : Shelved T H P g h → List (TableId × Setup)
  note_clocks (Plain domain bucket) = []
  note_clocks (Loose domain bucket) = []
  note_clocks (Sealed domain bucket) = note_clock (sealed_note bucket) ∷ []

  -- it goes to a domain that there is, and its items are at home there
  abbrev pub IsShelvedAt : Home → Shelved T H P g h → Type 0
  IsShelvedAt home shelved = (shelved_domain shelved < home.domains) × AreHome home (shelved_tickets shelved)

  -- where it is sealed it has a note of this clock
  abbrev pub IsShelvedOf : TableId × Setup → Shelved T H P g h → Type 0
  IsShelvedOf clock shelved = All (λ own. own ≡ clock) (note_clocks shelved)

  -- A domain of this home and clock may list it: it isn't empty, its items are at home there, and where it is sealed its note is of the clock.
  pub record CanBeListed (home : Home) (clock : TableId × Setup) (shelved : Shelved T H P g h) : Type 0 where
    pub filled : 0 < count_of shelved
    pub at_home : AreHome home (shelved_tickets shelved)
    pub of_clock : IsShelvedOf clock shelved
