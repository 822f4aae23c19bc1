-- Own: where items are at home.
use Rattle.std.specs.Prelude.{◌≡◌, ◌<◌, ℕ, List}
use Rattle.std.specs.List.{All}
use Rattle.deed_book.specs.Deed.{BookId}
use Rattle.uma_life.specs.declared.states.Ticket.{Ticket}
use Rattle.uma_life.specs.Ticket.{ticket_table, ticket_zone, ticket_domain}

-- a book of numbers, a zone of its keg, and how many memory domains the keg's slabs may be of
pub record Home : Type 0 where
  pub book : BookId
  pub zone : ℕ
  pub domains : ℕ

-- an item with this ticket is at home there
abbrev pub IsHome : Home → Ticket → Type 0
IsHome home ticket = (ticket_table ticket ≡ home.book) × (ticket_zone ticket ≡ home.zone) × (ticket_domain ticket < home.domains)

abbrev pub AreHome : Home → List Ticket → Type 0
AreHome home tickets = All (IsHome home) tickets
