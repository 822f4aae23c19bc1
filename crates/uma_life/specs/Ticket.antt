-- Own: what contracts see of a ticket.
use Rattle.std.specs.Prelude.{ℕ}
use Rattle.deed_book.specs.declared.deed.Deed.{Deed}
use Rattle.deed_book.specs.Deed.{no_of, zone_of, label_of, deed_table, BookId}
use Rattle.uma_life.specs.declared.states.Ticket.{Ticket}

-- its label is the domain of the item's slab
abbrev pub ticket_deed : Ticket → Deed
ticket_deed ticket = ticket.deed

abbrev pub ticket_no : Ticket → ℕ
ticket_no ticket = no_of ticket.deed

abbrev pub ticket_zone : Ticket → ℕ
ticket_zone ticket = zone_of ticket.deed

abbrev pub ticket_domain : Ticket → ℕ
ticket_domain ticket = label_of ticket.deed

-- which book its deed is of
abbrev pub ticket_table : Ticket → BookId
ticket_table ticket = deed_table ticket.deed
