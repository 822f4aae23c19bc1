-- Own: what contracts see of a live item.
use Rattle.std.specs.Prelude.{ℕ}
use Rattle.deed_book.specs.Deed.{BookId}
use Rattle.uma_life.specs.declared.states.Live.{Live}
use Rattle.uma_life.specs.declared.states.Ticket.{Ticket}
use Rattle.uma_life.specs.Ticket.{ticket_no, ticket_zone, ticket_domain, ticket_table}

abbrev pub live_body : {T : Type 0} {g : _} → Live T g → T
live_body item = item.body

-- the item's deed and domain
abbrev pub live_ticket : {T : Type 0} {g : _} → Live T g → Ticket
live_ticket item = item.ticket

abbrev pub live_no : {T : Type 0} {g : _} → Live T g → ℕ
live_no item = ticket_no item.ticket

abbrev pub live_zone : {T : Type 0} {g : _} → Live T g → ℕ
live_zone item = ticket_zone item.ticket

abbrev pub live_domain : {T : Type 0} {g : _} → Live T g → ℕ
live_domain item = ticket_domain item.ticket

-- which book its deed is of
abbrev pub live_table : {T : Type 0} {g : _} → Live T g → BookId
live_table item = ticket_table item.ticket
