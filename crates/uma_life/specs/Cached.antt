-- Own: what contracts see of a cached item.
use Rattle.std.specs.Prelude.{ℕ}
use Rattle.deed_book.specs.Deed.{BookId}
use Rattle.uma_life.specs.declared.states.Cached.{Cached}
use Rattle.uma_life.specs.declared.states.Ticket.{Ticket}
use Rattle.uma_life.specs.Ticket.{ticket_no, ticket_zone, ticket_domain, ticket_table}

abbrev pub cached_body : {T : Type 0} {g : _} → Cached T g → T
cached_body item = item.body

-- the item's deed and domain
abbrev pub cached_ticket : {T : Type 0} {g : _} → Cached T g → Ticket
cached_ticket item = item.ticket

abbrev pub cached_no : {T : Type 0} {g : _} → Cached T g → ℕ
cached_no item = ticket_no item.ticket

abbrev pub cached_zone : {T : Type 0} {g : _} → Cached T g → ℕ
cached_zone item = ticket_zone item.ticket

abbrev pub cached_domain : {T : Type 0} {g : _} → Cached T g → ℕ
cached_domain item = ticket_domain item.ticket

-- which book its deed is of
abbrev pub cached_table : {T : Type 0} {g : _} → Cached T g → BookId
cached_table item = ticket_table item.ticket
