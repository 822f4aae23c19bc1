-- Own: the ports of a seat, beside the domains of its zone.
use Rattle.std.specs.Prelude.{◌≡◌, List, map}
use Rattle.inbox.specs.declared.inbox.Port.{Port}
use Rattle.inbox.specs.Inbox.{sent_by}
use Rattle.uma_bucket.specs.declared.shelved.InboxKey.{InboxKey}
use Rattle.uma_bucket.specs.declared.shelved.Shelved.{Shelved}
use Rattle.uma_bucket.specs.Inboxes.{InboxOrigin, port_origin}
use Rattle.uma_seat.specs.declared.seat.SeatCache.{SeatCache}
use Rattle.uma_seat.specs.Seat.{ports_of}
use Rattle.uma_zone.specs.declared.domains.ZoneDomains.{ZoneDomains}
use Rattle.uma_zone.specs.OneDomain.{domain_origin}

module _ {T H P : Type 0} {g h : _} where
  -- the inbox of each domain, in order
  abbrev pub inboxes_of : ZoneDomains T H P g h → List InboxOrigin
  inboxes_of them = map domain_origin them.domains.items

  -- the inbox that each port is of
  abbrev pub origins_of : List (Port (Shelved T H P g h) (InboxKey H P)) → List InboxOrigin
  origins_of ports = map port_origin ports

  -- what each port pushed, in its order
  abbrev pub pushed_by : List (Port (Shelved T H P g h) (InboxKey H P)) → List (List (Shelved T H P g h))
  pushed_by ports = map sent_by ports

  -- what the seat's port of each domain pushed
  abbrev pub sent_of : SeatCache T H P g h → List (List (Shelved T H P g h))
  sent_of seat = pushed_by (ports_of seat)

  -- The seat has one port for each domain, in order, and it is one of that domain's inbox.
  abbrev pub HasPorts : ZoneDomains T H P g h → SeatCache T H P g h → Type 0
  HasPorts them seat = origins_of (ports_of seat) ≡ inboxes_of them
