-- Own: what contracts see of an inbox, its ports and its taker.
use Rattle.std.specs.Prelude.{ℕ, List, length, map}
use Rattle.inbox.specs.declared.inbox.Entry.{Entry}
use Rattle.inbox.specs.declared.inbox.Inbox.{Inbox}
use Rattle.inbox.specs.declared.inbox.Port.{Port}
use Rattle.inbox.specs.declared.inbox.Taker.{Taker}
use Rattle.inbox.specs.Views.{item_of}

-- which inbox it is
abbrev pub InboxId : Type 0
InboxId = ℕ × ℕ

module _ {T K F : Type 0} where
  -- no two inboxes have one
  abbrev pub inbox_id : Inbox T K F → InboxId
  inbox_id inbox = inbox.line.queue.web

module _ {T K : Type 0} where
  -- the inbox that the port is of
  abbrev pub port_inbox : Port T K → InboxId
  port_inbox port = port.seat.web

  abbrev pub port_key : Port T K → K
  port_key port = port.key.value.value

  abbrev pub port_number : Port T K → ℕ
  port_number port = port.seat.me.view.client.number

  -- what it pushed, in its order
  abbrev pub sent_by : Port T K → List T
  sent_by port = port.seat.me.view.client.sent

  -- how many of its pushes were turned back
  abbrev pub turned_by : Port T K → ℕ
  turned_by port = length port.turned

  -- the inbox that the taker is of
  abbrev pub taker_inbox : Taker T K → InboxId
  taker_inbox taker = taker.seat.web

  abbrev pub taker_key : Taker T K → K
  taker_key taker = taker.key.value

  -- how many ports it made
  abbrev pub ports_of : Taker T K → ℕ
  ports_of taker = taker.seat.me.view.client.number

  -- the entries of what it popped, in the order popped
  abbrev pub popped_by : Taker T K → List (Entry T)
  popped_by taker = taker.seat.me.view.client.popped

  -- what it popped, in that order
  abbrev pub items_of : Taker T K → List T
  items_of taker = map item_of (popped_by taker)
