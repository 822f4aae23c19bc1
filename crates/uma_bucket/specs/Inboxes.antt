-- Own: what the buckets of an inbox have in common, and of which inbox its ports and its taker are.
use Rattle.deed_book.specs.Deed.{TableId}
use Rattle.deed_book.specs.Book.{book_table}
use Rattle.smr_clock.specs.declared.clock.Setup.{Setup}
use Rattle.smr_clock.specs.Belongs.{clock_id}
use Rattle.inbox.specs.declared.inbox.Port.{Port}
use Rattle.inbox.specs.declared.inbox.Taker.{Taker}
use Rattle.inbox.specs.Inbox.{InboxId, port_inbox, port_key, taker_inbox, taker_key}
use Rattle.uma_bucket.specs.declared.shelved.Shelved.{Shelved}
use Rattle.uma_bucket.specs.declared.shelved.InboxKey.{InboxKey}
use Rattle.uma_bucket.specs.Home.{Home}

-- An inbox, the clock of the notes of its sealed buckets, and where all its items are at home.
pub record InboxOrigin : Type 0 where
  pub inbox : InboxId
  pub clock : TableId × Setup
  pub home : Home

module _ {H P : Type 0} where
  abbrev pub key_clock : InboxKey H P → TableId × Setup
  key_clock key = clock_id key.clock.value

  abbrev pub key_home : InboxKey H P → Home
  key_home key = record { book = book_table key.book.value; zone = key.zone; domains = key.domains }

module _ {T H P : Type 0} {g h : _} where
  -- of which inbox the port is
  abbrev pub port_origin : Port (Shelved T H P g h) (InboxKey H P) → InboxOrigin
  port_origin port = record { inbox = port_inbox port; clock = key_clock (port_key port); home = key_home (port_key port) }

  -- of which inbox the taker is
  abbrev pub taker_origin : Taker (Shelved T H P g h) (InboxKey H P) → InboxOrigin
  taker_origin taker = record { inbox = taker_inbox taker; clock = key_clock (taker_key taker); home = key_home (taker_key taker) }
