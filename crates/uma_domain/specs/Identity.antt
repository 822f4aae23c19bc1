-- Own: which domain it is, as contracts see it.
use Rattle.std.specs.Prelude.{ℕ, Bool}
use Rattle.deed_book.specs.Deed.{BookId, TableId}
use Rattle.deed_book.specs.Book.{book_table}
use Rattle.deed_book.specs.FailBook.{fail_book_table}
use Rattle.smr_clock.specs.declared.clock.Setup.{Setup}
use Rattle.smr_clock.specs.Belongs.{clock_id}
use Rattle.inbox.specs.Inbox.{InboxId}
use Rattle.inbox.specs.Name.{name_id}
use Rattle.uma_bucket.specs.Home.{Home}
use Rattle.uma_bucket.specs.Inboxes.{InboxOrigin}
use Rattle.uma_domain.specs.declared.domain.DomainKey.{DomainKey}

-- What never changes of a domain: the clock of its sealed buckets' notes, where all its items are at home, its book of misses, whether readers of its zone hold no lock, and its inbox.
pub record Identity : Type 0 where
  pub clock : TableId × Setup
  pub home : Home
  pub misses : TableId
  pub smr : Bool
  pub inbox : InboxId

-- where the items of a zone with so many domains are at home
abbrev pub home_of : BookId → ℕ → ℕ → Home
home_of book zone domains = record { book = book; zone = zone; domains = domains }

-- the identity that a key names
abbrev pub key_identity : {H P : Type 0} → DomainKey H P → Identity
key_identity key = record {
  clock = clock_id key.clock.value;
  home = home_of (book_table key.book.value) key.zone key.domains;
  misses = fail_book_table key.misses.value;
  smr = key.smr;
  inbox = name_id key.inbox;
}

-- of which inbox its ports and its taker are
abbrev pub origin_of : Identity → InboxOrigin
origin_of identity = record { inbox = identity.inbox; clock = identity.clock; home = identity.home }
