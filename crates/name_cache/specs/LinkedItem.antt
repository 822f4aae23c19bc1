-- Own: what a row keeps of its linked entry, and how that agrees with the row of names.
use Rattle.std.specs.Prelude.{◌≡◌, Option, Some, IfSome, is_some}
use Rattle.std.specs.Arc.{arc_value}
use Rattle.smr_clock.specs.declared.clock.Setup.{Setup}
use Rattle.smr_clock.specs.Belongs.{TableId, clock_id}
use Rattle.smr_clock.specs.Notes.{IsSeatOf}
use Rattle.uma_life.specs.Life.{Life}
use Rattle.uma_life.specs.Ticket.{ticket_no, ticket_zone, ticket_table}
use Rattle.uma_life.specs.Trail.{IsAt}
use Rattle.uma_life.specs.declared.tally.BodyPhase.TheVariants.{Built}
use Rattle.uma_bucket.specs.Home.{Home, IsHome}
use Rattle.name_rows.specs.declared.entry.Entry.{Entry}
use Rattle.name_rows.specs.declared.root.Guest.{Guest}
use Rattle.name_rows.specs.declared.words.Words.{Words}
use Rattle.name_rows.specs.Entries.{entry_life}
use Rattle.name_cache.specs.Homes.{home_clock, home_origin}
use Rattle.name_cache.specs.declared.locked_row.LinkedItem.{LinkedItem}
use Rattle.name_cache.specs.declared.parts.EntryParts.{EntryParts}

-- the life of the linked entry
abbrev pub guest_life : Guest → Life
guest_life guest = record { no = guest.no; phase = guest.phase; tally = guest.tally }

-- The linked entry is built and stands on its trail, and its ticket has its number and is at home here. Its words are of this clock.
pub record IsLinkedAs (clock : TableId × Setup) (home : Home) (guest : Guest) (item : LinkedItem) : Type 0 where
  pub numbered : guest.no ≡ ticket_no item.ticket
  pub built : IsAt (Built (ticket_zone item.ticket)) (guest_life guest)
  pub tally : item.tally ≡ guest.tally
  pub at_home : IsHome home item.ticket
  pub of_clock : clock_id (home_clock (arc_value item.home)) ≡ clock
  pub of_origin : home_origin (arc_value item.home) ≡ (ticket_table item.ticket).origin

-- An entry that is out of its row, and what the row kept of it, agree: they are the parts of an item.
pub record FitsItem (entry : Entry) (item : LinkedItem) : Type 0 where
  pub ours : (words : Words) → entry.words ≡ Some words → IsSeatOf (home_clock (arc_value item.home)) words.seat
  pub numbered : (entry_life entry).no ≡ ticket_no item.ticket
  pub built : IsAt (Built (ticket_zone item.ticket)) (entry_life entry)
  pub of_origin : home_origin (arc_value item.home) ≡ (ticket_table item.ticket).origin

-- There are parts exactly where there was an entry: the entry, with the home and the ticket that the row kept of it.
pub record AreRejoined (entry : Option Entry) (item : Option LinkedItem) (parts : Option EntryParts) : Type 0 where
  pub both : is_some parts ≡ is_some entry
  pub some : IfSome parts (λ p. (entry ≡ Some p.entry) × ((other : LinkedItem) → item ≡ Some other → (p.home ≡ other.home) × (p.ticket ≡ other.ticket)))

-- There is an item exactly where there is an entry, and they agree.
pub record CanRejoin (entry : Option Entry) (item : Option LinkedItem) : Type 0 where
  pub both : is_some item ≡ is_some entry
  pub fits : (one : Entry) (other : LinkedItem) → entry ≡ Some one → item ≡ Some other → FitsItem one other
