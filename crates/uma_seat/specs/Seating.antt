-- Own: what a seat is made for, as contracts speak of it.
use Rattle.smr_clock.specs.declared.clock.Setup.{Setup}
use Rattle.smr_clock.specs.Belongs.{TableId, clock_id}
use Rattle.deed_book.specs.Book.{book_table}
use Rattle.uma_bucket.specs.Home.{Home}
use Rattle.uma_seat.specs.declared.seating.Seating.{Seating}

module _ {H P : Type 0} where
  -- where the items of the zone are at home
  abbrev pub home_of : Seating H P → Home
  home_of seating = record { book = book_table seating.book.value; zone = seating.zone; domains = seating.domains }

  -- which clock it is
  abbrev pub clock_of : Seating H P → TableId × Setup
  clock_of seating = clock_id seating.clock.value
