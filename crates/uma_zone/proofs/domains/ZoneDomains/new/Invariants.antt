use Rattle.std.proofs.Common.{◌≡◌, ◌≤◌, length, All}
use Rattle.std.specs.Vec.{vec_capacity}
use Rattle.deed_book.specs.Book.{book_table}
use Rattle.smr_clock.specs.Belongs.{clock_id}
use Rattle.uma_domain.specs.Identity.{home_of}
use Rattle.uma_zone.specs.OneDomain.{IsDomainOf}
use Rattle.uma_zone.proofs.domains.ZoneDomains.new.Given as goal

abbrev pub invariant-loop : goal.invariant-loop
invariant-loop g l = record {
  count : length l.made.items ≡ l.counter;
  room : l.domains ≤ vec_capacity l.made;
  of_zone : All (IsDomainOf (clock_id l.clock) (home_of (book_table l.book) l.zone l.domains) l.smr) l.made.items;
}
