-- What the steps of a row's seat ask, and what they come to.
use Rattle.std.specs.Prelude.{◌≡◌, ℕ, ◌+◌, ◌%◌, ◌<◌, ◌^◌, [], ◌∷◌, Some, IfSome}
use Rattle.smr_clock.specs.declared.clock.Clock.{Clock}
use Rattle.smr_clock.specs.declared.view.View.{View}
use Rattle.smr_clock.specs.Belongs.{setup_of}
use Rattle.smr_clock.specs.HostSteps.{HostSplits}
use Rattle.smr_clock.specs.Notes.{IsSeatOf, seat_knows}
use Rattle.name_rows.specs.declared.entry.EntryState.TheVariants.{Written, Unlinked}
use Rattle.name_rows.specs.declared.root.Guest.{Guest}
use Rattle.name_rows.specs.declared.names.Names.{Names}
use Rattle.name_rows.specs.declared.names.Part.{Part}
use Rattle.name_rows.specs.declared.words.Words.{Words}
use Rattle.name_rows.specs.declared.entry.Entry.{Entry}
use Rattle.name_rows.specs.Belongs.{IsNamesClock}
use Rattle.name_rows.specs.Entries.{entry_state, guest_of}
use Rattle.name_rows.specs.Guests.{bound_of}
use Rattle.name_rows.specs.Linking.{last_version, written_in}
use Rattle.name_rows.specs.Records.{owned_as}
use Rattle.name_rows.specs.Types.{NamesSeat}

-- the seat and the words are of this clock, and the entry is written
pub record CanTakeIn (clock : Clock Names Part) (seat : NamesSeat) (words : Words) : Type 0 where
  pub here : IsSeatOf clock seat
  pub words_here : IsSeatOf clock words.seat
  pub written : words.kept.state ≡ Written

-- the seat is of this clock, and has this view
pub record SeatHas (clock : Clock Names Part) (seat : NamesSeat) (v : View Part) : Type 0 where
  pub here : IsSeatOf clock seat
  pub view : seat_knows seat ≡ v

-- the seat was split in two so, both of this clock
pub record SplitsSeat (clock : Clock Names Part) (left right : Part → Part) (old new other : NamesSeat) : Type 0 where
  pub here : IsSeatOf clock new
  pub other_here : IsSeatOf clock other
  pub splits : HostSplits left right (seat_knows old) (seat_knows new) (seat_knows other)

-- The seat is of this clock, which is one of names. Its row has this number and this version, and one more version.
pub record CanStore (clock : Clock Names Part) (seat : NamesSeat) (row last : ℕ) : Type 0 where
  pub here : IsSeatOf clock seat
  pub names : IsNamesClock clock
  pub number : row < (setup_of clock).plan.0
  pub seen : last_version (seat_knows seat).host.rows ≡ Some (row, last)
  pub low : last + 1 < 2 ^ 44

-- And this is its written entry, which is one of the plan, under a key of the row.
pub record CanStoreLink (clock : Clock Names Part) (seat : NamesSeat) (row last : ℕ) (guest : Guest) : Type 0 where
  pub here : IsSeatOf clock seat
  pub names : IsNamesClock clock
  pub number : row < (setup_of clock).plan.0
  pub seen : last_version (seat_knows seat).host.rows ≡ Some (row, last)
  pub low : last + 1 < 2 ^ 44
  pub entry : guest.no < (setup_of clock).plan.1
  pub written : written_in (seat_knows seat).host.owned ≡ Some (bound_of guest)
  pub of_row : guest.key % (setup_of clock).plan.0 ≡ row

-- the seat has this entry alone, unlinked, which is one of the plan
pub record OwnsUnlinked (seat : NamesSeat) (guest : Guest) : Type 0 where
  pub no_rows : (seat_knows seat).host.rows ≡ []
  pub owns : (seat_knows seat).host.owned ≡ owned_as (bound_of guest) Unlinked ∷ []
  pub below : guest.no < (seat_knows seat).setup.plan.1

-- the entry that the row named, unlinked, has this seat
pub record IsTakenOut (from : NamesSeat) (named : Guest) (entry : Entry) : Type 0 where
  pub guest : guest_of entry ≡ Some named
  pub state : entry_state entry ≡ Some Unlinked
  pub seat : IfSome entry.words (λ words. words.seat ≡ from)
