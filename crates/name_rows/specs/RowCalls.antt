-- What the calls of a row ask, and what they come to.
use Rattle.std.specs.Prelude.{◌≡◌, ℕ, ◌+◌, ◌≤◌, ◌<◌, ◌^◌, [], ◌∷◌, ◌++◌, Option, Some, None, IfSome}
use Rattle.smr_clock.specs.declared.clock.Clock.{Clock}
use Rattle.smr_clock.specs.Belongs.{IsPassOf, view, holder, setup_of}
use Rattle.name_rows.specs.declared.names.Record.{Record}
use Rattle.name_rows.specs.declared.entry.EntryState.TheVariants.{Written}
use Rattle.name_rows.specs.declared.names.Names.{Names}
use Rattle.name_rows.specs.declared.names.Part.{Part}
use Rattle.name_rows.specs.declared.entry.Entry.{Entry}
use Rattle.name_rows.specs.declared.row.Row.{Row}
use Rattle.name_rows.specs.Belongs.{IsNamesClock}
use Rattle.name_rows.specs.Entries.{IsEntryOf, entry_state, guest_of}
use Rattle.name_rows.specs.Guests.{content_of}
use Rattle.name_rows.specs.Linking.{row_record}
use Rattle.name_rows.specs.Records.{In}
use Rattle.name_rows.specs.Rows.{IsRowOf, IsKeyOf, IsEvicted, row_last, pair_in}
use Rattle.name_rows.specs.Types.{NamesPass}

-- The row and the entry are of this clock, which is one of names. The entry is written, under a key of the row, and the row has two more versions.
pub record CanLink (clock : Clock Names Part) (row : Row) (entry : Entry) : Type 0 where
  pub here : IsRowOf clock row
  pub entry_here : IsEntryOf clock entry
  pub names : IsNamesClock clock
  pub written : entry_state entry ≡ Some Written
  pub of_row : IsKeyOf (setup_of clock).plan.0 row.number (guest_of entry)
  pub low : row.version + 2 < 2 ^ 44

-- The row has the entry, by one record more, of the version that is answered. What it had before is back, unlinked.
pub record LinksEntry (clock : Clock Names Part) (old : Row) (entry : Entry) (next : ℕ) (other : Option Entry) (new : Row) : Type 0 where
  pub here : IsRowOf clock new
  pub other_here : IfSome other (λ e. IsEntryOf clock e)
  pub number : new.number ≡ old.number
  pub version : (next ≡ old.version + 1) × (new.version ≡ next)
  pub guest : new.guest ≡ guest_of entry
  pub last : row_last new ≡ row_record old.number next (content_of (guest_of entry)) None ∷ []
  pub evicted : IsEvicted old.guest other

-- the row is of this clock, which is one of names, and has one more version
pub record CanUnlink (clock : Clock Names Part) (row : Row) : Type 0 where
  pub here : IsRowOf clock row
  pub names : IsNamesClock clock
  pub low : row.version + 1 < 2 ^ 44

-- The row has no entry. What it had is back, unlinked, and then the row has one record more, which is empty. A row without an entry is as it was.
pub record UnlinksEntry (clock : Clock Names Part) (old : Row) (other : Option Entry) (new : Row) : Type 0 where
  pub here : IsRowOf clock new
  pub other_here : IfSome other (λ e. IsEntryOf clock e)
  pub empty : old.guest ≡ None → new ≡ old
  pub number : new.number ≡ old.number
  pub unlinked : IfSome other (λ _. (new.version ≡ old.version + 1) × (new.guest ≡ None))
  pub last : IfSome other (λ _. row_last new ≡ row_record old.number (old.version + 1) None (pair_in old.guest) ∷ [])
  pub evicted : IsEvicted old.guest other

-- the row and the pass are of this clock, which is one of names
pub record CanMeet (clock : Clock Names Part) (row : Row) (pass : NamesPass) : Type 0 where
  pub here : IsRowOf clock row
  pub pass_here : IsPassOf clock pass
  pub names : IsNamesClock clock

-- No record of the row that the pass knew is newer than the row's last, which the pass knows now. The row is as it was, and the pass where it was.
pub record MeetsPass (clock : Clock Names Part) (old : Row) (was : NamesPass) (new : Row) (is : NamesPass) : Type 0 where
  pub here : IsRowOf clock new
  pub pass_here : IsPassOf clock is
  pub row : (new.number ≡ old.number) × (new.version ≡ old.version) × (new.guest ≡ old.guest)
  pub last : row_last new ≡ row_last old
  pub newest : (r : Record) → In r (view was).host.known → r.row ≡ new.number → r.version ≤ new.version
  pub known : (view is).host.known ≡ (view was).host.known ++ row_last new
  pub hold : (view is).host.hold ≡ (view was).host.hold
  pub phase : ((holder is).phase ≡ (holder was).phase) × ((holder is).mark ≡ (holder was).mark)
  pub seen : (holder was).seen ≤ (holder is).seen
