-- What contracts see of entries.
use Rattle.std.specs.Prelude.{◌≡◌, ℕ, true, Option, Some, None, IsSome}
use Rattle.uma_life.specs.Life.{Life}
use Rattle.uma_life.specs.Hook.{Hook, KegInit, after}
use Rattle.smr_clock.specs.declared.clock.Clock.{Clock}
use Rattle.smr_clock.specs.declared.view.View.{View}
use Rattle.smr_clock.specs.Notes.{IsSeatOf, seat_knows}
use Rattle.name_rows.specs.declared.entry.EntryState.{EntryState}
use Rattle.name_rows.specs.declared.entry.EntryState.TheVariants.{Clean, Unlinked}
use Rattle.name_rows.specs.declared.root.Guest.{Guest}
use Rattle.name_rows.specs.declared.names.Names.{Names}
use Rattle.name_rows.specs.declared.entry.Owned.{Owned}
use Rattle.name_rows.specs.declared.names.Part.{Part}
use Rattle.name_rows.specs.declared.words.Words.{Words}
use Rattle.name_rows.specs.declared.entry.Entry.{Entry}
use Rattle.name_rows.specs.Belongs.{IsNamesClock}
use Rattle.name_rows.specs.Ripening.{is_settled}

abbrev pub entry_life : Entry → Life
entry_life e = record { no = e.no; phase = e.phase; tally = e.tally }

-- the words are of this clock
abbrev pub AreWordsOf : Clock Names Part → Option Words → Type 0
AreWordsOf clock None = Unit {0}
AreWordsOf clock (Some w) = IsSeatOf clock w.seat

abbrev pub IsEntryOf : Clock Names Part → Entry → Type 0
IsEntryOf clock e = AreWordsOf clock e.words

-- the entry passed the hook, which leaves its words as they were
abbrev pub Passes : Hook → Entry → Entry → Type 0
Passes hook e e' = (entry_life e' ≡ after hook (entry_life e)) × (e'.words ≡ e.words)

abbrev pub state_in : Option Words → Option EntryState
state_in None = None
state_in (Some w) = Some w.kept.state

abbrev pub entry_state : Entry → Option EntryState
entry_state e = state_in e.words

-- both have words, of which this is so: what the seat knew, what was kept of the entry, and both after it
abbrev pub OnWords : (View Part → Owned → View Part → Owned → Type 0) → Option Words → Option Words → Type 0
OnWords F None after = ⊥
OnWords F (Some w) None = ⊥
OnWords F (Some w) (Some x) = F (seat_knows w.seat) w.kept (seat_knows x.seat) x.kept

-- the entry as a row has it
abbrev pub guest_with : Entry → Option Words → Option Guest
guest_with e None = None
guest_with e (Some w) = Some (record { no = w.kept.entry; phase = e.phase; tally = e.tally; key = w.kept.key; value = w.kept.value })

abbrev pub guest_of : Entry → Option Guest
guest_of e = guest_with e e.words

-- ---- what calls of an entry ask, and what they leave as it was

-- the entry is of this clock, which is one of names, and is clean
pub record CanWrite (clock : Clock Names Part) (entry : Entry) : Type 0 where
  pub here : IsEntryOf clock entry
  pub names : IsNamesClock clock
  pub clean : entry_state entry ≡ Some Clean

-- the entry is of this clock, and is unlinked without a stamp
pub record CanStamp (clock : Clock Names Part) (entry : Entry) : Type 0 where
  pub here : IsEntryOf clock entry
  pub unlinked : entry_state entry ≡ Some Unlinked

-- the entry has words, which are of this clock
pub record HasWords (clock : Clock Names Part) (entry : Entry) : Type 0 where
  pub here : IsEntryOf clock entry
  pub words : IsSome entry.words

-- the entry is of this clock still, and its life is as it was
pub record KeepsLife (clock : Clock Names Part) (old new : Entry) : Type 0 where
  pub here : IsEntryOf clock new
  pub life : entry_life new ≡ entry_life old

-- the entry has words, and passed its first hook
pub record Begins (old new : Entry) : Type 0 where
  pub passed : Passes KegInit old new
  pub accepts : IsSome old.words

-- the entry has no words, which the code says, and is as it was
pub record RefusesToBegin (old : Entry) (code : ℕ) (new : Entry) : Type 0 where
  pub refuses : (code ≡ 255) × (old.words ≡ None)
  pub unchanged : new ≡ old

-- ---- and of its words

-- the words are of this clock, which is one of names, and the entry is clean
pub record CanWriteWords (clock : Clock Names Part) (words : Words) : Type 0 where
  pub here : IsSeatOf clock words.seat
  pub names : IsNamesClock clock
  pub clean : words.kept.state ≡ Clean

-- the words are of this clock, and the entry is unlinked without a stamp
pub record CanStampWords (clock : Clock Names Part) (words : Words) : Type 0 where
  pub here : IsSeatOf clock words.seat
  pub unlinked : words.kept.state ≡ Unlinked

-- the words are of this clock, and the entry has a stamp where it was linked
pub record CanRipenWords (clock : Clock Names Part) (words : Words) : Type 0 where
  pub here : IsSeatOf clock words.seat
  pub stamped : is_settled words.kept.state ≡ true

-- the words are of this clock still, and of the same entry
pub record KeepsEntry (clock : Clock Names Part) (old new : Words) : Type 0 where
  pub here : IsSeatOf clock new.seat
  pub entry : new.kept.entry ≡ old.kept.entry
