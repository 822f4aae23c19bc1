-- How a row's word goes from one record to the next, and what becomes of the entries that the row's seat has.
use Rattle.std.specs.Prelude.{◌≡◌, ℕ, ◌+◌, ◌≤◌, List, [], ◌∷◌, map, Option, Some, None}
use Rattle.smr_clock.specs.HostSteps.{Change}
use Rattle.name_rows.specs.declared.names.Bound.{Bound}
use Rattle.name_rows.specs.declared.names.Record.{Record}
use Rattle.name_rows.specs.declared.names.RowView.{RowView}
use Rattle.name_rows.specs.declared.entry.EntryState.{EntryState}
use Rattle.name_rows.specs.declared.entry.EntryState.TheVariants.{Clean, Written, Linked, Unlinked, Stamped}
use Rattle.name_rows.specs.declared.entry.Owned.{Owned}
use Rattle.name_rows.specs.declared.names.Part.{Part}
use Rattle.name_rows.specs.Records.{In, records_of, last_record, taken_out, owned_as}

abbrev pub bound_by : Owned → Bound
bound_by o = record { entry = o.entry; key = o.key; value = o.value }

abbrev pub if_written : EntryState → Option Bound → Option Bound → Option Bound
if_written Written one other = one
if_written _ one other = other

-- the first written entry
abbrev pub written_in : List Owned → Option Bound
written_in [] = None
written_in (o ∷ os) = if_written o.state (Some (bound_by o)) (written_in os)

-- a link: the written entry is linked by the new version, and that which was linked is not any more
abbrev pub relinked : ℕ → ℕ → EntryState → EntryState
relinked row version Clean = Clean
relinked row version Written = Linked row version
relinked row version (Linked old before) = Unlinked
relinked row version Unlinked = Unlinked
relinked row version (Stamped goal) = Stamped goal

abbrev pub unlinked : ℕ → ℕ → EntryState → EntryState
unlinked row version Clean = Clean
unlinked row version Written = Written
unlinked row version (Linked old before) = Unlinked
unlinked row version Unlinked = Unlinked
unlinked row version (Stamped goal) = Stamped goal

abbrev pub restated : (EntryState → EntryState) → Owned → Owned
restated f o = record o { state = f o.state }

-- the version after the last
abbrev pub next_version : ℕ → RowView → ℕ
next_version found v = (last_record found v).version + 1

-- the record after the last: an unbinding takes out what the last had
abbrev pub next_record : ℕ → Option Bound → RowView → Record
next_record found content v = record { row = v.number; version = next_version found v; content = content; took = taken_out content (last_record found v).content }

abbrev pub with_record : ℕ → Option Bound → RowView → RowView
with_record found content v = record { number = v.number; records = next_record found content v ∷ records_of found v }

-- The seat's row gets its next record, with this content, and its entries are in the states that follow.
abbrev pub goes_on : (ℕ → ℕ → EntryState → EntryState) → ℕ → Option Bound → Part → List RowView → Part
goes_on f found content p [] = p
goes_on f found content p (v ∷ vs) = record p { rows = with_record found content v ∷ vs; owned = map (restated (f v.number (next_version found v))) p.owned }

abbrev pub linking : ℕ → Part → Part
linking found p = goes_on relinked found (written_in p.owned) p p.rows

abbrev pub unlinking : ℕ → Part → Part
unlinking found p = goes_on unlinked found None p p.rows

-- the store of a row's word that links the written entry
abbrev pub links : Change Part
links v word act found part = part ≡ linking found v.host

-- the store of a row's word that names no entry
abbrev pub unlinks : Change Part
unlinks v word act found part = part ≡ unlinking found v.host

-- ---- what a row knows of itself

-- a row with its opening record
abbrev pub opened : ℕ → List RowView → List RowView
opened found [] = []
opened found (v ∷ vs) = record { number = v.number; records = records_of found v } ∷ vs

-- the first load of a row's word
abbrev pub opens : Change Part
opens v word act found part = part ≡ record v.host { rows = opened found v.host.rows }

abbrev pub first_seen : ℕ → List Record → Option (ℕ × ℕ × Option Bound)
first_seen n [] = None
first_seen n (r ∷ rest) = Some (n, r.version, r.content)

-- of a seat with one row: its number, and the version and the content of its last record
abbrev pub last_seen : List RowView → Option (ℕ × ℕ × Option Bound)
last_seen [] = None
last_seen (v ∷ []) = first_seen v.number v.records
last_seen (v ∷ w ∷ more) = None

abbrev pub first_version : ℕ → List Record → Option (ℕ × ℕ)
first_version n [] = None
first_version n (r ∷ rest) = Some (n, r.version)

-- of a seat with one row: its number, and the version of its last record
abbrev pub last_version : List RowView → Option (ℕ × ℕ)
last_version [] = None
last_version (v ∷ []) = first_version v.number v.records
last_version (v ∷ w ∷ more) = None

-- the entries of a row whose last record is this
abbrev pub linked_in : ℕ → ℕ → Option Bound → List Owned
linked_in row version None = []
linked_in row version (Some b) = owned_as b (Linked row version) ∷ []

-- the last record of the seat's row is at least as new as any that it knows of it: a load of the row's word
abbrev pub IsNewestSeen : List Record → Option (ℕ × ℕ × Option Bound) → Type 0
IsNewestSeen known None = Unit {0}
IsNewestSeen known (Some seen) = (r : Record) → In r known → r.row ≡ seen.0 → r.version ≤ seen.1

abbrev pub meets : Change Part
meets v word act found part = (part ≡ v.host) × IsNewestSeen v.host.known (last_seen v.host.rows)

abbrev pub row_record : ℕ → ℕ → Option Bound → Option (ℕ × ℕ) → Record
row_record n version content took = record { row = n; version = version; content = content; took = took }

-- the first of the records
abbrev pub first_told : List Record → List Record
first_told [] = []
first_told (r ∷ rest) = r ∷ []

-- what a row tells of itself: its last record
abbrev pub last_told : List RowView → List Record
last_told [] = []
last_told (v ∷ vs) = first_told v.records

abbrev pub telling : Part → Part
telling p = record { rows = []; owned = []; known = last_told p.rows; hold = None; next = None }
