-- What the owner of an entry makes of it: it writes the entry's words, stamps the entry, and finds it ripe.
use Rattle.std.specs.Prelude.{◌≡◌, ℕ, ◌+◌, map, cond, nat_le}
use Rattle.smr_clock.specs.declared.view.View.{View}
use Rattle.smr_clock.specs.declared.host.HostAct.{HostAct}
use Rattle.smr_clock.specs.declared.host.HostAct.TheVariants.{Store}
use Rattle.smr_clock.specs.HostSteps.{Change}
use Rattle.name_rows.specs.declared.entry.EntryState.{EntryState}
use Rattle.name_rows.specs.declared.entry.EntryState.TheVariants.{Clean, Written, Linked, Unlinked, Stamped}
use Rattle.name_rows.specs.declared.entry.Owned.{Owned}
use Rattle.name_rows.specs.declared.names.Part.{Part}

abbrev pub with_owned : (Owned → Owned) → Part → Part
with_owned f p = record p { owned = map f p.owned }

-- what the act stores
abbrev pub stored : HostAct → ℕ
stored (Store value) = value
stored _ = 0

abbrev pub keyed : ℕ → Owned → Owned
keyed key o = record o { key = key }

-- the value word is written, after the key word
abbrev pub valued : ℕ → Owned → Owned
valued value o = record o { value = value; state = Written }

abbrev pub stamped : ℕ → Owned → Owned
stamped goal o = record o { state = Stamped goal }

-- An entry that has a stamp is clean once the read sequence has come to it. One that wasn't linked has none.
abbrev pub ripe_state : ℕ → EntryState → EntryState
ripe_state read Clean = Clean
ripe_state read Written = Clean
ripe_state read (Linked row version) = Linked row version
ripe_state read Unlinked = Unlinked
ripe_state read (Stamped goal) = cond (nat_le goal read) Clean (Stamped goal)

abbrev pub ripened : ℕ → Owned → Owned
ripened read o = record o { state = ripe_state read o.state }

-- both words are written
abbrev pub Writes : ℕ → ℕ → View Part → Owned → View Part → Owned → Type 0
Writes key value v o v' o' = o' ≡ valued value (keyed key o)

-- ---- the steps

-- the store of a key word
abbrev pub writes_key : Change Part
writes_key v word act found part = part ≡ with_owned (keyed (stored act)) v.host

-- the store of a value word, after that of the key word
abbrev pub writes_value : Change Part
writes_value v word act found part = part ≡ with_owned (valued (stored act)) v.host

-- a load of the write sequence: the stamp is two more
abbrev pub stamps : Change Part
stamps v word act found part = part ≡ with_owned (stamped (found + 2)) v.host

-- a load of the read sequence
abbrev pub ripens : Change Part
ripens v word act found part = part ≡ with_owned (ripened found) v.host
