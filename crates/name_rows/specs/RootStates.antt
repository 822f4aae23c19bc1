-- What the root keeps of entries, by number.
use Rattle.std.specs.Prelude.{◌≡◌, ℕ, List, Bool, true, Option, Some, None, slice_set}
use Rattle.smr_clock.specs.HostSteps.{Change}
use Rattle.name_rows.specs.declared.entry.Owned.{Owned}
use Rattle.name_rows.specs.declared.names.Part.{Part}
use Rattle.name_rows.specs.Records.{key_place}
use Rattle.name_rows.specs.Ripening.{is_loose}

-- an entry that the root has is in no row
abbrev pub is_loose_at : Option Owned → Bool
is_loose_at None = true
is_loose_at (Some o) = is_loose o.state

-- a load of an entry's key word, which names the entry as the next to be split off
abbrev pub names_next : Change Part
names_next v word act found part = (n : ℕ) × (word ≡ key_place v.setup n) × (part ≡ record v.host { next = Some n })

-- the root's table after it has taken this entry in
abbrev pub put_back : Option Owned → List (Option Owned) → List (Option Owned)
put_back None kept = kept
put_back (Some o) kept = slice_set kept o.entry (Some o)
