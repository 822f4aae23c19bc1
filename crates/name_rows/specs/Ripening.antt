-- What stamping an entry, and finding it ripe or unripe, come to.
use Rattle.std.specs.Prelude.{◌≡◌, ℕ, ◌+◌, ◌<◌, ◌≤◌, ◌⊎◌, Bool, true, false}
use Rattle.smr_clock.specs.declared.view.View.{View}
use Rattle.smr_clock.specs.Steps.{IsWriteFound, IsReadFound, write_looking}
use Rattle.name_rows.specs.declared.entry.EntryState.{EntryState}
use Rattle.name_rows.specs.declared.entry.EntryState.TheVariants.{Clean, Linked, Unlinked, Stamped}
use Rattle.name_rows.specs.declared.entry.Owned.{Owned}
use Rattle.name_rows.specs.declared.names.Part.{Part}
use Rattle.name_rows.specs.declared.writing.Unripe.{Unripe}
use Rattle.name_rows.specs.Writing.{stamped, ripened}

-- the entry is in no row
abbrev pub is_loose : EntryState → Bool
is_loose (Linked row version) = false
is_loose _ = true

-- the entry is in no row, and has a stamp where it was linked
abbrev pub is_settled : EntryState → Bool
is_settled Unlinked = false
is_settled (Linked row version) = false
is_settled _ = true

-- the stamp is two above the write sequence, which was loaded
pub record StampsAt (v : View Part) (o : Owned) (v' : View Part) (o' : Owned) : Type 0 where
  pub write : ℕ
  pub found : IsWriteFound v.holder write
  pub kept : o' ≡ stamped (write + 2) o
  pub holder : v'.holder ≡ (write_looking v write).holder

-- The entry is in its state with a stamp, if it has one: that which it had, or, where it was unlinked without one, that which was given to it.
abbrev pub StampsIfUnlinked : View Part → Owned → View Part → Owned → Type 0
StampsIfUnlinked v o v' o' =
    (is_settled o'.state ≡ true)
    × (((o.state ≡ Unlinked) × StampsAt v o v' o') ⊎ ((is_settled o.state ≡ true) × (o' ≡ o) × (v' ≡ v)))

-- The read sequence was loaded. The entry is clean where it has no stamp above that hand, and else as it was.
pub record LoadsReadHand (read : ℕ) (v : View Part) (o : Owned) (v' : View Part) (o' : Owned) : Type 0 where
  pub found : IsReadFound v.holder read
  pub floor : v'.holder.floor ≡ read
  pub kept : o' ≡ ripened read o

-- The entry is clean. Where it had, or was given, a stamp, the read sequence is known to have come to it.
pub record IsRipe (v : View Part) (o : Owned) (v' : View Part) (o' : Owned) : Type 0 where
  pub kept : o' ≡ record o { state = Clean }
  pub come : (goal : ℕ) → o.state ≡ Stamped goal → goal ≤ v'.holder.floor
  pub given : o.state ≡ Unlinked → (write : ℕ) × IsWriteFound v.holder write × (write + 2 ≤ v'.holder.floor)

-- The read sequence that was loaded is below the entry's stamp: that which it had, or was given.
pub record IsUnripe (u : Unripe) (v : View Part) (o : Owned) (v' : View Part) (o' : Owned) : Type 0 where
  pub below : u.read < u.stamp
  pub kept : o' ≡ stamped u.stamp o
  pub floor : v'.holder.floor ≡ u.read
  pub not_lower : v.holder.floor ≤ u.read
  pub stamp : (o.state ≡ Stamped u.stamp) ⊎ ((o.state ≡ Unlinked) × (write : ℕ) × IsWriteFound v.holder write × (u.stamp ≡ write + 2))
