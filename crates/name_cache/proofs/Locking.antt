-- The locks of the rows, one after the other.
use Rattle.std.specs.Prelude.{slice_index_or}
use Rattle.std.proofs.Common.{◌≡◌, ◌<◌, ℕ, List, [], ◌∷◌, ◌++◌, length, map, get_or, ◌∙◌, sym, ap, subst, refl, ⊎_elim}
use mathlib.Core.Option.{some}
use lib.ListN.{get_elem?}
use Rattle.keyed_lock.specs.KeyedLock.{lock_key}
use Rattle.smr_core.proofs.PlaceLemmas.{at_map, at_push, at_index, get_or_at_place}
use Rattle.smr_clock.specs.declared.clock.Clock.{Clock}
use Rattle.smr_clock.specs.declared.clock.Setup.{Setup}
use Rattle.smr_clock.specs.Belongs.{TableId}
use Rattle.uma_bucket.specs.Home.{Home}
use Rattle.name_rows.specs.declared.names.Names.{Names}
use Rattle.name_rows.specs.declared.names.Part.{Part}
use Rattle.name_rows.specs.declared.row.Row.{Row}
use Rattle.name_cache.specs.Locks.{RowLock, lock_version, AreNamed}
use Rattle.name_cache.specs.Making.{AreFreshRows, IsFreshRow}
use Rattle.name_cache.specs.RowKey.{key_identity, identity}

-- the next of the rows
pub fresh_at : (clock : Clock Names Part) (rows : List Row) (i : ℕ) (row : Row) → AreFreshRows clock rows → i < length rows → row ≡ get_or rows i row → IsFreshRow clock i row
fresh_at clock rows i row all low is = all i row (at_index rows i row low is)

pub fresh_own : (clock : Clock Names Part) (i : ℕ) (row : Row) → IsFreshRow clock i row → IsFreshRow clock row.number row
fresh_own clock i row fresh = record { here = fresh.here; numbered = refl; empty = fresh.empty; last = fresh.last }

-- one lock more
pub named_more : (clock : TableId × Setup) (home : Home) (locks more : List RowLock) (lock : RowLock) → more ≡ locks ++ lock ∷ [] → AreNamed clock home locks → key_identity (lock_key lock) ≡ identity clock home (length locks) (lock_version lock) → AreNamed clock home more
named_more clock home locks more lock is named own n other there =
    ⊎_elim
    (λ t. named n other t)
    (λ t. subst (λ (l : RowLock). key_identity (lock_key l) ≡ identity clock home n (lock_version l)) t.1 (own ∙ ap (λ (m : ℕ). identity clock home m (lock_version lock)) (sym t.0)))
    (at_push locks lock other n (subst (λ (l : List RowLock). get_elem? l n ≡ some other) is there))

-- the version of the lock at a place
pub version_at : (locks : List RowLock) (i : ℕ) (lock : RowLock) → get_elem? locks i ≡ some lock → lock_version lock ≡ slice_index_or (map lock_version locks) i 0
version_at locks i lock there = sym (get_or_at_place (map lock_version locks) i (lock_version lock) 0 (at_map lock_version locks i lock there))
