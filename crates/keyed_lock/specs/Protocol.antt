-- The law of a lock (own, after the second mutex of Drepper's "Futexes are tricky"), over a table of one word and one slot.
-- A slot is none while its value is out with a seat, and some of what is in it while it is at home. What is in it is Some of the value, or None where a holder has taken that out.
use Rattle.std.specs.Prelude.{◌≡◌, ◌≢◌, ℕ, [], ◌∷◌, Option, Some, None, All}
use Rattle.std.specs.Mem.Slots.{slots_items}
use Rattle.std.specs.declared.alloc.Global.{Global}
use mathlib.Core.Option.{Option as Place, some}
use lib.ListN.{get_elem?}
use Rattle.atomic_table.specs.declared.owned.Closed.{Closed}
use Rattle.atomic_table.specs.Table.{State, Me}
use Rattle.keyed_lock.specs.declared.lock.TheConstants.{UNLOCKED, SLOT, WORD}

module _ {T K : Type 0} (keeps : K → T → Type 0) where
  -- the slot is at home, with a value that keeps the rule
  abbrev pub IsHome : K → Place (Option T) → Type 0
  IsHome k slot = (x : T) × keeps k x × (slot ≡ some (Some x))

  -- there are one word and one slot, every seat knows the key, and while the word says unlocked the value is home
  abbrev pub ObeysLaw : K → State (Option T) K → Type 0
  ObeysLaw k s = (word : ℕ) × (slot : Place (Option T)) × (s.words ≡ word ∷ []) × (s.homes ≡ slot ∷ []) × All (λ v. v ≡ k) s.views × (word ≡ UNLOCKED → IsHome k slot)

  -- the seat has the slot, with a value that keeps the rule for the key that the seat knows
  abbrev pub Holds : Me (Option T) K → Type 0
  Holds m = (x : T) × keeps m.0 x × (m.1 ≡ (SLOT, Some x) ∷ [])

  -- the seat knows the same key; it has the value if it found the lock unlocked, and else what it had
  abbrev pub TakesLock : Me (Option T) K → ℕ → Me (Option T) K → Type 0
  TakesLock before found after = (after.0 ≡ before.0) × (found ≡ UNLOCKED → Holds after) × (found ≢ UNLOCKED → after.1 ≡ before.1)

module _ {T : Type 0} where
  -- the seat has the slot, and the value is out of it
  abbrev pub HoldsGap : {K : Type 0} → K → Me (Option T) K → Type 0
  HoldsGap k m = m ≡ (k, (SLOT, None) ∷ [])

  -- the table was closed while its word said unlocked
  abbrev pub WordIsUnlocked : Closed (Option T) Global → Type 0
  WordIsUnlocked closed = get_elem? (slots_items closed.words) WORD ≡ some UNLOCKED

  -- the slot of the closed table has this value
  abbrev pub IsHomeValue : Closed (Option T) Global → T → Type 0
  IsHomeValue closed value = get_elem? (slots_items closed.slots) SLOT ≡ some (Some value)
