-- What a host owes the clock: its rule includes the clock's law, and is kept by each step of the clock, whatever its kind.
use Rattle.std.specs.Prelude.{◌≡◌, ℕ, ◌≤◌, List, [], ◌∷◌, ◌++◌, length, slice_index, slice_set, Bool, IsTrue, Option}
use mathlib.Core.Option.{some}
use lib.ListN.{get_elem?}
use Rattle.smr_core.specs.ClockState.{place_after_seats, write_hand, read_hand}
use Rattle.smr_core.specs.Remembered.{RememberedLaw}
use Rattle.smr_clock.specs.declared.clock.Setup.{Setup}
use Rattle.smr_clock.specs.declared.view.View.{View}
use Rattle.smr_clock.specs.Views.{plain_views, seats_in, hosts_of}
use Rattle.smr_clock.specs.Clocked.{Clocked}

-- a rule over all words and all views
abbrev pub Rule : Type 0 → Type 1
Rule P = Setup → List ℕ → List (View P) → Type 0

abbrev pub Includes : {P : Type 0} → Rule P → Type 0
Includes {P} holds = (a : Setup) (ws : List ℕ) (vs : List (View P)) → holds a ws vs → Clocked a ws vs

-- What is remembered is so: the words that a poll found were stored by the workers of their seats, and what it scanned, and its least mark, follow from them.
abbrev pub IncludesMemory : {P : Type 0} → Rule P → Type 0
IncludesMemory {P} holds = (a : Setup) (ws : List ℕ) (vs : List (View P)) → holds a ws vs → RememberedLaw a.config (plain_views vs)

-- A step of the clock, as a host sees it: the clock's law holds before and after, neither hand is lower, and the host's words are as they were.
pub record Moved {P : Type 0} (a : Setup) (ws : List ℕ) (vs : List (View P)) (ws' : List ℕ) (vs' : List (View P)) : Type 0 where
  pub before : Clocked a ws vs
  pub after : Clocked a ws' vs'
  pub write_not_lower : write_hand ws ≤ write_hand ws'
  pub read_not_lower : read_hand ws ≤ read_hand ws'
  pub as_many : length ws' ≡ length ws
  pub host_words : (i : ℕ) → place_after_seats a.config ≤ i → slice_index ws' i ≡ slice_index ws i

-- a step that changes neither a seat's number nor a host part
abbrev pub FrameLaw : {P : Type 0} → Rule P → Type 0
FrameLaw {P} holds =
    (a : Setup) (ws : List ℕ) (vs : List (View P)) (ws' : List ℕ) (vs' : List (View P))
    → holds a ws vs → Moved a ws vs ws' vs' → seats_in vs' ≡ seats_in vs → hosts_of vs' ≡ hosts_of vs
    → holds a ws' vs'

-- a step with one view more, a note or a worker, whose host part is the copy of that of the view that it was split off
abbrev pub SplitLaw : {P : Type 0} → Rule P → (P → P) → Type 0
SplitLaw {P} holds copied =
    (a : Setup) (ws : List ℕ) (vs : List (View P)) (ws' : List ℕ) (vs' : List (View P)) (id : ℕ) (v : View P) (seat : Option ℕ)
    → holds a ws vs → Moved a ws vs ws' vs' → get_elem? vs id ≡ some v
    → seats_in vs' ≡ seats_in vs ++ seat ∷ [] → hosts_of vs' ≡ hosts_of vs ++ copied v.host ∷ []
    → holds a ws' vs'

-- a step at which one view takes in that of a note, which is spent
abbrev pub JoinLaw : {P : Type 0} → Rule P → (P → Bool) → (P → P → P) → P → Type 0
JoinLaw {P} holds may_note merged blank =
    (a : Setup) (ws : List ℕ) (vs : List (View P)) (ws' : List ℕ) (vs' : List (View P)) (id at : ℕ) (v note : View P)
    → holds a ws vs → Moved a ws vs ws' vs' → get_elem? vs id ≡ some v → get_elem? vs at ≡ some note → (at ≡ id → ⊥)
    → IsTrue (may_note note.host)
    → seats_in vs' ≡ seats_in vs
    → hosts_of vs' ≡ slice_set (slice_set (hosts_of vs) id (merged v.host note.host)) at blank
    → holds a ws' vs'
