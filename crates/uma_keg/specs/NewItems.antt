-- The items of a slab that is brought in. That keg_init runs on each, and that a refusal ends those made before it, is the rule of FreeBSD's uma(9).
use Rattle.std.specs.Prelude.{◌≡◌, ◌≤◌, ◌<◌, ◌+◌, ◌^◌, ℕ, List, Option, None, IfSome, All, length, slice_index_or}
use Rattle.std.specs.Option.{IsSomeAnd}
use Rattle.uma_life.specs.declared.states.Stored.{Stored}
use Rattle.uma_life.specs.declared.tally.TallySum.{TallySum}
use Rattle.uma_life.specs.declared.hooks.BringRefused.{BringRefused}
use Rattle.uma_life.specs.declared.hooks.BringRefused.TheVariants.{Init, Memory}
use Rattle.uma_life.specs.Stored.{stored_body, stored_origin}
use Rattle.uma_life.specs.Life.{raw_life}
use Rattle.uma_life.specs.Hook.{KegInit, IsCode, after}
use Rattle.uma_life.specs.Sum.{AreBelow}
use Rattle.uma_life.specs.Bring.{RefusesToBring}
use Rattle.uma_keg.specs.Tallies.{AddsVain}

-- an item that passed keg_init alone, of this number
pub record IsNewItem {T : Type 0} {g : _} (number : ℕ) (item : Stored T g) : Type 0 where
  pub life : g.life (stored_body item) ≡ after KegInit (raw_life number)

-- each place has a new item of its number: the first one's, and so on
pub record AreNewItems {T : Type 0} {g : _} (first : ℕ) (items : List (Option (Stored T g))) : Type 0 where
  pub each : (place : ℕ) → place < length items → IsSomeAnd (slice_index_or items place None) (IsNewItem (first + place))

-- the item of a place, where there is one, is of this origin
abbrev pub IsOfOrigin : {T : Type 0} {g : _} → List ℕ → Option (Stored T g) → Type 0
IsOfOrigin origin place = IfSome place (λ item. stored_origin item ≡ origin)

-- The items of the places below one were made and ended, as keg_init accepts them.
pub record StopsAt (per_slab place : ℕ) (Accepts : ℕ → Type 0) (old new : TallySum) : Type 0 where
  pub within : place < per_slab
  pub earlier : (lower : ℕ) → lower < place → Accepts lower
  pub buried : AddsVain old place new

-- Why a slab's items weren't made: at some place keg_init refused the body with a code, or memory was wanting. Those of the places before it were ended.
abbrev pub RefusesItems : ℕ → (ℕ → ℕ → Type 0) → (ℕ → Type 0) → TallySum → TallySum → BringRefused → Type 0
RefusesItems per_slab Refuses Accepts old new (Init code) = (place : ℕ) × StopsAt per_slab place Accepts old new × Refuses place code × IsCode code
RefusesItems per_slab Refuses Accepts old new Memory = (place : ℕ) × StopsAt per_slab place Accepts old new

-- a slab has places, and their numbers, from the first on, are below 2^32
pub record AreNumbers (first per_slab : ℕ) : Type 0 where
  pub numbers : first + per_slab ≤ 2 ^ 32
  pub some : 1 ≤ per_slab

-- so they are, of at most 256 places, and the sums have room for the items
pub record MayBringItems (first per_slab : ℕ) (buried : TallySum) : Type 0 where
  pub numbers : first + per_slab ≤ 2 ^ 32
  pub places : (1 ≤ per_slab) × (per_slab ≤ 256)
  pub room : AreBelow (2 ^ 126) buried

-- each place of a slab has a new item of this origin, which keg_init took
pub record MakesItems {T : Type 0} {g : _} (first per_slab : ℕ) (origin : List ℕ) (Accepts : ℕ → Type 0) (made : List (Option (Stored T g))) : Type 0 where
  pub whole : length made ≡ per_slab
  pub items : AreNewItems first made
  pub origins : All (IsOfOrigin origin) made
  pub accepted : (place : ℕ) → place < per_slab → Accepts place

-- the items of the places before one were made, and that one wasn't
pub record StopsMaking {T : Type 0} {g : _} (first per_slab : ℕ) (Refuses : ℕ → ℕ → Type 0) (Accepts : ℕ → Type 0) (made : List (Option (Stored T g))) (why : BringRefused) : Type 0 where
  pub fewer : length made < per_slab
  pub earlier : AreNewItems first made
  pub accepted_earlier : (place : ℕ) → place < length made → Accepts place
  pub refused : RefusesToBring (Refuses (length made)) why
