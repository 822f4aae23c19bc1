-- What a pass knows of the rows of names, before and after a call (own). Who keeps the names says when a pass knows a record: it is of a row, has a version, and binds a key to a value, or nothing.
use Rattle.std.specs.Prelude.{◌≡◌, ◌<◌, ◌≤◌, ◌+◌, ◌%◌, ◌==◌, ℕ, cond, List, ◌∷◌, Option, Some, None}

-- when somebody knows a record of this row with this version, which binds this
abbrev pub Knowledge : Type 0 → Type 1
Knowledge V = V → ℕ → ℕ → Option (ℕ × ℕ) → Type 0

-- the value that a record binds to the key
abbrev pub bound_to : ℕ → Option (ℕ × ℕ) → Option ℕ
bound_to key None = None
bound_to key (Some bound) = cond (bound.0 == key) (Some bound.1) None

-- what it knew it still knows
abbrev pub StillKnows : {V : Type 0} → Knowledge V → V → V → Type 0
StillKnows Knows v v' = (row version : ℕ) (bound : Option (ℕ × ℕ)) → Knows v row version bound → Knows v' row version bound

-- each record of the row that it knows is older than this version
abbrev pub IsAbove : {V : Type 0} → Knowledge V → ℕ → ℕ → V → Type 0
IsAbove Knows row version v = (older : ℕ) (bound : Option (ℕ × ℕ)) → Knows v row older bound → older < version

-- no record of the row that it knows is newer than this version
abbrev pub IsNewest : {V : Type 0} → Knowledge V → ℕ → ℕ → V → Type 0
IsNewest Knows row version v = (other : ℕ) (bound : Option (ℕ × ℕ)) → Knows v row other bound → other ≤ version

-- The key is bound: a record of its row that is newer than each that was known before binds it to the value. It is known now, and none known is newer.
pub record Binds {V : Type 0} (Knows : Knowledge V) (rows key value : ℕ) (v v' : V) : Type 0 where
  pub version : ℕ
  pub above : IsAbove Knows (key % rows) version v
  pub knows : Knows v' (key % rows) version (Some (key, value))
  pub newest : IsNewest Knows (key % rows) version v'

-- The key is taken out: a record of its row bound it to a value, and none that was known before is newer. The next record of the row binds nothing. Both are known now, and none known is newer.
pub record Unbinds {V : Type 0} (Knows : Knowledge V) (rows key : ℕ) (v v' : V) : Type 0 where
  pub before : ℕ
  pub value : ℕ
  pub bound : Knows v' (key % rows) before (Some (key, value))
  pub met : IsNewest Knows (key % rows) before v
  pub knows : Knows v' (key % rows) (before + 1) None
  pub newest : IsNewest Knows (key % rows) (before + 1) v'

-- The key isn't bound: a record of its row, which is known now, doesn't bind it. None that was known before is newer, and none that is known now.
pub record FindsUnbound {V : Type 0} (Knows : Knowledge V) (rows key : ℕ) (v v' : V) : Type 0 where
  pub version : ℕ
  pub content : Option (ℕ × ℕ)
  pub knows : Knows v' (key % rows) version content
  pub met : IsNewest Knows (key % rows) version v
  pub newest : IsNewest Knows (key % rows) version v'
  pub unbound : bound_to key content ≡ None

-- A look for the key: a record of its row, which is known now, says the answer. None that was known before is newer.
pub record Finds {V : Type 0} (Knows : Knowledge V) (rows key : ℕ) (v : V) (found : Option ℕ) (v' : V) : Type 0 where
  pub version : ℕ
  pub content : Option (ℕ × ℕ)
  pub knows : Knows v' (key % rows) version content
  pub met : IsNewest Knows (key % rows) version v
  pub answer : found ≡ bound_to key content

-- a record of a row: the row, its version, and what it binds
abbrev pub Told : Type 0
Told = ℕ × ℕ × Option (ℕ × ℕ)

-- A look for the key loaded a record of its row, which says the answer: it is one more in front of those that were known, as a load of a row's word puts it there. None of the row that was known before is newer.
pub record Loads {V : Type 0} (Knows : Knowledge V) (told : V → List Told) (rows key : ℕ) (v : V) (found : Option ℕ) (v' : V) : Type 0 where
  pub version : ℕ
  pub content : Option (ℕ × ℕ)
  pub met : IsNewest Knows (key % rows) version v
  pub loaded : told v' ≡ (key % rows, version, content) ∷ told v
  pub answer : found ≡ bound_to key content
