-- What reading does to the bytes that a source has left, where it tells them (own). A source that tells its
-- bytes before a call tells them after it, and one that does not tell them before does not tell them after.
use Rattle.std.specs.Prelude.{ℕ, Option, ◌≡◌, ◌≤◌, ◌<◌, List, [], ◌++◌, Result, length, take, IfSome, IfOk, OnErr}
use Rattle.std.specs.Option.{option_map}
use Rattle.uma_io.specs.declared.reading.Failed.{Failed}
use Rattle.uma_io.specs.Faults.{Rose}

-- the bytes left before are the piece, and then the bytes left after
abbrev pub TakesBytes : Option (List ℕ) → List ℕ → Option (List ℕ) → Type 0
TakesBytes before piece after = before ≡ option_map (λ rest. piece ++ rest) after

-- no byte is left
abbrev pub IsAtEnd : Option (List ℕ) → Type 0
IsAtEnd left = IfSome left (λ rest. rest ≡ [])

-- more bytes are left than so many
abbrev pub HasMoreThan : ℕ → Option (List ℕ) → Type 0
HasMoreThan most left = IfSome left (λ rest. most < length rest)

-- nothing is left after, where the source tells it
abbrev pub Exhausts : Option (List ℕ) → Option (List ℕ) → Type 0
Exhausts before after = after ≡ option_map (λ _. []) before

-- One read: the front of the room has the next bytes, as many as are answered, and none only at the end. Where it failed none is gone, and the count of faults rose.
pub record Reads (left : Option (List ℕ)) (faults : ℕ) (answer : Result ℕ Failed) (room : List ℕ) (rest : Option (List ℕ)) (count : ℕ) : Type 0 where
  pub within : IfOk answer (λ n. n ≤ length room)
  pub takes : IfOk answer (λ n. TakesBytes left (take n room) rest)
  pub ends : IfOk answer (λ n. n ≡ 0 → 0 < length room → IsAtEnd rest)
  pub unchanged : OnErr answer (rest ≡ left)
  pub rose : OnErr answer (Rose faults count)
  pub never_falls : faults ≤ count
