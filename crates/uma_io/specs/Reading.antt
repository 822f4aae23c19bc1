-- What reading all bytes takes from a source (own).
use Rattle.std.specs.Prelude.{ℕ, Option, ◌≡◌, ◌+◌, ◌≤◌, List, ◌++◌, Result, Vec, length, vec_len, IsErrOf}
use Rattle.std.specs.declared.alloc.Global.{Global}
use Rattle.uma_io.specs.Faults.{Rose}
use Rattle.uma_io.specs.Source.{TakesBytes, IsAtEnd}
use Rattle.uma_io.specs.declared.reading.ReadRefused.{ReadRefused}
use Rattle.uma_io.specs.declared.reading.ReadRefused.TheVariants.{Fault, TooLong, Memory}

-- the list grew by what was taken from the source
abbrev pub AppendsTaken : Option (List ℕ) → List ℕ → Option (List ℕ) → List ℕ → Type 0
AppendsTaken before old after new = (piece : List ℕ) × (new ≡ old ++ piece) × TakesBytes before piece after

-- some front of the bytes left was taken, of at most so many bytes
abbrev pub TakesAtMost : ℕ → Option (List ℕ) → Option (List ℕ) → Type 0
TakesAtMost most before after = (piece : List ℕ) × (length piece ≤ most) × TakesBytes before piece after

-- a front of so many bytes was taken
abbrev pub TakesCount : ℕ → Option (List ℕ) → Option (List ℕ) → Type 0
TakesCount count before after = (piece : List ℕ) × (length piece ≡ count) × TakesBytes before piece after

-- the bytes that are gone after a refusal: one more than allowed where they were too many, and no more than allowed otherwise
abbrev pub Loses : ℕ → Option (List ℕ) → ReadRefused → Option (List ℕ) → Type 0
Loses most before Fault after = TakesAtMost most before after
Loses most before (TooLong _) after = TakesCount (most + 1) before after
Loses most before Memory after = TakesAtMost most before after

-- so many bytes were appended, which are no more than may come in all, and none only at the end
pub record EndsPiece (most : ℕ) (old : Vec ℕ Global) (count : ℕ) (new : Vec ℕ Global) (rest : Option (List ℕ)) : Type 0 where
  pub grows : vec_len new ≡ vec_len old + count
  pub within : vec_len new ≤ most
  pub end : count ≡ 0 → IsAtEnd rest

-- a fault only where one was counted, and too long only by the most that may come; the count never falls
pub record FaultsOrEnds (most faults : ℕ) (answer : Result ℕ ReadRefused) (count : ℕ) : Type 0 where
  pub fault : IsErrOf answer Fault → Rose faults count
  pub too_long : (named : ℕ) → IsErrOf answer (TooLong named) → named ≡ most
  pub never_falls : faults ≤ count
