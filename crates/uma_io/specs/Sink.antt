-- What writing does to the bytes that a sink holds, where it tells them (own). A sink that tells its bytes
-- before a call tells them after it, and one that does not tell them before does not tell them after.
use Rattle.std.specs.Prelude.{ℕ, Option, ◌≡◌, ◌≤◌, ◌<◌, List, ◌++◌, Result, length, take, IfOk, OnErr}
use Rattle.std.specs.Option.{option_map}
use Rattle.uma_io.specs.declared.reading.Failed.{Failed}
use Rattle.uma_io.specs.Faults.{Rose}

-- the bytes held after are those held before, and then the piece
abbrev pub Adds : Option (List ℕ) → List ℕ → Option (List ℕ) → Type 0
Adds before piece after = after ≡ option_map (λ held. held ++ piece) before

-- a front of the bytes was added, and not all of them
abbrev pub AddsPart : Option (List ℕ) → List ℕ → Option (List ℕ) → Type 0
AddsPart before bytes after = (n : ℕ) × (n < length bytes) × Adds before (take n bytes) after

-- One write: a front of the piece is added, of at least one byte unless the piece is empty. Where it failed nothing is added, and the count of faults rose.
pub record Writes (held : Option (List ℕ)) (faults : ℕ) (piece : List ℕ) (answer : Result ℕ Failed) (now : Option (List ℕ)) (count : ℕ) : Type 0 where
  pub within : IfOk answer (λ n. n ≤ length piece)
  pub some : IfOk answer (λ n. 0 < length piece → 0 < n)
  pub adds : IfOk answer (λ n. Adds held (take n piece) now)
  pub unchanged : OnErr answer (now ≡ held)
  pub rose : OnErr answer (Rose faults count)
  pub never_falls : faults ≤ count
