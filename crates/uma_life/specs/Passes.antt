-- What each hook asks and answers, told by what bodies say of themselves.
use Rattle.std.specs.Prelude.{◌≡◌, ℕ, List, Option, Some, None, Result, IfOk, IfErr}
use Rattle.deed_book.specs.declared.deed.Memory.{Memory}
use Rattle.uma_life.specs.Hook.{Hook, after, IsCode}
use Rattle.uma_life.specs.Life.{Life, raw_life}

-- A body was made of a number, of the hooks' own origin. It passed no hook.
pub record MakesRaw {T : Type 0} (life_of : T → Life) (origin_of : T → List ℕ) (number : ℕ) (makes : T → Type 0) (origin : List ℕ) (answer : Result T Memory) : Type 0 where
  pub raw : IfOk answer (λ body. life_of body ≡ raw_life number)
  pub made : IfOk answer (λ body. makes body)
  pub of_hooks : IfOk answer (λ body. origin_of body ≡ origin)

-- The body passed the hook. It is of what it was of, and is left so.
pub record Passes {T : Type 0} (life_of : T → Life) (origin_of : T → List ℕ) (hook : Hook) (leaves : T → T → Type 0) (old new : T) : Type 0 where
  pub passed : life_of new ≡ after hook (life_of old)
  pub same_origin : origin_of new ≡ origin_of old
  pub left : leaves old new

-- So it did, or the hook refused with a code and changed nothing. It refuses by its own meaning of that alone.
pub record PassesOrNot {T : Type 0} (life_of : T → Life) (origin_of : T → List ℕ) (hook : Hook) (leaves : T → T → Type 0) (refusal : Option ℕ) (old new : T) (answer : Result (Unit {0}) ℕ) : Type 0 where
  pub passed : IfOk answer (λ _. life_of new ≡ after hook (life_of old))
  pub same_origin : IfOk answer (λ _. origin_of new ≡ origin_of old)
  pub left : IfOk answer (λ _. leaves old new)
  pub accepts : IfOk answer (λ _. refusal ≡ None)
  pub refuses : IfErr answer (λ code. (refusal ≡ Some code) × IsCode code)
  pub unchanged : IfErr answer (λ _. new ≡ old)
