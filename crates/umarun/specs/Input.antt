-- What contracts say of the bytes that a command read (own).
use Rattle.std.specs.Prelude.{◌≡◌, ℕ, List, Option, IfSome}

-- The command read some bytes, and this holds of them. A source that reports its bytes had just these left before. One that doesn't, as the process's own input, may have given any.
pub record OfInput (left : Option (List ℕ)) (Holds : List ℕ → Type 0) : Type 0 where
  pub bytes : List ℕ
  pub are : IfSome left (λ had. bytes ≡ had)
  pub holds : Holds bytes
