-- What a zone may be called (own).
use Rattle.std.specs.Prelude.{ℕ, ◌≤◌, Bool, ◌||◌, List, length, IsTrue, All, ◌==◌}
use Rattle.std.specs.Char.{is_ascii_alphanumeric}

-- a character of a name: a letter or a digit of ASCII, `_` or `-`
abbrev pub is_name_character : ℕ → Bool
is_name_character c = is_ascii_alphanumeric c || c == 95 || c == 45

-- a name: 1 to 16 bytes, each a name character
pub record IsName (bytes : List ℕ) : Type 0 where
  pub nonempty : 1 ≤ length bytes
  pub fits : length bytes ≤ 16
  pub characters : All (λ c. IsTrue (is_name_character c)) bytes
