-- The number rule of every text (own).
use Rattle.std.specs.Prelude.{ℕ, ◌≡◌, ◌<◌, ◌^◌, ◌&&◌, List, Option, Some, None, nat_lt, if◌then◌else◌}
use Rattle.std.specs.Fmt.{decimal}
use Rattle.std.specs.Str.{bytes_eq}
use Rattle.std.specs.Str.Parse.{digits_value}

-- The text of a number: decimal digits without a sign, without a leading zero other than in `0`, at most 2^64 - 1.
pub record IsNumber (text : List ℕ) (n : ℕ) : Type 0 where
  pub digits : text ≡ decimal n
  pub fits : n < 2 ^ 64

-- the number whose text this is, if it is one
unfoldable pub number_of : List ℕ → Option ℕ
number_of text = let n = digits_value 10 text in if (nat_lt n (2 ^ 64) && bytes_eq text (decimal n)) then Some n else None
