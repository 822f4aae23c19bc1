-- Own: what contracts see of an origin.
use Rattle.std.specs.Prelude.{ℕ, List}
use Rattle.deed_book.specs.declared.deed.Origin.{Origin}

-- two origins are one exactly where their numbers are equal
abbrev pub origin_numbers : Origin → List ℕ
origin_numbers origin = origin.tag.numbers
