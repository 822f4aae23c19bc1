-- Own: how many numbers of a keg's book are outside, in each zone.
use Rattle.std.specs.Prelude.{◌≡◌, ◌≤◌, ◌<◌, ℕ, ◌==◌, Bool, false, List, Option, Some, None, length, slice_index_or, count_by}

-- the number is outside, in this zone
abbrev pub is_in_zone : ℕ → Option ℕ → Bool
is_in_zone zone (Some other) = other == zone
is_in_zone zone None = false

-- how many numbers the book sends to the zone
unfoldable pub out_of : List (Option ℕ) → ℕ → ℕ
out_of zones zone = count_by (is_in_zone zone) zones

-- the eight counts beside a book are those of its map
pub record CountsOuts (zones : List (Option ℕ)) (outs : List ℕ) : Type 0 where
  pub few : length zones ≤ 262144
  pub eight : length outs ≡ 8
  pub counts : (zone : ℕ) → zone < 8 → slice_index_or outs zone 0 ≡ out_of zones zone
