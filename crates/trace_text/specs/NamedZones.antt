-- The names of zones, and the zones that a reading has, each found by its name.
use Rattle.std.specs.Prelude.{ℕ, ◌≡◌, ◌≢◌, ◌≤◌, List, [], map, length, slice_get, AllPairs}
use Rattle.std.specs.Map.{keys_of, values_of}
use Rattle.std.specs.Option.{option_map_or}
use Rattle.trace_text.specs.declared.trace.ZoneHead.{ZoneHead}

-- the name of the zone at this place; nothing where there is none
abbrev pub zone_name : List ZoneHead → ℕ → List ℕ
zone_name zones z = option_map_or (λ (h : ZoneHead). h.name) (slice_get zones z) []

-- Each zone stands by its name, no two names are the same, and there are 16 at most.
pub record AreByName (entries : List (List ℕ × ZoneHead)) : Type 0 where
  pub named : keys_of entries ≡ map (λ (z : ZoneHead). z.name) (values_of entries)
  pub differ : AllPairs (λ a b. a ≢ b) (keys_of entries)
  pub few : length entries ≤ 16
