-- Which zones of a trace share a keg (own). A zone line makes a keg with its primary zone, a `second` line one more zone of its parent's keg.
use Rattle.std.specs.Prelude.{ℕ, ◌+◌, ◌-◌, ◌/◌, List, [], ◌∷◌, min, take, is_some, if◌then◌else◌}
use Rattle.std.specs.Option.{option_map_or}
use Rattle.trace_text.specs.declared.trace.ZoneHead.{ZoneHead}
use Rattle.trace_text.specs.Valid.{sharer_count}

-- the items of a slab (own)
abbrev pub per_slab : ZoneHead → ℕ
per_slab head = min 256 (4096 / head.size)

-- The primary zones among these, by their places. Each has a keg, which the secondary zones over it share.
abbrev pub primaries : List ZoneHead → ℕ → List (ℕ × ZoneHead)
primaries [] place = []
primaries (head ∷ heads) place = if is_some head.parent then primaries heads (place + 1) else (place, head) ∷ primaries heads (place + 1)

-- the place of the zone whose keg the zone at place `z` has: its parent's, or its own
abbrev pub keg_place : ℕ → ZoneHead → ℕ
keg_place z head = option_map_or (λ parent. parent) head.parent z

-- the number of the zone at place `z` in its keg: 0 for the primary zone, and 1 for the first secondary one
abbrev pub index_of : List ZoneHead → ℕ → ZoneHead → ℕ
index_of heads z head = option_map_or (λ parent. sharer_count (take z heads) parent + 1) head.parent 0

-- the rights to further zones that a keg keeps once it has so many secondary ones; the next is the last
abbrev pub rights_after : ℕ → List ℕ
rights_after count = take (7 - count) (7 ∷ 6 ∷ 5 ∷ 4 ∷ 3 ∷ 2 ∷ 1 ∷ [])
