-- The numbers of zones in their kegs, on worked rows: two kegs, of which the first has two secondary zones and the second has one.
use Rattle.std.proofs.Common.{◌≡◌, ℕ, List, [], ◌∷◌, Option, Some, None, refl}
use Rattle.trace_text.specs.declared.trace.ZoneHead.{ZoneHead}
use Rattle.trace_text.specs.declared.trace.ZoneKind.TheVariants.{Plain}
use Rattle.trace_text.specs.Valid.{sharer_count}
use Rattle.replay_rounds.specs.Kegs.{index_of, keg_place, rights_after}

line : Option ℕ → ZoneHead
line parent = record { name = []; parent = parent; size = 256; slabs = 4; bucket = 4; limit = 0; reserve = 0; kind = Plain }

lines : List ZoneHead
lines = line None ∷ line None ∷ line (Some 0) ∷ line (Some 0) ∷ line (Some 1) ∷ []

numbers_of_zones : (index_of lines 0 (line None) ≡ 0) × (index_of lines 1 (line None) ≡ 0) × (index_of lines 2 (line (Some 0)) ≡ 1) × (index_of lines 3 (line (Some 0)) ≡ 2) × (index_of lines 4 (line (Some 1)) ≡ 1)
unfolding line lines
numbers_of_zones = (refl, refl, refl, refl, refl)

sharers : (sharer_count lines 0 ≡ 2) × (sharer_count lines 1 ≡ 1) × (sharer_count lines 2 ≡ 0)
unfolding line lines
sharers = (refl, refl, refl)

rights_left : (rights_after 2 ≡ 7 ∷ 6 ∷ 5 ∷ 4 ∷ 3 ∷ []) × (rights_after 7 ≡ [])
rights_left = (refl, refl)

places_of_kegs : (keg_place 1 (line None) ≡ 1) × (keg_place 3 (line (Some 0)) ≡ 0)
unfolding line
places_of_kegs = (refl, refl)
