-- How many slabs are given up at once, on worked rows: of three slabs of two places each, the second has a place in use. So five places are free, and two slabs wholly.
use Rattle.std.proofs.Common.{◌≡◌, ℕ, [], ◌∷◌, true, false, Some, refl}
use Rattle.uma_slabs.specs.Places.{KegPlaces, place_at, domain_at, free_count}
use Rattle.uma_keg.specs.Tallies.{sum_below}
use Rattle.uma_keg.specs.FreeSlabs.{free_places, wholly_free_count, slabs_to_free}

three_slabs : ℕ → KegPlaces
three_slabs made = record {
  per_slab = 2;
  cap = 4;
  made = made;
  slabs = Some (record { domain = 0; free = true ∷ true ∷ [] }) ∷ Some (record { domain = 0; free = true ∷ false ∷ [] }) ∷ Some (record { domain = 3; free = true ∷ true ∷ [] }) ∷ [];
}

wholly_free : wholly_free_count (three_slabs 3) ≡ 2
unfolding three_slabs wholly_free_count free_places sum_below place_at domain_at
wholly_free = refl

-- by the reserve: all that are wholly free, then as many as lie whole beyond it, none where the reserve is wanting, and none once too many were ever brought in
given_up : (slabs_to_free (three_slabs 3) 0 ≡ 2) × (slabs_to_free (three_slabs 3) 1 ≡ 2) × (slabs_to_free (three_slabs 3) 2 ≡ 1) × (slabs_to_free (three_slabs 3) 3 ≡ 1) × (slabs_to_free (three_slabs 3) 4 ≡ 0) × (slabs_to_free (three_slabs 3) 9 ≡ 0)
unfolding three_slabs slabs_to_free wholly_free_count free_places free_count sum_below place_at domain_at
given_up = (refl, refl, refl, refl, refl, refl)

used_up : (slabs_to_free (three_slabs 1099511627772) 0 ≡ 2) × (slabs_to_free (three_slabs 1099511627773) 0 ≡ 0)
unfolding three_slabs slabs_to_free wholly_free_count free_places free_count sum_below place_at domain_at
used_up = (refl, refl)
