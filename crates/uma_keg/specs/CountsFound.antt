-- What a fetch finds, told by the counts of its keg and the zone's items outside and limit.
use Rattle.std.specs.Prelude.{◌≤◌, ◌<◌, ◌^◌, ℕ}
use Rattle.uma_slabs.specs.declared.places.KegCounts.{KegCounts}
use Rattle.uma_keg.specs.Fetch.{Found}

abbrev pub found_by : KegCounts → ℕ → ℕ → Found
found_by counts out limit = record {
  per_slab = counts.per_slab;
  reserve = counts.reserve;
  out = out;
  limit = limit;
  free = counts.free;
  slabs = counts.slabs;
  cap = counts.cap;
  made = counts.made;
}

-- the counts of a keg are so small that no sum of them comes to its end
pub record AreSmall (counts : KegCounts) : Type 0 where
  pub per_slab : counts.per_slab ≤ 256
  pub slabs : counts.slabs ≤ counts.cap
  pub cap : counts.cap ≤ 1024
  pub made : counts.made < 2 ^ 41
  pub free : counts.free < 2 ^ 41
