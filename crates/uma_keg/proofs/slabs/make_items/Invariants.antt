use Rattle.std.proofs.Common.{◌≡◌, ◌≤◌, ◌<◌, ◌+◌, ℕ, None, All, vec_len}
use Rattle.std.specs.Vec.{vec_capacity}
use Rattle.uma_life.specs.Life.{raw_life}
use Rattle.uma_keg.specs.NewItems.{AreNewItems, IsOfOrigin}
use Rattle.uma_keg.proofs.slabs.make_items.Given as goal

abbrev pub invariant-loop-place : goal.invariant-loop-place
invariant-loop-place g l = record {
  len : vec_len l.places ≡ l.place;
  room : l.per_slab ≤ vec_capacity l.places;
  origins : All (IsOfOrigin (g.K.Hooks.origin l.hooks)) l.places.items;
  items : AreNewItems l.first l.places.items;
  accepted : (place : ℕ) → place < l.place → (raw : _) × (g.T.Body.life raw ≡ raw_life (l.first + place)) × (g.K.Hooks.refuses_init l.hooks raw 0 ≡ None);
}
