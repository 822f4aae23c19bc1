use Rattle.std.proofs.Common.{◌≡◌, ◌≤◌, ◌+◌, map, vec_len}
use Rattle.std.specs.List.{All}
use Rattle.std.specs.Vec.{vec_capacity}
use Rattle.uma_life.specs.Live.{live_table}
use Rattle.uma_keg.specs.Outside.{outside_zones, outside_table}
use Rattle.uma_keg.specs.Lent.{all_seen, deed_without, together, TakesIn, IsWithoutOf}
use Rattle.uma_keg.proofs.census.take_in.Given as goal

abbrev pub decreases-loop-item : goal.decreases-loop-item
decreases-loop-item g l = vec_len l.items

abbrev pub invariant-loop-item : goal.invariant-loop-item
invariant-loop-item g l = record {
  table : outside_table l.outside ≡ outside_table l.initial.outside;
  of_book : All (λ item. live_table item ≡ outside_table l.initial.outside) l.items.items;
  counted : vec_len l.items + vec_len l.taken ≡ vec_len l.initial.items;
  room : vec_len l.initial.items ≤ vec_capacity l.taken;
  kept : vec_len l.initial.items ≤ vec_capacity l.items;
  items : together (outside_table l.initial.outside) l.items.items l.taken.items ≡ all_seen l.initial.items.items;
  origins : All (IsWithoutOf (outside_table l.initial.outside)) l.taken.items;
  taken : TakesIn (outside_zones l.initial.outside) (map deed_without l.taken.items) (outside_zones l.outside);
}
