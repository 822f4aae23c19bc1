use Rattle.std.proofs.Common.{◌≡◌, ◌≤◌, ◌+◌, map, reverse, vec_len}
use Rattle.std.specs.List.{All}
use Rattle.std.specs.Vec.{vec_capacity}
use Rattle.uma_keg.specs.Outside.{outside_zones, outside_table}
use Rattle.uma_keg.specs.Lent.{seen_without, deed_without, together, TakesIn, IsWithoutOf}
use Rattle.uma_keg.proofs.census.issue_again.Given as goal

abbrev pub decreases-loop-item : goal.decreases-loop-item
decreases-loop-item g l = vec_len l.taken

abbrev pub invariant-loop-item : goal.invariant-loop-item
invariant-loop-item g l = record {
  table : outside_table l.outside ≡ outside_table l.initial.outside;
  counted : vec_len l.items + vec_len l.taken ≡ vec_len l.initial.taken;
  room : vec_len l.initial.taken ≤ vec_capacity l.items;
  items : together (outside_table l.initial.outside) l.items.items l.taken.items ≡ reverse (map (seen_without (outside_table l.initial.outside)) l.initial.taken.items);
  origins : All (IsWithoutOf (outside_table l.initial.outside)) l.taken.items;
  taken : TakesIn (outside_zones l.before.value) (map deed_without l.taken.items) (outside_zones l.outside);
}
