use Rattle.std.proofs.Common.{rules, ◌≤◌, List, sym, subst, length}
use Rattle.trace_text.specs.declared.trace.ZoneHead.{ZoneHead}
use Rattle.replay_rounds.proofs.TotalBounds.{lent_below}
use Rattle.replay_rounds.proofs.Indexes.{few_zones}
use Rattle.replay_rounds.proofs.census.take_keg.Goals as goal

pub with_zones-tally-requires : goal.with_zones-tally-requires
with_zones-tally-requires g c = record {
  count = search rules;
  most = let P : List ZoneHead → Type 0 = λ l. length l ≤ 16 in subst P (sym c.as_slice.ensures) (few_zones c.args.head.now c.requires.can.head);
  small = search rules;
  room = lent_below c.args.head.now c.args.zones.now c.args.workers.now c.args.place c.in_ok-census.census c.in_ok-census.lent c.requires.can.head c.requires.can.few c.requires.place c.in_ok-census.ensures.census;
}
