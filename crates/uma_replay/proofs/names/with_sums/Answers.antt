use Rattle.std.proofs.Common.{◌+◌, ap, ◌∙◌}
use Rattle.uma_life.specs.declared.tally.TallySum.{TallySum}
use Rattle.uma_life.specs.Sum.{sum_of}
use Rattle.uma_replay.proofs.NameTotals.{census_below, sums_below}
use Rattle.uma_replay.proofs.names.with_sums.Goals as goal

pub add_sums-requires-clause-room : goal.add_sums-requires-clause-room
add_sums-requires-clause-room c = census_below c.tally.result.now c.tally.ensures.below

pub add_sums-requires-clause-few : goal.add_sums-requires-clause-few
add_sums-requires-clause-few c = sums_below c.args.sums.now c.requires

pub returns : goal.returns
returns c = λ hook. c.add_sums.ensures hook ∙ ap (λ (t : TallySum). sum_of t hook + sum_of c.args.sums.now.tally hook) c.tally.ensures.tally
