use Rattle.std.proofs.Common.{Some}
use Rattle.uma_replay.proofs.names.with_names.Goals as goal

pub returns : goal.returns
returns c = λ i. record {
  lines = c.in_ok-with_last.ensures i;
  ledgers = c.in_ok-with_last-2.ensures i;
  hooks = c.in_ok-with_last-3.ensures i;
  kegs = c.in_ok-with_last-4.ensures i;
  clock = c.args.first.clock;
  names = Some c.args.part.counts;
  detail = c.args.first.detail;
  gave_up = c.args.first.gave_up;
}
