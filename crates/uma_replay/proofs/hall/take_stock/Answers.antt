use Rattle.std.proofs.Common.{rules}
use Rattle.uma_replay.proofs.HallOf.{done_kept, are_few, stay_on}
use Rattle.uma_replay.proofs.Staying.{hands_stay}
use Rattle.uma_replay.proofs.hall.take_stock.Goals as goal

pub take_totals-requires : goal.take_totals-requires
take_totals-requires g c = record {
  head = search rules;
  zones = search rules;
  fits = search rules;
  few = are_few c.args.trace.now c.args.zones.now c.args.clock.now c.closing_hands-read.new.workers c.requires.valid c.closing_hands-read.ensures.done;
}

pub returns : goal.returns
returns g c = record {
  done = done_kept c.args.trace.now c.args.zones.now c.args.clock.now c.closing_hands-read.new.workers c.take_totals.new.workers c.in_ok-totals.ensures.workers c.closing_hands-read.ensures.done;
  stay = stay_on c.args.trace.now c.args.zones.now c.args.clock.now c.args.workers.now c.closing_hands-read.new.workers c.take_totals.new.workers c.closing_hands-read.ensures.done c.closing_hands-read.ensures.stay c.in_ok-totals.ensures.workers;
  hands = hands_stay c.args.clock.now c.closing_hands-read.new.workers c.take_totals.new.workers c.closing_hands-read.result.0 c.closing_hands-read.result.1 c.in_ok-totals.ensures.workers c.closing_hands-read.ensures.hands;
  closes = c.in_ok-totals.ensures.closes;
}
