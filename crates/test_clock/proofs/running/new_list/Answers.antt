use Rattle.smr_clock.specs.Belongs.{clock_id}
use Rattle.test_clock.proofs.running.new_list.Goals as goal

pub returns : goal.returns
returns g c = record { mine = c.in_ok-list.ensures.made.unused (clock_id c.args.clock.now) }
