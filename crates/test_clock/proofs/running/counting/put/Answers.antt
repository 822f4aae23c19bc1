use Rattle.smr_clock.specs.declared.host.HostAct.TheVariants.{Store}
use Rattle.smr_clock.proofs.CountingLemmas.{counts_keep}
use Rattle.test_clock.proofs.running.counting.put.Goals as goal

pub seat_step-requires-clause-keeps : goal.seat_step-requires-clause-keeps
seat_step-requires-clause-keeps c = counts_keep _ _ _ c.requires.here.1 _ (Store c.args.count) c.count_word.ensures c.requires.keeps
