use Rattle.smr_clock.proofs.CountingLemmas.{reads_keep}
use Rattle.test_clock.proofs.running.counting.read.Goals as goal

pub host_step-requires-clause-keeps : goal.host_step-requires-clause-keeps
host_step-requires-clause-keeps c = reads_keep _ _ _ (λ i. (c.requires.here i).1) _ c.count_word.ensures
