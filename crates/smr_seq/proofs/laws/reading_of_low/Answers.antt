use Rattle.smr_seq.proofs.ReadingLemmas.{reading-low}
use Rattle.smr_seq.proofs.laws.reading_of_low.Goals as goal

pub returns-clause-function : goal.returns-clause-function
returns-clause-function c = reading-low
