use Rattle.smr_objects.proofs.StampLemmas.{stamps-stand}
use Rattle.smr_objects.proofs.laws.stamped_slots_stand.Goals as goal

pub returns : goal.returns
returns c = stamps-stand
