use Rattle.smr_clock.proofs.HostClocked.{opens_clocked}
use Rattle.smr_clock.proofs.making.Clock+Bare.new.Goals as goal

pub hosted-requires : goal.hosted-requires
hosted-requires c = record { opens = λ r. opens_clocked _ _ _ r }
