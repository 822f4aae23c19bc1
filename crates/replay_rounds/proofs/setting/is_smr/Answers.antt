use Rattle.std.proofs.Common.{sym, ap}
use Rattle.replay_rounds.specs.Zones.{is_smr}
use Rattle.replay_rounds.proofs.setting.is_smr.Goals as goal

pub returns-in-Plain : goal.returns-in-Plain
returns-in-Plain c = sym (ap is_smr c.in-Plain.is)

pub returns-in-Smr : goal.returns-in-Smr
returns-in-Smr c = sym (ap is_smr c.in-Smr.is)
