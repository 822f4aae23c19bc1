use Rattle.umarun.proofs.ReadTraces.{reads_trace}
use Rattle.umarun.proofs.replaying.read_trace.Goals as goal

pub returns : goal.returns
returns c = reads_trace c.args.bytes.now c.parse.result c.traces_are_no_longer.ensures c.parse.ensures.read c.parse.ensures.valid c.parse.ensures.refused
