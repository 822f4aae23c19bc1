use Rattle.trace_gen.proofs.Makes.{Makes}
use Rattle.trace_gen.proofs.make_trace.Given as goal

abbrev pub invariant-loop-step : goal.invariant-loop-step
invariant-loop-step l = Makes l.seed l.workers l.ops l._step l.generator l.rounds.ended.items l.rounds.part.items
