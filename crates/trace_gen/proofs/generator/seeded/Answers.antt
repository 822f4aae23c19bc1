use Rattle.trace_gen.specs.Generator.{seeded}
use Rattle.trace_gen.proofs.generator.seeded.Goals as goal

pub returns : goal.returns
unfolding seeded
returns c = c.seed_from_u64.ensures
