use Rattle.trace_gen.proofs.generator.draw_op.Goals as goal

pub returns-in-0-to-23-clause-may : goal.returns-in-0-to-23-clause-may
returns-in-0-to-23-clause-may c = c.draw_alloc.ensures.may c.args.binds

pub returns-in-24-to-43-clause-may : goal.returns-in-24-to-43-clause-may
returns-in-24-to-43-clause-may c = c.draw_free.ensures.may c.args.binds
