use Rattle.smr_clock.proofs.laws.every_rule_has_the_law.Goals as goal

pub returns-clause-clock : goal.returns-clause-clock
returns-clause-clock g c = g.H.Host.includes

pub returns-clause-memory : goal.returns-clause-memory
returns-clause-memory g c = λ setup words views held. (g.H.Host.includes setup words views held).memory
