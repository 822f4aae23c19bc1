use Rattle.umarun.proofs.MadeText.{made}
use Rattle.umarun.proofs.run.made_text.Goals as goal

pub returns-clause-text : goal.returns-clause-text
returns-clause-text c = made (λ text. text.items) c.args.seed c.args.workers c.args.ops c.in_ok-trace.trace c.print.result c.in_ok-trace.ensures.made c.print.ensures.text
