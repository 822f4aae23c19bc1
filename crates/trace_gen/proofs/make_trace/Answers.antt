use Rattle.std.proofs.Common.{◌≡◌, List, ap₂, sym, subst, ◌∙◌}
use Rattle.trace_text.specs.declared.trace.Version.TheVariants as versions
use Rattle.trace_text.specs.declared.trace.Head.{Head}
use Rattle.trace_text.specs.declared.trace.Round.{Round}
use Rattle.trace_text.specs.Valid.{IsValid}
use Rattle.trace_gen.specs.Header.{made_trace}
use Rattle.trace_gen.proofs.Makes.{makes_none, makes_next, makes_all}
use Rattle.trace_gen.proofs.MadeTrace.{made_valid}
use Rattle.trace_gen.proofs.make_trace.Goals as goal

pub loop-step-init : goal.loop-step-init
loop-step-init c = makes_none _ _ _ _ _ _ c.in_ok-generator.ensures c.new-rounds.ensures.ended c.new-rounds.ensures.part

pub step-drawn-requires-clause-whole : goal.step-drawn-requires-clause-whole
step-drawn-requires-clause-whole c = c.loop-step.invariant.whole

pub step-drawn-requires-clause-binds : goal.step-drawn-requires-clause-binds
step-drawn-requires-clause-binds c = c.loop-step.invariant.binds

pub loop-step-preserved : goal.loop-step-preserved
loop-step-preserved c =
    makes_next _ _ _ _ _ _ _ _ _ _ _ c.loop-step.invariant c.loop-step-test.true c.step-drawn.ensures.stepped c.step-drawn.ensures.whole c.step-drawn.ensures.binds c.in_ok-push.ensures

is_made : (c : goal.After-drop-generator-inside-2) → record { version = versions.One; head = c.in_ok-head.head; rounds = c.in_ok-rounds.rounds } ≡ made_trace c.args.seed c.args.workers c.args.ops
is_made c =
    ap₂ (λ (head : Head) (rounds : List Round). record { version = versions.One; head = head; rounds = rounds }) c.in_ok-head.ensures
    (c.in_ok-rounds.ensures ∙ makes_all c.args.seed c.args.workers c.args.ops c.loop-step._step c.loop-step.generator _ _ c.loop-step.invariant c.loop-step-test.false)

pub returns-clause-made : goal.returns-clause-made
returns-clause-made c = is_made c

pub returns-clause-valid : goal.returns-clause-valid
returns-clause-valid c = subst IsValid (sym (is_made c)) (made_valid c.args.seed c.args.workers c.args.ops c.requires.workers)
