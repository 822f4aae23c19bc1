use Rattle.std.proofs.Common.{◌≡◌, ℕ, Bool, true, false, eqb, Some, None, refl, sym, ap, ◌∙◌}
use Rattle.std.specs.Bool.{then_some}
use Rattle.std.specs.Prelude.{if◌then◌else◌}
use Rattle.trace_text.specs.declared.trace.Between.{Between}
use Rattle.trace_text.specs.Lines.{Moves}
use Rattle.uma_replay.specs.Limits.{limit_in}
use Rattle.uma_replay.proofs.limits.limit_of.Goals as goal

-- `then_some` chooses as an `if` does
chosen : (b : Bool) (limit : ℕ) → then_some b limit ≡ (if b then Some limit else None)
chosen true limit = refl
chosen false limit = refl

pub returns-in-Give : goal.returns-in-Give
returns-in-Give c = sym (ap (λ (line : Between). limit_in c.args.place (Moves line)) c.in-Give.is)

pub returns-in-SetMax : goal.returns-in-SetMax
returns-in-SetMax c = c.then_some.ensures ∙ (chosen (eqb c.in-SetMax.zone c.args.place) c.in-SetMax.limit ∙ sym (ap (λ (line : Between). limit_in c.args.place (Moves line)) c.in-SetMax.is))
