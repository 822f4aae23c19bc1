-- The text that is printed of a made trace is that of its numbers.
use Rattle.std.proofs.Common.{◌≡◌, ◌∙◌, ℕ, List, Result, Ok, Err, refl, ap}
use Rattle.std.specs.Prelude.{IfOk}
use Rattle.trace_text.specs.declared.trace.Trace.{Trace}
use Rattle.trace_gen.specs.Header.{made_trace}
use Rattle.trace_print.specs.CanonicalText.{canonical_text}
use Rattle.umarun.specs.Making.{made_text}

text_of : (seed workers ops : ℕ) → canonical_text (made_trace seed workers ops) ≡ made_text seed workers ops
unfolding made_text
text_of seed workers ops = refl

pub made : {X E : Type 0} (items : X → List ℕ) (seed workers ops : ℕ) (trace : Trace) (result : Result X E) → trace ≡ made_trace seed workers ops
    → IfOk result (λ text. items text ≡ canonical_text trace) → IfOk result (λ text. items text ≡ made_text seed workers ops)
made items seed workers ops trace (Ok text) is printed = printed ∙ ap (λ (t : Trace). canonical_text t) is ∙ text_of seed workers ops
made items seed workers ops trace (Err e) is printed = tt
