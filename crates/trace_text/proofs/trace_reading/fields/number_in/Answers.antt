use Rattle.std.proofs.Common.{◌≡◌, length, sym, arith, inl, inr}
use Rattle.trace_text.proofs.TraceNumbers.{digits_number}
use Rattle.trace_text.proofs.trace_reading.fields.number_in.Goals as goal

pub returns : goal.returns
returns c =
    let whole : c.digits_in-number.result.1 ≡ length c.args.field.now = omega arith in
    sym (digits_number c.args.field.now c.digits_in-number.result.0 c.digits_in-number.result.1 c.digits_in-number.ensures.digits c.digits_in-number.ensures.value whole (omega arith)
    (λ zero. elim c.else-field-eq48.either [ inl alone ↦ omega arith | inr other ↦ absurd (other zero) ]) (omega arith))
