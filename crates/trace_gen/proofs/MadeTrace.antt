-- A made trace is valid.
use Rattle.std.proofs.Common.{ℕ, ◌<◌, [], arith}
use Rattle.trace_text.specs.declared.trace.Version.TheVariants as versions
use Rattle.trace_text.specs.Limits.{IsWithin}
use Rattle.trace_text.specs.Valid.{IsValid}
use Rattle.trace_text.proofs.TraceOrder.{last_round, lines_known as text_lines_known, lines_still_fit, rounds_fit}
use Rattle.trace_gen.specs.Generator.{State, begun, drawn_lines}
use Rattle.trace_gen.specs.Header.{made_head, made_trace}
use Rattle.trace_gen.proofs.DrawnLines.{lines_stand}
use Rattle.trace_gen.proofs.KnownSlots.{knows_none}
use Rattle.trace_gen.proofs.MadeHead.{head_fits}
use Rattle.trace_gen.proofs.MadeLines.{lines_fit, lines_head, lines_known}

pub made_valid : (seed workers ops : ℕ) → IsWithin 1 16 workers → IsValid (made_trace seed workers ops)
made_valid seed workers ops within =
    let s : State = begun seed workers in
    let some : 0 < workers = let low = within.0 in omega arith in
    let head = lines_head workers ops s [] some (knows_none workers) in
    record {
      head = head_fits workers within;
      rounds = rounds_fit (made_head workers) (drawn_lines workers ops s) head;
      last = last_round workers (drawn_lines workers ops s);
      lines = lines_still_fit (made_head workers) (drawn_lines workers ops s) head (lines_stand workers ops s) (lines_fit workers ops s [] some (knows_none workers));
      known = text_lines_known versions.One workers (drawn_lines workers ops s) (lines_known workers ops s [] some (knows_none workers));
    }
