-- A made trace has few lines: a step draws two at most, and its rounds have no more than were drawn.
use Rattle.std.proofs.Common.{◌≡◌, ℕ, zero, suc, ◌*◌, ◌≤◌, List, length, Some, None, sym, subst, arith}
use Rattle.std.specs.List.{slice_split}
use Rattle.std.proofs.lemmas.List.{length-append}
use Rattle.trace_gen.specs.Generator.{State, begun, drawn_lines, entries_of, step}
use Rattle.trace_gen.specs.Header.{made_trace}
use Rattle.trace_gen.specs.declared.generator.Drawn.{Drawn}
use Rattle.trace_gen.specs.declared.generator.Drawn.TheVariants as drawn
use Rattle.trace_text.specs.Grammar.{is_round, rounds_in}
use Rattle.trace_text.specs.Limits.{IsWithin}
use Rattle.trace_text.specs.Lines.{lines_of}
use Rattle.trace_text.specs.declared.trace.Trace.{Trace}
use Rattle.trace_text.specs.declared.trace_reading.fields.Entry.{Entry}
use Rattle.trace_text.proofs.TextLength.{lines_of_entries}
use Rattle.umarun.specs.Replaying.{most_bytes}

two_at_most : (d : Drawn) → length (entries_of d) ≤ 2
two_at_most (drawn.Does worker op) = omega arith
two_at_most (drawn.Round None) = omega arith
two_at_most (drawn.Round (Some between)) = omega arith

drawn_few : (workers left : ℕ) (s : State) → length (drawn_lines workers left s) ≤ 2 * left
drawn_few workers zero s = omega arith
drawn_few workers (suc left) s =
    let next = step workers s in
    let rest = drawn_few workers left next.1 in
    let two = two_at_most next.0 in
    let whole = length-append (entries_of next.0) (drawn_lines workers left next.1) in
    omega arith

together : (lines drawn ops : ℕ) → lines ≤ drawn → drawn ≤ 2 * ops → ops ≤ 50000 → lines ≤ most_bytes
together lines drawn ops few two most = omega arith

lines_few : (seed workers ops : ℕ) → ops ≤ 50000 → length (lines_of (made_trace seed workers ops).rounds) ≤ most_bytes
lines_few seed workers ops within =
    let entries : List Entry = drawn_lines workers ops (begun seed workers) in
    together (length (lines_of (rounds_in workers (slice_split is_round entries)))) (length entries) ops (lines_of_entries workers entries) (drawn_few workers ops (begun seed workers)) within

pub made_few : (seed workers ops : ℕ) (trace : Trace) → trace ≡ made_trace seed workers ops → IsWithin 1 50000 ops → length (lines_of trace.rounds) ≤ most_bytes
made_few seed workers ops trace is within = subst (λ (t : Trace). length (lines_of t.rounds) ≤ most_bytes) (sym is) (lines_few seed workers ops within.1)
