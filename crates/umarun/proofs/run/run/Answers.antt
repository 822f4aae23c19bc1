-- The text that was written is that of the report.
use Rattle.std.proofs.Common.{rules, ◌≡◌, List, ℕ, Option, Some, sym, subst, ap, ◌∙◌, inl, inr}
use Rattle.std.specs.Prelude.{IsSome}
use Rattle.uma_io.specs.Faults.{Rose}
use Rattle.uma_io.specs.Sink.{Adds, AddsPart}
use Rattle.umarun.specs.declared.fault.Fault.{Fault}
use Rattle.umarun.specs.declared.replaying.Finish.{Finish}
use Rattle.umarun.specs.Summary.{summary_text}
use Rattle.umarun.proofs.Outcomes.{keeps_headline, none_named, none_refused, refused_by, replay_ends, replay_names, step_refused_by, steps_ends, text_refused_by, writes_output, writes_part}
use Rattle.umarun.proofs.Shown.{not_some, same_summary, shown, shown_both, shown_if}
use Rattle.umarun.specs.Input.{OfInput}
use Rattle.umarun.specs.Replaying.{KeepsHeadline, Replays}
use Rattle.umarun.specs.declared.replaying.AnyHall.{AnyHall}
use Rattle.zone_stats.specs.ReportText.{report_text}
use Rattle.zone_stats.specs.declared.report.Report.{Report}
use Rattle.umarun.proofs.run.run.Goals as goal

-- the headline holds of the report and the hall of the replay
pub returns-in-Ok-clause-headline : goal.returns-in-Ok-clause-headline
returns-in-Ok-clause-headline g c = λ is.
    let left = g.S.Source.bytes_left c.args.source.now in
    let Keeps : Report → AnyHall → Type 0 = λ report ended. KeepsHeadline left report ended in
    let played = c.in-Ok.played in
    shown_both Keeps c.reported.result.report c.reported.result.hall played.report played.ended c.reported.ensures.report c.reported.ensures.hall
    (keeps_headline left played.report played.ended c.in-Ok.ensures.replays)

pub returns-in-Ok-clause-replay : goal.returns-in-Ok-clause-replay
returns-in-Ok-clause-replay g c = λ is.
    let left = g.S.Source.bytes_left c.args.source.now in
    let held = g.K.Sink.bytes_held c.args.sink.now in
    let holds = g.K.Sink.bytes_held c.reported.new.sink in
    let All : List ℕ → Type 0 = λ text. Adds held text holds in
    let Part : List ℕ → Type 0 = λ text. AddsPart held text holds in
    let Done : Report → AnyHall → Type 0 = λ report ended. OfInput left (Replays report ended) in
    let text = c.deref.ensures.value ∙ c.in-Ok.ensures.text in
    let played = c.in-Ok.played in
    record {
      replays = shown_both Done c.reported.result.report c.reported.result.hall played.report played.ended c.reported.ensures.report c.reported.ensures.hall c.in-Ok.ensures.replays;
      written = shown_if (λ (r : Report). report_text r) All c.reported.result.fault c.reported.result.report played.report c.deref.result.now c.reported.ensures.report text c.reported.ensures.writes.all;
      part = λ fault. shown (λ (r : Report). report_text r) Part c.reported.result.report played.report c.deref.result.now c.reported.ensures.report text (c.reported.ensures.writes.part fault);
      refused = search rules;
      names = λ why refuses unread. absurd (none_named c.replayed_or_refused.ensures.report played.report played.ended left why c.in-Ok.ensures.replays refuses);
      refuses = λ refused. absurd (none_refused c.replayed_or_refused.ensures.report played.report played.ended left c.in-Ok.ensures.replays refused);
      complete = λ input unread unwritten. inl (c.reported.ensures.writes.complete unwritten);
    }

pub returns-in-Err-clause-replay : goal.returns-in-Err-clause-replay
returns-in-Err-clause-replay g c = λ is.
    let left = g.S.Source.bytes_left c.args.source.now in
    let rest = g.S.Source.bytes_left c.replay.new.source in
    let fails = Rose (g.S.Source.fault_count c.args.source.now) (g.S.Source.fault_count c.replay.new.source) in
    let fault : c.refused-in-Err.result.fault ≡ Some c.in-Err.fault = ap (λ (finish : Finish). finish.fault) c.refused-in-Err.ensures in
    record {
      replays = search rules;
      written = search rules;
      part = search rules;
      refused = λ why trace. refused_by left rest c.in-Err.fault fails (g.G.Gate.is_free c.args.gate.now) c.in-Err.ensures c.refused-in-Err.result.fault fault why trace;
      names = λ why refuses unread.
          elim (replay_names left rest c.in-Err.fault why fails (g.G.Gate.is_free c.args.gate.now) c.replayed_or_refused.ensures.one c.in-Err.ensures unread refuses) [
            | inl named ↦ inl (fault ∙ ap Some named)
            | inr memory ↦ inr (fault ∙ ap Some memory)
          ];
      refuses = search rules;
      complete = λ input unread unwritten. inr (fault ∙ ap Some (replay_ends left rest c.in-Err.fault fails (g.G.Gate.is_free c.args.gate.now) c.replayed_or_refused.ensures.input c.in-Err.ensures unread input));
    }

pub returns-in-Err-steps-clause-steps : goal.returns-in-Err-steps-clause-steps
returns-in-Err-steps-clause-steps g c = λ is.
    let left = g.S.Source.bytes_left c.args.source.now in
    let rest = g.S.Source.bytes_left c.steps.new.source in
    let fails = Rose (g.S.Source.fault_count c.args.source.now) (g.S.Source.fault_count c.steps.new.source) in
    let end = c.refused-in-Err-steps.result.fault in
    let fault : end ≡ Some c.in-Err-steps.fault = ap (λ (finish : Finish). finish.fault) c.refused-in-Err-steps.ensures in
    record {
      written = search rules;
      part = search rules;
      refused = λ why trace. text_refused_by left rest c.in-Err-steps.fault fails c.in-Err-steps.ensures end fault why trace;
      step = λ line why step. step_refused_by left rest c.in-Err-steps.fault fails c.in-Err-steps.ensures end fault line why step;
      complete = λ played unread unwritten.
          let memory = steps_ends left rest c.in-Err-steps.fault fails c.played_or_refused.ensures.text c.played_or_refused.ensures.step c.in-Err-steps.ensures unread played in
          inr (fault ∙ ap Some memory);
    }

-- The text of a schedule is written whole where writing didn't fail.
pub returns-in-Ok-steps-clause-steps : goal.returns-in-Ok-steps-clause-steps
returns-in-Ok-steps-clause-steps g c = λ is.
    let left = g.S.Source.bytes_left c.args.source.now in
    let held = g.K.Sink.bytes_held c.args.sink.now in
    let holds = g.K.Sink.bytes_held c.written.new.sink in
    let shown = c.deref-in-Ok-steps.result.now in
    let printed = c.in-Ok-steps.text.items in
    let same : shown ≡ printed = c.deref-in-Ok-steps.ensures.value in
    record {
      written = writes_output left held holds c.written.result.fault printed shown c.in-Ok-steps.ensures.plays same c.written.ensures.writes.all;
      part = λ fault. writes_part left held holds printed shown c.in-Ok-steps.ensures.plays same (c.written.ensures.writes.part fault);
      refused = search rules;
      step = search rules;
      complete = λ played unread unwritten. inl (c.written.ensures.writes.complete unwritten);
    }

-- there is no fault but that of writing
pub returns-in-Ok-clause-writes : goal.returns-in-Ok-clause-writes
returns-in-Ok-clause-writes g c = record {
  unwritten = λ some other. elim c.reported.ensures.writes.cause [
    | inl none ↦ absurd (not_some (subst (λ (fault : Option Fault). IsSome fault) none some))
    | inr write ↦ absurd (other write)
  ];
  write = c.reported.ensures.writes.write;
}

pub returns-in-Ok-steps-clause-writes : goal.returns-in-Ok-steps-clause-writes
returns-in-Ok-steps-clause-writes g c = record {
  unwritten = λ some other. elim c.written.ensures.writes.cause [
    | inl none ↦ absurd (not_some (subst (λ (fault : Option Fault). IsSome fault) none some))
    | inr write ↦ absurd (other write)
  ];
  write = c.written.ensures.writes.write;
}

pub returns-in-Ok-made_text-clause-writes : goal.returns-in-Ok-made_text-clause-writes
returns-in-Ok-made_text-clause-writes g c = record {
  unwritten = λ some other. elim c.written-in-Ok-made_text.ensures.writes.cause [
    | inl none ↦ absurd (not_some (subst (λ (fault : Option Fault). IsSome fault) none some))
    | inr write ↦ absurd (other write)
  ];
  write = c.written-in-Ok-made_text.ensures.writes.write;
}

-- The text of a made trace is written whole where writing didn't fail.
pub returns-in-Ok-made_text-clause-made : goal.returns-in-Ok-made_text-clause-made
returns-in-Ok-made_text-clause-made g c = λ seed workers ops is.
    record {
      written = search rules;
      part = search rules;
      complete = λ unwritten. inl (c.written-in-Ok-made_text.ensures.writes.complete unwritten);
    }

pub returns-in-Ok-replay_made-clause-bulk : goal.returns-in-Ok-replay_made-clause-bulk
returns-in-Ok-replay_made-clause-bulk g c = λ seed workers ops is.
    let made = c.reported-in-Ok-replay_made in
    let Part : List ℕ → Type 0 = λ text. AddsPart (g.K.Sink.bytes_held c.args.sink.now) text (g.K.Sink.bytes_held made.new.sink) in
    let report = c.in-Ok-replay_made.played.report in
    let same = same_summary c.in-Ok-Bulk.seed c.in-Ok-Bulk.workers c.in-Ok-Bulk.ops seed workers ops (sym is ∙ c.in-Ok-Bulk.ensures.command ∙ ap Some c.in-Ok-Bulk.field-0-is) report in
    record {
      replays = search rules;
      written = search rules;
      part = λ fault. shown (λ (r : Report). summary_text seed workers ops r) Part made.result.report report c.deref-in-Ok-replay_made.result.now made.ensures.report
          (c.deref-in-Ok-replay_made.ensures.value ∙ c.in-Ok-replay_made.ensures.text ∙ same) (made.ensures.writes.part fault);
      complete = search rules;
    }
