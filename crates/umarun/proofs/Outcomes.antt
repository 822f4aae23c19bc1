-- What is done with the bytes leaves no room for another ending.
use Rattle.std.proofs.Common.{◌≡◌, ◌⊎◌, ℕ, ◌≤◌, List, length, Option, Some, None, Result, Err, refl, ap, subst, arith, inl, inr}
use Rattle.std.specs.Prelude.{IfNone, IfSome, IsSomeAnd}
use Rattle.smr_core.specs.declared.turns.StepRefused.{StepRefused}
use Rattle.trace_lines.specs.TextLines.{TextLine, Test, IsRightText, IsRefusedAt}
use Rattle.trace_lines.specs.declared.refused.TraceKind.{TraceKind}
use Rattle.trace_lines.specs.declared.refused.ParseRefused.{ParseRefused}
use Rattle.trace_lines.specs.declared.refused.ParseRefused.TheVariants as parsing
use Rattle.trace_lines.specs.declared.refused.TraceRefused.{TraceRefused}
use Rattle.trace_schedule.specs.declared.schedule.Schedule.{Schedule}
use Rattle.trace_schedule.specs.declared.schedule.ScheduleRefused.{ScheduleRefused}
use Rattle.trace_schedule.specs.declared.schedule.ScheduleRefused.TheVariants as refusals
use Rattle.trace_schedule.specs.ScheduleGrammar.{schedule_test, IsScheduleText}
use Rattle.trace_schedule.specs.ScheduleLaws.{RefusedPrintsNothing}
use Rattle.trace_schedule.specs.ScheduleText.{IsOutput, RefusesSchedule}
use Rattle.trace_text.specs.declared.trace.Trace.{Trace}
use Rattle.trace_text.specs.Grammar.{IsTraceText, trace_test}
use Rattle.trace_text.specs.Valid.{IsValid}
use Rattle.uma_io.specs.Sink.{Adds, AddsPart}
use Rattle.uma_replay.specs.Report.{StandsFor}
use Rattle.umarun.specs.Answers.{AnswersReplay, AnswersSteps}
use Rattle.umarun.specs.Causes.{parse_fault, schedule_fault}
use Rattle.umarun.specs.declared.fault.Fault.{Fault}
use Rattle.umarun.specs.declared.fault.Fault.TheVariants as faults
use Rattle.umarun.specs.declared.replaying.AnyHall.{AnyHall}
use Rattle.umarun.specs.Input.{OfInput}
use Rattle.umarun.specs.Replaying.{HasHeadline, KeepsHeadline, LeavesHall, Replays, AreInput, AreRefused, RefusesTrace, most_bytes}
use Rattle.umarun.specs.Stepping.{Plays, ArePlayed, WritesOutput, WritesPart, RefusesText, RefusesStep}
use Rattle.zone_stats.specs.declared.report.Report.{Report}

-- no text is right and refused
abbrev pub OneVerdict : Type 0
OneVerdict = (test : Test) (bytes : List ℕ) (spoke : List TextLine) (line : ℕ) (kind : TraceKind) → IsRightText test bytes spoke → IsRefusedAt test bytes line kind → ⊥

-- ---- what `replay` does with the bytes

pub input_not_refused : OneVerdict → (refused : TraceRefused) (bytes : List ℕ) → RefusesTrace refused bytes → AreInput bytes → ⊥
input_not_refused verdict refused bytes refuses input = verdict trace_test bytes input.1.1.spoke refused.line refused.kind input.1.1.right refuses.why

pub replayed_not_refused : OneVerdict → (report : Report) (ended : AnyHall) (bytes : List ℕ) → Replays report ended bytes → AreRefused bytes → ⊥
replayed_not_refused verdict report ended bytes replays (inl long) = let within = replays.within in absurd (omega arith)
replayed_not_refused verdict report ended bytes replays (inr refused) = input_not_refused verdict refused.0 bytes refused.1 (replays.within, (replays.trace, replays.text))

-- what holds of the input holds of the bytes that the source had
pub of_source : (Holds : List ℕ → Type 0) (bytes : List ℕ) → OfInput (Some bytes) Holds → Holds bytes
of_source Holds bytes input = subst Holds input.are input.holds

-- the input is what was read
pub replays : (left : Option (List ℕ)) (read given : List ℕ) (trace : Trace) (report : Report) (ended : AnyHall) → IfSome left (λ all. read ≡ all) → given ≡ read → length read ≤ most_bytes
    → IsTraceText given trace → IsValid trace → StandsFor trace report → LeavesHall trace report ended → HasHeadline trace report ended → OfInput left (Replays report ended)
replays left read given trace report ended all same within text valid stands hall headline =
    let Q : List ℕ → Type 0 = λ bytes. IsTraceText bytes trace in
    let made : Replays report ended read = record { within = within; trace = trace; text = subst Q same text; valid = valid; stands = stands; hall = hall; headline = headline } in
    record { bytes = read; are = all; holds = made }

-- the trace of the headline is the one that was replayed
pub keeps_headline : (left : Option (List ℕ)) (report : Report) (ended : AnyHall) → OfInput left (Replays report ended) → KeepsHeadline left report ended
keeps_headline None report ended input =
    let done = input.holds in
    record { trace = done.trace; valid = done.valid; text = tt; headline = done.headline }
keeps_headline (Some bytes) report ended input =
    let done : Replays report ended bytes = of_source (λ b. Replays report ended b) bytes input in
    record { trace = done.trace; valid = done.valid; text = done.text; headline = done.headline }

bad_by : {T : Type 0} (test : Test) (why : ParseRefused) (fault : Fault) (refused : TraceRefused) (bytes : List ℕ) → ((r : TraceRefused) → ◌≡◌ {A = Result T ParseRefused} (Err why) (Err (parsing.Trace r)) → IsRefusedAt test bytes r.line r.kind)
    → fault ≡ parse_fault why → fault ≡ faults.Trace refused → IsRefusedAt test bytes refused.line refused.kind
bad_by test (parsing.Trace r) fault refused bytes bad by is =
    let same : r ≡ refused = cc in
    let P : TraceRefused → Type 0 = λ x. IsRefusedAt test bytes x.line x.kind in
    subst P same (bad r refl)
bad_by test parsing.Memory fault refused bytes bad by is = absurd cc

pub refuses : (left : Option (List ℕ)) (read given : List ℕ) (why : ParseRefused) (fault : Fault) (refused : TraceRefused) → IfSome left (λ all. read ≡ all) → given ≡ read → length read ≤ most_bytes
    → ((r : TraceRefused) → ◌≡◌ {A = Result Trace ParseRefused} (Err why) (Err (parsing.Trace r)) → IsRefusedAt trace_test given r.line r.kind) → fault ≡ parse_fault why → fault ≡ faults.Trace refused → OfInput left (RefusesTrace refused)
refuses left read given why fault refused all same within bad by is =
    let Q : List ℕ → Type 0 = λ bytes. IsRefusedAt trace_test bytes refused.line refused.kind in
    let made : RefusesTrace refused read = record { within = within; why = subst Q same (bad_by trace_test why fault refused given bad by is) } in
    record { bytes = read; are = all; holds = made }

-- no text is refused at two lines, or for two reasons
abbrev pub OneLine : Type 0
OneLine = (test : Test) (bytes : List ℕ) (line other : ℕ) (kind why : TraceKind) → IsRefusedAt test bytes line kind → IsRefusedAt test bytes other why → line ≡ other

abbrev pub OneKind : Type 0
OneKind = (test : Test) (bytes : List ℕ) (line other : ℕ) (kind why : TraceKind) → IsRefusedAt test bytes line kind → IsRefusedAt test bytes other why → kind ≡ why

same_refusal : (refused other : TraceRefused) → refused.line ≡ other.line → refused.kind ≡ other.kind → refused ≡ other
same_refusal refused other line kind =
    let made : ◌≡◌ {A = TraceRefused} (record { line = refused.line; kind = refused.kind }) (record { line = other.line; kind = other.kind }) = rw (line, kind) refl in made

pub one_refusal : OneLine → OneKind → (refused other : TraceRefused) (bytes : List ℕ) → RefusesTrace refused bytes → RefusesTrace other bytes → refused ≡ other
one_refusal line kind refused other bytes refuses again =
    same_refusal refused other (line trace_test bytes refused.line other.line refused.kind other.kind refuses.why again.why) (kind trace_test bytes refused.line other.line refused.kind other.kind refuses.why again.why)

-- bytes that were replayed are none that are refused
pub none_refused : ((report : Report) (ended : AnyHall) (bytes : List ℕ) → Replays report ended bytes → AreRefused bytes → ⊥) → (report : Report) (ended : AnyHall) (left : Option (List ℕ)) → OfInput left (Replays report ended) → IsSomeAnd left AreRefused → ⊥
none_refused law report ended None replays refused = refused
none_refused law report ended (Some bytes) replays refused = law report ended bytes (of_source (λ b. Replays report ended b) bytes replays) refused

pub none_named : ((report : Report) (ended : AnyHall) (bytes : List ℕ) → Replays report ended bytes → AreRefused bytes → ⊥) → (report : Report) (ended : AnyHall) (left : Option (List ℕ)) (refused : TraceRefused)
    → OfInput left (Replays report ended) → IsSomeAnd left (RefusesTrace refused) → ⊥
none_named law report ended None refused replays refuses = refuses
none_named law report ended (Some bytes) refused replays refuses = law report ended bytes (of_source (λ b. Replays report ended b) bytes replays) (inr (refused, refuses))

-- the text of a trace ends by want of memory, where reading didn't fail
pub replay_ends : (left rest : Option (List ℕ)) (fault : Fault) (fails free : Type 0) → ((refused : TraceRefused) (bytes : List ℕ) → RefusesTrace refused bytes → AreInput bytes → ⊥)
    → AnswersReplay (Err fault) left rest fails free → (fails → ⊥) → IsSomeAnd left AreInput → fault ≡ faults.Memory
replay_ends None rest fault fails free law ends unread input = absurd input
replay_ends (Some bytes) rest faults.Usage fails free law ends unread input = absurd (ends.command refl)
replay_ends (Some bytes) rest (faults.TooLong most) fails free law ends unread input = let more = (ends.too_long most refl).1 in let within = input.0 in absurd (omega arith)
replay_ends (Some bytes) rest (faults.Trace why) fails free law ends unread input = absurd (law why bytes (of_source (λ b. RefusesTrace why b) bytes (ends.refused why refl)) input)
replay_ends (Some bytes) rest (faults.Step line why) fails free law ends unread input = absurd (ends.no_step line why refl)
replay_ends (Some bytes) rest faults.Read fails free law ends unread input = absurd (unread (ends.read refl))
replay_ends (Some bytes) rest faults.Write fails free law ends unread input = absurd (ends.unwritten refl)
replay_ends (Some bytes) rest faults.Memory fails free law ends unread input = refl

-- a text that is refused ends by its refusal, or by want of memory, where reading didn't fail
pub replay_names : (left rest : Option (List ℕ)) (fault : Fault) (refused : TraceRefused) (fails free : Type 0)
    → ((refused other : TraceRefused) (bytes : List ℕ) → RefusesTrace refused bytes → RefusesTrace other bytes → refused ≡ other)
    → AnswersReplay (Err fault) left rest fails free → (fails → ⊥) → IsSomeAnd left (RefusesTrace refused) → (fault ≡ faults.Trace refused) ⊎ (fault ≡ faults.Memory)
replay_names None rest fault refused fails free law ends unread refuses = absurd refuses
replay_names (Some bytes) rest faults.Usage refused fails free law ends unread refuses = absurd (ends.command refl)
replay_names (Some bytes) rest (faults.TooLong most) refused fails free law ends unread refuses = let more = (ends.too_long most refl).1 in let within = refuses.within in absurd (omega arith)
replay_names (Some bytes) rest (faults.Trace why) refused fails free law ends unread refuses = inl (ap faults.Trace (law why refused bytes (of_source (λ b. RefusesTrace why b) bytes (ends.refused why refl)) refuses))
replay_names (Some bytes) rest (faults.Step line why) refused fails free law ends unread refuses = absurd (ends.no_step line why refl)
replay_names (Some bytes) rest faults.Read refused fails free law ends unread refuses = absurd (unread (ends.read refl))
replay_names (Some bytes) rest faults.Write refused fails free law ends unread refuses = absurd (ends.unwritten refl)
replay_names (Some bytes) rest faults.Memory refused fails free law ends unread refuses = inr refl

-- the refusal that a run ends with is the one that `replay` answered
pub refused_by : (left rest : Option (List ℕ)) (fault : Fault) (fails free : Type 0) → AnswersReplay (Err fault) left rest fails free
    → (end : Option Fault) → end ≡ Some fault → (why : TraceRefused) → end ≡ Some (faults.Trace why) → OfInput left (RefusesTrace why)
refused_by left rest fault fails free ends end is why trace =
    let same : fault ≡ faults.Trace why = cc in
    ends.refused why (ap Err same)

-- ---- what `steps` does with the bytes

abbrev pub OneSchedule : Type 0
OneSchedule = (bytes : List ℕ) (schedule other : Schedule) → IsScheduleText bytes schedule → IsScheduleText bytes other → schedule ≡ other

pub text_not_played : OneVerdict → (refused : TraceRefused) (bytes : List ℕ) → RefusesText refused bytes → ArePlayed bytes → ⊥
text_not_played law refused bytes refuses played = law schedule_test bytes played.1.text.spoke refused.line refused.kind played.1.text.right refuses.at

pub step_not_played : OneSchedule → RefusedPrintsNothing → (line : ℕ) (refused : StepRefused) (bytes : List ℕ) → RefusesStep line refused bytes → ArePlayed bytes → ⊥
step_not_played one nothing line refused bytes refuses played =
    let same : refuses.schedule ≡ played.1.schedule = one bytes refuses.schedule played.1.schedule refuses.text played.1.text in
    let P : Schedule → Type 0 = λ s. RefusesSchedule s (refusals.Step line refused) in
    let at = subst P same refuses.step in
    nothing played.1.schedule played.0 played.1.output at.0 at.1.0 refused at.1.2

-- the input is what was read
pub plays : (left : Option (List ℕ)) (read given : List ℕ) (schedule : Schedule) (printed : List ℕ) → IfSome left (λ all. read ≡ all) → given ≡ read → length read ≤ most_bytes
    → IsScheduleText given schedule → IsOutput schedule printed → OfInput left (Plays printed)
plays left read given schedule printed all same within text output =
    let Q : List ℕ → Type 0 = λ bytes. IsScheduleText bytes schedule in
    let made : Plays printed read = record { within = within; schedule = schedule; text = subst Q same text; output = output } in
    record { bytes = read; are = all; holds = made }

step_by : (schedule : Schedule) (why : ScheduleRefused) (fault : Fault) (line : ℕ) (refused : StepRefused) → RefusesSchedule schedule why
    → fault ≡ schedule_fault why → fault ≡ faults.Step line refused → RefusesSchedule schedule (refusals.Step line refused)
step_by schedule (refusals.Step at turned) fault line refused bad by is =
    let same : at ≡ line = cc in
    let turns : turned ≡ refused = cc in
    let P : ℕ → Type 0 = λ x. RefusesSchedule schedule (refusals.Step x turned) in
    let Q : StepRefused → Type 0 = λ x. RefusesSchedule schedule (refusals.Step line x) in
    subst Q turns (subst P same bad)
step_by schedule refusals.Memory fault line refused bad by is = absurd cc

pub refuses_step : (left : Option (List ℕ)) (read given : List ℕ) (schedule : Schedule) (why : ScheduleRefused) (fault : Fault) (line : ℕ) (refused : StepRefused)
    → IfSome left (λ all. read ≡ all) → given ≡ read → length read ≤ most_bytes
    → IsScheduleText given schedule → RefusesSchedule schedule why → fault ≡ schedule_fault why → fault ≡ faults.Step line refused → OfInput left (RefusesStep line refused)
refuses_step left read given schedule why fault line refused all same within text bad by is =
    let Q : List ℕ → Type 0 = λ bytes. IsScheduleText bytes schedule in
    let made : RefusesStep line refused read = record { within = within; schedule = schedule; text = subst Q same text; step = step_by schedule why fault line refused bad by is } in
    record { bytes = read; are = all; holds = made }

pub refuses_text : (left : Option (List ℕ)) (read given : List ℕ) (why : ParseRefused) (fault : Fault) (refused : TraceRefused) → IfSome left (λ all. read ≡ all) → given ≡ read → length read ≤ most_bytes
    → ((r : TraceRefused) → ◌≡◌ {A = Result Schedule ParseRefused} (Err why) (Err (parsing.Trace r)) → IsRefusedAt schedule_test given r.line r.kind) → fault ≡ parse_fault why → fault ≡ faults.Trace refused → OfInput left (RefusesText refused)
refuses_text left read given why fault refused all same within bad by is =
    let Q : List ℕ → Type 0 = λ bytes. IsRefusedAt schedule_test bytes refused.line refused.kind in
    let made : RefusesText refused read = record { within = within; at = subst Q same (bad_by schedule_test why fault refused given bad by is) } in
    record { bytes = read; are = all; holds = made }

-- a schedule that is played ends by want of memory, or well, where reading didn't fail
pub steps_ends : (left rest : Option (List ℕ)) (fault : Fault) (fails : Type 0)
    → ((refused : TraceRefused) (bytes : List ℕ) → RefusesText refused bytes → ArePlayed bytes → ⊥)
    → ((line : ℕ) (refused : StepRefused) (bytes : List ℕ) → RefusesStep line refused bytes → ArePlayed bytes → ⊥)
    → AnswersSteps (Err fault) left rest fails → (fails → ⊥) → IsSomeAnd left ArePlayed → fault ≡ faults.Memory
steps_ends None rest fault fails text step ends unread played = absurd played
steps_ends (Some bytes) rest faults.Usage fails text step ends unread played = absurd (ends.command refl)
steps_ends (Some bytes) rest (faults.TooLong most) fails text step ends unread played =
    let more = (ends.too_long most refl).1 in let within = played.1.within in absurd (omega arith)
steps_ends (Some bytes) rest (faults.Trace why) fails text step ends unread played = absurd (text why bytes (of_source (λ b. RefusesText why b) bytes (ends.refused why refl)) played)
steps_ends (Some bytes) rest (faults.Step line why) fails text step ends unread played = absurd (step line why bytes (of_source (λ b. RefusesStep line why b) bytes (ends.step line why refl)) played)
steps_ends (Some bytes) rest faults.Read fails text step ends unread played = absurd (unread (ends.read refl))
steps_ends (Some bytes) rest faults.Write fails text step ends unread played = absurd (ends.unwritten refl)
steps_ends (Some bytes) rest faults.Memory fails text step ends unread played = refl

-- the refusals that a run ends with are those that `steps` answered
pub text_refused_by : (left rest : Option (List ℕ)) (fault : Fault) (fails : Type 0) → AnswersSteps (Err fault) left rest fails
    → (end : Option Fault) → end ≡ Some fault → (why : TraceRefused) → end ≡ Some (faults.Trace why) → OfInput left (RefusesText why)
text_refused_by left rest fault fails ends end is why trace =
    let same : fault ≡ faults.Trace why = cc in
    ends.refused why (ap Err same)

pub step_refused_by : (left rest : Option (List ℕ)) (fault : Fault) (fails : Type 0) → AnswersSteps (Err fault) left rest fails
    → (end : Option Fault) → end ≡ Some fault → (line : ℕ) (why : StepRefused) → end ≡ Some (faults.Step line why) → OfInput left (RefusesStep line why)
step_refused_by left rest fault fails ends end is line why step =
    let same : fault ≡ faults.Step line why = cc in
    ends.step line why (ap Err same)

-- what is written is what the schedule of the input prints
pub writes_output : (left held holds : Option (List ℕ)) (fault : Option Fault) (printed text : List ℕ) → OfInput left (Plays printed) → text ≡ printed
    → IfNone fault (Adds held text holds) → IfNone fault (OfInput left (WritesOutput held holds))
writes_output left held holds None printed text input same adds =
    let P : List ℕ → Type 0 = λ t. Adds held t holds in
    let made : WritesOutput held holds input.bytes = record { printed = printed; plays = input.holds; adds = subst P same adds } in
    record { bytes = input.bytes; are = input.are; holds = made }
writes_output left held holds (Some fault) printed text input same adds = tt

pub writes_part : (left held holds : Option (List ℕ)) (printed text : List ℕ) → OfInput left (Plays printed) → text ≡ printed → AddsPart held text holds → OfInput left (WritesPart held holds)
writes_part left held holds printed text input same adds =
    let P : List ℕ → Type 0 = λ t. AddsPart held t holds in
    let made : WritesPart held holds input.bytes = record { printed = printed; plays = input.holds; adds = subst P same adds } in
    record { bytes = input.bytes; are = input.are; holds = made }
