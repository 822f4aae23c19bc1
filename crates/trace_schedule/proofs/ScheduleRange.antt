-- The numbers of a schedule that has a text are in their ranges, and a text is one of one schedule.
use Rattle.std.proofs.Common.{◌≡◌, ℕ, ◌^◌, ◌%◌, ◌<◌, ◌≤◌, Bool, eqb, ltb, leb, List, [], ◌∷◌, Option, Some, None, Result, Ok, Err, refl, sym, ap, subst, ◌∙◌, arith}
use Rattle.std.specs.Prelude.{◌&&◌, is_some}
use Rattle.std.proofs.lemmas.Bool.{ltb-true, leb-true, eqb-true, and_parts}
use Rattle.smr_core.specs.declared.clock_core.ClockConfig.{ClockConfig}
use Rattle.smr_core.specs.ClockState.{IsInRange}
use Rattle.trace_lines.specs.declared.refused.TraceKind.{TraceKind}
use Rattle.trace_lines.specs.declared.refused.TraceKind.TheVariants as kinds
use Rattle.trace_lines.specs.Fields.{◌>>=◌, no_field, three_fields, number_in, ranged, number_within}
use Rattle.trace_lines.specs.TextLines.{TextLine}
use Rattle.trace_lines.proofs.OneVerdict.{one_right_reading}
use Rattle.trace_schedule.specs.declared.schedule.Schedule.{Schedule}
use Rattle.trace_schedule.specs.declared.schedule.Version.{Version}
use Rattle.trace_schedule.specs.declared.reading.parsed_line.ParsedLine.{ParsedLine}
use Rattle.trace_schedule.specs.declared.reading.parsed_line.ParsedLine.TheVariants as parsed
use Rattle.trace_schedule.specs.declared.reading.word.Word.{Word}
use Rattle.trace_schedule.specs.declared.reading.word.Word.TheVariants as words
use Rattle.trace_schedule.specs.ScheduleGrammar.{clock_in, start_in, window_in, seat_in, two_numbers_in, seat_turn, pair_turn, parsed_by, says, clock_after, clock_of, version_of, turn_lines, schedule_test, IsScheduleText, IsValidSchedule}
use Rattle.trace_schedule.specs.ScheduleText.{config_of}
use Rattle.trace_schedule.proofs.ScheduleFollowing.{says_parts}
use Rattle.trace_schedule.proofs.Steps.{bound, is_true}

seats_fit : (field : List ℕ) (n : ℕ) → number_within 1 64 field ≡ Ok n → (1 ≤ n) × (n ≤ 64)
seats_fit field n e =
    let b = bound (number_in field) (λ k. ranged (leb 1 k && leb k 64) k) n e in
    let r = is_true (leb 1 b.0 && leb b.0 64) b.0 n kinds.Range b.2 in
    let both = and_parts (leb 1 b.0) (leb b.0 64) r.0 in
    let low : 1 ≤ b.0 = leb-true 1 b.0 both.0 in
    let high : b.0 ≤ 64 = leb-true b.0 64 both.1 in
    (omega (arith, r.1), omega (arith, r.1))

pub start_fits : (field : List ℕ) (n : ℕ) → start_in field ≡ Ok n → (n % 2 ≡ 1) × (n < 2 ^ 63)
start_fits field n e =
    let b = bound (number_in field) (λ k. ranged (eqb (k % 2) 1 && ltb k 9223372036854775808) k) n e in
    let r = is_true (eqb (b.0 % 2) 1 && ltb b.0 9223372036854775808) b.0 n kinds.Range b.2 in
    let both = and_parts (eqb (b.0 % 2) 1) (ltb b.0 9223372036854775808) r.0 in
    let odd : b.0 % 2 ≡ 1 = eqb-true (b.0 % 2) 1 both.0 in
    let low : b.0 < 9223372036854775808 = ltb-true b.0 9223372036854775808 both.1 in
    let P : ℕ → Type 0 = λ k. (k % 2 ≡ 1) × (k < 2 ^ 63) in
    subst P r.1 (odd, low)

pub window_fits : (field : List ℕ) (n : ℕ) → window_in field ≡ Ok n → (n % 2 ≡ 0) × (4 ≤ n) × (n ≤ 2 ^ 30)
window_fits field n e =
    let b = bound (number_in field) (λ k. ranged (eqb (k % 2) 0 && (leb 4 k && leb k 1073741824)) k) n e in
    let r = is_true (eqb (b.0 % 2) 0 && (leb 4 b.0 && leb b.0 1073741824)) b.0 n kinds.Range b.2 in
    let both = and_parts (eqb (b.0 % 2) 0) (leb 4 b.0 && leb b.0 1073741824) r.0 in
    let ends = and_parts (leb 4 b.0) (leb b.0 1073741824) both.1 in
    let even : b.0 % 2 ≡ 0 = eqb-true (b.0 % 2) 0 both.0 in
    let low : 4 ≤ b.0 = leb-true 4 b.0 ends.0 in
    let high : b.0 ≤ 1073741824 = leb-true b.0 1073741824 ends.1 in
    let P : ℕ → Type 0 = λ k. (k % 2 ≡ 0) × (4 ≤ k) × (k ≤ 2 ^ 30) in
    subst P r.1 (even, low, high)

clock_fits : (fields : List (List ℕ)) (a : ClockConfig) → clock_in fields ≡ Ok a → IsInRange a
clock_fits fields a e =
    let parts = bound (three_fields fields) (λ (p : List ℕ × List ℕ × List ℕ).
    number_within 1 64 p.0 >>= λ seats. (start_in p.1 >>= λ start. (window_in p.2 >>= λ window. Ok (record { start = start; window = window; seats = seats })))) a e in
    let seats = bound (number_within 1 64 parts.0.0) (λ seats. start_in parts.0.1 >>= λ start. (window_in parts.0.2 >>= λ window. Ok (record { start = start; window = window; seats = seats }))) a parts.2 in
    let start = bound (start_in parts.0.1) (λ start. window_in parts.0.2 >>= λ window. Ok (record { start = start; window = window; seats = seats.0 })) a seats.2 in
    let window = bound (window_in parts.0.2) (λ window. Ok (record { start = start.0; window = window; seats = seats.0 })) a start.2 in
    let is : record { start = start.0; window = window.0; seats = seats.0 } ≡ a = let w = window.2 in cc in
    let s = seats_fit parts.0.0 seats.0 seats.1 in
    let b = start_fits parts.0.1 start.0 start.1 in
    let w = window_fits parts.0.2 window.0 window.1 in
    let P : ClockConfig → Type 0 = λ config. IsInRange config in
    subst P {x = record { start = start.0; window = window.0; seats = seats.0 }} is (record { some_seat = s.0; few_seats = s.1; odd_start = b.0; low_start = b.1; even_window = w.0; least_window = w.1; greatest_window = w.2 })

parsed_clock : (version : Version) (word : Word) (rest : List (List ℕ)) (a : ClockConfig) → parsed_by version word rest ≡ Ok (parsed.Clock a) → IsInRange a
parsed_clock version words.Smr rest a e = absurd cc
parsed_clock version words.Clock rest a e =
    let b = bound (clock_in rest) (λ config. Ok (parsed.Clock config)) (parsed.Clock a) e in
    let is : b.0 ≡ a = let f = b.2 in cc in
    let P : ClockConfig → Type 0 = λ config. IsInRange config in
    subst P is (clock_fits rest b.0 b.1)
parsed_clock version (words.Seat word) rest a e = let b = bound (seat_in rest) (λ seat. Ok (parsed.Does (seat_turn version word seat))) (parsed.Clock a) e in let f = b.2 in absurd cc
parsed_clock version (words.Pair word) rest a e =
    let b = bound (two_numbers_in rest) (λ (n : ℕ × ℕ). Ok (parsed.Does (pair_turn word n.0 n.1))) (parsed.Clock a) e in let f = b.2 in absurd cc
parsed_clock version words.End rest a e = let b = bound (no_field rest) (λ none. Ok parsed.End) (parsed.Clock a) e in let f = b.2 in absurd cc

says_clock : (version : Version) (clocked : Bool) (fields : List (List ℕ)) (a : ClockConfig) → says version clocked fields ≡ Ok (parsed.Clock a) → IsInRange a
says_clock version clocked [] a e = absurd cc
says_clock version clocked (first ∷ rest) a e = let p = says_parts version clocked first rest (parsed.Clock a) e in parsed_clock version p.0 rest a p.3

after_clock : (r : Result ParsedLine TraceKind) (before : Option ClockConfig) (a : ClockConfig) → ((b : ClockConfig) → r ≡ Ok (parsed.Clock b) → IsInRange b) → ((b : ClockConfig) → before ≡ Some b → IsInRange b) → clock_after r before ≡ Some a → IsInRange a
after_clock (Ok (parsed.Clock b)) before a f g e = f a (ap (λ (o : Option ClockConfig). clock_or_end o) e) where
  clock_or_end : Option ClockConfig → Result ParsedLine TraceKind
  clock_or_end (Some x) = Ok (parsed.Clock x)
  clock_or_end None = Ok parsed.End
after_clock (Ok (parsed.Does turn)) before a f g e = g a e
after_clock (Ok parsed.End) before a f g e = g a e
after_clock (Err why) before a f g e = g a e

clock_in_range : (lines : List TextLine) (a : ClockConfig) → clock_of lines ≡ Some a → IsInRange a
clock_in_range [] a e = absurd cc
clock_in_range (line ∷ before) a e =
    after_clock (says (version_of before) (is_some (clock_of before)) line.fields) (clock_of before) a (λ b f. says_clock (version_of before) (is_some (clock_of before)) line.fields b f) (λ b f. clock_in_range before b f) e

pub valid_in_range : (schedule : Schedule) → IsValidSchedule schedule → IsInRange (config_of schedule)
valid_in_range schedule valid = clock_in_range valid.1.spoke (config_of schedule) valid.1.clock

same_schedule : (a b : Schedule) → a.version ≡ b.version → config_of a ≡ config_of b → a.lines ≡ b.lines → a ≡ b
same_schedule a b version numbers lines =
    let seats : a.seats ≡ b.seats = ap (λ (x : ClockConfig). x.seats) numbers in
    let start : a.start ≡ b.start = ap (λ (x : ClockConfig). x.start) numbers in
    let window : a.window ≡ b.window = ap (λ (x : ClockConfig). x.window) numbers in
    let made : ◌≡◌ {A = Schedule} (record { version = a.version; seats = a.seats; start = a.start; window = a.window; lines = a.lines }) (record { version = b.version; seats = b.seats; start = b.start; window = b.window; lines = b.lines }) =
    rw (version, seats, start, window, lines) refl in
    made

pub one_schedule : (bytes : List ℕ) (a b : Schedule) → IsScheduleText bytes a → IsScheduleText bytes b → a ≡ b
one_schedule bytes a b x y =
    let same : x.spoke ≡ y.spoke = one_right_reading schedule_test bytes x.spoke y.spoke x.right y.right in
    let numbers : config_of a ≡ config_of b = let e = sym x.clock ∙ (ap clock_of same ∙ y.clock) in cc in
    same_schedule a b (x.version ∙ (ap version_of same ∙ sym y.version)) numbers (x.lines ∙ (ap turn_lines same ∙ sym y.lines))
