-- What a line says: it stands in its place, its numbers are in their ranges, and it is the last where it is `end`.
use Rattle.std.proofs.Common.{◌≡◌, ℕ, ◌^◌, ◌<◌, ◌≤◌, Bool, true, false, cond, ltb, leb, List, [], ◌∷◌, Option, Some, None, Ok, refl, sym, ap, ◌∙◌, arith}
use Rattle.std.specs.Prelude.{codes, IfOk}
use Rattle.std.specs.Str.{bytes_eq}
use Rattle.std.proofs.lemmas.Bool.{ltb-true, leb-true, and_parts}
use Rattle.std.proofs.lemmas.Result.{IfOk-at_ok}
use Rattle.std.proofs.lemmas.Slice.Eq.{bytes_eq-Decides}
use Rattle.trace_lines.specs.declared.refused.TraceKind.TheVariants as kinds
use Rattle.trace_lines.specs.Fields.{◌>>=◌, no_field, one_field, two_fields, three_fields, four_fields, number_in, number_or_wrong, ranged, number_within}
use Rattle.trace_lines.specs.Number.{number_of}
use Rattle.trace_lines.specs.TextLines.{is_end}
use Rattle.trace_lines.proofs.Numbers.{IsNumber-from_number_of}
use Rattle.trace_text.specs.declared.trace.Op.{Op}
use Rattle.trace_text.specs.declared.trace.Op.TheVariants as ops
use Rattle.trace_text.specs.declared.trace_reading.parsed_line.ParsedLine.{ParsedLine}
use Rattle.trace_text.specs.declared.trace_reading.parsed_line.ParsedLine.TheVariants as parsed
use Rattle.trace_text.specs.declared.trace_reading.parsed_line.ZoneWork.{ZoneWork}
use Rattle.trace_text.specs.declared.trace_reading.parsed_line.ZoneWork.TheVariants as works
use Rattle.trace_text.specs.declared.trace_reading.reader.Stage.{Stage}
use Rattle.trace_text.specs.declared.trace_reading.fields.HeadWord.{HeadWord}
use Rattle.trace_text.specs.declared.trace_reading.fields.HeadWord.TheVariants as heads
use Rattle.trace_text.specs.declared.trace_reading.fields.Word.{Word}
use Rattle.trace_text.specs.declared.trace_reading.fields.Word.TheVariants as words
use Rattle.trace_text.specs.declared.trace_reading.fields.WorkWord.{WorkWord}
use Rattle.trace_text.specs.declared.trace_reading.fields.WorkWord.TheVariants as by_self
use Rattle.trace_text.specs.declared.trace_reading.fields.ZoneWord.{ZoneWord}
use Rattle.trace_text.specs.declared.trace_reading.fields.ZoneWord.TheVariants as in_zone
use Rattle.trace_text.specs.declared.trace.Version.{Version}
use Rattle.trace_text.specs.Grammar.{stage_of}
use Rattle.trace_text.specs.Limits.{IsWithin, last_slot}
use Rattle.trace_text.specs.TraceKnown.{is_last}
use Rattle.trace_text.specs.TraceLine.{word_named, word_or_wrong, rank, may_follow, is_within, placed, name_in, worker_in, slot_in, clock_in, zone_in, second_in, names_in, parse_head, alloc_fields, arg_in, parse_alloc, worker_and_zone, parse_prealloc, parse_zone_work, only_worker, worker_and_key, parse_free, parse_bind, parse_work, parse_give, parse_setmax, parsed_by, says, is_known, known}
use Rattle.trace_text.specs.Valid.{ClockFits, changes_limits, lets_leave}
use Rattle.trace_text.proofs.HeadLines.{HeadIsRead, ZoneIsRead, SecondIsRead, NamesAreRead, within_fits, clock_is_read, zone_is_read, second_is_read, names_are_read}
use Rattle.trace_schedule.proofs.ScheduleFollowing.{ends_line, is_end_by, not_last}
use Rattle.trace_schedule.proofs.Steps.{bound, step, any, where_true, is_some_value, is_true}

-- ---- what is told of a line by what it says

-- the first and the last place in the order of a text that the line before may have
abbrev pub earliest : ParsedLine → ℕ
earliest (parsed.Uma version) = 1
earliest (parsed.Workers count) = 1
earliest (parsed.Domains count) = 2
earliest (parsed.Give giver slot taker slot2) = 9
earliest (parsed.SetMax zone limit) = 9
earliest other = 3

abbrev pub latest : ParsedLine → ℕ
latest (parsed.Uma version) = 0
latest (parsed.Workers count) = 1
latest (parsed.Domains count) = 2
latest (parsed.Clock clock) = 3
latest parsed.Detail = 4
latest (parsed.Zone zone) = 6
latest (parsed.Second second) = 6
latest (parsed.Names names) = 6
latest other = 9

-- where it may stand
abbrev pub follows : Stage → ParsedLine → Bool
follows stage s = is_within (earliest s) (latest s) stage

-- it stands behind one of this stage
abbrev pub StandsBehind : Stage → ParsedLine → Type 0
StandsBehind stage s = IsWithin (earliest s) (latest s) (rank stage)

pub stands_behind : (stage : Stage) (s : ParsedLine) → follows stage s ≡ true → StandsBehind stage s
stands_behind stage s e =
    let both = and_parts (leb (earliest s) (rank stage)) (leb (rank stage) (latest s)) e in (leb-true (earliest s) (rank stage) both.0, leb-true (rank stage) (latest s) both.1)

-- the numbers of what a worker does by itself are in their ranges
abbrev pub OpNumbersFit : Op → Type 0
OpNumbersFit (ops.Free slot) = slot ≤ last_slot
OpNumbersFit ops.Enter = Unit {0}
OpNumbersFit ops.Exit = Unit {0}
OpNumbersFit (ops.Bind key value) = (key < 2 ^ 64) × (value < 2 ^ 64)
OpNumbersFit (ops.Unbind key) = key < 2 ^ 64
OpNumbersFit (ops.Look key) = key < 2 ^ 64
OpNumbersFit ops.Away = Unit {0}
OpNumbersFit ops.Back = Unit {0}
OpNumbersFit other = ⊥

-- the numbers of what a worker does in a zone are in their ranges
abbrev pub WorkNumbersFit : ZoneWork → Type 0
WorkNumbersFit (works.Alloc slot arg reserve) = (slot ≤ last_slot) × (arg ≤ 254)
WorkNumbersFit (works.Prealloc items) = items ≤ 262144
WorkNumbersFit other = Unit {0}

-- of so many workers, those that the line names are some, and its other numbers are in their ranges
abbrev pub NumbersFit : ℕ → ParsedLine → Type 0
NumbersFit workers (parsed.Work worker op) = (worker < workers) × OpNumbersFit op
NumbersFit workers (parsed.InZone worker zone work) = (worker < workers) × WorkNumbersFit work
NumbersFit workers (parsed.Give giver slot taker slot2) = (giver < workers) × (slot ≤ last_slot) × (taker < workers) × (slot2 ≤ last_slot)
NumbersFit workers (parsed.SetMax zone limit) = limit ≤ 1000000
NumbersFit workers other = Unit {0}

-- the version has a line that says this
abbrev pub is_known_line : Version → ParsedLine → Bool
is_known_line version (parsed.SetMax zone limit) = changes_limits version
is_known_line version (parsed.Work worker ops.Away) = lets_leave version
is_known_line version (parsed.Work worker ops.Back) = lets_leave version
is_known_line version other = true

pub record SaysRight (version : Version) (stage : Stage) (workers : ℕ) (fields : List (List ℕ)) (s : ParsedLine) : Type 0 where
  pub known : is_known_line version s ≡ true
  pub place : StandsBehind stage s
  pub ends : is_end fields ≡ is_last (stage_of s)
  pub own : HeadIsRead s
  pub numbers : NumbersFit workers s

-- ---- one field

number_from : (o : Option ℕ) → ((n : ℕ) → o ≡ Some n → n < 2 ^ 64) → IfOk (number_or_wrong o) (λ n. n < 2 ^ 64)
number_from (Some n) h = h n refl
number_from None h = tt

pub number_fits : (field : List ℕ) → IfOk (number_in field) (λ n. n < 2 ^ 64)
number_fits field = number_from (number_of field) (λ n e. (IsNumber-from_number_of field n e).fits)

pub worker_fits : (workers : ℕ) (field : List ℕ) → IfOk (worker_in workers field) (λ n. n < workers)
worker_fits workers field = any (λ n. n < workers) (number_in field) (λ n. ranged (ltb n workers) n) (λ n. where_true (λ m. m < workers) (ltb n workers) n kinds.Range (λ e. ltb-true n workers e))

arg_fits : (o : Option (List ℕ)) → IfOk (arg_in o) (IsWithin 0 254)
arg_fits None = (omega arith, omega arith)
arg_fits (Some field) = within_fits 0 254 field

-- ---- by the word

abbrev is_end_word : Word → Bool
is_end_word words.End = true
is_end_word word = false

record ParsedBy (workers : ℕ) (word : Word) (rest : List (List ℕ)) (s : ParsedLine) : Type 0 where
  known : (version : Version) → is_known_line version s ≡ is_known version word
  place : (stage : Stage) → follows stage s ≡ may_follow stage word
  ends : is_last (stage_of s) ≡ ends_line (is_end_word word) rest
  own : HeadIsRead s
  numbers : NumbersFit workers s

head_by : (workers : ℕ) (word : HeadWord) (rest : List (List ℕ)) → IfOk (parse_head word rest) (ParsedBy workers (words.Head word) rest)
head_by workers heads.Uma rest = tt
head_by workers heads.Workers rest =
    any _ (one_field rest) _ (λ field.
    step (IsWithin 1 16) _ (number_within 1 16 field) _ (within_fits 1 16 field) (λ count own. record { known = λ version. refl; place = λ stage. refl; ends = not_last rest; own = own; numbers = tt }))
head_by workers heads.Domains rest =
    any _ (one_field rest) _ (λ field.
    step (IsWithin 1 4) _ (number_within 1 4 field) _ (within_fits 1 4 field) (λ count own. record { known = λ version. refl; place = λ stage. refl; ends = not_last rest; own = own; numbers = tt }))
head_by workers heads.Clock rest =
    step ClockFits _ (clock_in rest) _ (clock_is_read rest) (λ clock own. record { known = λ version. refl; place = λ stage. refl; ends = not_last rest; own = own; numbers = tt })
head_by workers heads.Detail rest = any _ (no_field rest) _ (λ none. record { known = λ version. refl; place = λ stage. refl; ends = not_last rest; own = tt; numbers = tt })
head_by workers heads.Zone rest =
    step ZoneIsRead _ (zone_in rest) _ (zone_is_read rest) (λ zone own. record { known = λ version. refl; place = λ stage. refl; ends = not_last rest; own = own; numbers = tt })
head_by workers heads.Second rest =
    step SecondIsRead _ (second_in rest) _ (second_is_read rest) (λ second own. record { known = λ version. refl; place = λ stage. refl; ends = not_last rest; own = own; numbers = tt })
head_by workers heads.Names rest =
    step NamesAreRead _ (names_in rest) _ (names_are_read rest) (λ names own. record { known = λ version. refl; place = λ stage. refl; ends = not_last rest; own = own; numbers = tt })

free_by : (workers : ℕ) (rest : List (List ℕ)) → IfOk (parse_free workers rest) (ParsedBy workers (words.Work by_self.Free) rest)
free_by workers rest =
    any _ (two_fields rest) _ (λ parts.
    step (λ n. n < workers) _ (worker_in workers parts.0) _ (worker_fits workers parts.0) (λ worker lt.
    step (IsWithin 0 last_slot) _ (slot_in parts.1) _ (within_fits 0 last_slot parts.1) (λ slot in'.
    record { known = λ version. refl; place = λ stage. refl; ends = not_last rest; own = tt; numbers = (lt, in'.1) })))

bind_by : (workers : ℕ) (rest : List (List ℕ)) → IfOk (parse_bind workers rest) (ParsedBy workers (words.Work by_self.Bind) rest)
bind_by workers rest =
    any _ (three_fields rest) _ (λ parts.
    step (λ n. n < workers) _ (worker_in workers parts.0) _ (worker_fits workers parts.0) (λ worker lt.
    step (λ n. n < 2 ^ 64) _ (number_in parts.1) _ (number_fits parts.1) (λ key low.
    step (λ n. n < 2 ^ 64) _ (number_in parts.2) _ (number_fits parts.2) (λ value low'.
    record { known = λ version. refl; place = λ stage. refl; ends = not_last rest; own = tt; numbers = (lt, (low, low')) }))))

only_fits : (workers : ℕ) (rest : List (List ℕ)) → IfOk (only_worker workers rest) (λ n. n < workers)
only_fits workers rest = any _ (one_field rest) _ (λ field. worker_fits workers field)

key_fits : (workers : ℕ) (rest : List (List ℕ)) → IfOk (worker_and_key workers rest) (λ p. (p.0 < workers) × (p.1 < 2 ^ 64))
key_fits workers rest =
    any _ (two_fields rest) _ (λ parts.
    step (λ n. n < workers) _ (worker_in workers parts.0) _ (worker_fits workers parts.0) (λ worker lt.
    step (λ n. n < 2 ^ 64) _ (number_in parts.1) _ (number_fits parts.1) (λ key low. (lt, low))))

work_by : (workers : ℕ) (word : WorkWord) (rest : List (List ℕ)) → IfOk (parse_work workers word rest) (ParsedBy workers (words.Work word) rest)
work_by workers by_self.Free rest = free_by workers rest
work_by workers by_self.Enter rest =
    step (λ n. n < workers) _ (only_worker workers rest) _ (only_fits workers rest) (λ worker lt. record { known = λ version. refl; place = λ stage. refl; ends = not_last rest; own = tt; numbers = (lt, tt) })
work_by workers by_self.Exit rest =
    step (λ n. n < workers) _ (only_worker workers rest) _ (only_fits workers rest) (λ worker lt. record { known = λ version. refl; place = λ stage. refl; ends = not_last rest; own = tt; numbers = (lt, tt) })
work_by workers by_self.Bind rest = bind_by workers rest
work_by workers by_self.Unbind rest =
    step (λ (p : ℕ × ℕ). (p.0 < workers) × (p.1 < 2 ^ 64)) _ (worker_and_key workers rest) _ (key_fits workers rest) (λ parts fit. record { known = λ version. refl; place = λ stage. refl; ends = not_last rest; own = tt; numbers = fit })
work_by workers by_self.Look rest =
    step (λ (p : ℕ × ℕ). (p.0 < workers) × (p.1 < 2 ^ 64)) _ (worker_and_key workers rest) _ (key_fits workers rest) (λ parts fit. record { known = λ version. refl; place = λ stage. refl; ends = not_last rest; own = tt; numbers = fit })
work_by workers by_self.Away rest =
    step (λ n. n < workers) _ (only_worker workers rest) _ (only_fits workers rest) (λ worker lt. record { known = λ version. refl; place = λ stage. refl; ends = not_last rest; own = tt; numbers = (lt, tt) })
work_by workers by_self.Back rest =
    step (λ n. n < workers) _ (only_worker workers rest) _ (only_fits workers rest) (λ worker lt. record { known = λ version. refl; place = λ stage. refl; ends = not_last rest; own = tt; numbers = (lt, tt) })

alloc_by : (workers : ℕ) (rest : List (List ℕ)) → IfOk (parse_alloc workers rest) (ParsedBy workers (words.Zone in_zone.Alloc) rest)
alloc_by workers rest =
    any _ (alloc_fields rest) _ (λ parts.
    step (λ n. n < workers) _ (worker_in workers parts.0.0) _ (worker_fits workers parts.0.0) (λ worker lt.
    any _ (name_in parts.0.1) _ (λ zone.
    step (IsWithin 0 last_slot) _ (slot_in parts.0.2) _ (within_fits 0 last_slot parts.0.2) (λ slot in'.
    step (IsWithin 0 254) _ (arg_in parts.1.0) _ (arg_fits parts.1.0) (λ arg low.
    record { known = λ version. refl; place = λ stage. refl; ends = not_last rest; own = tt; numbers = (lt, (in'.1, low.1)) })))))

zone_fits : (workers : ℕ) (rest : List (List ℕ)) → IfOk (worker_and_zone workers rest) (λ p. p.0 < workers)
zone_fits workers rest =
    any _ (two_fields rest) _ (λ parts.
    step (λ n. n < workers) _ (worker_in workers parts.0) _ (worker_fits workers parts.0) (λ worker lt.
    any _ (name_in parts.1) _ (λ zone. lt)))

prealloc_by : (workers : ℕ) (rest : List (List ℕ)) → IfOk (parse_prealloc workers rest) (ParsedBy workers (words.Zone in_zone.Prealloc) rest)
prealloc_by workers rest =
    any _ (three_fields rest) _ (λ parts.
    step (λ n. n < workers) _ (worker_in workers parts.0) _ (worker_fits workers parts.0) (λ worker lt.
    any _ (name_in parts.1) _ (λ zone.
    step (IsWithin 0 262144) _ (number_within 0 262144 parts.2) _ (within_fits 0 262144 parts.2) (λ items few.
    record { known = λ version. refl; place = λ stage. refl; ends = not_last rest; own = tt; numbers = (lt, few.1) }))))

zone_by : (workers : ℕ) (word : ZoneWord) (rest : List (List ℕ)) → IfOk (parse_zone_work workers word rest) (ParsedBy workers (words.Zone word) rest)
zone_by workers in_zone.Alloc rest = alloc_by workers rest
zone_by workers in_zone.Trim rest =
    step (λ (p : ℕ × List ℕ). p.0 < workers) _ (worker_and_zone workers rest) _ (zone_fits workers rest) (λ parts lt. record { known = λ version. refl; place = λ stage. refl; ends = not_last rest; own = tt; numbers = (lt, tt) })
zone_by workers in_zone.Drain rest =
    step (λ (p : ℕ × List ℕ). p.0 < workers) _ (worker_and_zone workers rest) _ (zone_fits workers rest) (λ parts lt. record { known = λ version. refl; place = λ stage. refl; ends = not_last rest; own = tt; numbers = (lt, tt) })
zone_by workers in_zone.DrainSeat rest =
    step (λ (p : ℕ × List ℕ). p.0 < workers) _ (worker_and_zone workers rest) _ (zone_fits workers rest) (λ parts lt. record { known = λ version. refl; place = λ stage. refl; ends = not_last rest; own = tt; numbers = (lt, tt) })
zone_by workers in_zone.Prealloc rest = prealloc_by workers rest

give_by : (workers : ℕ) (rest : List (List ℕ)) → IfOk (parse_give workers rest) (ParsedBy workers words.Give rest)
give_by workers rest =
    any _ (four_fields rest) _ (λ parts.
    step (λ n. n < workers) _ (worker_in workers parts.0) _ (worker_fits workers parts.0) (λ giver lt.
    step (IsWithin 0 last_slot) _ (slot_in parts.1) _ (within_fits 0 last_slot parts.1) (λ slot in'.
    step (λ n. n < workers) _ (worker_in workers parts.2) _ (worker_fits workers parts.2) (λ taker lt'.
    step (IsWithin 0 last_slot) _ (slot_in parts.3) _ (within_fits 0 last_slot parts.3) (λ slot2 in2.
    record { known = λ version. refl; place = λ stage. refl; ends = not_last rest; own = tt; numbers = (lt, in'.1, lt', in2.1) })))))

setmax_by : (workers : ℕ) (rest : List (List ℕ)) → IfOk (parse_setmax rest) (ParsedBy workers words.SetMax rest)
setmax_by workers rest =
    any _ (two_fields rest) _ (λ parts.
    any _ (name_in parts.0) _ (λ zone.
    step (IsWithin 0 1000000) _ (number_within 0 1000000 parts.1) _ (within_fits 0 1000000 parts.1) (λ limit low.
    record { known = λ version. refl; place = λ stage. refl; ends = not_last rest; own = tt; numbers = low.1 })))

by_word : (workers : ℕ) (word : Word) (rest : List (List ℕ)) → IfOk (parsed_by workers word rest) (ParsedBy workers word rest)
by_word workers (words.Head word) rest = head_by workers word rest
by_word workers (words.Work word) rest = work_by workers word rest
by_word workers (words.Zone word) rest = zone_by workers word rest
by_word workers words.Round rest = any _ (no_field rest) _ (λ none. record { known = λ version. refl; place = λ stage. refl; ends = not_last rest; own = tt; numbers = tt })
by_word workers words.Give rest = give_by workers rest
by_word workers words.SetMax rest = setmax_by workers rest
by_word workers words.End [] = record { known = λ version. refl; place = λ stage. refl; ends = refl; own = tt; numbers = tt }
by_word workers words.End (field ∷ rest) = tt

-- ---- the word

-- the word that this is, if it is one, is `end` where this says so
abbrev EndsBy : Bool → Option Word → Type 0
EndsBy b o = (word : Word) → o ≡ Some word → is_end_word word ≡ b

none_named : (b : Bool) → EndsBy b None
none_named b = λ word is. absurd cc

-- of a field that is one word, it is another one or it isn't `end`
before_end : (c b : Bool) (w : Word) (o : Option Word) → (c ≡ true → b ≡ false) → is_end_word w ≡ false → EndsBy b o → EndsBy b (cond c (Some w) o)
before_end true b w o apart e h = λ word is. let same : w ≡ word = cc in ap is_end_word (sym same) ∙ (e ∙ sym (apart refl))
before_end false b w o apart e h = h

behind_end : (c : Bool) (w : Word) (o : Option Word) → is_end_word w ≡ false → EndsBy false o → EndsBy false (cond c (Some w) o)
behind_end true w o e h = λ word is. let same : w ≡ word = cc in ap is_end_word (sym same) ∙ e
behind_end false w o e h = h

at_end : (b : Bool) (o : Option Word) → EndsBy false o → EndsBy b (cond b (Some words.End) o)
at_end true o h = λ word is. let same : words.End ≡ word = cc in ap is_end_word (sym same)
at_end false o h = h

apart : (first text : List ℕ) → bytes_eq text (codes "end") ≡ false → bytes_eq first text ≡ true → bytes_eq first (codes "end") ≡ false
apart first text differs is = ap (λ (t : List ℕ). bytes_eq t (codes "end")) ((bytes_eq-Decides first text).0 is) ∙ differs

word_is_end : (first : List ℕ) → EndsBy (bytes_eq first (codes "end")) (word_named first)
word_is_end first =
    let is : List ℕ → Bool = λ text. bytes_eq first text in
    let others : EndsBy false _ =
    behind_end (is (codes "uma")) (words.Head heads.Uma) _ refl (behind_end (is (codes "workers")) (words.Head heads.Workers) _ refl
    (behind_end (is (codes "domains")) (words.Head heads.Domains) _ refl (behind_end (is (codes "clock")) (words.Head heads.Clock) _ refl
    (behind_end (is (codes "detail")) (words.Head heads.Detail) _ refl (behind_end (is (codes "zone")) (words.Head heads.Zone) _ refl
    (behind_end (is (codes "second")) (words.Head heads.Second) _ refl (behind_end (is (codes "names")) (words.Head heads.Names) _ refl (none_named false)))))))) in
    let b : Bool = is (codes "end") in
    before_end (is (codes "alloc")) b (words.Zone in_zone.Alloc) _ (apart first (codes "alloc") refl) refl
    (before_end (is (codes "free")) b (words.Work by_self.Free) _ (apart first (codes "free") refl) refl
    (before_end (is (codes "enter")) b (words.Work by_self.Enter) _ (apart first (codes "enter") refl) refl
    (before_end (is (codes "exit")) b (words.Work by_self.Exit) _ (apart first (codes "exit") refl) refl
    (before_end (is (codes "bind")) b (words.Work by_self.Bind) _ (apart first (codes "bind") refl) refl
    (before_end (is (codes "unbind")) b (words.Work by_self.Unbind) _ (apart first (codes "unbind") refl) refl
    (before_end (is (codes "look")) b (words.Work by_self.Look) _ (apart first (codes "look") refl) refl
    (before_end (is (codes "away")) b (words.Work by_self.Away) _ (apart first (codes "away") refl) refl
    (before_end (is (codes "back")) b (words.Work by_self.Back) _ (apart first (codes "back") refl) refl
    (before_end (is (codes "trim")) b (words.Zone in_zone.Trim) _ (apart first (codes "trim") refl) refl
    (before_end (is (codes "drain")) b (words.Zone in_zone.Drain) _ (apart first (codes "drain") refl) refl
    (before_end (is (codes "drainseat")) b (words.Zone in_zone.DrainSeat) _ (apart first (codes "drainseat") refl) refl
    (before_end (is (codes "prealloc")) b (words.Zone in_zone.Prealloc) _ (apart first (codes "prealloc") refl) refl
    (before_end (is (codes "round")) b words.Round _ (apart first (codes "round") refl) refl
    (before_end (is (codes "give")) b words.Give _ (apart first (codes "give") refl) refl
    (before_end (is (codes "setmax")) b words.SetMax _ (apart first (codes "setmax") refl) refl
    (at_end b _ others))))))))))))))))

-- ---- the line

pub says_right : (version : Version) (stage : Stage) (workers : ℕ) (fields : List (List ℕ)) (s : ParsedLine) → says version stage workers fields ≡ Ok s → SaysRight version stage workers fields s
says_right version stage workers [] s e = absurd cc
says_right version stage workers (first ∷ rest) s e =
    let a = bound (word_or_wrong (word_named first)) (λ word. known (is_known version word) >>= λ is. (placed (may_follow stage word) >>= λ fits. parsed_by workers word rest)) s e in
    let k = bound (known (is_known version a.0)) (λ is. placed (may_follow stage a.0) >>= λ fits. parsed_by workers a.0 rest) s a.2 in
    let b = bound (placed (may_follow stage a.0)) (λ fits. parsed_by workers a.0 rest) s k.2 in
    let by : ParsedBy workers a.0 rest s = IfOk-at_ok (ParsedBy workers a.0 rest) b.2 (by_word workers a.0 rest) in
    let word_is : is_end_word a.0 ≡ bytes_eq first (codes "end") = word_is_end first a.0 (is_some_value (word_named first) kinds.Word a.0 a.1) in
    record {
      known = by.known version ∙ (is_true (is_known version a.0) tt k.0 kinds.Word k.1).0;
      place = stands_behind stage s (by.place stage ∙ (is_true (may_follow stage a.0) tt b.0 kinds.Place b.1).0);
      ends = is_end_by first rest ∙ (ap (λ b. ends_line b rest) (sym word_is) ∙ sym by.ends);
      own = by.own;
      numbers = by.numbers;
    }
