-- A trace has no more lines than its text has bytes.
use Rattle.std.proofs.Common.{◌≡◌, ℕ, zero, suc, ◌+◌, ◌≤◌, List, [], ◌∷◌, ◌++◌, length, map, Bool, true, false, Option, Some, None, Result, Ok, Err, refl, sym, ap, subst, ◌∙◌, arith}
use Rattle.std.specs.Prelude.{◌==◌, nat_le, cond, if◌then◌else◌}
use Rattle.std.specs.List.{flat_map, range_with_len, slice_split, onto_first}
use Rattle.std.specs.Str.Lines.{lines, lines_of_parts}
use Rattle.std.proofs.lemmas.Bool.{eqb-true, leb-true, le-leb, false_from_ne_true}
use Rattle.std.proofs.lemmas.List.{length-append, length-map}
use Rattle.trace_lines.specs.TextLines.{TextLine, after_earlier, fields_of, is_skipped, spoken}
use Rattle.trace_lines.specs.declared.refused.TraceKind.{TraceKind}
use Rattle.trace_text.specs.declared.trace.Op.{Op}
use Rattle.trace_text.specs.declared.trace.Between.{Between}
use Rattle.trace_text.specs.declared.trace.ZoneHead.{ZoneHead}
use Rattle.trace_text.specs.declared.trace.Trace.{Trace}
use Rattle.trace_text.specs.declared.trace_reading.parsed_line.ParsedLine.{ParsedLine}
use Rattle.trace_text.specs.declared.trace_reading.parsed_line.ParsedLine.TheVariants as parsed
use Rattle.trace_text.specs.declared.trace_reading.parsed_line.ZoneWork.{ZoneWork}
use Rattle.trace_text.specs.declared.trace_reading.fields.Entry.{Entry}
use Rattle.trace_text.specs.declared.trace_reading.fields.Entry.TheVariants as entries
use Rattle.trace_text.specs.Grammar.{and_parsed, entries_of, entry_in, entry_of, limit_in, between_in, is_round, last_stage, op_by, ops_in, rounds_in, parsed_lines, version_of, workers_of, zone_named, zones_of}
use Rattle.trace_text.specs.TraceLine.{says}
use Rattle.trace_text.specs.Lines.{Line, Does, Moves, lines_of, worker_lines}
use Rattle.trace_text.specs.TraceLaws.{TracesAreNoLonger}

-- ---- lines of a text

after_newline : (parts : List (List ℕ)) → length (lines_of_parts ([] ∷ parts)) ≤ suc (length (lines_of_parts parts))
after_newline [] = omega arith
after_newline (part ∷ parts) = omega arith

last_part : (is : Bool) (part : List ℕ) (count : ℕ) → length (if is then [] else part ∷ []) ≤ suc count
last_part true part count = omega arith
last_part false part count = omega arith

onto_part : (byte : ℕ) (parts : List (List ℕ)) → length (lines_of_parts (onto_first byte parts)) ≤ suc (length (lines_of_parts parts))
onto_part byte [] = omega arith
onto_part byte (part ∷ []) = last_part (length (byte ∷ part) == 0) (byte ∷ part) (length (lines_of_parts (part ∷ [])))
onto_part byte (part ∷ next ∷ parts) = omega arith

part_by_part : (is : Bool) (byte : ℕ) (parts : List (List ℕ)) → length (lines_of_parts (cond is ([] ∷ parts) (onto_first byte parts))) ≤ suc (length (lines_of_parts parts))
part_by_part true byte parts = after_newline parts
part_by_part false byte parts = onto_part byte parts

two_steps : (more rest few : ℕ) → more ≤ suc rest → rest ≤ few → more ≤ suc few
two_steps more rest few step le = omega arith

lines_few : (bytes : List ℕ) → length (lines bytes) ≤ length bytes
lines_few [] = omega arith
lines_few (byte ∷ bytes) =
    let step = part_by_part (byte == 10) byte (slice_split (λ b. b == 10) bytes) in
    let rest = lines_few bytes in
    two_steps (length (lines (byte ∷ bytes))) (length (lines bytes)) (length bytes) step rest

-- ---- what was said

moved_one : (whole all others : ℕ) → whole ≡ all + suc others → whole ≡ suc all + others
moved_one whole all others is = omega arith

length-after_earlier : (all others : List (List ℕ)) → length (after_earlier all others) ≡ length all + length others
length-after_earlier [] others = omega arith
length-after_earlier (line ∷ all) others = moved_one (length (after_earlier all (line ∷ others))) (length all) (length others) (length-after_earlier all (line ∷ others))

spoken_by : (is : Bool) (line : TextLine) (rest : List TextLine) (count : ℕ) → length rest ≤ count → length (if is then rest else line ∷ rest) ≤ suc count
spoken_by true line rest count few = omega arith
spoken_by false line rest count few = omega arith

spoken_few : (all : List (List ℕ)) → length (spoken all) ≤ length all
spoken_few [] = omega arith
spoken_few (line ∷ earlier) = spoken_by (is_skipped (fields_of line)) (record { number = length earlier + 1; fields = fields_of line }) (spoken earlier) (length earlier) (spoken_few earlier)

and_parsed_few : (s : Result ParsedLine TraceKind) (before : List ParsedLine) (count : ℕ) → length before ≤ count → length (and_parsed s before) ≤ suc count
and_parsed_few (Ok s) before count few = omega arith
and_parsed_few (Err why) before count few = omega arith

parsed_lines_few : (spoke : List TextLine) → length (parsed_lines spoke) ≤ length spoke
parsed_lines_few [] = omega arith
parsed_lines_few (line ∷ []) = omega arith
parsed_lines_few (line ∷ last ∷ before) =
    let earlier = parsed_lines (last ∷ before) in
    and_parsed_few (says (version_of earlier) (last_stage earlier) (workers_of earlier) line.fields) earlier (length (last ∷ before)) (parsed_lines_few (last ∷ before))

in_zone : (worker : ℕ) (work : ZoneWork) (zone : Option ℕ) → length (entry_in worker work zone) ≤ 1
in_zone worker work None = omega arith
in_zone worker work (Some zone) = omega arith

one_limit : (limit : ℕ) (zone : Option ℕ) → length (limit_in limit zone) ≤ 1
one_limit limit None = omega arith
one_limit limit (Some zone) = omega arith

one_entry : (zones : List ZoneHead) (s : ParsedLine) → length (entry_of zones s) ≤ 1
one_entry zones (parsed.Work worker op) = omega arith
one_entry zones (parsed.InZone worker zone work) = in_zone worker work (zone_named zones zone)
one_entry zones parsed.Round = omega arith
one_entry zones (parsed.Give giver slot taker slot2) = omega arith
one_entry zones (parsed.SetMax zone limit) = one_limit limit (zone_named zones zone)
one_entry zones other = omega arith

one_more : (count total more : ℕ) → total ≡ count + more → more ≤ 1 → (limit : ℕ) → count ≤ limit → total ≤ suc limit
one_more count total more is few limit le = omega arith

entries_few : (before : List ParsedLine) → length (entries_of before) ≤ length before
entries_few [] = omega arith
entries_few (s ∷ before) =
    one_more (length (entries_of before)) (length (entries_of (s ∷ before))) (length (entry_of (zones_of before) s))
    (length-append (entries_of before) (entry_of (zones_of before) s)) (one_entry (zones_of before) s) (length before) (entries_few before)

-- ---- the rounds

-- how many of these are operations of workers from number `k` on
abbrev ops_from : ℕ → List Entry → ℕ
ops_from k [] = 0
ops_from k (entries.Does v op ∷ part) = cond (nat_le k v) 1 0 + ops_from k part
ops_from k (other ∷ part) = ops_from k part

true_is_not_false : true ≡ false → ⊥
true_is_not_false is = absurd cc

bits : {A : Type 0} (is below more : Bool) (x : A) → (is ≡ true → more ≡ false) → (is ≡ true → below ≡ true) → (more ≡ true → below ≡ true)
    → length (cond is (x ∷ []) []) + cond more 1 0 ≤ cond below 1 0
bits true true true x apart own later = absurd (true_is_not_false (apart refl))
bits true true false x apart own later = omega arith
bits true false more x apart own later = absurd (true_is_not_false (sym (own refl)))
bits false true true x apart own later = omega arith
bits false true false x apart own later = omega arith
bits false false true x apart own later = absurd (true_is_not_false (sym (later refl)))
bits false false false x apart own later = omega arith

one_worker : (k v : ℕ) (op : Op) → length (op_by k (entries.Does v op)) + cond (nat_le (k + 1) v) 1 0 ≤ cond (nat_le k v) 1 0
one_worker k v op =
    bits (v == k) (nat_le k v) (nat_le (k + 1) v) op
    (λ is. false_from_ne_true (nat_le (k + 1) v) (λ more. let e = eqb-true v k is in let le = leb-true (k + 1) v more in omega arith))
    (λ is. le-leb k v (let e = eqb-true v k is in omega arith))
    (λ more. le-leb k v (let le = leb-true (k + 1) v more in omega arith))

sum_four : (whole own rest later_own later_rest from_own from_rest : ℕ) → whole ≡ own + rest → own + later_own ≤ from_own → rest + later_rest ≤ from_rest
    → whole + (later_own + later_rest) ≤ from_own + from_rest
sum_four whole own rest later_own later_rest from_own from_rest is one more = omega arith

own_and_later : (k : ℕ) (part : List Entry) → length (flat_map (op_by k) part) + ops_from (k + 1) part ≤ ops_from k part
own_and_later k [] = omega arith
own_and_later k (entries.Does v op ∷ part) =
    sum_four (length (flat_map (op_by k) (entries.Does v op ∷ part))) (length (op_by k (entries.Does v op))) (length (flat_map (op_by k) part)) (cond (nat_le (k + 1) v) 1 0) (ops_from (k + 1) part)
    (cond (nat_le k v) 1 0) (ops_from k part) (length-append (op_by k (entries.Does v op)) (flat_map (op_by k) part)) (one_worker k v op) (own_and_later k part)
own_and_later k (entries.Moves between ∷ part) = own_and_later k part
own_and_later k (entries.Round ∷ part) = own_and_later k part

two_sums : (whole own rest mapped list later : ℕ) → whole ≡ mapped + rest → mapped ≡ list → list + later ≤ own → rest ≤ later → whole ≤ own
two_sums whole own rest mapped list later is same one more = omega arith

workers_few : (k n : ℕ) (part : List Entry) → length (worker_lines k (map (λ worker. flat_map (op_by worker) part) (range_with_len k n))) ≤ ops_from k part
workers_few k zero part = omega arith
workers_few k (suc n) part =
    let own : List Op = flat_map (op_by k) part in
    let others = worker_lines (k + 1) (map (λ worker. flat_map (op_by worker) part) (range_with_len (k + 1) n)) in
    two_sums (length (map (Does k) own ++ others)) (ops_from k part) (length others) (length (map (Does k) own)) (length own) (ops_from (k + 1) part)
    (length-append (map (Does k) own) others) (length-map own (Does k)) (own_and_later k part) (workers_few (k + 1) n part)

at_most_one : (bit rest gives few : ℕ) → bit ≤ 1 → rest + gives ≤ few → (bit + rest) + gives ≤ suc few
at_most_one bit rest gives few one le = omega arith

bit_few : (is : Bool) → cond is 1 0 ≤ 1
bit_few true = omega arith
bit_few false = omega arith

less_by_one : (few limit : ℕ) → few ≤ limit → few ≤ suc limit
less_by_one few limit le = omega arith

one_give : (ops gives few : ℕ) → ops + gives ≤ few → ops + suc gives ≤ suc few
one_give ops gives few le = omega arith

last_sum : (whole front ops : ℕ) → whole ≡ (front + 0) + 0 → front ≤ ops → whole ≤ ops + 0
last_sum whole front ops is le = omega arith

first_sum : (whole ops gives part parts : ℕ) → whole ≤ ops + parts → ops + gives ≤ part → whole ≤ part + parts
first_sum whole ops gives part parts le few = omega arith

ops_and_gives : (part : List Entry) → ops_from 0 part + length (flat_map between_in part) ≤ length part
ops_and_gives [] = omega arith
ops_and_gives (entries.Does v op ∷ part) = at_most_one (cond (nat_le 0 v) 1 0) (ops_from 0 part) (length (flat_map between_in part)) (length part) (bit_few (nat_le 0 v)) (ops_and_gives part)
ops_and_gives (entries.Moves between ∷ part) = let rest = ops_and_gives part in one_give (ops_from 0 part) (length (flat_map between_in part)) (length part) rest
ops_and_gives (entries.Round ∷ part) = let rest = ops_and_gives part in less_by_one (ops_from 0 part + length (flat_map between_in part)) (length part) rest

-- how many lines all parts have
abbrev entry_count : List (List Entry) → ℕ
entry_count [] = 0
entry_count (part ∷ parts) = length part + entry_count parts

three_sums : (whole front gives rest own_ops own_gives next more others : ℕ) → whole ≡ (front + gives) + rest → front ≤ own_ops → gives ≡ own_gives → rest ≤ more + others → more + own_gives ≤ next
    → whole ≤ own_ops + (next + others)
three_sums whole front gives rest own_ops own_gives next more others is a b c d = omega arith

append_three : (front gives rest : List Line) → length ((front ++ gives) ++ rest) ≡ (length front + length gives) + length rest
append_three front gives rest = length-append (front ++ gives) rest ∙ ap (λ (n : ℕ). n + length rest) (length-append front gives)

round_lines : (workers : ℕ) (part : List Entry) (parts : List (List Entry)) → length (lines_of (rounds_in workers (part ∷ parts))) ≤ ops_from 0 part + entry_count parts
round_lines workers part [] =
    let front = worker_lines 0 (ops_in workers part) in
    last_sum (length (lines_of (rounds_in workers (part ∷ [])))) (length front) (ops_from 0 part) (append_three front [] []) (workers_few 0 workers part)
round_lines workers part (next ∷ parts) =
    let front = worker_lines 0 (ops_in workers part) in
    let gives : List Between = flat_map between_in next in
    let rest = lines_of (rounds_in workers (next ∷ parts)) in
    three_sums (length ((front ++ map Moves gives) ++ rest)) (length front) (length (map Moves gives)) (length rest) (ops_from 0 part) (length gives) (length next) (ops_from 0 next) (entry_count parts)
    (append_three front (map Moves gives) rest) (workers_few 0 workers part) (length-map gives Moves) (round_lines workers next parts) (ops_and_gives next)

first_part : (parts : List (List Entry)) (workers : ℕ) → length (lines_of (rounds_in workers parts)) ≤ entry_count parts
first_part [] workers = omega arith
first_part (part ∷ parts) workers = first_sum (length (lines_of (rounds_in workers (part ∷ parts)))) (ops_from 0 part) (length (flat_map between_in part)) (length part) (entry_count parts) (round_lines workers part parts) (ops_and_gives part)

onto_count : (entry : Entry) (parts : List (List Entry)) → entry_count (onto_first entry parts) ≤ suc (entry_count parts)
onto_count entry [] = omega arith
onto_count entry (part ∷ parts) = omega arith

split_by : (is : Bool) (entry : Entry) (parts : List (List Entry)) (few : ℕ) → entry_count parts ≤ few → entry_count (cond is ([] ∷ parts) (onto_first entry parts)) ≤ suc few
split_by true entry parts few le = let more = less_by_one (entry_count parts) few le in omega arith
split_by false entry parts few le = let onto = onto_count entry parts in omega arith

split_few : (entries : List Entry) → entry_count (slice_split is_round entries) ≤ length entries
split_few [] = omega arith
split_few (entry ∷ entries) = split_by (is_round entry) entry (slice_split is_round entries) (length entries) (split_few entries)

no_more : (lines parts entries : ℕ) → lines ≤ parts → parts ≤ entries → lines ≤ entries
no_more lines parts entries few all = omega arith

-- the rounds that entries make up have no more lines than there are entries
pub lines_of_entries : (workers : ℕ) (entries : List Entry) → length (lines_of (rounds_in workers (slice_split is_round entries))) ≤ length entries
lines_of_entries workers entries =
    let parts = slice_split is_round entries in
    no_more (length (lines_of (rounds_in workers parts))) (entry_count parts) (length entries) (first_part parts workers) (split_few entries)

-- ---- together

six : (lines entries before spoke spoken all whole bytes : ℕ) → lines ≤ entries → entries ≤ before → before ≤ spoke → spoke ≡ spoken → spoken ≤ all → whole ≡ all + 0 → whole ≤ bytes → lines ≤ bytes
six lines entries before spoke spoken all whole bytes a b c d e f g = omega arith

pub traces_are_no_longer : TracesAreNoLonger
traces_are_no_longer bytes trace text =
    let before : List ParsedLine = parsed_lines text.spoke in
    let all = text.right.all in
    let P : Trace → Type 0 = λ t. length (lines_of t.rounds) ≤ length bytes in
    let cut = lines_of_entries (workers_of before) (entries_of before) in
    let whole : length (lines bytes) ≡ length all + 0 = ap length text.right.whole ∙ length-after_earlier all [] in
    let spoke : length text.spoke ≡ length (spoken all) = ap length text.right.spoke_is in
    subst P (sym text.trace_is)
    (six (length (lines_of (rounds_in (workers_of before) (slice_split is_round (entries_of before))))) (length (entries_of before)) (length before)
    (length text.spoke) (length (spoken all)) (length all) (length (lines bytes)) (length bytes) cut (entries_few before) (parsed_lines_few text.spoke) spoke (spoken_few all) whole (lines_few bytes))
