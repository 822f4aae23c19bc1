-- The grammar on worked rows: what lines say, what is wrong with a line behind others, and the rounds.
use Rattle.std.proofs.Common.{◌≡◌, ℕ, List, [], ◌∷◌, Some, None, Ok, Err, refl, false}
use Rattle.std.specs.Prelude.{codes}
use Rattle.std.specs.Fmt.{digits}
use Rattle.trace_lines.specs.Number.{number_of}
use Rattle.trace_lines.specs.declared.refused.TraceKind.TheVariants as kinds
use Rattle.trace_text.specs.declared.trace.Between.TheVariants.{Give, SetMax}
use Rattle.trace_text.specs.declared.trace.ZoneHead.{ZoneHead}
use Rattle.trace_text.specs.declared.trace.ZoneKind.TheVariants.{Plain}
use Rattle.trace_text.specs.declared.trace.Op.TheVariants as ops
use Rattle.trace_text.specs.declared.trace_reading.parsed_line.ParsedLine.{ParsedLine}
use Rattle.trace_text.specs.declared.trace_reading.parsed_line.ParsedLine.TheVariants as parsed
use Rattle.trace_text.specs.declared.trace_reading.parsed_line.SecondHead.{SecondHead}
use Rattle.trace_text.specs.declared.trace_reading.parsed_line.ZoneWork.TheVariants as works
use Rattle.trace_text.specs.declared.trace_reading.fields.Word.TheVariants as words
use Rattle.trace_text.specs.declared.trace_reading.fields.HeadWord.TheVariants as heads
use Rattle.trace_text.specs.declared.trace.Version.TheVariants as versions
use Rattle.trace_text.specs.Grammar.{conflict_after, last_stage, rounds_of}
use Rattle.trace_text.specs.TraceLine.{parse_alloc, may_follow, says}

box : ZoneHead
box = record { name = codes "box"; parent = None; size = 256; slabs = 4; bucket = 4; limit = 0; reserve = 0; kind = Plain }

second : List ℕ → SecondHead
second name = record { name = name; of = codes "box"; bucket = 4; limit = 0; kind = Plain }

-- four lines, the last one first, without a clock and with one
four : List ParsedLine
four = parsed.Zone box ∷ parsed.Domains 1 ∷ parsed.Workers 1 ∷ parsed.Uma versions.One ∷ []

five : List ParsedLine
five = parsed.Zone box ∷ parsed.Clock (record { start = 1; window = 8 }) ∷ parsed.Domains 1 ∷ parsed.Workers 1 ∷ parsed.Uma versions.One ∷ []

asks : ℕ → ParsedLine
asks slot = parsed.InZone 0 (codes "box") (works.Alloc slot 0 false)

bad_lines :
    (may_follow (last_stage four) (words.Head heads.Workers) ≡ false)
    × (parse_alloc 1 (codes "0" ∷ codes "box" ∷ []) ≡ Err kinds.Fields)
    × (conflict_after four (parsed.Work 0 ops.Enter) ≡ Some kinds.NoClock)
    × (conflict_after four (parsed.Work 0 (ops.Look 3)) ≡ Some kinds.NoNames)
    × (conflict_after four (parsed.Zone box) ≡ Some kinds.DoubleName)
    × (conflict_after four (parsed.InZone 0 (codes "bax") (works.Alloc 0 0 false)) ≡ Some kinds.NoZone)
    × (conflict_after (parsed.Work 0 ops.Enter ∷ five) (parsed.Work 0 ops.Enter) ≡ Some kinds.SectionOpen)
    × (conflict_after five (parsed.Work 0 ops.Exit) ≡ Some kinds.SectionClosed)
    × (conflict_after (parsed.Work 0 ops.Exit ∷ parsed.Work 0 ops.Enter ∷ five) (parsed.Work 0 ops.Enter) ≡ None)
    × (conflict_after (asks 0 ∷ four) (asks 0) ≡ Some kinds.SlotBusy)
    × (conflict_after (parsed.Work 0 (ops.Free 0) ∷ asks 0 ∷ four) (asks 0) ≡ None)
    × (conflict_after four (parsed.Work 0 (ops.Free 0)) ≡ Some kinds.SlotEmpty)
    × (conflict_after (parsed.Round ∷ four) (parsed.Give 0 0 0 0) ≡ Some kinds.SlotBusy)
    × (conflict_after (parsed.Give 0 0 0 7 ∷ parsed.Round ∷ asks 0 ∷ four) (parsed.Work 0 (ops.Free 0)) ≡ Some kinds.SlotEmpty)
    × (conflict_after (parsed.Give 0 0 0 7 ∷ parsed.Round ∷ asks 0 ∷ four) (parsed.Work 0 (ops.Free 7)) ≡ None)
    × (may_follow (last_stage four) words.Give ≡ false)
unfolding four five asks box
bad_lines = (refl, refl, refl, refl, refl, refl, refl, refl, refl, refl, refl, refl, refl, refl, refl, refl)

-- a limit that changes, of version 2 and behind a `round` line: its word is tested before its place, and its zone last
lowers : List ℕ → List ℕ → List (List ℕ)
lowers zone limit = codes "setmax" ∷ zone ∷ limit ∷ []

bad_limits :
    (says versions.One (last_stage (parsed.Round ∷ four)) 1 (lowers (codes "box") (codes "2")) ≡ Err kinds.Word)
    × (says versions.One (last_stage four) 1 (lowers (codes "box") (codes "2")) ≡ Err kinds.Word)
    × (says versions.Two (last_stage four) 1 (lowers (codes "box") (codes "2")) ≡ Err kinds.Place)
    × (says versions.Two (last_stage (parsed.Round ∷ four)) 1 (codes "setmax" ∷ codes "b*x" ∷ []) ≡ Err kinds.Fields)
    × (says versions.Two (last_stage (parsed.Round ∷ four)) 1 (lowers (codes "b*x") (codes "02")) ≡ Err kinds.Name)
    × (says versions.Two (last_stage (parsed.Round ∷ four)) 1 (lowers (codes "bax") (codes "02")) ≡ Err kinds.Number)
    × (says versions.Two (last_stage (parsed.Round ∷ four)) 1 (lowers (codes "bax") (codes "1000001")) ≡ Err kinds.Range)
    × (says versions.Two (last_stage (parsed.Round ∷ four)) 1 (lowers (codes "box") (codes "1000000")) ≡ Ok (parsed.SetMax (codes "box") 1000000))
    × (conflict_after (parsed.Round ∷ four) (parsed.SetMax (codes "bax") 2) ≡ Some kinds.NoZone)
    × (conflict_after (parsed.Round ∷ four) (parsed.SetMax (codes "box") 2) ≡ None)
unfolding number_of digits lowers four box
bad_limits = (refl, refl, refl, refl, refl, refl, refl, refl, refl, refl)

-- a worker that leaves and comes back, of version 3: the slots and the section are tested before whether it is there, and a `give` may name it
left : List ParsedLine
left = parsed.Work 0 ops.Away ∷ asks 0 ∷ five

bad_presence :
    (says versions.Two (last_stage five) 1 (codes "away" ∷ codes "0" ∷ []) ≡ Err kinds.Word)
    × (says versions.Two (last_stage five) 1 (codes "back" ∷ codes "0" ∷ []) ≡ Err kinds.Word)
    × (says versions.Three (last_stage five) 1 (codes "away" ∷ codes "0" ∷ []) ≡ Ok (parsed.Work 0 ops.Away))
    × (says versions.Three (last_stage five) 1 (codes "back" ∷ codes "1" ∷ []) ≡ Err kinds.Range)
    × (conflict_after four (parsed.Work 0 ops.Away) ≡ Some kinds.NoClock)
    × (conflict_after four (parsed.Work 0 ops.Back) ≡ Some kinds.NoClock)
    × (conflict_after (parsed.Work 0 ops.Enter ∷ five) (parsed.Work 0 ops.Away) ≡ Some kinds.SectionOpen)
    × (conflict_after (parsed.Work 0 ops.Enter ∷ five) (parsed.Work 0 ops.Back) ≡ Some kinds.Present)
    × (conflict_after five (parsed.Work 0 ops.Back) ≡ Some kinds.Present)
    × (conflict_after left (parsed.Work 0 ops.Back) ≡ None)
    × (conflict_after left (parsed.Work 0 ops.Away) ≡ Some kinds.Absent)
    × (conflict_after left (parsed.Work 0 ops.Enter) ≡ Some kinds.Absent)
    × (conflict_after left (parsed.Work 0 ops.Exit) ≡ Some kinds.SectionClosed)
    × (conflict_after left (parsed.Work 0 (ops.Free 0)) ≡ Some kinds.Absent)
    × (conflict_after left (parsed.Work 0 (ops.Free 1)) ≡ Some kinds.SlotEmpty)
    × (conflict_after left (asks 0) ≡ Some kinds.SlotBusy)
    × (conflict_after left (asks 1) ≡ Some kinds.Absent)
    × (conflict_after (parsed.Round ∷ left) (parsed.Give 0 0 0 7) ≡ None)
    × (conflict_after (parsed.Work 0 ops.Back ∷ left) (asks 1) ≡ None)
unfolding number_of digits left five four asks box
bad_presence = (refl, refl, refl, refl, refl, refl, refl, refl, refl, refl, refl, refl, refl, refl, refl, refl, refl, refl, refl)

-- seven secondary zones, and an eighth
seven : List ParsedLine
seven =
    parsed.Second (second (codes "s7")) ∷ parsed.Second (second (codes "s6")) ∷ parsed.Second (second (codes "s5")) ∷ parsed.Second (second (codes "s4"))
    ∷ parsed.Second (second (codes "s3")) ∷ parsed.Second (second (codes "s2")) ∷ parsed.Second (second (codes "s1")) ∷ four

a_ninth_zone_of_a_keg : conflict_after seven (parsed.Second (second (codes "s8"))) ≡ Some kinds.Zones
unfolding seven four second box
a_ninth_zone_of_a_keg = refl

-- a secondary zone of a secondary one is none of the kind wanted
a_second_of_a_second : conflict_after (parsed.Second (second (codes "bag")) ∷ four) (parsed.Second (record { name = codes "sac"; of = codes "bag"; bucket = 4; limit = 0; kind = Plain })) ≡ Some kinds.NoZone
unfolding four second box
a_second_of_a_second = refl

-- two workers, a round, a lower limit, a move, and what follows
two_rounds : rounds_of (parsed.End ∷ parsed.Work 1 (ops.Free 7) ∷ parsed.Give 0 0 1 7 ∷ parsed.SetMax (codes "box") 2 ∷ parsed.Round ∷ asks 0 ∷ parsed.Zone box ∷ parsed.Domains 1 ∷ parsed.Workers 2 ∷ parsed.Uma versions.One ∷ [])
    ≡ record { ops = (ops.Alloc 0 0 0 false ∷ []) ∷ [] ∷ []; between = SetMax 0 2 ∷ Give 0 0 1 7 ∷ [] }
    ∷ record { ops = [] ∷ (ops.Free 7 ∷ []) ∷ []; between = [] } ∷ []
unfolding asks box
two_rounds = refl
