-- A line that is told behind others: it stands in its place, its numbers are in their ranges, and no test of it is failed.
use Rattle.std.proofs.Common.{◌≡◌, true, List, [], ◌∷◌, sym, subst}
use Rattle.std.specs.Prelude.{is_some}
use Rattle.trace_text.specs.declared.trace_reading.parsed_line.ParsedLine.{ParsedLine}
use Rattle.trace_text.specs.declared.trace_reading.parsed_line.ParsedLine.TheVariants as parsed
use Rattle.trace_text.specs.declared.trace.Version.{Version}
use Rattle.trace_text.specs.Grammar.{clock_of, is_away_by, is_filled_by, is_open_by, last_stage, names_of, version_of, workers_of, zones_of}
use Rattle.trace_text.proofs.HeadLines.{HeadIsRead}
use Rattle.trace_text.proofs.TraceSaying.{NumbersFit, StandsBehind, is_known_line, says_right}
use Rattle.trace_text.proofs.TraceTests.{IsClear, clear_without_conflict}
use Rattle.trace_text.proofs.TraceTold.{Told}

-- ---- a line behind others

abbrev pub ConflictsWithNone : List ParsedLine → ParsedLine → Type 0
ConflictsWithNone before s = IsClear (is_some (clock_of before)) (is_some (names_of before)) (zones_of before) (is_filled_by before) (is_open_by before) (is_away_by before) s

pub record Behind (before : List ParsedLine) (s : ParsedLine) : Type 0 where
  pub known : is_known_line (version_of before) s ≡ true
  pub place : StandsBehind (last_stage before) s
  pub own : HeadIsRead s
  pub numbers : NumbersFit (workers_of before) s
  pub conflicts : ConflictsWithNone before s

pub behind : (last : ParsedLine) (before : List ParsedLine) (s : ParsedLine) → Told (s ∷ last ∷ before) → Behind (last ∷ before) s
behind last before s t =
    let right = says_right (version_of (last ∷ before)) (last_stage (last ∷ before)) (workers_of (last ∷ before)) t.0.fields s t.0.says_it in
    record {
      known = right.known;
      place = right.place;
      own = right.own;
      numbers = right.numbers;
      conflicts = clear_without_conflict (is_some (clock_of (last ∷ before))) (is_some (names_of (last ∷ before))) (zones_of (last ∷ before)) (is_filled_by (last ∷ before)) (is_open_by (last ∷ before)) (is_away_by (last ∷ before)) s t.1;
    }

-- what holds of no lines and of the first line, and of one line more behind those of which it holds, holds of all lines that are told
pub by_lines : (P : List ParsedLine → Type 0) → P [] → ((version : Version) → P (parsed.Uma version ∷ [])) → ((before : List ParsedLine) (s : ParsedLine) → Told before → Behind before s → P before → P (s ∷ before))
    → (before : List ParsedLine) → Told before → P before
by_lines P none first more [] t = none
by_lines P none first more (s ∷ []) t = let Q : ParsedLine → Type 0 = λ x. P (x ∷ []) in subst Q (sym t.1) (first t.0)
by_lines P none first more (s ∷ last ∷ before) t = more (last ∷ before) s t.2 (behind last before s t) (by_lines P none first more (last ∷ before) t.2)
