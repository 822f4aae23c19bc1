-- The eleven tests of a line behind others: it conflicts with none of them just where each test is passed.
use Rattle.std.proofs.Common.{◌≡◌, ℕ, Bool, true, false, cond, List, Option, Some, None, refl}
use Rattle.std.specs.Prelude.{◌&&◌, not}
use Rattle.trace_lines.specs.declared.refused.TraceKind.{TraceKind}
use Rattle.trace_lines.specs.declared.refused.TraceKind.TheVariants as kinds
use Rattle.trace_text.specs.declared.trace.ZoneHead.{ZoneHead}
use Rattle.trace_text.specs.declared.trace_reading.parsed_line.ParsedLine.{ParsedLine}
use Rattle.trace_text.specs.Grammar.{needs_clock, needs_names, takes_name, lacks_zone, passes_most, finds_filled, finds_empty, finds_open, finds_closed, finds_away, finds_there, conflict}

-- a line that fails none of the tests
pub record IsClear (has_clock has_names : Bool) (zones : List ZoneHead) (is_filled : ℕ → ℕ → Bool) (is_open is_away : ℕ → Bool) (s : ParsedLine) : Type 0 where
  pub clock : (needs_clock s && not has_clock) ≡ false
  pub names : (needs_names s && not has_names) ≡ false
  pub name : takes_name zones s ≡ false
  pub zone : lacks_zone zones s ≡ false
  pub most : passes_most zones s ≡ false
  pub filled : finds_filled is_filled s ≡ false
  pub empty : finds_empty is_filled s ≡ false
  pub opened : finds_open is_open s ≡ false
  pub closed : finds_closed is_open s ≡ false
  pub away : finds_away is_away s ≡ false
  pub there : finds_there is_away s ≡ false

pub no_conflict : (has_clock has_names : Bool) (zones : List ZoneHead) (is_filled : ℕ → ℕ → Bool) (is_open is_away : ℕ → Bool) (s : ParsedLine)
    → IsClear has_clock has_names zones is_filled is_open is_away s → conflict has_clock has_names zones is_filled is_open is_away s ≡ None
no_conflict has_clock has_names zones is_filled is_open is_away s clear =
    rw (clear.clock, clear.names, clear.name, clear.zone, clear.most, clear.filled, clear.empty, clear.opened, clear.closed, clear.away, clear.there) refl

passed : (failed : Bool) (why : TraceKind) (more : Option TraceKind) → cond failed (Some why) more ≡ None → (failed ≡ false) × (more ≡ None)
passed true why more e = absurd cc
passed false why more e = (refl, e)

pub clear_without_conflict : (has_clock has_names : Bool) (zones : List ZoneHead) (is_filled : ℕ → ℕ → Bool) (is_open is_away : ℕ → Bool) (s : ParsedLine)
    → conflict has_clock has_names zones is_filled is_open is_away s ≡ None → IsClear has_clock has_names zones is_filled is_open is_away s
clear_without_conflict has_clock has_names zones is_filled is_open is_away s e =
    let a = passed (needs_clock s && not has_clock) kinds.NoClock _ e in
    let b = passed (needs_names s && not has_names) kinds.NoNames _ a.1 in
    let c = passed (takes_name zones s) kinds.DoubleName _ b.1 in
    let d = passed (lacks_zone zones s) kinds.NoZone _ c.1 in
    let f = passed (passes_most zones s) kinds.Zones _ d.1 in
    let g = passed (finds_filled is_filled s) kinds.SlotBusy _ f.1 in
    let h = passed (finds_empty is_filled s) kinds.SlotEmpty _ g.1 in
    let i = passed (finds_open is_open s) kinds.SectionOpen _ h.1 in
    let j = passed (finds_closed is_open s) kinds.SectionClosed _ i.1 in
    let k = passed (finds_away is_away s) kinds.Absent _ j.1 in
    let l = passed (finds_there is_away s) kinds.Present _ k.1 in
    record { clock = a.0; names = b.0; name = c.0; zone = d.0; most = f.0; filled = g.0; empty = h.0; opened = i.0; closed = j.0; away = k.0; there = l.0 }
