-- The header of a right text is valid.
use Rattle.std.proofs.Common.{◌≡◌, ◌≢◌, ℕ, ◌<◌, ◌≤◌, leb, List, [], ◌∷◌, ◌++◌, length, AllPairs, Option, Some, None, IfSome, IsSome, is_some, slice_get, refl, sym, ap, subst, arith, append-nil}
use Rattle.std.proofs.lemmas.Bool.{leb-false, or_parts, not-false}
use Rattle.std.proofs.lemmas.List.{length_push, length-map}
use Rattle.std.proofs.lemmas.List.Quantifiers.{all_pairs_push}
use Rattle.std.proofs.lemmas.Option.{IfSome_then}
use Rattle.trace_text.specs.declared.trace.ClockHead.{ClockHead}
use Rattle.trace_text.specs.declared.trace.Head.{Head}
use Rattle.trace_text.specs.declared.trace.NamesHead.{NamesHead}
use Rattle.trace_text.specs.declared.trace.ZoneHead.{ZoneHead}
use Rattle.trace_text.specs.declared.trace_reading.parsed_line.ParsedLine.{ParsedLine}
use Rattle.trace_text.specs.declared.trace_reading.parsed_line.ParsedLine.TheVariants as parsed
use Rattle.trace_text.specs.declared.trace_reading.reader.Stage.TheVariants as stages
use Rattle.trace_text.specs.declared.trace.Version.{Version}
use Rattle.trace_text.specs.Grammar.{stage_of, last_stage, workers_after, workers_of, domains_after, domains_of, clock_after, clock_of, names_after, names_of, new_zone, zones_of, head_of, fills_keg, primary_named}
use Rattle.trace_text.specs.Limits.{IsWithin}
use Rattle.trace_text.specs.TraceLine.{rank}
use Rattle.trace_text.specs.Valid.{ClockFits, ZoneFits, NamesFits, HeadFits, zone_names}
use Rattle.trace_text.proofs.HeadLines.{NamesAreRead}
use Rattle.trace_text.proofs.HeadZones.{called, AreRight, Join, none_are_right, with_clock, join_right, not_named, zone_joins, second_joins}
use Rattle.trace_text.proofs.TraceBehind.{Behind, by_lines}
use Rattle.trace_text.proofs.TraceEntries.{clock_kept}
use Rattle.trace_text.proofs.TraceTold.{Told}

-- ---- what a line changes

-- each part of the header keeps its range from one line to the next
workers_next : (before : List ParsedLine) (s : ParsedLine) → Behind before s → (2 ≤ rank (last_stage before) → IsWithin 1 16 (workers_of before)) → 2 ≤ rank (stage_of s) → IsWithin 1 16 (workers_after s (workers_of before))
workers_next before (parsed.Workers count) b h le = b.own
workers_next before other b h le = let place = b.place in h (omega arith)

domains_next : (before : List ParsedLine) (s : ParsedLine) → Behind before s → (3 ≤ rank (last_stage before) → IsWithin 1 4 (domains_of before)) → 3 ≤ rank (stage_of s) → IsWithin 1 4 (domains_after s (domains_of before))
domains_next before (parsed.Domains count) b h le = b.own
domains_next before other b h le = let place = b.place in h (omega arith)

clock_next : (before : List ParsedLine) (s : ParsedLine) → Behind before s → IfSome (clock_of before) ClockFits → IfSome (clock_after s (clock_of before)) ClockFits
clock_next before (parsed.Clock clock) b h = b.own
clock_next before other b h = h

-- before the names line there are no names
unnamed_next : (before : List ParsedLine) (s : ParsedLine) → Behind before s → (rank (last_stage before) ≤ 6 → names_of before ≡ None) → rank (stage_of s) ≤ 6 → names_after s (names_of before) ≡ None
unnamed_next before (parsed.Names names) b h le = absurd (omega arith)
unnamed_next before other b h le = let place = b.place in h (omega arith)

-- the zone that a line names may be named next, and all zones are right again
zone_joins_next : (before : List ParsedLine) (s : ParsedLine) → Behind before s → Join (clock_after s (clock_of before)) (zones_of before) (new_zone (zones_of before) s)
zone_joins_next before (parsed.Zone zone) b = zone_joins (clock_of before) (zones_of before) zone b.own b.conflicts.clock b.conflicts.name b.conflicts.most
zone_joins_next before (parsed.Second second) b =
    let zones : List ZoneHead = zones_of before in
    let most = or_parts (leb 16 (length zones)) (fills_keg zones (primary_named zones second.of)) b.conflicts.most in
    second_joins (clock_of before) zones second (primary_named zones second.of) refl b.own b.conflicts.clock b.conflicts.name most.0 most.1
zone_joins_next before other b = tt

zones_next : (before : List ParsedLine) (s : ParsedLine) → Behind before s → AreRight (clock_of before) (zones_of before) → AreRight (clock_after s (clock_of before)) (zones_of before ++ new_zone (zones_of before) s)
zones_next before s b right =
    join_right (clock_after s (clock_of before)) (zones_of before) (new_zone (zones_of before) s)
    (with_clock (clock_of before) (clock_after s (clock_of before)) (zones_of before) (clock_kept s (clock_of before)) right) (zone_joins_next before s b)

-- ---- the names line

-- the names of a header, behind its zones
pub record NamesStand (clock : Option ClockHead) (zones : List ZoneHead) (n : NamesHead) : Type 0 where
  pub read : NamesAreRead n
  pub clocked : IsSome clock
  pub differ : AllPairs (λ (a b : List ℕ). a ≢ b) (called zones ++ n.name ∷ [])
  pub few : length zones < 16

abbrev pub NamesRight : Option ClockHead → List ZoneHead → Option NamesHead → Type 0
NamesRight clock zones names = IfSome names (NamesStand clock zones)

names_stand : (before : List ParsedLine) (n : NamesHead) → Behind before (parsed.Names n) → AreRight (clock_of before) (zones_of before) → NamesStand (clock_of before) (zones_of before) n
names_stand before n b right = record {
  read = b.own;
  clocked = not-false (is_some (clock_of before)) b.conflicts.clock;
  differ = all_pairs_push (λ (a b : List ℕ). a ≢ b) (called (zones_of before)) n.name right.differ (not_named (zones_of before) n.name b.conflicts.name);
  few = leb-false 16 (length (zones_of before)) b.conflicts.most;
}

no_names : (clock : Option ClockHead) (zones : List ZoneHead) (names : Option NamesHead) → names ≡ None → NamesRight clock zones names
no_names clock zones None e = tt
no_names clock zones (Some n) e = absurd cc

no_zone_more : (clock : Option ClockHead) (zones : List ZoneHead) (names : Option NamesHead) → NamesRight clock zones names → NamesRight clock (zones ++ []) names
no_zone_more clock zones names h = subst (λ (zs : List ZoneHead). NamesRight clock zs names) (sym (append-nil zones)) h

names_next : (before : List ParsedLine) (s : ParsedLine) → Behind before s → AreRight (clock_of before) (zones_of before) → (rank (last_stage before) ≤ 6 → names_of before ≡ None)
    → NamesRight (clock_of before) (zones_of before) (names_of before)
    → NamesRight (clock_after s (clock_of before)) (zones_of before ++ new_zone (zones_of before) s) (names_after s (names_of before))
names_next before (parsed.Names n) b right unnamed h = no_zone_more (clock_of before) (zones_of before) (Some n) (names_stand before n b right)
names_next before (parsed.Clock c) b right unnamed h = let place = b.place in no_names _ _ (names_of before) (unnamed (omega arith))
names_next before (parsed.Zone zone) b right unnamed h = let place = b.place in no_names _ _ (names_of before) (unnamed (omega arith))
names_next before (parsed.Second second) b right unnamed h = let place = b.place in no_names _ _ (names_of before) (unnamed (omega arith))
names_next before other b right unnamed h = no_zone_more (clock_of before) (zones_of before) (names_of before) h

-- ---- what holds of the header behind each line

-- The counts are in their ranges once their lines were said, and no names stand before the last zone.
pub record HeadHolds (before : List ParsedLine) : Type 0 where
  pub workers : 2 ≤ rank (last_stage before) → IsWithin 1 16 (workers_of before)
  pub domains : 3 ≤ rank (last_stage before) → IsWithin 1 4 (domains_of before)
  pub clock : IfSome (clock_of before) ClockFits
  pub zones : AreRight (clock_of before) (zones_of before)
  pub names : NamesRight (clock_of before) (zones_of before) (names_of before)
  pub unnamed : rank (last_stage before) ≤ 6 → names_of before ≡ None

holds_next : (before : List ParsedLine) (s : ParsedLine) → Behind before s → HeadHolds before → HeadHolds (s ∷ before)
holds_next before s b h = record {
  workers = workers_next before s b h.workers;
  domains = domains_next before s b h.domains;
  clock = clock_next before s b h.clock;
  zones = zones_next before s b h.zones;
  names = names_next before s b h.zones h.unnamed h.names;
  unnamed = unnamed_next before s b h.unnamed;
}

holds_at_start : HeadHolds []
holds_at_start = record {
  workers = λ le. absurd (omega arith);
  domains = λ le. absurd (omega arith);
  clock = tt;
  zones = none_are_right None;
  names = tt;
  unnamed = λ le. refl;
}

holds_at_first : (version : Version) → HeadHolds (parsed.Uma version ∷ [])
holds_at_first version = record {
  workers = λ le. absurd (omega arith);
  domains = λ le. absurd (omega arith);
  clock = tt;
  zones = none_are_right None;
  names = tt;
  unnamed = λ le. refl;
}

pub head_holds : (before : List ParsedLine) → Told before → HeadHolds before
head_holds = by_lines HeadHolds holds_at_start holds_at_first (λ before s t b h. holds_next before s b h)

-- ---- a whole header

-- the facts of the zones and the names are those of a valid header
zones_fit : (h : Head) → AreRight h.clock h.zones → (place : ℕ) → IfSome (slice_get h.zones place) (ZoneFits h place)
zones_fit h right place =
    IfSome_then (slice_get h.zones place) (right.stand place) (λ z s. record { name = s.name; keg = s.keg; bucket = s.bucket; limit = s.limit; kind = s.kind })

names_fit : (h : Head) → NamesRight h.clock h.zones h.names → IfSome h.names (NamesFits h)
names_fit h right =
    IfSome_then h.names right (λ n s. record { name = s.read.name; clock = s.clocked; rows = s.read.rows; slabs = s.read.slabs; bucket = s.read.bucket })

-- the names of these zones, that of the names line last
abbrev all_called : List ZoneHead → Option NamesHead → List (List ℕ)
all_called zones None = called zones ++ []
all_called zones (Some n) = called zones ++ n.name ∷ []

all_differ : (clock : Option ClockHead) (zones : List ZoneHead) (names : Option NamesHead) → AreRight clock zones → NamesRight clock zones names → AllPairs (λ (a b : List ℕ). a ≢ b) (all_called zones names)
all_differ clock zones None right last = subst (AllPairs (λ (a b : List ℕ). a ≢ b)) (sym (append-nil (called zones))) right.differ
all_differ clock zones (Some n) right last = last.differ

all_few : (clock : Option ClockHead) (zones : List ZoneHead) (names : Option NamesHead) → AreRight clock zones → NamesRight clock zones names → length (all_called zones names) ≤ 16
all_few clock zones None right last =
    let few : length zones ≤ 16 = right.few in omega (arith, length-map zones (λ (z : ZoneHead). z.name), ap length (append-nil (called zones)))
all_few clock zones (Some n) right last =
    let few : length zones < 16 = last.few in omega (arith, length-map zones (λ (z : ZoneHead). z.name), length_push (called zones) n.name)

zone_names_are : (h : Head) (names : Option NamesHead) → h.names ≡ names → zone_names h ≡ all_called h.zones names
zone_names_are h None e = rw e refl
zone_names_are h (Some n) e = rw e refl

-- from the `domains` line on the header is valid behind each line
pub fits_from_holds : (before : List ParsedLine) → HeadHolds before → 3 ≤ rank (last_stage before) → HeadFits (head_of before)
fits_from_holds before holds late =
    let h : Head = head_of before in
    let names : zone_names h ≡ all_called (zones_of before) (names_of before) = zone_names_are h (names_of before) refl in
    record {
      workers = holds.workers (omega arith);
      domains = holds.domains late;
      clock = holds.clock;
      zones = zones_fit h holds.zones;
      names = names_fit h holds.names;
      names_differ = subst (AllPairs (λ (a b : List ℕ). a ≢ b)) (sym names) (all_differ (clock_of before) (zones_of before) (names_of before) holds.zones holds.names);
      most_zones = subst (λ (xs : List (List ℕ)). length xs ≤ 16) (sym names) (all_few (clock_of before) (zones_of before) (names_of before) holds.zones holds.names);
      most_of_a_keg = λ place within. holds.zones.shared place;
    }

pub head_fits : (before : List ParsedLine) → Told before → last_stage before ≡ stages.End → HeadFits (head_of before)
head_fits before told ended =
    let last : rank (last_stage before) ≡ 10 = ap rank ended in fits_from_holds before (head_holds before told) (omega arith)
