-- The rows of the zones of a valid header: each says its zone, and conflicts with none before it.
use Rattle.std.proofs.Common.{◌≡◌, ℕ, ◌+◌, ◌<◌, ◌≤◌, Bool, true, false, cond, eqb, leb, List, [], ◌∷◌, ◌++◌, length, get_or, map, Option, Some, None, refl, sym, ap, subst, ◌∙◌, arith, append_assoc}
use Rattle.std.specs.Prelude.{All, ◌&&◌, not, is_some, IfSome, count_by, slice_get}
use Rattle.std.specs.List.{sum_by}
use Rattle.std.specs.Option.{option_map_or}
use Rattle.std.proofs.lemmas.Bool.{lt-leb, eq-eqb}
use Rattle.std.proofs.lemmas.List.{append-nil, length-append, length-map, get_or_at}
use Rattle.std.proofs.lemmas.List.Sums.{sum_by-append, sum_by-cons}
use Rattle.std.proofs.lemmas.Option.{slice_get-get_or}
use Rattle.trace_text.specs.declared.trace.ClockHead.{ClockHead}
use Rattle.trace_text.specs.declared.trace.Head.{Head}
use Rattle.trace_text.specs.declared.trace.NamesHead.{NamesHead}
use Rattle.trace_text.specs.declared.trace.ZoneHead.{ZoneHead}
use Rattle.trace_text.specs.declared.trace.ZoneKind.{ZoneKind}
use Rattle.trace_text.specs.declared.trace.ZoneKind.TheVariants.{Plain, Smr}
use Rattle.trace_text.specs.declared.trace_reading.parsed_line.ParsedLine.{ParsedLine}
use Rattle.trace_text.specs.declared.trace_reading.parsed_line.ParsedLine.TheVariants as parsed
use Rattle.trace_print.specs.CanonicalText.{zone_fields}
use Rattle.trace_text.specs.NamedZones.{zone_name}
use Rattle.trace_text.specs.Grammar.{last_stage, version_of, workers_of, done, is_smr, zone_named, primary_named, second_zone}
use Rattle.trace_text.specs.Lines.{Line}
use Rattle.trace_text.specs.Valid.{ZoneFits, NamesFits, KegFits, KindFits, SecondaryFits, HeadFits, IsKnown, LinesFit, sharer_count}
use Rattle.trace_print.proofs.CanonicalRows.{names_rows}
use Rattle.trace_print.proofs.RowParsed.{parsed_zone, zone_row_says, parsed_names, names_row_says, zones_are_named}
use Rattle.trace_text.proofs.HeadZones.{called, slice_get_front}
use Rattle.trace_text.proofs.RowZones.{Differ, nowhere, primary_found_in_front, zone_not_named_yet, names_not_named_yet, zones_differ}
use Rattle.trace_print.proofs.TraceRebuilt.{Stands, Applies, Adds, part, applies_nothing, applies_append, stands_within, may_stand, next_line}

-- ---- a zone behind the first ones

pub zone_inside : (zones front more : List ZoneHead) (z : ZoneHead) → zones ≡ front ++ z ∷ more → length front < length zones
zone_inside zones front more z e = omega (arith, ap length e, length-append front (z ∷ more))

here_is : (front more : List ZoneHead) (z : ZoneHead) → slice_get (front ++ z ∷ more) (length front) ≡ Some z
here_is front more z =
    slice_get-get_or (front ++ z ∷ more) (length front) nowhere (zone_inside (front ++ z ∷ more) front more z refl)
    ∙ ap (λ (h : ZoneHead). Some h) (get_or_at front z more nowhere (length front) refl)

pub zone_at : (h : Head) (front more : List ZoneHead) (z : ZoneHead) → HeadFits h → h.zones ≡ front ++ z ∷ more → ZoneFits h (length front) z
zone_at h front more z fits e =
    let at : slice_get h.zones (length front) ≡ Some z = ap (λ (zs : List ZoneHead). slice_get zs (length front)) e ∙ here_is front more z in
    let P : Option ZoneHead → Type 0 = λ o. IfSome o (ZoneFits h (length front)) in
    subst P at (fits.zones (length front))

-- a header has at most sixteen zones
pub zones_are_few : (h : Head) → HeadFits h → length h.zones ≤ 16
zones_are_few h fits =
    omega (arith, fits.most_zones, length-append (map (λ (z : ZoneHead). z.name) h.zones) (option_map_or (λ n. n.name ∷ []) h.names []), length-map h.zones (λ (z : ZoneHead). z.name))

-- an SMR zone has its clock
kind_is_clear : (clock : Option ClockHead) (k : ZoneKind) → KindFits clock k → (is_smr k && not (is_some clock)) ≡ false
kind_is_clear clock Plain fits = refl
kind_is_clear clock Smr fits = rw fits refl

-- the front has fewer zones that pass than the front with one of them behind it
front_counts_less : (passes : ZoneHead → Bool) (front more : List ZoneHead) (z : ZoneHead) → passes z ≡ true → count_by passes front < count_by passes (front ++ z ∷ more)
front_counts_less passes front more z here =
    let one : ZoneHead → ℕ = λ x. cond (passes x) 1 0 in
    let whole : sum_by one (front ++ z ∷ more) ≡ sum_by one front + sum_by one (z ∷ more) = sum_by-append one front (z ∷ more) in
    let next : sum_by one (z ∷ more) ≡ one z + sum_by one more = sum_by-cons one z more in
    let first : one z ≡ 1 = rw here refl in
    omega arith

-- fewer than seven of the first zones share the keg that the next one shares
keg_has_room : (h : Head) (front more : List ZoneHead) (z : ZoneHead) (p : ℕ) → HeadFits h → h.zones ≡ front ++ z ∷ more → z.parent ≡ Some p → p < length h.zones → sharer_count front p < 7
keg_has_room h front more z p fits e is inside =
    let shares : ZoneHead → Bool = λ x. option_map_or (λ (parent : ℕ). eqb parent p) x.parent false in
    let here : shares z ≡ true = ap (λ (o : Option ℕ). option_map_or (λ (parent : ℕ). eqb parent p) o false) is ∙ eq-eqb p p refl in
    let less : count_by shares front < count_by shares (front ++ z ∷ more) = front_counts_less shares front more z here in
    let all : count_by shares h.zones < 8 = fits.most_of_a_keg p inside in
    let same : count_by shares h.zones ≡ count_by shares (front ++ z ∷ more) = ap (count_by shares) e in
    omega arith

-- ---- a secondary zone

-- the primary zone that a secondary one stands over, among the first zones
record StandsOver (front : List ZoneHead) (p : ℕ) (name : List ℕ) (z primary : ZoneHead) : Type 0 where
  at : slice_get front p ≡ Some primary
  found : primary_named front name ≡ Some p
  size : z.size ≡ primary.size
  slabs : z.slabs ≡ primary.slabs
  reserve : z.reserve ≡ primary.reserve

stands_over : (h : Head) (front more : List ZoneHead) (z : ZoneHead) (p : ℕ) → HeadFits h → h.zones ≡ front ++ z ∷ more → SecondaryFits h.zones (length front) p z
    → StandsOver front p (zone_name h.zones p) z (get_or h.zones p nowhere)
stands_over h front more z p fits e keg =
    let primary : ZoneHead = get_or h.zones p nowhere in
    let inside : p < length h.zones = omega (arith, keg.earlier, zone_inside h.zones front more z e) in
    let is : slice_get h.zones p ≡ Some primary = slice_get-get_or h.zones p nowhere inside in
    let P : Option ZoneHead → Type 0 = λ o. IfSome o (λ (q : ZoneHead). (q.parent ≡ None) × (z.size ≡ q.size) × (z.slabs ≡ q.slabs) × (z.reserve ≡ q.reserve)) in
    let shares = subst P is keg.shares in
    let differ : Differ (called (front ++ z ∷ more)) = subst (λ (zs : List ZoneHead). Differ (called zs)) e (zones_differ h fits.names_differ) in
    let there : slice_get (front ++ z ∷ more) p ≡ Some primary = subst (λ (zs : List ZoneHead). slice_get zs p ≡ Some primary) e is in
    let found : primary_named front (zone_name (front ++ z ∷ more) p) ≡ Some p = primary_found_in_front front (z ∷ more) p primary differ keg.earlier there shares.0 in
    record {
      at = sym (slice_get_front front (z ∷ more) p keg.earlier) ∙ there;
      found = subst (λ (zs : List ZoneHead). primary_named front (zone_name zs p) ≡ Some p) (sym e) found;
      size = shares.1;
      slabs = shares.2;
      reserve = shares.3;
    }

-- what it takes from there makes it whole
second_is : (front : List ZoneHead) (p : ℕ) (name : List ℕ) (z primary : ZoneHead) → StandsOver front p name z primary → z.parent ≡ Some p
    → second_zone (primary_named front name) front (record { name = z.name; of = name; bucket = z.bucket; limit = z.limit; kind = z.kind }) ≡ z ∷ []
second_is front p name z primary over is =
    let made : Option ℕ → ℕ → ℕ → ℕ → List ZoneHead = λ parent size slabs reserve. record { name = z.name; parent = parent; size = size; slabs = slabs; bucket = z.bucket; limit = z.limit; reserve = reserve; kind = z.kind } ∷ [] in
    rw (over.found, over.at)
    (ap (λ (o : Option ℕ). made o primary.size primary.slabs primary.reserve) (sym is)
    ∙ ap (λ (n : ℕ). made z.parent n primary.slabs primary.reserve) (sym over.size)
    ∙ ap (λ (n : ℕ). made z.parent z.size n primary.reserve) (sym over.slabs)
    ∙ ap (λ (n : ℕ). made z.parent z.size z.slabs n) (sym over.reserve))

-- ---- a zone's row

-- the next zone's name is new
name_is_new : (h : Head) (front more : List ZoneHead) (z : ZoneHead) → HeadFits h → h.zones ≡ front ++ z ∷ more → is_some (zone_named front z.name) ≡ false
name_is_new h front more z fits e =
    let differ : Differ (called (front ++ z ∷ more)) = subst (λ (zs : List ZoneHead). Differ (called zs)) e (zones_differ h fits.names_differ) in
    ap (λ (o : Option ℕ). is_some o) (zone_not_named_yet front z more differ)

zone_adds : (h : Head) (front more : List ZoneHead) (z : ZoneHead) (parent : Option ℕ) (before : List ParsedLine) (rest : List Line) → HeadFits h → h.zones ≡ front ++ z ∷ more
    → z.parent ≡ parent → KegFits h.zones (length front) parent z → LinesFit (done before) rest → All (IsKnown (version_of before)) rest
    → Adds before (parsed_zone h.zones parent z) (part h h.clock h.detail front None) (part h h.clock h.detail (front ++ z ∷ []) None) [] rest 3 6
zone_adds h front more z None before rest fits e is keg fit known =
    let zone = zone_at h front more z fits e in
    let room : length front < 16 = omega (arith, zone_inside h.zones front more z e, zones_are_few h fits) in
    record {
      clear = record {
        clock = kind_is_clear h.clock z.kind zone.kind;
        names = refl;
        name = name_is_new h front more z fits e;
        zone = refl;
        most = lt-leb 16 (length front) room;
        filled = refl;
        empty = refl;
        opened = refl;
        closed = refl;
        away = refl;
        there = refl;
      };
      head_is = refl;
      entry_is = refl;
      fit = fit;
      known = known;
      above = omega arith;
      below = omega arith;
    }
zone_adds h front more z (Some p) before rest fits e is keg fit known =
    let zone = zone_at h front more z fits e in
    let inside : length front < length h.zones = zone_inside h.zones front more z e in
    let room : length front < 16 = omega (arith, zones_are_few h fits) in
    let earlier : p < length h.zones = omega (arith, keg.earlier) in
    let over = stands_over h front more z p fits e keg in
    let count : leb 7 (sharer_count front p) ≡ false = lt-leb 7 (sharer_count front p) (keg_has_room h front more z p fits e is earlier) in
    record {
      clear = record {
        clock = kind_is_clear h.clock z.kind zone.kind;
        names = refl;
        name = name_is_new h front more z fits e;
        zone = rw over.found refl;
        most = rw (lt-leb 16 (length front) room, over.found, count) refl;
        filled = refl;
        empty = refl;
        opened = refl;
        closed = refl;
        away = refl;
        there = refl;
      };
      head_is = ap (λ (zs : List ZoneHead). part h h.clock h.detail (front ++ zs) None) (second_is front p (zone_name h.zones p) z (get_or h.zones p nowhere) over is);
      entry_is = refl;
      fit = fit;
      known = known;
      above = omega arith;
      below = omega arith;
    }

zone_step : (h : Head) (front more : List ZoneHead) (z : ZoneHead) (before : List ParsedLine) (rest : List Line) → HeadFits h → h.zones ≡ front ++ z ∷ more
    → Stands before (part h h.clock h.detail front None) [] rest 3 6
    → Applies before (zone_fields h.zones z.parent z ∷ []) (parsed_zone h.zones z.parent z ∷ []) (part h h.clock h.detail (front ++ z ∷ []) None) [] rest 3 6
zone_step h front more z before rest fits e stands =
    let zone = zone_at h front more z fits e in
    let follows = may_stand 3 6 (omega arith) (omega arith) stands in
    next_line (zone_fields h.zones z.parent z) (parsed_zone h.zones z.parent z) stands
    (zone_row_says (version_of before) (last_stage before) (workers_of before) h (length front) z follows (zones_are_named h fits) (zone_inside h.zones front more z e) zone)
    (zone_adds h front more z z.parent before rest fits e refl zone.keg stands.fit stands.known)

-- ---- the rows of all zones, behind the first ones

pub zones_step : (h : Head) (front more : List ZoneHead) (before : List ParsedLine) (rest : List Line) → HeadFits h → h.zones ≡ front ++ more
    → Stands before (part h h.clock h.detail front None) [] rest 3 6
    → Applies before (map (λ (z : ZoneHead). zone_fields h.zones z.parent z) more) (map (λ (z : ZoneHead). parsed_zone h.zones z.parent z) more) (part h h.clock h.detail h.zones None) [] rest 3 6
zones_step h front [] before rest fits e stands =
    let same : front ≡ h.zones = sym (e ∙ append-nil front) in
    applies_nothing (subst (λ (zs : List ZoneHead). Stands before (part h h.clock h.detail zs None) [] rest 3 6) same stands)
zones_step h front (z ∷ more) before rest fits e stands =
    let first = zone_step h front more z before rest fits e stands in
    let next : List ZoneHead = front ++ z ∷ [] in
    let split : h.zones ≡ next ++ more = e ∙ sym (append_assoc front (z ∷ []) more) in
    applies_append first (zones_step h next more (parsed_zone h.zones z.parent z ∷ before) rest fits split first.stands)

-- ---- the row of the names

name_of_names_is_new : (h : Head) (n : NamesHead) → HeadFits h → h.names ≡ Some n → is_some (zone_named h.zones n.name) ≡ false
name_of_names_is_new h n fits is = ap (λ (o : Option ℕ). is_some o) (names_not_named_yet h n fits.names_differ is)

-- with names there is room for one zone more
names_have_room : (h : Head) (n : NamesHead) → HeadFits h → h.names ≡ Some n → length h.zones < 16
names_have_room h n fits is =
    let named : NamesHead → List (List ℕ) = λ m. m.name ∷ [] in
    let last : option_map_or named h.names [] ≡ n.name ∷ [] = ap (λ (o : Option NamesHead). option_map_or named o []) is in
    let one : length (option_map_or named h.names []) ≡ 1 = ap (λ (names : List (List ℕ)). length names) last in
    omega (arith, fits.most_zones, length-append (map (λ (z : ZoneHead). z.name) h.zones) (option_map_or named h.names []), length-map h.zones (λ (z : ZoneHead). z.name))

names_by : (h : Head) (o : Option NamesHead) (before : List ParsedLine) (rest : List Line) → HeadFits h → h.names ≡ o
    → Stands before (part h h.clock h.detail h.zones None) [] rest 3 6 → Applies before (names_rows o) (parsed_names o) (part h h.clock h.detail h.zones o) [] rest 3 9
names_by h None before rest fits is stands =
    applies_nothing (stands_within 3 9 (omega arith) (omega arith) stands)
names_by h (Some n) before rest fits is stands =
    let follows = may_stand 3 6 (omega arith) (omega arith) stands in
    let P : Option NamesHead → Type 0 = λ o. IfSome o (NamesFits h) in
    let names : NamesFits h n = subst P is fits.names in
    let clock : is_some h.clock ≡ true = names.clock in
    next_line _ (parsed.Names n) stands
    (names_row_says (version_of before) (last_stage before) (workers_of before) h n follows names)
    (record {
      clear = record {
        clock = rw clock refl;
        names = refl;
        name = name_of_names_is_new h n fits is;
        zone = refl;
        most = lt-leb 16 (length h.zones) (names_have_room h n fits is);
        filled = refl;
        empty = refl;
        opened = refl;
        closed = refl;
        away = refl;
        there = refl;
      };
      head_is = ap (λ (zs : List ZoneHead). part h h.clock h.detail zs (Some n)) (append-nil h.zones);
      entry_is = refl;
      fit = stands.fit;
      known = stands.known;
      above = omega arith;
      below = omega arith;
    })

pub names_step : (h : Head) (before : List ParsedLine) (rest : List Line) → HeadFits h
    → Stands before (part h h.clock h.detail h.zones None) [] rest 3 6 → Applies before (names_rows h.names) (parsed_names h.names) h [] rest 3 9
names_step h before rest fits stands = names_by h h.names before rest fits refl stands
