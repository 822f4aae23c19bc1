-- From the report of the zones of the zone lines to the whole one, with the zone of the names behind them.
use Rattle.std.proofs.Common.{◌≡◌, ℕ, zero, suc, ◌+◌, ◌<◌, ◌≤◌, inl, inr, List, [], ◌∷◌, ◌++◌, cond, length, map, Option, None, Some, refl, sym, ap, ◌∙◌, subst, arith, append-nil, length-append}
use Rattle.std.proofs.lemmas.List.{map-append}
use Rattle.std.proofs.lemmas.Option.{slice_get_within, get_or_from_slice_get}
use Rattle.std.specs.Prelude.{◌==◌, IfSome, slice_get}
use Rattle.std.specs.Option.{option_map_or}
use Rattle.trace_text.specs.declared.trace.NamesHead.{NamesHead}
use Rattle.trace_text.specs.declared.trace.ZoneHead.{ZoneHead}
use Rattle.trace_text.specs.declared.trace.Trace.{Trace}
use Rattle.trace_text.specs.Lines.{lines_of}
use Rattle.zone_stats.specs.declared.ledger.SeatLedger.{SeatLedger}
use Rattle.zone_stats.specs.declared.report.ClockLine.{ClockLine}
use Rattle.zone_stats.specs.declared.report.HookLine.{HookLine}
use Rattle.zone_stats.specs.declared.report.KegLine.{KegLine}
use Rattle.zone_stats.specs.declared.report.NamesLine.{NamesLine}
use Rattle.zone_stats.specs.declared.report.Report.{Report}
use Rattle.zone_stats.specs.declared.report.ZoneLine.{ZoneLine}
use Rattle.zone_stats.specs.Line.{total_allocs, total_fails}
use Rattle.replay_rounds.specs.Kegs.{keg_place, primaries}
use Rattle.uma_replay.specs.declared.names.NamesPart.{NamesPart}
use Rattle.uma_replay.specs.Counting.{entry_zone, is_bind, is_look, is_unbind, kind_count, report_zones}
use Rattle.uma_replay.specs.Limits.{last_limit}
use Rattle.uma_replay.specs.Names.{with_names}
use Rattle.uma_replay.specs.Report.{FreesFit, IsLineOf, KegAddsUp, LinksFew, NamesLineFits, NamesLineStands, StandsFor, UsesAreBuilt, ZoneLedgersFit, head_title, items_of_keg, ledgers_at, line_title}
use Rattle.uma_replay.proofs.PlainStands.{StandsPlain, if_at, if_some, some_at}
use Rattle.uma_replay.proofs.Primaries.{primaries-own, primaries-over}
use Rattle.uma_replay.proofs.Pushed.{at_end}

-- ---- a list with one entry more

get-front : {A : Type 0} (xs : List A) (y : A) (z : ℕ) → z < length xs → slice_get (xs ++ y ∷ []) z ≡ slice_get xs z
get-front [] y z below = absurd (omega arith)
get-front (x ∷ xs) y zero below = refl
get-front (x ∷ xs) y (suc z) below = get-front xs y z (omega arith)

get-last : {A : Type 0} (xs : List A) (y : A) → slice_get (xs ++ y ∷ []) (length xs) ≡ Some y
get-last [] y = refl
get-last (x ∷ xs) y = get-last xs y

get-at : {A : Type 0} (xs : List A) (y : A) (z : ℕ) → z ≡ length xs → slice_get (xs ++ y ∷ []) z ≡ Some y
get-at xs y z is = ap (slice_get (xs ++ y ∷ [])) is ∙ get-last xs y

-- what holds of each entry and of the last one
each-last : {A : Type 0} (P : ℕ → A → Type 0) (xs : List A) (y : A) → ((z : ℕ) (x : A) → slice_get xs z ≡ Some x → P z x) → P (length xs) y → (z : ℕ) → IfSome (slice_get (xs ++ y ∷ []) z) (P z)
each-last P xs y each last z = if_some (slice_get (xs ++ y ∷ []) z) (P z) (λ x at. elim (at_end xs y z x at) [
  | inl before ↦ each z x before
  | inr here ↦
      let Q : ℕ → Type 0 = λ n. P n x in
      let R : _ → Type 0 = λ v. P (length xs) v in
      subst Q (sym here.0) (subst R (sym here.1) last)
])

both-last : {A : Type 0} (xs ys : List A) (x y : A) → xs ≡ ys → x ≡ y → xs ++ x ∷ [] ≡ ys ++ y ∷ []
both-last xs ys x y same last = ap (λ list. list ++ x ∷ []) same ∙ ap (λ one. ys ++ one ∷ []) last

images-last : {X Y Z : Type 0} (f : X → Z) (g : Y → Z) (xs : List X) (ys : List Y) (x : X) (y : Y) → map f xs ≡ map g ys → f x ≡ g y → map f (xs ++ x ∷ []) ≡ map g (ys ++ y ∷ [])
images-last f g xs ys x y same last = map-append f xs (x ∷ []) ∙ (both-last (map f xs) (map g ys) (f x) (g y) same last ∙ sym (map-append g ys (y ∷ [])))

counts-last : {X Y : Type 0} (xs : List X) (ys : List Y) (x : X) (y : Y) → length xs ≡ length ys → length (xs ++ x ∷ []) ≡ length (ys ++ y ∷ [])
counts-last xs ys x y same = length-append xs (x ∷ []) ∙ (ap (λ n. n + 1) same ∙ sym (length-append ys (y ∷ [])))

-- ---- the zones with one more that has a keg of its own

place_same : (z n : ℕ) → z + 1 + n ≡ z + suc n
place_same z n = omega arith

place_first : (z : ℕ) → z ≡ z + 0
place_first z = omega arith

last-first : (first : ZoneHead) (heads : List ZoneHead) (z : ℕ) (last : ZoneHead) (o : Option ℕ) → first.parent ≡ o → primaries (heads ++ last ∷ []) (z + 1) ≡ primaries heads (z + 1) ++ (z + 1 + length heads, last) ∷ []
    → primaries (first ∷ (heads ++ last ∷ [])) z ≡ primaries (first ∷ heads) z ++ (z + suc (length heads), last) ∷ []
last-first first heads z last None is rest =
    primaries-own first (heads ++ last ∷ []) z is ∙ (ap (λ list. (z, first) ∷ list) rest ∙ (ap (λ n. ((z, first) ∷ primaries heads (z + 1)) ++ (n, last) ∷ []) (place_same z (length heads))
    ∙ ap (λ list. list ++ (z + suc (length heads), last) ∷ []) (sym (primaries-own first heads z is))))
last-first first heads z last (Some q) is rest =
    primaries-over first (heads ++ last ∷ []) z q is ∙ (rest ∙ (ap (λ n. primaries heads (z + 1) ++ (n, last) ∷ []) (place_same z (length heads))
    ∙ ap (λ list. list ++ (z + suc (length heads), last) ∷ []) (sym (primaries-over first heads z q is))))

primaries-last : (heads : List ZoneHead) (z : ℕ) (last : ZoneHead) → last.parent ≡ None → primaries (heads ++ last ∷ []) z ≡ primaries heads z ++ (z + length heads, last) ∷ []
primaries-last [] z last own = primaries-own last [] z own ∙ ap (λ n. (n, last) ∷ []) (place_first z)
primaries-last (first ∷ heads) z last own = last-first first heads z last first.parent refl (primaries-last heads (z + 1) last own)

-- a line behind those of the zone lines has nothing of their kegs
items-front : (keg z : ℕ) (heads : List ZoneHead) (lines : List ZoneLine) (more : ZoneLine) → length lines ≡ length heads → items_of_keg keg z heads (lines ++ more ∷ []) ≡ items_of_keg keg z heads lines
items-front keg z [] [] more same = refl
items-front keg z [] (line ∷ lines) more same = absurd (omega arith)
items-front keg z (head ∷ heads) [] more same = absurd (omega arith)
items-front keg z (head ∷ heads) (line ∷ lines) more same =
    ap (λ n. cond (keg_place z head == keg) (line.used + line.free) 0 + n) (items-front keg (z + 1) heads lines more (omega arith))

-- ---- what is known of the zone of the names

pub record NamesEnds (t : Trace) (n : NamesHead) (part : NamesPart) (clock : Option ClockLine) : Type 0 where
  pub fit : ZoneLedgersFit t (length t.head.zones) (entry_zone n) part.ledgers
  pub line : IsLineOf (last_limit (lines_of t.rounds) (length t.head.zones) (entry_zone n)) (entry_zone n) part.ledgers part.line
  pub titled : line_title part.line ≡ head_title (entry_zone n)
  pub hooks_named : part.hooks.name ≡ n.name
  pub keg_named : part.keg.name ≡ n.name
  pub linked : LinksFew n.rows part.hooks
  pub looks : part.counts.looks ≡ kind_count is_look t
  pub answered : part.counts.looks ≡ part.counts.hits + part.counts.misses + part.counts.late
  pub late : IfSome clock (λ clock. part.counts.late ≤ clock.late)
  pub binds : part.counts.binds + part.counts.refused ≡ kind_count is_bind t
  pub unbound : part.counts.unbound ≤ kind_count is_unbind t
  pub refused : total_fails part.ledgers ≤ part.counts.refused
  pub by_entries : part.counts.binds ≤ total_allocs part.ledgers

-- ---- the ledgers

front_ledgers : (first : Report) (part : NamesPart) (z : ℕ) → z < length first.ledgers → ledgers_at (with_names first part) z ≡ ledgers_at first z
front_ledgers first part z below =
    let found = some_at first.ledgers z below in
    get_or_from_slice_get (first.ledgers ++ part.ledgers ∷ []) z found.0 [] (get-front first.ledgers part.ledgers z below ∙ found.1)
    ∙ sym (get_or_from_slice_get first.ledgers z found.0 [] found.1)

last_ledgers : (first : Report) (part : NamesPart) (z : ℕ) → z ≡ length first.ledgers → ledgers_at (with_names first part) z ≡ part.ledgers
last_ledgers first part z is = get_or_from_slice_get (first.ledgers ++ part.ledgers ∷ []) z part.ledgers [] (get-at first.ledgers part.ledgers z is)

below_same : (z a b : ℕ) → z < a → b ≡ a → z < b
below_same z a b below same = omega arith

weaker : {A : Type 0} (o : Option A) (P Q : A → Type 0) → ((a : A) → P a → Q a) → IfSome o P → IfSome o Q
weaker None P Q each holds = tt
weaker (Some a) P Q each holds = each a holds

limit_told : (o : Option ZoneLine) (limit : ℕ) (head : ZoneHead) (ledgers : List SeatLedger) → IfSome o (IsLineOf limit head ledgers) → IfSome o (λ line. line.limit ≡ limit)
limit_told o limit head ledgers are = weaker o (IsLineOf limit head ledgers) (λ line. line.limit ≡ limit) (λ line is. ap (λ (l : ZoneLine). l.limit) is.3) are

-- each line shows the limit that it is the line of
limits_told : (t : Trace) (zones : List ZoneHead) (report : Report) → ((z : ℕ) → IfSome (slice_get zones z) (λ head. IfSome (slice_get report.lines z) (IsLineOf (last_limit (lines_of t.rounds) z head) head (ledgers_at report z))))
    → (z : ℕ) → IfSome (slice_get zones z) (λ head. IfSome (slice_get report.lines z) (λ line. line.limit ≡ last_limit (lines_of t.rounds) z head))
limits_told t zones report lines z =
    weaker (slice_get zones z) (λ head. IfSome (slice_get report.lines z) (IsLineOf (last_limit (lines_of t.rounds) z head) head (ledgers_at report z)))
    (λ head. IfSome (slice_get report.lines z) (λ line. line.limit ≡ last_limit (lines_of t.rounds) z head))
    (λ head. limit_told (slice_get report.lines z) (last_limit (lines_of t.rounds) z head) head (ledgers_at report z)) (lines z)

-- ---- the whole report

module _ (t : Trace) (first : Report) (plain : StandsPlain t first) where
  -- a trace without names
  pub stands_unnamed : t.head.names ≡ None → first.names ≡ None → StandsFor t first
  stands_unnamed is none =
      let heads = t.head.zones in
      let are : report_zones t.head ≡ heads = ap (λ o. heads ++ option_map_or (λ n. entry_zone n ∷ []) o []) is ∙ append-nil heads in
      let P : List ZoneHead → Type 0 = λ zs. (z : ℕ) → IfSome (slice_get zs z) (λ head. ZoneLedgersFit t z head (ledgers_at first z)) in
      let Q : List ZoneHead → Type 0 = λ zs. (z : ℕ) → IfSome (slice_get zs z) (λ head. IfSome (slice_get first.lines z) (IsLineOf (last_limit (lines_of t.rounds) z head) head (ledgers_at first z))) in
      let A : Option NamesHead → Type 0 = λ o. NamesLineFits t first o first.names in
      let B : Option NamesLine → Type 0 = λ o. NamesLineFits t first None o in
      let all_lines = subst Q (sym are) (λ z. if_some (slice_get heads z) (λ head. IfSome (slice_get first.lines z) (IsLineOf (last_limit (lines_of t.rounds) z head) head (ledgers_at first z))) (plain.lines z)) in
      record {
        zones = plain.zones ∙ ap (map head_title) (sym are);
        ledger_count = plain.ledger_count ∙ ap length (sym are);
        ledgers = subst P (sym are) (λ z. if_some (slice_get heads z) (λ head. ZoneLedgersFit t z head (ledgers_at first z)) (plain.ledgers z));
        frees = plain.frees;
        limits = limits_told t (report_zones t.head) first all_lines;
        lines = all_lines;
        hook_names = plain.hook_names ∙ ap (map (λ (head : ZoneHead). head.name)) (sym are);
        keg_names = plain.keg_names ∙ ap (λ zs. map (λ (place, head). head.name) (primaries zs 0)) (sym are);
        detail = plain.detail;
        kegs = λ k. if_some (slice_get (primaries heads 0) k) (λ primary. IfSome (slice_get first.kegs k) (KegAddsUp t first primary)) (λ (p, head) at. plain.kegs k p head at);
        uses = plain.uses;
        clock = plain.clock;
        names = subst A (sym is) (subst B (sym none) tt);
      }

-- a trace with names
module _ (t : Trace) (first : Report) (plain : StandsPlain t first) (n : NamesHead) (part : NamesPart) (is : t.head.names ≡ Some n) (ends : NamesEnds t n part first.clock) where
  abbrev heads : List ZoneHead
  heads = t.head.zones

  abbrev report : Report
  report = with_names first part

  are : report_zones t.head ≡ heads ++ entry_zone n ∷ []
  are = ap (λ o. heads ++ option_map_or (λ n. entry_zone n ∷ []) o []) is

  in_front : (z : ℕ) → z < length heads → ledgers_at report z ≡ ledgers_at first z
  in_front z below = front_ledgers first part z (below_same z (length heads) (length first.ledgers) below plain.ledger_count)

  at_last : ledgers_at report (length heads) ≡ part.ledgers
  at_last = last_ledgers first part (length heads) (sym plain.ledger_count)

  names_fit : (z : ℕ) → IfSome (slice_get (heads ++ entry_zone n ∷ []) z) (λ head. ZoneLedgersFit t z head (ledgers_at report z))
  names_fit = each-last (λ z head. ZoneLedgersFit t z head (ledgers_at report z)) heads (entry_zone n)
      (λ z head at. let P : List SeatLedger → Type 0 = λ ls. ZoneLedgersFit t z head ls in
      subst P (sym (in_front z (slice_get_within heads z head at))) (plain.ledgers z head at))
      (let P : List SeatLedger → Type 0 = λ ls. ZoneLedgersFit t (length heads) (entry_zone n) ls in subst P (sym at_last) ends.fit)

  front_line : (z : ℕ) (head : ZoneHead) → slice_get heads z ≡ Some head → IfSome (slice_get report.lines z) (IsLineOf (last_limit (lines_of t.rounds) z head) head (ledgers_at report z))
  front_line z head at =
      let below : z < length heads = slice_get_within heads z head at in
      let P : List SeatLedger → Type 0 = λ ls. IfSome (slice_get report.lines z) (IsLineOf (last_limit (lines_of t.rounds) z head) head ls) in
      let Q : Option ZoneLine → Type 0 = λ o. IfSome o (IsLineOf (last_limit (lines_of t.rounds) z head) head (ledgers_at first z)) in
      subst P (sym (in_front z below))
      (subst Q (sym (get-front first.lines part.line z (below_same z (length heads) (length first.lines) below plain.line_count))) (plain.lines z head at))

  last_line : IfSome (slice_get report.lines (length heads)) (IsLineOf (last_limit (lines_of t.rounds) (length heads) (entry_zone n)) (entry_zone n) (ledgers_at report (length heads)))
  last_line =
      let P : List SeatLedger → Type 0 = λ ls. IfSome (slice_get report.lines (length heads)) (IsLineOf (last_limit (lines_of t.rounds) (length heads) (entry_zone n)) (entry_zone n) ls) in
      subst P (sym at_last) (if_at (slice_get report.lines (length heads)) (IsLineOf (last_limit (lines_of t.rounds) (length heads) (entry_zone n)) (entry_zone n) part.ledgers) part.line (get-at first.lines part.line (length heads) (sym plain.line_count)) ends.line)

  keg_sums : (k p : ℕ) (head : ZoneHead) → slice_get (primaries heads 0) k ≡ Some (p, head) → IfSome (slice_get report.kegs k) (KegAddsUp t report (p, head))
  keg_sums k p head at =
      let below : k < length first.kegs = below_same k (length (primaries heads 0)) (length first.kegs) (slice_get_within (primaries heads 0) k (p, head) at) plain.keg_count in
      let P : Option KegLine → Type 0 = λ o. IfSome o (KegAddsUp t report (p, head)) in
      subst P (sym (get-front first.kegs part.keg k below))
      (weaker (slice_get first.kegs k) (KegAddsUp t first (p, head)) (KegAddsUp t report (p, head)) (λ line sum. items-front p 0 heads first.lines part.line plain.line_count ∙ sum) (plain.kegs k p head at))

  front_uses : (z : ℕ) → z < length heads → IfSome (slice_get report.lines z) (λ line. IfSome (slice_get report.hooks z) (UsesAreBuilt line))
  front_uses z below =
      let P : Option ZoneLine → Type 0 = λ o. IfSome o (λ line. IfSome (slice_get report.hooks z) (UsesAreBuilt line)) in
      let Q : Option HookLine → Type 0 = λ o. IfSome (slice_get first.lines z) (λ line. IfSome o (UsesAreBuilt line)) in
      subst P (sym (get-front first.lines part.line z (below_same z (length heads) (length first.lines) below plain.line_count)))
      (subst Q (sym (get-front first.hooks part.hooks z (below_same z (length heads) (length first.hooks) below plain.hook_count))) (plain.uses z below))

  names_line : NamesLineStands t report n part.counts
  names_line = record {
    looks = ends.looks;
    answered = ends.answered;
    late = ends.late;
    binds = ends.binds;
    unbound = ends.unbound;
    refused = let P : List SeatLedger → Type 0 = λ ls. total_fails ls ≤ part.counts.refused in subst P (sym at_last) ends.refused;
    by_entries = let P : List SeatLedger → Type 0 = λ ls. part.counts.binds ≤ total_allocs ls in subst P (sym at_last) ends.by_entries;
    linked = if_at (slice_get report.hooks (length heads)) (LinksFew n.rows) part.hooks (get-at first.hooks part.hooks (length heads) (sym plain.hook_count)) ends.linked;
  }

  pub stands_named : StandsFor t report
  stands_named =
      let entry = entry_zone n in
      let P : List ZoneHead → Type 0 = λ zs. (z : ℕ) → IfSome (slice_get zs z) (λ head. ZoneLedgersFit t z head (ledgers_at report z)) in
      let Q : List ZoneHead → Type 0 = λ zs. (z : ℕ) → IfSome (slice_get zs z) (λ head. IfSome (slice_get report.lines z) (IsLineOf (last_limit (lines_of t.rounds) z head) head (ledgers_at report z))) in
      let A : Option NamesHead → Type 0 = λ o. NamesLineFits t report o (Some part.counts) in
      let all_lines = subst Q (sym are) (each-last (λ z head. IfSome (slice_get report.lines z) (IsLineOf (last_limit (lines_of t.rounds) z head) head (ledgers_at report z))) heads entry front_line last_line) in
      record {
        zones = images-last line_title head_title first.lines heads part.line entry plain.zones ends.titled ∙ ap (map head_title) (sym are);
        ledger_count = counts-last first.ledgers heads part.ledgers entry plain.ledger_count ∙ ap length (sym are);
        ledgers = subst P (sym are) names_fit;
        frees = λ z below. let F : List SeatLedger → Type 0 = λ ls. FreesFit t z ls in subst F (sym (in_front z below)) (plain.frees z below);
        limits = limits_told t (report_zones t.head) report all_lines;
        lines = all_lines;
        hook_names = images-last (λ (line : HookLine). line.name) (λ (head : ZoneHead). head.name) first.hooks heads part.hooks entry plain.hook_names ends.hooks_named ∙ ap (map (λ (head : ZoneHead). head.name)) (sym are);
        keg_names = images-last (λ (line : KegLine). line.name) (λ (place, head). head.name) first.kegs (primaries heads 0) part.keg (0 + length heads, entry) plain.keg_names ends.keg_named
            ∙ ap (map (λ (place, head). head.name)) (sym (primaries-last heads 0 entry refl)) ∙ ap (λ zs. map (λ (place, head). head.name) (primaries zs 0)) (sym are);
        detail = plain.detail;
        kegs = λ k. if_some (slice_get (primaries heads 0) k) (λ primary. IfSome (slice_get report.kegs k) (KegAddsUp t report primary)) (λ (p, head) at. keg_sums k p head at);
        uses = front_uses;
        clock = plain.clock;
        names = subst A (sym is) names_line;
      }
