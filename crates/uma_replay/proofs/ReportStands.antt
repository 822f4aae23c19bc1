-- What a replay leaves stands for the zone lines of its trace.
use Rattle.std.proofs.Common.{◌≡◌, ℕ, zero, suc, ◌+◌, ◌*◌, ◌/◌, ◌<◌, ◌≤◌, List, [], ◌∷◌, true, false, cond, length, map, min, take, option_map, Option, None, Some, refl, sym, ap, ◌∙◌, subst, arith}
use Rattle.std.proofs.lemmas.Bool.{false≢true, true≢false, eqb-true}
use Rattle.std.proofs.lemmas.List.{length-map}
use Rattle.std.proofs.lemmas.List.Sums.{sum_by-cons}
use Rattle.std.proofs.lemmas.Option.{none-some, same_Some, slice_get_within, get_or_from_slice_get}
use Rattle.std.specs.Prelude.{All, IfSome, IsSome, is_some, slice_get, slice_index_or, sum_by}
use Rattle.std.specs.Option.{option_map_or}
use Rattle.smr_clock.specs.declared.clock.Clock.{Clock}
use Rattle.smr_clock.specs.declared.host.Host.{Ghosts}
use Rattle.smr_clock.specs.Belongs.{setup_of}
use Rattle.trace_text.specs.declared.trace.ClockHead.{ClockHead}
use Rattle.trace_text.specs.declared.trace.Head.{Head}
use Rattle.trace_text.specs.declared.trace.ZoneHead.{ZoneHead}
use Rattle.trace_text.specs.declared.trace.Trace.{Trace}
use Rattle.trace_text.specs.Lines.{Line, lines_of}
use Rattle.trace_text.specs.Valid.{IsValid, HeadFits, KegFits, ZoneFits, sharer_count}
use Rattle.uma_keg.specs.declared.census.Census.{Census}
use Rattle.uma_keg.specs.Census.{census_counts, census_out, census_outs}
use Rattle.uma_life.specs.declared.tally.TallySum.{TallySum}
use Rattle.uma_life.specs.Hook.{Ctor as CtorOf, Dtor as DtorOf}
use Rattle.uma_life.specs.Sum.{sum_of}
use Rattle.uma_life.specs.Trail.{ShowsSame}
use Rattle.uma_seat.specs.Seat.{ledger_of}
use Rattle.uma_zone.specs.Zone.{zone_index}
use Rattle.zone_stats.specs.declared.ledger.SeatLedger.{SeatLedger}
use Rattle.zone_stats.specs.declared.refusal.Refusal.{Refusal}
use Rattle.zone_stats.specs.declared.refusal.Refusal.TheVariants.{AtLimit, Reserved, Full, Init, Ctor}
use Rattle.zone_stats.specs.declared.report.ClockLine.{ClockLine}
use Rattle.zone_stats.specs.declared.report.Report.{Report}
use Rattle.zone_stats.specs.Ledger.{is_ctor}
use Rattle.zone_stats.specs.Line.{zone_line, total_allocs, total_frees}
use Rattle.replay_worker.specs.declared.worker.Held.{Held}
use Rattle.replay_worker.specs.declared.worker.Worker.{Worker}
use Rattle.replay_worker.specs.Items.{CountedSeat, CountedZone}
use Rattle.replay_worker.specs.LedgerStands.{LedgerStands}
use Rattle.replay_worker.specs.Live.{is_of, live_count}
use Rattle.replay_worker.specs.Slots.{slot_at}
use Rattle.replay_worker.specs.Stands.{NamesZone, Stands}
use Rattle.replay_worker.specs.Worker.{phase_of}
use Rattle.replay_worker.specs.Together.{AllStand, AddsUp, ledger_at, all_live, all_frees, all_allocs}
use Rattle.replay_rounds.specs.Kegs.{keg_place, index_of, per_slab, primaries}
use Rattle.replay_rounds.specs.Zones.{AreZones, IsZoneOf}
use Rattle.replay_rounds.specs.Clock.{ReadsHands}
use Rattle.replay_rounds.specs.Closes.{AllClose, KegCloses}
use Rattle.uma_replay.specs.Limits.{KeepsOneOf, last_limit, limits_had}
use Rattle.uma_replay.specs.Report.{RefusalFits, ClockLineFits}
use Rattle.uma_replay.specs.Reporting.{IsReportOf, AreLedgersOf, keg_number, hook_line, keg_line, clock_line, shown_free}
use Rattle.uma_replay.proofs.Entries.{clock_stands, sum-term}
use Rattle.uma_replay.proofs.Filled.{filled_at, filled_slots}
use Rattle.uma_replay.proofs.PlainStands.{Ends, KegEnds, StandsPlain, ZoneEnds, all_lines, ledger_fits, some_at, stands_plain}
use Rattle.uma_replay.proofs.Primaries.{IsPrimaryAt, keg_at, keg_within, primary_is, same_number}
use Rattle.uma_replay.proofs.Upto.{upto}
use Rattle.uma_replay.proofs.ZoneFrees.{row_filled, all_filled}

module _ {H Part : Type 0} {h : Ghosts H Part} where
  -- ---- what a refusal names

  pub names_fit : (t : Trace) (n z : ℕ) (head : ZoneHead) (zone : CountedZone H Part h) → IsZoneOf t.head.zones t.head.domains z head zone
      → (l : SeatLedger) → KeepsOneOf (limits_had (lines_of t.rounds) z head) l → (r : Refusal) → l.last ≡ Some r → is_ctor r ≡ false → NamesZone zone r → RefusalFits t n z head r
  names_fit t n z head zone is l keeps (AtLimit out limit) last other names = (names.1.0, names.1.1, keeps (AtLimit out limit) limit last refl)
  names_fit t n z head zone is l keeps (Reserved free kept) last other names = (names.1.0 ∙ is.numbers.reserve, names.1.1, names.1.2)
  names_fit t n z head zone is l keeps (Full slabs made) last other names = names.1 ∙ is.numbers.cap
  -- no init of the replay refuses
  names_fit t n z head zone is l keeps (Init code) last other names = absurd (none-some code names.1.4)
  names_fit t n z head zone is l keeps (Ctor code) last other names = absurd (true≢false other)

-- ---- ledgers and live items

abbrev tail_of : {A : Type 0} → List A → List A
tail_of [] = []
tail_of (x ∷ xs) = xs

ledger_sums : {W : Type 0} (f : W → Option SeatLedger) (g : SeatLedger → ℕ) (ws : List W) (ls : List SeatLedger) → map f ws ≡ map Some ls → sum_by (λ w. option_map_or g (f w) 0) ws ≡ sum_by g ls
ledger_sums f g [] [] same = refl
ledger_sums f g [] (l ∷ ls) same = absurd (let size = ap length same in omega arith)
ledger_sums f g (w ∷ ws) [] same = absurd (let size = ap length same in omega arith)
ledger_sums f g (w ∷ ws) (l ∷ ls) same =
    let first : f w ≡ Some l = same_Some (f w) (Some l) (ap (λ xs. slice_get xs 0) same) in
    let rest : sum_by (λ w. option_map_or g (f w) 0) ws ≡ sum_by g ls = ledger_sums f g ws ls (ap tail_of same) in
    let here : option_map_or g (f w) 0 ≡ g l = ap (λ o. option_map_or g o 0) first in
    omega (arith, sum_by-cons (λ w. option_map_or g (f w) 0) w ws, sum_by-cons g l ls, here, rest)

pub ledger_found : {W : Type 0} (f : W → Option SeatLedger) (ws : List W) (ls : List SeatLedger) (n : ℕ) (l : SeatLedger) → map f ws ≡ map Some ls → slice_get ls n ≡ Some l
    → (w : W) × (slice_get ws n ≡ Some w) × (f w ≡ Some l)
ledger_found f [] [] n l same at = absurd (none-some l at)
ledger_found f [] (first ∷ ls) n l same at = absurd (let size = ap length same in omega arith)
ledger_found f (w ∷ ws) [] n l same at = absurd (none-some l at)
ledger_found f (w ∷ ws) (first ∷ ls) zero l same at =
    let head : f w ≡ Some first = same_Some (f w) (Some first) (ap (λ xs. slice_get xs 0) same) in (w, refl, head ∙ at)
ledger_found f (w ∷ ws) (first ∷ ls) (suc n) l same at = ledger_found f ws ls n l (ap tail_of same) at

module _ {H Part : Type 0} {h : Ghosts H Part} where
  seat_found : (o : Option (CountedSeat H Part h)) (l : SeatLedger) → option_map ledger_of o ≡ Some l → (seat : CountedSeat H Part h) × (o ≡ Some seat) × (ledger_of seat ≡ l)
  seat_found None l is = absurd (none-some l is)
  seat_found (Some seat) l is = (seat, refl, same_Some (ledger_of seat) l is)

held_zone : (z : ℕ) (o : Option Held) → is_of z o ≡ true → (it : Held) × (o ≡ Some it) × (it.zone ≡ z)
held_zone z None is = absurd (false≢true is)
held_zone z (Some it) is = (it, refl, eqb-true it.zone z is)

module _ {H Part : Type 0} {h : Ghosts H Part} where
  -- what a worker's slots hold of a zone, the reading fills
  worker_filled : (zones : List (CountedZone H Part h)) (clock : Clock H Part) (n z size : ℕ) (lines : List Line) (w : Worker H Part h) → Stands zones clock n lines w → length w.slots ≤ size
      → live_count z w.slots ≤ upto (filled_at z lines n) 0 size
  worker_filled zones clock n z size lines w stands most =
      row_filled z n lines size (is_of z) w.slots most (λ slot o at is.
      let found = held_zone z o is in
      let here : slot_at w.slots slot ≡ Some found.0 = get_or_from_slice_get w.slots slot (Some found.0) None (at ∙ ap Some found.1) in
      stands.filled slot found.0 here ∙ ap Some found.2)

  -- ---- what a replay leaves

  -- all that is known when the report is made
  pub record Leaves (t : Trace) (zones : List (CountedZone H Part h)) (clock : Clock H Part) (workers : List (Worker H Part h)) (censuses : List Census) (tallies : List TallySum) (deferred : List ℕ) (read write gave_up : ℕ)
      (report : Report) : Type 0 where
    pub valid : IsValid t
    pub count : length workers ≡ t.head.workers
    pub stand : AllStand zones clock (all_lines t) workers
    pub adds_up : (z : ℕ) → AddsUp z workers
    pub are : AreZones t.head clock zones
    pub start : (c : ClockHead) → t.head.clock ≡ Some c → (setup_of clock).config.start ≡ c.start
    pub window : (c : ClockHead) → t.head.clock ≡ Some c → (setup_of clock).config.window ≡ c.window
    pub closes : AllClose t.head zones workers censuses tallies deferred
    pub hands : ReadsHands clock workers read write
    pub is : IsReportOf t workers censuses tallies deferred read write gave_up report

-- ---- on numbers

below_same : (i a b : ℕ) → i < b → a ≡ b → i < a
below_same i a b below same = omega arith

le_same : (a b c : ℕ) → a ≤ b → b ≡ c → a ≤ c
le_same a b c below same = omega arith

same_le : (a b c : ℕ) → a ≡ b → b ≤ c → a ≤ c
same_le a b c same below = omega arith

sum_same : (live frees allocs frees' allocs' : ℕ) → live + frees ≡ allocs → frees ≡ frees' → allocs ≡ allocs' → live + frees' ≡ allocs'
sum_same live frees allocs frees' allocs' sum is_frees is_allocs = omega arith

earlier_below : (parent z count : ℕ) → parent < z → z < count → parent < count
earlier_below parent z count first second = omega arith

add_le : (a b c : ℕ) → a ≤ b → a ≤ c + b
add_le a b c below = omega arith

plus_none : (k : ℕ) → k ≡ 0 + k
plus_none k = omega arith

far_seen : (start window c_start c_window seen write : ℕ) → start ≡ c_start → window ≡ c_window → start + window ≤ seen → seen ≤ write → c_start + c_window ≤ write
far_seen start window c_start c_window seen write e1 e2 past most = omega arith

least_size : (n : ℕ) → 65535 < 65536 + n
least_size n = omega arith

at_some : {A : Type 0} (o : Option A) (P : A → Type 0) (a : A) → o ≡ Some a → IfSome o P → P a
at_some o P a is holds = let Q : Option _ → Type 0 = λ o. IfSome o P in subst Q is holds

-- ---- the keg of a zone

-- the primary zone of the keg
pub record HasPrimary (heads : List ZoneHead) (z : ℕ) (line : ZoneHead) : Type 0 where
  pub primary : ZoneHead
  pub at : slice_get heads (keg_place z line) ≡ Some primary
  pub own : primary.parent ≡ None

by_parent : (heads : List ZoneHead) (z : ℕ) (line : ZoneHead) (o : Option ℕ) → line.parent ≡ o → slice_get heads z ≡ Some line → KegFits heads z o line → HasPrimary heads z line
by_parent heads z line None is at fits =
    let place : z ≡ keg_place z line = sym (ap (λ o. option_map_or (λ parent. parent) o z) is) in
    let P : ℕ → Type 0 = λ i. slice_get heads i ≡ Some line in
    record { primary = line; at = subst P place at; own = is }
by_parent heads z line (Some parent) is at fits =
    let place : parent ≡ keg_place z line = sym (ap (λ o. option_map_or (λ parent. parent) o z) is) in
    let within : z < length heads = slice_get_within heads z line at in
    let found = some_at heads parent (earlier_below parent z (length heads) fits.earlier within) in
    let shares = at_some (slice_get heads parent) (λ (primary : ZoneHead). (primary.parent ≡ None) × (line.size ≡ primary.size) × (line.slabs ≡ primary.slabs) × (line.reserve ≡ primary.reserve)) found.0 found.1 fits.shares in
    let P : ℕ → Type 0 = λ i. slice_get heads i ≡ Some found.0 in
    record { primary = found.0; at = subst P place found.1; own = shares.0 }

pub has_primary : (h : Head) (z : ℕ) (line : ZoneHead) → HeadFits h → slice_get h.zones z ≡ Some line → HasPrimary h.zones z line
has_primary h z line fits at =
    let zone : ZoneFits h z line = at_some (slice_get h.zones z) (ZoneFits h z) line at (fits.zones z) in
    by_parent h.zones z line line.parent refl at zone.keg

-- what is out of the keg in the zone, by its keg's census
abbrev out_in : List ZoneHead → ℕ → ZoneHead → Option Census → ℕ
out_in heads z line census = option_map_or (λ c. census_out c (index_of heads z line)) census 0

abbrev free_in : ZoneHead → Option Census → ℕ
free_in line census = option_map_or (shown_free line) census 0

unfoldable out_at : List ZoneHead → List Census → ℕ → ℕ
out_at heads censuses z = option_map_or (λ line. out_in heads z line (slice_get censuses (keg_number heads (keg_place z line)))) (slice_get heads z) 0

unfoldable free_at : List ZoneHead → List Census → ℕ → ℕ
free_at heads censuses z = option_map_or (λ line. free_in line (slice_get censuses (keg_number heads (keg_place z line)))) (slice_get heads z) 0

out_is : (heads : List ZoneHead) (censuses : List Census) (z : ℕ) (line : ZoneHead) (census : Census) → slice_get heads z ≡ Some line
    → slice_get censuses (keg_number heads (keg_place z line)) ≡ Some census → out_at heads censuses z ≡ census_out census (index_of heads z line)
unfolding out_at
out_is heads censuses z line census at found =
    ap (λ o. option_map_or (λ line. out_in heads z line (slice_get censuses (keg_number heads (keg_place z line)))) o 0) at ∙ ap (out_in heads z line) found

free_is : (heads : List ZoneHead) (censuses : List Census) (z : ℕ) (line : ZoneHead) (census : Census) → slice_get heads z ≡ Some line
    → slice_get censuses (keg_number heads (keg_place z line)) ≡ Some census → free_at heads censuses z ≡ shown_free line census
unfolding free_at
free_is heads censuses z line census at found =
    ap (λ o. option_map_or (λ line. free_in line (slice_get censuses (keg_number heads (keg_place z line)))) o 0) at ∙ ap (free_in line) found

over_none : (o : Option ℕ) (free : ℕ) → IsSome o → cond (is_some o) 0 free ≡ 0
over_none None free is = absurd (false≢true is)
over_none (Some parent) free is = refl

own_free : (o : Option ℕ) (free : ℕ) → o ≡ None → cond (is_some o) 0 free ≡ free
own_free o free is = let f : Option ℕ → ℕ = λ o. cond (is_some o) 0 free in ap f is

-- ---- the parts of the report, each with all that is known

module _ {H Part : Type 0} {h : Ghosts H Part} (t : Trace) (zones : List (CountedZone H Part h)) (clock : Clock H Part) (workers : List (Worker H Part h)) (censuses : List Census) (tallies : List TallySum) (deferred : List ℕ) (read write gave_up : ℕ) (report : Report)
    (l : Leaves t zones clock workers censuses tallies deferred read write gave_up report) where
  abbrev heads : List ZoneHead
  heads = t.head.zones

  -- a zone, with its keg's census and sums
  record InKeg (z : ℕ) (line : ZoneHead) : Type 0 where
    zone : CountedZone H Part h
    at_zone : slice_get zones z ≡ Some zone
    is_zone : IsZoneOf heads t.head.domains z line zone
    census : Census
    at_census : slice_get censuses (keg_number heads (keg_place z line)) ≡ Some census
    tally : TallySum
    at_tally : slice_get tallies (keg_number heads (keg_place z line)) ≡ Some tally
    primary : CountedZone H Part h
    closes : KegCloses t.head zones workers deferred (keg_place z line) primary census tally

  in_keg : (z : ℕ) (line : ZoneHead) → slice_get heads z ≡ Some line → InKeg z line
  in_keg z line at =
      let has = has_primary t.head z line l.valid.head at in
      let p = keg_place z line in
      let k = keg_number heads p in
      let zone = some_at zones z (below_same z (length zones) (length heads) (slice_get_within heads z line at) l.are.count) in
      let owner = some_at zones p (below_same p (length zones) (length heads) (slice_get_within heads p has.primary has.at) l.are.count) in
      let within : k < length (primaries heads 0) = keg_within heads p has.primary has.at has.own in
      let census = some_at censuses k (below_same k (length censuses) (length (primaries heads 0)) within l.closes.censuses_count) in
      let tally = some_at tallies k (below_same k (length tallies) (length (primaries heads 0)) within l.closes.tallies_count) in
      record {
        zone = zone.0;
        at_zone = zone.1;
        is_zone = l.are.each z line zone.0 at zone.1;
        census = census.0;
        at_census = census.1;
        tally = tally.0;
        at_tally = tally.1;
        primary = owner.0;
        closes = l.closes.kegs k p has.primary owner.0 census.0 tally.0 (keg_at heads p has.primary has.at has.own) owner.1 census.1 tally.1;
      }

  abbrev size : ℕ
  size = 65536 + sum_by (λ (w : Worker H Part h). length w.slots) workers

  live_filled : (z : ℕ) → all_live z workers ≤ filled_slots t.head.workers size z (all_lines t)
  live_filled z =
      all_filled z t.head.workers size (all_lines t) (λ (w : Worker H Part h). live_count z w.slots) workers l.count (λ n w at.
      worker_filled zones clock n z size (all_lines t) w (l.stand.stands n w at) (add_le _ _ 65536 (sum-term (λ (w : Worker H Part h). length w.slots) workers n w at)))

  one_ledger : (n z : ℕ) (line : ZoneHead) (own : List SeatLedger) (ledger : SeatLedger) → slice_get heads z ≡ Some line → AreLedgersOf z workers own → slice_get own n ≡ Some ledger
      → (zone : CountedZone H Part h) × (IsZoneOf heads t.head.domains z line zone) × LedgerStands (NamesZone zone) n z (all_lines t) ledger
  one_ledger n z line own ledger at_line are at =
      let found = ledger_found (ledger_at z) workers own n ledger are at in
      let seat = seat_found (slice_get found.0.seats.items z) ledger found.2 in
      let keg = in_keg z line at_line in
      let P : SeatLedger → Type 0 = λ ledger. LedgerStands (NamesZone keg.zone) n z (all_lines t) ledger in
      (keg.zone, keg.is_zone, subst P seat.2 ((l.stand.stands n found.0 found.1).ledgers z keg.zone seat.0 keg.at_zone seat.1))

  zone_ends : (z : ℕ) (line : ZoneHead) → slice_get heads z ≡ Some line → ZoneEnds t report size z line (out_at heads censuses z) (free_at heads censuses z)
  zone_ends z line at =
      let below : z < length heads = slice_get_within heads z line at in
      let keg = in_keg z line at in
      let index = index_of heads z line in
      let shown = some_at report.lines z (below_same z (length report.lines) (length heads) below l.is.lines.count) in
      let hooks = some_at report.hooks z (below_same z (length report.hooks) (length heads) below l.is.hooks.count) in
      let own = some_at report.ledgers z (below_same z (length report.ledgers) (length heads) below l.is.ledgers.count) in
      let are : AreLedgersOf z workers own.0 = l.is.ledgers.each z own.0 own.1 in
      let waiting = some_at deferred z (below_same z (length deferred) (length heads) below l.closes.deferred_count) in
      let out : out_at heads censuses z ≡ census_out keg.census index = out_is heads censuses z line keg.census at keg.at_census in
      let free : free_at heads censuses z ≡ shown_free line keg.census = free_is heads censuses z line keg.census at keg.at_census in
      let lent : all_live z workers ≤ census_out keg.census (zone_index keg.zone) = keg.closes.lent z line keg.zone at refl keg.at_zone in
      let pairs = keg.closes.pairs z line keg.zone at refl keg.at_zone in
      let P : ℕ → Type 0 = λ i. ShowsSame (sum_of keg.tally (CtorOf i)) (sum_of keg.tally (DtorOf i) + all_live z workers + slice_index_or deferred z 0) in
      let Q : ℕ → Type 0 = λ d. ShowsSame (sum_of keg.tally (CtorOf index)) (sum_of keg.tally (DtorOf index) + all_live z workers + d) in
      let built = subst Q (get_or_from_slice_get deferred z waiting.0 0 waiting.1) (subst P keg.is_zone.index pairs) in
      record {
        ledgers = own.0;
        at_ledgers = own.1;
        workers = sym (length-map own.0 Some) ∙ (sym (ap length are) ∙ (length-map workers (ledger_at z) ∙ l.count));
        fits = λ n ledger at_ledger.
            let one = one_ledger n z line own.0 ledger at are at_ledger in
            ledger_fits t n z line ledger (NamesZone one.0) below (names_fit t n z line one.0 one.1 ledger (l.is.limits z line own.0 at own.1 n ledger at_ledger)) one.2;
        counted = λ n ledger at_ledger.
            let one = one_ledger n z line own.0 ledger at are at_ledger in
            record { requests = one.2.requests; frees = one.2.frees };
        live = all_live z workers;
        filled = live_filled z;
        balance = sum_same (all_live z workers) (all_frees z workers) (all_allocs z workers) (total_frees own.0) (total_allocs own.0) (l.adds_up z)
            (ledger_sums (ledger_at z) (λ ledger. ledger.frees) workers own.0 are) (ledger_sums (ledger_at z) (λ ledger. ledger.allocs) workers own.0 are);
        lent = le_same _ _ _ lent (ap (census_out keg.census) keg.is_zone.index ∙ sym out);
        secondary = λ parent. free ∙ over_none line.parent (census_counts keg.census).free parent;
        at_line = shown.1 ∙ ap Some (l.is.lines.each z shown.0 shown.1 line own.0 keg.census at own.1 keg.at_census)
            ∙ (ap (λ o. Some (zone_line line.name line.size (last_limit (lines_of t.rounds) z line) own.0 o (shown_free line keg.census))) (sym out)
            ∙ ap (λ f. Some (zone_line line.name line.size (last_limit (lines_of t.rounds) z line) own.0 (out_at heads censuses z) f)) (sym free));
        hooks = hook_line line.name index keg.tally waiting.0;
        at_hooks = hooks.1 ∙ ap Some (l.is.hooks.each z hooks.0 hooks.1 waiting.0 waiting.1 line keg.tally at keg.at_tally);
        named = refl;
        pairs = built;
      }

  keg_ends : (k p : ℕ) (head : ZoneHead) → slice_get (primaries heads 0) k ≡ Some (p, head) → KegEnds t report (out_at heads censuses) (free_at heads censuses) k p head
  keg_ends k p head at =
      let primary : IsPrimaryAt heads 0 p head = primary_is heads 0 k p head at in
      let place : primary.k ≡ p = plus_none primary.k ∙ sym primary.place in
      let A : ℕ → Type 0 = λ i. slice_get heads i ≡ Some head in
      let at_head : slice_get heads p ≡ Some head = subst A place primary.at in
      let within : k < length (primaries heads 0) = slice_get_within (primaries heads 0) k (p, head) at in
      let census = some_at censuses k (below_same k (length censuses) (length (primaries heads 0)) within l.closes.censuses_count) in
      let tally = some_at tallies k (below_same k (length tallies) (length (primaries heads 0)) within l.closes.tallies_count) in
      let owner = some_at zones p (below_same p (length zones) (length heads) (slice_get_within heads p head at_head) l.are.count) in
      let shown = some_at report.kegs k (below_same k (length report.kegs) (length (primaries heads 0)) within l.is.kegs.count) in
      let is_keg = l.is.kegs.each k shown.0 shown.1 in
      let closes = l.closes.kegs k p head owner.0 census.0 tally.0 at owner.1 census.1 tally.1 in
      let is_zone = l.are.each p head owner.0 at_head owner.1 in
      let counts = census_counts census.0 in
      let each : counts.per_slab ≡ per_slab head = closes.counts.per_slab ∙ ap (λ size. min 256 (4096 / size)) is_zone.numbers.size in
      let own : keg_place p head ≡ p = ap (λ o. option_map_or (λ parent. parent) o p) primary.own in
      -- a zone of the keg finds this census
      let number : (q : ℕ) → q ≡ p → slice_get censuses (keg_number heads q) ≡ Some census.0 =
      λ q is. ap (λ q. slice_get censuses (keg_number heads q)) is ∙ (ap (slice_get censuses) (same_number heads p k head at) ∙ census.1) in
      let first : index_of heads p head ≡ 0 = ap (λ o. option_map_or (λ parent. sharer_count (take p heads) parent + 1) o 0) primary.own in
      let B : List ℕ → Type 0 = λ rights. All (λ zone. census_out census.0 zone ≡ 0) rights in
      record {
        line = keg_line head.name census.0 tally.0;
        at = shown.1 ∙ ap Some (is_keg.is p head census.0 tally.0 at census.1 tally.1);
        named = refl;
        outs = census_outs census.0;
        free = counts.free;
        balanced = ap (λ n. counts.slabs * n) (sym each) ∙ census.0.balanced;
        eight = is_keg.eight census.0 census.1;
        absent = subst B (l.are.rights p head owner.0 at_head primary.own owner.1) closes.counts.absent;
        own = free_is heads censuses p head census.0 at_head (number (keg_place p head) own) ∙ own_free head.parent counts.free primary.own;
        own_out = out_is heads censuses p head census.0 at_head (number (keg_place p head) own) ∙ ap (census_out census.0) first;
        shared = λ z h at_h parent. out_is heads censuses z h census.0 at_h (number (keg_place z h) (ap (λ o. option_map_or (λ parent. parent) o z) parent));
      }

  by_clock : (o : Option ClockHead) → t.head.clock ≡ o → ClockLineFits t o (option_map (λ (c : ClockHead). clock_line read write workers) o)
  by_clock None is = tt
  by_clock (Some c) is =
      let start = l.start c is in
      let window = l.window c is in
      let line : ClockLine = clock_line read write workers in
      clock_stands t c line workers (λ w. w.entered) (λ w. w.late) phase_of l.valid l.count
      (λ n w at. (l.stand.stands n w at).entries)
      (λ n w at late. far_seen _ _ _ _ _ _ start window ((l.stand.stands n w at).overtaken late) (l.hands.greatest_seen n w at))
      refl refl
      (record {
        read_odd = l.hands.read_odd;
        write_odd = l.hands.write_odd;
        start = same_le c.start _ read (sym start) l.hands.start;
        in_order = l.hands.in_order;
        within = le_same write _ _ l.hands.within (ap (λ n. read + n) window);
      })

  ends : Ends t report size (out_at heads censuses) (free_at heads censuses)
  ends = record {
    valid = l.valid;
    most = least_size (sum_by (λ (w : Worker H Part h). length w.slots) workers);
    ledger_count = l.is.ledgers.count;
    line_count = l.is.lines.count;
    hook_count = l.is.hooks.count;
    keg_count = l.is.kegs.count;
    zone = zone_ends;
    keg = keg_ends;
    detail = l.is.detail;
    clock = let P : Option ClockLine → Type 0 = λ o. ClockLineFits t t.head.clock o in subst P (sym l.is.clock) (by_clock t.head.clock refl);
  }

  pub stands_for : StandsPlain t report
  stands_for = stands_plain t report size (out_at heads censuses) (free_at heads censuses) ends
