-- What the workers counted of the names fits the trace, and so does what a report has of their zone.
use Rattle.std.proofs.Common.{◌≡◌, ℕ, zero, suc, ◌+◌, ◌<◌, ◌≤◌, ◌^◌, List, [], ◌∷◌, length, Option, None, Some, refl, sym, ap, ◌∙◌, subst, arith}
use Rattle.std.proofs.lemmas.Bool.{false≢true}
use Rattle.std.proofs.lemmas.List.{length-map}
use Rattle.std.proofs.lemmas.List.Sums.{sum_by-cons, count_by-le-length}
use Rattle.std.proofs.lemmas.Option.{same_Some, slice_get_within}
use Rattle.std.specs.Prelude.{Contains, IfSome, option_map, slice_get, sum_by}
use Rattle.smr_clock.specs.declared.clock.Clock.{Clock}
use Rattle.smr_clock.specs.declared.host.Host.{Ghosts}
use Rattle.trace_text.specs.declared.trace.ClockHead.{ClockHead}
use Rattle.trace_text.specs.declared.trace.NamesHead.{NamesHead}
use Rattle.trace_text.specs.declared.trace.Trace.{Trace}
use Rattle.trace_text.specs.Lines.{lines_of}
use Rattle.trace_text.specs.Valid.{IsValid}
use Rattle.uma_keg.specs.declared.census.Census.{Census}
use Rattle.uma_keg.specs.Census.{census_counts, census_out}
use Rattle.uma_life.specs.declared.tally.TallySum.{TallySum}
use Rattle.uma_life.specs.Trail.{ShowsSame}
use Rattle.zone_stats.specs.declared.ledger.SeatLedger.{SeatLedger}
use Rattle.zone_stats.specs.declared.refusal.Refusal.{Refusal}
use Rattle.zone_stats.specs.declared.refusal.Refusal.TheVariants.{AtLimit, Reserved, Full, Init, Ctor}
use Rattle.zone_stats.specs.declared.report.ClockLine.{ClockLine}
use Rattle.zone_stats.specs.declared.report.HookLine.{HookLine}
use Rattle.zone_stats.specs.declared.report.KegLine.{KegLine}
use Rattle.zone_stats.specs.declared.report.NamesLine.{NamesLine}
use Rattle.zone_stats.specs.Line.{total_allocs, total_fails}
use Rattle.replay_worker.specs.declared.name_calls.NameCalls.{Ghosts as NameGhosts}
use Rattle.replay_worker.specs.declared.name_work.NameWork.{NameWork}
use Rattle.replay_worker.specs.declared.worker.Worker.{Worker}
use Rattle.replay_worker.specs.Counting.{binds, looks, unbinds}
use Rattle.replay_worker.specs.Items.{CountedZone}
use Rattle.replay_worker.specs.NameLedger.{NamesRefuse}
use Rattle.replay_worker.specs.NameSizes.{NameSizes, sizes_for}
use Rattle.replay_worker.specs.NamesStand.{NameLedgerStands, NamesStand}
use Rattle.uma_replay.specs.declared.names.NameCount.TheVariants.{Hits, Misses, Late, Binds, Unbound, Refused}
use Rattle.uma_replay.specs.declared.names.NamesPart.{NamesPart}
use Rattle.uma_replay.specs.Counting.{arg_count, entry_zone, is_bind, is_done, is_look, is_unbind, kind_count}
use Rattle.uma_replay.specs.Hall.{NamesDone}
use Rattle.uma_replay.specs.Limits.{KeepsOneOf}
use Rattle.uma_replay.specs.Names.{CountsFit, IsNamesPart, NamesClose, total_of}
use Rattle.uma_replay.specs.Report.{IsLineOf, LedgerFits, RefusalFits, line_title}
use Rattle.uma_replay.specs.Reporting.{clock_line}
use Rattle.uma_replay.proofs.Entries.{sum-both, sum-workers, sum-workers-le}
use Rattle.uma_replay.proofs.KindCounts.{all_binds_are, binds_are, looks_are, no_args, unbinds_are}
use Rattle.uma_replay.proofs.LimitLines.{unnamed_last}
use Rattle.uma_replay.proofs.PlainStands.{all_lines, by_last, if_some, some_at}
use Rattle.uma_replay.proofs.ReportStands.{ledger_found}
use Rattle.uma_replay.proofs.WithNames.{NamesEnds}

-- ---- one ledger

none_set : (limit : ℕ) → Contains (0 ∷ []) limit → 0 < limit → ⊥
none_set limit (zero, below, is) some = omega arith
none_set limit (suc k, below, is) some = omega arith

refused_fits : (t : Trace) (n : ℕ) (line : NamesHead) (l : SeatLedger) (refusal : Refusal) → KeepsOneOf (0 ∷ []) l → l.last ≡ Some refusal → NamesRefuse line.slabs refusal → RefusalFits t n (length t.head.zones) (entry_zone line) refusal
refused_fits t n line l (Full slabs made) keeps is fits = fits
refused_fits t n line l (Init code) keeps is fits = (fits, refl)
refused_fits t n line l (AtLimit out limit) keeps is fits = absurd (none_set limit (keeps (AtLimit out limit) limit is refl) fits.1)
refused_fits t n line l (Reserved free reserve) keeps is fits = absurd fits
refused_fits t n line l (Ctor code) keeps is fits = absurd fits

le_more : (fails turned args : ℕ) → fails ≤ turned → fails ≤ turned + args
le_more fails turned args most = omega arith

none_le : (args fails : ℕ) → args ≡ 0 → args ≤ fails
none_le args fails none = omega arith

ledger_fits : (t : Trace) (n slabs refused : ℕ) (line : NamesHead) (l : SeatLedger) → IsValid t → KeepsOneOf (0 ∷ []) l → slabs ≡ line.slabs → NameLedgerStands slabs n (all_lines t) refused l → LedgerFits t n (length t.head.zones) (entry_zone line) l
ledger_fits t n slabs refused line l valid keeps same stands =
    let z = length t.head.zones in
    let P : ℕ → Type 0 = λ count. (refusal : Refusal) → l.last ≡ Some refusal → NamesRefuse count refusal in
    let kept = subst P same stands.kept in
    record {
      requests = stands.requests ∙ binds_are t n;
      law = l.law;
      some_args = le_more l.fails l.turned (arg_count t n z) stands.turned;
      all_args = none_le (arg_count t n z) l.fails (no_args t n valid);
      kept = by_last t n z (entry_zone line) l.last (λ r is. refused_fits t n line l r keeps is (kept r is));
    }

-- ---- sums of two lists side by side

both_more : (a more b mores a' b' : ℕ) → a' ≡ a + more → b' ≡ b + mores → a ≤ b → more ≤ mores → a' ≤ b'
both_more a more b mores a' b' e1 e2 first rest = omega arith

pub sums_le : {X Y : Type 0} (f : X → ℕ) (g : Y → ℕ) (xs : List X) (ys : List Y) → length xs ≡ length ys
    → ((n : ℕ) (x : X) (y : Y) → slice_get xs n ≡ Some x → slice_get ys n ≡ Some y → f x ≤ g y) → sum_by f xs ≤ sum_by g ys
sums_le f g [] [] same each = omega arith
sums_le f g [] (y ∷ ys) same each = absurd (omega arith)
sums_le f g (x ∷ xs) [] same each = absurd (omega arith)
sums_le f g (x ∷ xs) (y ∷ ys) same each =
    both_more (f x) (sum_by f xs) (g y) (sum_by g ys) _ _ (sum_by-cons f x xs) (sum_by-cons g y ys) (each 0 x y refl refl) (sums_le f g xs ys (omega arith) (λ n. each (suc n)))

-- ---- on numbers

three_are : (hits misses late both all looked : ℕ) → all ≡ both + late → both ≡ hits + misses → all ≡ looked → hits + misses + late ≡ looked
three_are hits misses late both all looked e1 e2 e3 = omega arith

two_are : (bound refused all asked : ℕ) → all ≡ bound + refused → all ≡ asked → bound + refused ≡ asked
two_are bound refused all asked e1 e2 = omega arith

le_same : (a b c : ℕ) → a ≤ b → b ≡ c → a ≤ c
le_same a b c most same = omega arith

bound_few : (bound refused asked requests allocs fails : ℕ) → bound + refused ≡ asked → requests ≡ asked → requests ≡ allocs + fails → fails ≤ refused → bound ≤ allocs
bound_few bound refused asked requests allocs fails e1 e2 e3 most = omega arith

counts_few : (looked asked taken lines : ℕ) → looked ≤ lines → asked ≤ lines → taken ≤ lines → lines ≤ 16777216 → (looked < 2 ^ 64) × (asked < 2 ^ 64) × (taken < 2 ^ 64)
counts_few looked asked taken lines a b c few = (omega arith, omega arith, omega arith)

same_few : (a b : ℕ) → a ≡ b → b < 2 ^ 64 → a < 2 ^ 64
same_few a b same few = omega arith

le_few : (a b : ℕ) → a ≤ b → b < 2 ^ 64 → a < 2 ^ 64
le_few a b most few = omega arith

below_count : (n a b count : ℕ) → n < a → a ≡ count → b ≡ count → n < b
below_count n a b count below e1 e2 = omega arith

at_some : {A : Type 0} (o : Option A) (P : A → Type 0) (a : A) → o ≡ Some a → IfSome o P → P a
at_some o P a is holds = let Q : Option _ → Type 0 = λ o. IfSome o P in subst Q is holds

module _ {N H C S Part : Type 0} {h : Ghosts H Part} (names : NameGhosts N H C S Part) (t : Trace) (cache : C) (zones : List (CountedZone H Part h)) (clock : Clock H Part) (workers : List (Worker H Part h)) (name_works : List (NameWork N H C S Part))
    (worker_count : length workers ≡ t.head.workers) (d : NamesDone names t cache zones clock workers name_works) (valid : IsValid t) where
  -- the worker of the same number
  worker_of : (n : ℕ) (g : NameWork N H C S Part) → slice_get name_works n ≡ Some g → (w : Worker H Part h) × (slice_get workers n ≡ Some w)
  worker_of n g at = some_at workers n (below_count n (length name_works) (length workers) t.head.workers (slice_get_within name_works n g at) d.name_work_count worker_count)

  stand_of : (n : ℕ) (g : NameWork N H C S Part) → slice_get name_works n ≡ Some g → (late : ℕ) × NamesStand names cache n (all_lines t) late g
  stand_of n g at = let found = worker_of n g at in (found.0.late, d.stand n found.0 g found.1 at)

  pub looks_are_all : total_of Hits name_works + total_of Misses name_works + total_of Late name_works ≡ kind_count is_look t
  looks_are_all =
      let hits = λ (g : NameWork N H C S Part). g.counts.hits in
      let misses = λ (g : NameWork N H C S Part). g.counts.misses in
      let late = λ (g : NameWork N H C S Part). g.counts.late in
      three_are _ _ _ _ _ _ (sum-both (λ g. hits g + misses g) late name_works) (sum-both hits misses name_works)
      (sum-workers (λ g. hits g + misses g + late g) name_works (λ n. looks n (all_lines t)) t.head.workers d.name_work_count (λ n g at. (stand_of n g at).1.counts.looks_add_up) ∙ looks_are t valid)

  pub binds_are_all : total_of Binds name_works + total_of Refused name_works ≡ kind_count is_bind t
  binds_are_all =
      let bound = λ (g : NameWork N H C S Part). g.counts.binds in
      let refused = λ (g : NameWork N H C S Part). g.counts.refused in
      two_are _ _ _ _ (sum-both bound refused name_works)
      (sum-workers (λ g. bound g + refused g) name_works (λ n. binds n (all_lines t)) t.head.workers d.name_work_count (λ n g at. (stand_of n g at).1.counts.binds_add_up) ∙ all_binds_are t valid)

  pub unbound_few : total_of Unbound name_works ≤ kind_count is_unbind t
  unbound_few =
      le_same _ _ _ (sum-workers-le (λ (g : NameWork N H C S Part). g.counts.unbound) name_works (λ n. unbinds n (all_lines t)) t.head.workers d.name_work_count (λ n g at. (stand_of n g at).1.counts.unbound)) (unbinds_are t valid)

  pub late_few : total_of Late name_works ≤ sum_by (λ (w : Worker H Part h). w.late) workers
  late_few =
      sums_le (λ (g : NameWork N H C S Part). g.counts.late) (λ (w : Worker H Part h). w.late) name_works workers (d.name_work_count ∙ sym worker_count) (λ n g w at_g at_w. (d.stand n w g at_w at_g).counts.late_few)

  pub counts_fit : length (lines_of t.rounds) ≤ 16777216 → CountsFit name_works
  counts_fit few =
      let lines = lines_of t.rounds in
      let all = counts_few (kind_count is_look t) (kind_count is_bind t) (kind_count is_unbind t) (length lines)
      (count_by-le-length (is_done is_look) lines) (count_by-le-length (is_done is_bind) lines) (count_by-le-length (is_done is_unbind) lines) few in
      record {
        looks = same_few _ _ looks_are_all all.0;
        binds = same_few _ _ binds_are_all all.1;
        unbound = le_few _ _ unbound_few all.2;
      }

-- ---- what a report has of the zone of the names

module _ {N H C S Part : Type 0} {h : Ghosts H Part} (names : NameGhosts N H C S Part) (t : Trace) (cache : C) (zones : List (CountedZone H Part h)) (clock : Clock H Part) (workers : List (Worker H Part h)) (name_works : List (NameWork N H C S Part))
    (worker_count : length workers ≡ t.head.workers) (d : NamesDone names t cache zones clock workers name_works) (valid : IsValid t) (line : NamesHead) (is : t.head.names ≡ Some line)
    (census : Census) (tally : TallySum) (deferred : ℕ) (closes : NamesClose names cache name_works census tally deferred) (part : NamesPart) (p : IsNamesPart names line name_works census tally deferred part) where
  sizes : names.sizes_of cache ≡ sizes_for t.head line
  sizes = at_some t.head.names (λ line. names.sizes_of cache ≡ sizes_for t.head line) line is d.sizes

  abbrev counts_of_seat : NameWork N H C S Part → Option SeatLedger
  counts_of_seat name_work = names.counted name_work.seat

  -- the ledger of a worker's seat
  of_name_work : (n : ℕ) (l : SeatLedger) (g : NameWork N H C S Part) → slice_get part.ledgers n ≡ Some l → slice_get name_works n ≡ Some g → names.counted g.seat ≡ Some l
  of_name_work n l g at_l at_g =
      let found = ledger_found counts_of_seat name_works part.ledgers n l p.of_seats at_l in
      let P : NameWork N H C S Part → Type 0 = λ name_work. names.counted name_work.seat ≡ Some l in
      subst P (same_Some found.0 g (sym found.1 ∙ at_g)) found.2

  ledger_stands : (n : ℕ) (l : SeatLedger) (g : NameWork N H C S Part) → slice_get part.ledgers n ≡ Some l → slice_get name_works n ≡ Some g → NameLedgerStands (names.sizes_of cache).slabs n (all_lines t) g.counts.refused l
  ledger_stands n l g at_l at_g =
      let stand = stand_of names t cache zones clock workers name_works worker_count d valid n g at_g in
      at_some (names.counted g.seat) (NameLedgerStands (names.sizes_of cache).slabs n (all_lines t) g.counts.refused) l (of_name_work n l g at_l at_g) stand.1.ledger

  one_each : length part.ledgers ≡ length name_works
  one_each = sym (length-map part.ledgers Some) ∙ (sym (ap length p.of_seats) ∙ length-map name_works counts_of_seat)

  fits : (n : ℕ) (l : SeatLedger) → slice_get part.ledgers n ≡ Some l → LedgerFits t n (length t.head.zones) (entry_zone line) l
  fits n l at =
      let found = ledger_found counts_of_seat name_works part.ledgers n l p.of_seats at in
      ledger_fits t n (names.sizes_of cache).slabs found.0.counts.refused line l valid (p.limits n l at) (ap (λ (s : NameSizes). s.slabs) sizes) (ledger_stands n l found.0 at found.1)

  in_time : (read write : ℕ) (o : Option ClockHead) → IfSome (option_map (λ (c : ClockHead). clock_line read write workers) o) (λ clock. part.counts.late ≤ clock.late)
  in_time read write None = tt
  in_time read write (Some c) =
      let P : NamesLine → Type 0 = λ counts. counts.late ≤ sum_by (λ (w : Worker H Part h). w.late) workers in
      subst P (sym p.of_counts) (late_few names t cache zones clock workers name_works worker_count d valid)

  pub names_ends : (read write : ℕ) (shown : Option ClockLine) → shown ≡ option_map (λ (c : ClockHead). clock_line read write workers) t.head.clock → NamesEnds t line part shown
  names_ends read write shown same =
      let A : HookLine → Type 0 = λ hooks. ShowsSame hooks.ctors (hooks.dtors + hooks.deferred + closes.linked) in
      let L : ℕ → Type 0 = λ limit. IsLineOf limit (entry_zone line) part.ledgers part.line in
      let B : NamesLine → Type 0 = λ counts. counts.looks ≡ counts.hits + counts.misses + counts.late in
      let D : Option ClockLine → Type 0 = λ o. IfSome o (λ clock. part.counts.late ≤ clock.late) in
      let E : NamesLine → Type 0 = λ counts. counts.binds + counts.refused ≡ kind_count is_bind t in
      let F : NamesLine → Type 0 = λ counts. counts.unbound ≤ kind_count is_unbind t in
      let G : NamesLine → Type 0 = λ counts. total_fails part.ledgers ≤ counts.refused in
      let I : NamesLine → Type 0 = λ counts. counts.binds ≤ total_allocs part.ledgers in
      record {
        fit = record { workers = one_each ∙ d.name_work_count; each = λ n. if_some (slice_get part.ledgers n) (LedgerFits t n (length t.head.zones) (entry_zone line)) (fits n) };
        line = subst L (sym (unnamed_last t (entry_zone line) valid)) (census_out census 0, (census_counts census).free, (λ over. absurd (false≢true over)), p.of_zone);
        titled = ap line_title p.of_zone;
        hooks_named = ap (λ (l : HookLine). l.name) p.of_hooks;
        keg_named = ap (λ (l : KegLine). l.name) p.of_keg;
        linked = record { linked = closes.linked; few = le_same closes.linked _ line.rows closes.few (ap (λ (s : NameSizes). s.rows) sizes); built = subst A (sym p.of_hooks) closes.pairs };
        looks = ap (λ (l : NamesLine). l.looks) p.of_counts ∙ looks_are_all names t cache zones clock workers name_works worker_count d valid;
        answered = subst B (sym p.of_counts) refl;
        late = subst D (sym same) (in_time read write t.head.clock);
        binds = subst E (sym p.of_counts) (binds_are_all names t cache zones clock workers name_works worker_count d valid);
        unbound = subst F (sym p.of_counts) (unbound_few names t cache zones clock workers name_works worker_count d valid);
        refused = subst G (sym p.of_counts) (sums_le (λ (l : SeatLedger). l.fails) (λ (g : NameWork N H C S Part). g.counts.refused) part.ledgers name_works one_each (λ n l g at_l at_g. (ledger_stands n l g at_l at_g).fails));
        by_entries = subst I (sym p.of_counts) (sums_le (λ (g : NameWork N H C S Part). g.counts.binds) (λ (l : SeatLedger). l.allocs) name_works part.ledgers (sym one_each) (λ n g l at_g at_l.
            let stand = stand_of names t cache zones clock workers name_works worker_count d valid n g at_g in
            let own = ledger_stands n l g at_l at_g in
            bound_few g.counts.binds g.counts.refused (binds n (all_lines t)) l.requests l.allocs l.fails stand.1.counts.binds_add_up own.requests l.law.answered own.fails));
      }
