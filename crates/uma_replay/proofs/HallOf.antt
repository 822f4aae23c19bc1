-- From the workers when all lines are done to the hall and its report.
use Rattle.std.proofs.Common.{◌≡◌, ℕ, ◌+◌, ◌<◌, ◌≤◌, ◌^◌, List, [], ◌∷◌, Bool, true, false, cond, length, take, get_or, Option, None, Some, refl, sym, ap, ◌∙◌, subst, arith, reverse}
use Rattle.std.proofs.lemmas.Bool.{eq-eqb}
use Rattle.std.proofs.lemmas.List.{length-reverse}
use Rattle.std.proofs.lemmas.List.Sums.{sum_by-take-le, count_by_more_yes, count_by-le-length}
use Rattle.std.proofs.lemmas.Option.{slice_get_within, get_or_from_slice_get}
use Rattle.std.specs.Prelude.{◌==◌, slice_get, sum_by}
use Rattle.std.specs.Option.{option_map_or}
use Rattle.smr_clock.specs.declared.clock.Clock.{Clock}
use Rattle.smr_clock.specs.declared.host.Host.{Ghosts}
use Rattle.trace_text.specs.declared.trace.Head.{Head}
use Rattle.trace_text.specs.declared.trace.NamesHead.{NamesHead}
use Rattle.trace_text.specs.declared.trace.ZoneHead.{ZoneHead}
use Rattle.trace_text.specs.declared.trace.Trace.{Trace}
use Rattle.trace_text.specs.Lines.{Line, lines_of}
use Rattle.trace_text.specs.Valid.{HeadFits, IsValid, sharer_count}
use Rattle.zone_stats.specs.declared.report.Report.{Report}
use Rattle.replay_worker.specs.declared.name_calls.NameCalls.{Ghosts as NameGhosts}
use Rattle.replay_worker.specs.declared.name_work.NameWork.{NameWork}
use Rattle.replay_worker.specs.declared.worker.Worker.{Worker}
use Rattle.replay_worker.specs.NamesStand.{NamesStand}
use Rattle.replay_worker.specs.Items.{CountedZone}
use Rattle.replay_worker.specs.Worker.{phase_of}
use Rattle.replay_worker.specs.Clocks.{start_of, window_of}
use Rattle.replay_rounds.specs.Kegs.{keg_place, index_of, primaries}
use Rattle.replay_rounds.specs.Lending.{AllFit, AreFew, KeepsWorkers}
use Rattle.replay_rounds.specs.Clock.{AllLearn}
use Rattle.uma_replay.specs.declared.hall.Hall.{Hall}
use Rattle.uma_replay.specs.Counting.{enter_count, is_done, is_entry, is_look}
use Rattle.uma_replay.specs.Hall.{AreDone, HallStands, NamesDone}
use Rattle.uma_replay.specs.Names.{AreSeats, CountsFit, IsWhole}
use Rattle.uma_replay.specs.Playing.{AllStay}
use Rattle.uma_replay.specs.Report.{StandsFor}
use Rattle.uma_replay.specs.Reporting.{HaveKegs}
use Rattle.uma_replay.proofs.Entries.{entries_most}
use Rattle.uma_replay.proofs.KegSums.{shares}
use Rattle.uma_replay.proofs.NamesFit.{counts_fit, names_ends}
use Rattle.uma_replay.proofs.Playing.{together_stay}
use Rattle.uma_replay.proofs.Primaries.{keg_within}
use Rattle.uma_replay.proofs.PlainStands.{StandsPlain, some_at}
use Rattle.uma_replay.proofs.ReportStands.{HasPrimary, has_primary, stands_for}
use Rattle.uma_replay.proofs.WithNames.{stands_named, stands_unnamed}
use Rattle.replay_rounds.proofs.Lists.{All_there}
use Rattle.uma_replay.proofs.Staying.{all_chain, all_stand, adds_stay, found_before, learn_stay, kept_stay}

-- ---- on numbers

below_both : (n a b count : ℕ) → n < a → a ≡ count → b ≡ count → n < b
below_both n a b count below e1 e2 = omega arith

at_least_one : (a b : ℕ) → a ≡ b → 1 ≤ b → 0 < a
at_least_one a b same least = omega arith

same_most : (a b c : ℕ) → a ≡ b → b ≤ c → a ≤ c
same_most a b c same most = omega arith

abbrev unit : Bool → ℕ
unit b = cond b 1 0

unit_most : (b : Bool) → unit b ≤ 1
unit_most true = omega arith
unit_most false = omega arith

two_few : (entered late wanted looked size lines : ℕ) → entered + late ≤ wanted + looked → wanted ≤ size → looked ≤ lines → size ≡ lines → lines ≤ 16777216 → (entered < 2 ^ 64) × (late < 2 ^ 64)
two_few entered late wanted looked size lines sum most looks same few = (omega arith, omega arith)

zero_below : (index : ℕ) → index ≡ 0 → index < 8
zero_below index none = omega arith

index_most : (index before all : ℕ) → index ≡ before + 1 → before + 1 ≤ all → all < 8 → index < 8
index_most index before all is most few = omega arith

module _ {H Part : Type 0} {h : Ghosts H Part} where
  -- ---- what stays

  pub done_stay : (t : Trace) (zones : List (CountedZone H Part h)) (clock : Clock H Part) (old new : List (Worker H Part h)) → AllStay clock old new → AreDone t zones clock old → AreDone t zones clock new
  done_stay t zones clock old new s d = record {
    clock_made = d.clock_made;
    zones_made = d.zones_made;
    worker_count = s.count ∙ d.worker_count;
    stand = all_stand zones clock (reverse (lines_of t.rounds)) old new s d.stand;
    adds_up = λ z. adds_stay clock old new s z (d.adds_up z);
  }

  pub done_learn : (t : Trace) (zones : List (CountedZone H Part h)) (clock : Clock H Part) (old new : List (Worker H Part h)) → AllLearn clock old new → AreDone t zones clock old → AreDone t zones clock new
  done_learn t zones clock old new l d = done_stay t zones clock old new (learn_stay clock old new l) d

  pub done_kept : (t : Trace) (zones : List (CountedZone H Part h)) (clock : Clock H Part) (old new : List (Worker H Part h)) → KeepsWorkers old new → AreDone t zones clock old → AreDone t zones clock new
  done_kept t zones clock old new k d = done_stay t zones clock old new (kept_stay zones clock (reverse (lines_of t.rounds)) old new d.stand k) d

  -- from the first stock to the last
  pub stay_on : (t : Trace) (zones : List (CountedZone H Part h)) (clock : Clock H Part) (old mid new : List (Worker H Part h)) → AreDone t zones clock mid → AllStay clock old mid → KeepsWorkers mid new → AllStay clock old new
  stay_on t zones clock old mid new d first kept = all_chain clock old mid new first (kept_stay zones clock (reverse (lines_of t.rounds)) mid new d.stand kept)

  -- ---- what the calls need

  pub some_workers : (t : Trace) (zones : List (CountedZone H Part h)) (clock : Clock H Part) (workers : List (Worker H Part h)) → IsValid t → AreDone t zones clock workers → 0 < length workers
  some_workers t zones clock workers valid d = at_least_one (length workers) t.head.workers d.worker_count valid.head.workers.0

  pub all_fit : (t : Trace) (zones : List (CountedZone H Part h)) (clock : Clock H Part) (workers : List (Worker H Part h)) → AreDone t zones clock workers → AllFit zones clock workers
  all_fit t zones clock workers d = d.stand.fits

  pub are_few : (t : Trace) (zones : List (CountedZone H Part h)) (clock : Clock H Part) (workers : List (Worker H Part h)) → IsValid t → AreDone t zones clock workers → AreFew workers
  are_few t zones clock workers valid d = record {
    few = same_most (length workers) t.head.workers 16 d.worker_count valid.head.workers.1;
    slots = λ n w at. (d.stand.stands n w at).few;
  }

  pub seat_counts : (t : Trace) (zones : List (CountedZone H Part h)) (clock : Clock H Part) (workers : List (Worker H Part h)) → AreDone t zones clock workers → (n : ℕ) (w : Worker H Part h) → slice_get workers n ≡ Some w
      → length w.seats.items ≡ length t.head.zones
  seat_counts t zones clock workers d n w at = (d.stand.fits n w at).seats.count ∙ d.zones_made.count

-- ---- sums of counts

enter_few : (lines : List Line) → enter_count lines ≤ length lines
enter_few [] = omega arith
enter_few (line ∷ lines) = omega (arith, enter_few lines, unit_most (is_entry lines line))

module _ {H Part : Type 0} {h : Ghosts H Part} where
  pub entries_few : (t : Trace) (zones : List (CountedZone H Part h)) (clock : Clock H Part) (workers : List (Worker H Part h)) → IsValid t → length (lines_of t.rounds) ≤ 16777216 → AreDone t zones clock workers
      → (sum_by (λ (w : Worker H Part h). w.entered) workers < 2 ^ 64) × (sum_by (λ (w : Worker H Part h). w.late) workers < 2 ^ 64)
  entries_few t zones clock workers valid few d =
      let lines = reverse (lines_of t.rounds) in
      let sum = entries_most t workers (λ (w : Worker H Part h). w.entered) (λ (w : Worker H Part h). w.late) phase_of valid d.worker_count (λ n w at. (d.stand.stands n w at).entries) in
      two_few _ _ (enter_count lines) _ (length lines) (length (lines_of t.rounds)) sum (enter_few lines) (count_by-le-length (is_done is_look) (lines_of t.rounds)) (length-reverse (lines_of t.rounds)) few

-- ---- kegs

sharers_below : (heads : List ZoneHead) (z parent : ℕ) (head : ZoneHead) → slice_get heads z ≡ Some head → head.parent ≡ Some parent → sharer_count (take z heads) parent + 1 ≤ sharer_count heads parent
sharers_below heads z parent head at is =
    let below : z < length heads = slice_get_within heads z head at in
    let found : get_or heads z head ≡ head = get_or_from_slice_get heads z head head at in
    let own : shares parent head ≡ true = ap (λ o. option_map_or (λ q. q == parent) o false) is ∙ eq-eqb parent parent refl in
    let shared : shares parent (get_or heads z head) ≡ true = ap (shares parent) found ∙ own in
    let next : sharer_count (take (z + 1) heads) parent ≡ sharer_count (take z heads) parent + 1 = count_by_more_yes (shares parent) heads z head below shared in
    let most : sharer_count (take (z + 1) heads) parent ≤ sharer_count heads parent = sum_by-take-le (λ (h : ZoneHead). cond (shares parent h) 1 0) heads (z + 1) in
    omega (arith, next, most)

index_below : (h : Head) (z : ℕ) (head : ZoneHead) (o : Option ℕ) → HeadFits h → slice_get h.zones z ≡ Some head → head.parent ≡ o → HasPrimary h.zones z head → index_of h.zones z head < 8
index_below h z head None fits at is has =
    let none : index_of h.zones z head ≡ 0 = ap (λ o. option_map_or (λ parent. sharer_count (take z h.zones) parent + 1) o 0) is in
    zero_below _ none
index_below h z head (Some parent) fits at is has =
    let index : index_of h.zones z head ≡ sharer_count (take z h.zones) parent + 1 = ap (λ o. option_map_or (λ parent. sharer_count (take z h.zones) parent + 1) o 0) is in
    let place : keg_place z head ≡ parent = ap (λ o. option_map_or (λ parent. parent) o z) is in
    let P : ℕ → Type 0 = λ p. p < length h.zones in
    let below : parent < length h.zones = subst P place (slice_get_within h.zones (keg_place z head) has.primary has.at) in
    index_most _ _ _ index (sharers_below h.zones z parent head at is) (fits.most_of_a_keg parent below)

pub have_kegs : (h : Head) → HeadFits h → HaveKegs h.zones (length (primaries h.zones 0))
have_kegs h fits z head at =
    let has : HasPrimary h.zones z head = has_primary h z head fits at in
    record {
      place = slice_get_within h.zones (keg_place z head) has.primary has.at;
      number = keg_within h.zones (keg_place z head) has.primary has.at has.own;
      index = index_below h z head head.parent fits at refl has;
    }

-- ---- what is of the names

module _ {N H C S Part : Type 0} {h : Ghosts H Part} (names : NameGhosts N H C S Part) where
  pub names_stay : (t : Trace) (cache : C) (zones : List (CountedZone H Part h)) (clock : Clock H Part) (old new : List (Worker H Part h)) (name_works : List (NameWork N H C S Part)) → AllStay clock old new
      → NamesDone names t cache zones clock old name_works → NamesDone names t cache zones clock new name_works
  names_stay t cache zones clock old new name_works s d = record {
    served = d.served;
    of_clock = d.of_clock;
    sizes = d.sizes;
    name_work_count = d.name_work_count;
    stand = λ n w name_work at at_name_work.
        let was = found_before old new n w s.count at in
        let P : ℕ → Type 0 = λ late. NamesStand names cache n (reverse (lines_of t.rounds)) late name_work in
        subst P (sym (s.each n was.0 w was.1 at).late) (d.stand n was.0 name_work was.1 at_name_work);
    together = together_stay names cache t zones clock old new name_works s d.together;
  }

  worker_at : (t : Trace) (workers : List (Worker H Part h)) (name_works : List (NameWork N H C S Part)) (n : ℕ) (name_work : NameWork N H C S Part) → length workers ≡ t.head.workers → length name_works ≡ t.head.workers
      → slice_get name_works n ≡ Some name_work → (w : Worker H Part h) × (slice_get workers n ≡ Some w)
  worker_at t workers name_works n name_work count own at = some_at workers n (below_both n (length name_works) (length workers) t.head.workers (slice_get_within name_works n name_work at) own count)

  pub are_seats : (t : Trace) (cache : C) (zones : List (CountedZone H Part h)) (clock : Clock H Part) (workers : List (Worker H Part h)) (name_works : List (NameWork N H C S Part)) → AreDone t zones clock workers
      → NamesDone names t cache zones clock workers name_works → AreSeats names cache name_works
  are_seats t cache zones clock workers name_works done d =
      All_there (λ (name_work : NameWork N H C S Part). names.IsSeat cache name_work.seat) name_works (λ n name_work at.
      let found = worker_at t workers name_works n name_work done.worker_count d.name_work_count at in
      (d.stand n found.0 name_work found.1 at).seat)

  pub few_name_works : (t : Trace) (cache : C) (zones : List (CountedZone H Part h)) (clock : Clock H Part) (workers : List (Worker H Part h)) (name_works : List (NameWork N H C S Part)) → IsValid t
      → NamesDone names t cache zones clock workers name_works → length name_works ≤ 16
  few_name_works t cache zones clock workers name_works valid d = same_most (length name_works) t.head.workers 16 d.name_work_count valid.head.workers.1

  pub fit_counts : (t : Trace) (cache : C) (zones : List (CountedZone H Part h)) (clock : Clock H Part) (workers : List (Worker H Part h)) (name_works : List (NameWork N H C S Part)) → IsValid t → length (lines_of t.rounds) ≤ 16777216
      → AreDone t zones clock workers → NamesDone names t cache zones clock workers name_works → CountsFit name_works
  fit_counts t cache zones clock workers name_works valid few done d = counts_fit names t cache zones clock workers name_works done.worker_count d valid few

module _ {N H C S Part : Type 0} (names : NameGhosts N H C S Part) where
  -- the whole report tells of as many waits as that of the zone lines
  pub whole_waits : (cache : C) (name_works : List (NameWork N H C S Part)) (first report : Report) (o : Option NamesHead) → IsWhole names cache o name_works first report → report.gave_up ≡ first.gave_up
  whole_waits cache name_works first report None whole = ap (λ (r : Report). r.gave_up) whole
  whole_waits cache name_works first report (Some line) whole = ap (λ (r : Report). r.gave_up) whole.whole

-- ---- the report stands for the trace

module _ {N H C S Part : Type 0} {h : Ghosts H Part} (names : NameGhosts N H C S Part) (t : Trace) (report : Report) (hall : Hall N H C S Part h) (valid : IsValid t) (stands : HallStands names t report hall) where
  plain : StandsPlain t stands.first
  plain =
      stands_for t hall.zones hall.clock hall.workers hall.censuses stands.tallies stands.deferred stands.read stands.write stands.first.gave_up stands.first (record {
        valid = valid;
        count = stands.done.worker_count;
        stand = stands.done.stand;
        adds_up = stands.done.adds_up;
        are = stands.done.zones_made;
        start = λ c is. ap (λ s. s.config.start) stands.done.clock_made ∙ ap start_of is;
        window = λ c is. ap (λ s. s.config.window) stands.done.clock_made ∙ ap window_of is;
        closes = stands.closes;
        hands = stands.hands;
        is = stands.made_of;
      })

  by_line : (o : Option NamesHead) → t.head.names ≡ o → IsWhole names hall.names o hall.name_works stands.first report → StandsFor t report
  by_line None is whole =
      let P : Report → Type 0 = λ r. StandsFor t r in
      subst P (sym whole) (stands_unnamed t stands.first plain is stands.made_of.names)
  by_line (Some line) is whole =
      let P : Report → Type 0 = λ r. StandsFor t r in
      let ends = names_ends names t hall.names hall.zones hall.clock hall.workers hall.name_works stands.done.worker_count stands.named valid line is whole.census whole.tally whole.deferred whole.closes whole.part whole.is_part
      stands.read stands.write stands.first.clock stands.made_of.clock in
      subst P (sym whole.whole) (stands_named t stands.first plain line whole.part is ends)

  pub stands_of_hall : StandsFor t report
  stands_of_hall = by_line t.head.names refl stands.whole
