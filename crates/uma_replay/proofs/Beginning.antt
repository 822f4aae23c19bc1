-- From a trace's setting to its first round, and from its last round to the end.
use Rattle.std.proofs.Common.{◌≡◌, ℕ, suc, ◌+◌, ◌*◌, ◌%◌, ◌<◌, ◌≤◌, ◌^◌, List, [], ◌∷◌, ◌++◌, length, take, drop, Option, None, Some, refl, sym, ap, ◌∙◌, subst, arith, reverse}
use Rattle.std.proofs.lemmas.Bool.{true≢false}
use Rattle.std.proofs.lemmas.List.{length-map, length-reverse}
use Rattle.std.proofs.lemmas.List.Sums.{sum_by-cons, count_by-le-length, sum-map}
use Rattle.std.specs.Prelude.{IfSome, IsTrue, is_some, slice_get, sum, sum_by}
use Rattle.smr_clock.specs.declared.clock.Clock.{Clock}
use Rattle.smr_clock.specs.declared.host.Host.{Ghosts}
use Rattle.smr_clock.specs.Belongs.{clock_id}
use Rattle.trace_text.specs.declared.trace.Head.{Head}
use Rattle.trace_text.specs.declared.trace.NamesHead.{NamesHead}
use Rattle.trace_text.specs.declared.trace.Trace.{Trace}
use Rattle.trace_text.specs.Lines.{lines_of}
use Rattle.trace_text.specs.Valid.{IsValid}
use Rattle.replay_worker.specs.declared.name_calls.NameCalls.{Ghosts as NameGhosts}
use Rattle.replay_worker.specs.declared.name_work.NameWork.{NameWork}
use Rattle.replay_worker.specs.declared.worker_run.WorkerRun.{WorkerRun}
use Rattle.replay_worker.specs.declared.worker.Worker.{Worker}
use Rattle.replay_worker.specs.Attendance.{worker_in}
use Rattle.replay_worker.specs.NameSizes.{NameSizes, sizes_for}
use Rattle.replay_worker.specs.NamesStand.{NamesStand}
use Rattle.replay_worker.specs.Together.{AddsUp, AllNamed, AllStand, crew}
use Rattle.replay_rounds.specs.declared.setting.Setting.{Setting}
use Rattle.replay_rounds.specs.Setting.{IsSetUp}
use Rattle.replay_rounds.specs.DoneBy.{done_by, is_by}
use Rattle.replay_rounds.specs.Betweens.{DoRounds}
use Rattle.replay_rounds.specs.Rounds.{GaveUpAsBefore, IsBegun, FitsTrace}
use Rattle.uma_replay.specs.Hall.{AreDone, NamesDone}
use Rattle.uma_replay.specs.Playing.{AllBack, AreFirst, HaveEnded, gave_ups_of, name_works_of}
use Rattle.uma_replay.proofs.Playing.{together_of}
use Rattle.uma_replay.proofs.WorkerRuns.{named_first, of_both}
use Rattle.uma_replay.proofs.Staying.{found_before}

few_enough : (n : ℕ) → n ≤ 16777216 → n < 2 ^ 31
few_enough n few = omega arith

module _ {N H C S Part : Type 0} {h : Ghosts H Part} (names : NameGhosts N H C S Part) (cache : C) where
  -- the workers before the first round suit the trace
  pub suits_of : (t : Trace) (s : Setting H Part h) (begun : List (WorkerRun N H C S Part h)) → IsValid t → names.serves ≡ is_some t.head.names → length (lines_of t.rounds) ≤ 16777216 → IsSetUp t s
      → (IsTrue names.serves → names.clock_of cache ≡ clock_id s.clock) → AreFirst names cache t.head.domains s.workers.items begun → FitsTrace names cache t s.zones.items s.clock begun
  suits_of t s begun valid served few is of_clock first = record {
    valid = valid;
    served = served;
    few = few_enough (length (lines_of t.rounds)) few;
    zone_count = is.zones.count;
    of_clock = is.zones.of_clock;
    names_of_clock = λ serves. sym (of_clock serves);
    worker_count = sym (length-map begun worker_in) ∙ (ap length first.are ∙ is.begin.one_each);
  }

  -- and did no line yet
  pub begun_of : (t : Trace) (s : Setting H Part h) (begun : List (WorkerRun N H C S Part h)) → IsSetUp t s → AreFirst names cache t.head.domains s.workers.items begun → IsBegun names cache s.zones.items s.clock begun
  begun_of t s begun is first =
      let P : List (Worker H Part h) → Type 0 = λ workers. AllStand s.zones.items s.clock [] workers in
      let Q : List (Worker H Part h) → Type 0 = λ workers. (z : ℕ) → AddsUp z workers in
      record {
        stand = subst P (sym first.are) is.stand;
        adds_up = subst Q (sym first.are) is.adds_up;
        named = λ n r at. named_first names cache n (worker_in r).late (n % t.head.domains) r (first.each n r at);
        absent = λ n r at. (first.each n r at).there;
        unasked = λ n r at. let one = first.each n r at in (one.asked, one.gave_up);
      }

  worker_count : (t : Trace) (s : Setting H Part h) (begun ended : List (WorkerRun N H C S Part h)) → IsSetUp t s → AreFirst names cache t.head.domains s.workers.items begun → length ended ≡ length begun → length ended ≡ t.head.workers
  worker_count t s begun ended is first count = count ∙ (sym (length-map begun worker_in) ∙ (ap length first.are ∙ is.begin.one_each))

  -- the workers when all rounds are done
  pub done_of : (t : Trace) (s : Setting H Part h) (begun ended : List (WorkerRun N H C S Part h)) → IsSetUp t s → AreFirst names cache t.head.domains s.workers.items begun → length ended ≡ length begun
      → AllStand s.zones.items s.clock (reverse (lines_of t.rounds)) (crew ended) → ((z : ℕ) → AddsUp z (crew ended)) → AreDone t s.zones.items s.clock (crew ended)
  done_of t s begun ended is first count stand adds_up = record {
    clock_made = is.clock;
    zones_made = is.zones;
    worker_count = length-map ended worker_in ∙ worker_count t s begun ended is first count;
    stand = stand;
    adds_up = adds_up;
  }

  -- and what each has of the names
  pub named_of : (t : Trace) (s : Setting H Part h) (begun ended : List (WorkerRun N H C S Part h)) (back : List (Worker H Part h)) (name_works : List (NameWork N H C S Part)) → IsSetUp t s → AreFirst names cache t.head.domains s.workers.items begun
      → length ended ≡ length begun → names.serves ≡ is_some t.head.names → (IsTrue names.serves → names.clock_of cache ≡ clock_id s.clock) → IfSome t.head.names (λ line. names.sizes_of cache ≡ sizes_for t.head line)
      → AllStand s.zones.items s.clock (reverse (lines_of t.rounds)) (crew ended) → AllNamed names cache (reverse (lines_of t.rounds)) ended
      → DoRounds names cache s.zones.items t.rounds begun ended → AllBack s.clock (crew ended) back → name_works ≡ name_works_of ended → NamesDone names t cache s.zones.items s.clock back name_works
  named_of t s begun ended back name_works is first count served of_clock sizes stand named did comes same_name_works =
      let Q : List (NameWork N H C S Part) → Type 0 = λ gs. NamesDone names t cache s.zones.items s.clock back gs in
      subst Q (sym same_name_works) (record {
        served = served;
        of_clock = λ serves. sym (of_clock serves);
        sizes = sizes;
        name_work_count = length-map ended (λ r. r.name_work) ∙ worker_count t s begun ended is first count;
        stand = λ n w name_work at at_name_work.
            let was = found_before (crew ended) back n w comes.count at in
            let both = of_both ended n was.0 name_work was.1 at_name_work in
            let A : ℕ → Type 0 = λ late. NamesStand names cache n (reverse (lines_of t.rounds)) late name_work in
            let B : NameWork N H C S Part → Type 0 = λ g. NamesStand names cache n (reverse (lines_of t.rounds)) (worker_in both.run).late g in
            subst A (sym (comes.each n was.0 w was.1 at).keeps.late) (subst A (ap (λ (x : Worker H Part h). x.late) both.is_worker) (subst B both.is_name_work (named n both.run both.at)));
        together = together_of names cache t s begun ended back is first comes did;
      })

most_workers : (count workers : ℕ) → count ≡ workers → workers ≤ 16 → count ≤ 16
most_workers count workers same few = omega arith

domains_most : (domains of_names : ℕ) → of_names ≡ domains → domains ≤ of_names
domains_most domains of_names same = omega arith

module _ {H Part : Type 0} {h : Ghosts H Part} where
  pub few_workers : (t : Trace) (s : Setting H Part h) → IsValid t → IsSetUp t s → length s.workers.items ≤ 16
  few_workers t s valid is = most_workers (length s.workers.items) t.head.workers is.begin.one_each valid.head.workers.1

module _ {N H C S Part : Type 0} (names : NameGhosts N H C S Part) (cache : C) where
  domains_by : (head : Head) (o : Option NamesHead) → names.serves ≡ is_some o → IfSome o (λ line. names.sizes_of cache ≡ sizes_for head line) → IsTrue names.serves → head.domains ≤ (names.sizes_of cache).domains
  domains_by head None served sizes serves = absurd (true≢false (sym serves ∙ served))
  domains_by head (Some line) served sizes serves = domains_most head.domains (names.sizes_of cache).domains (ap (λ (s : NameSizes). s.domains) sizes)

  -- who serves the names of a trace has all its memory domains
  pub served_domains : (t : Trace) → names.serves ≡ is_some t.head.names → IfSome t.head.names (λ line. names.sizes_of cache ≡ sizes_for t.head line) → IsTrue names.serves → t.head.domains ≤ (names.sizes_of cache).domains
  served_domains t served sizes = domains_by t.head t.head.names served sizes

-- ---- how often workers gave up

below_all : (gave_up done size : ℕ) → gave_up ≤ done → done ≤ size → size ≤ 16777216 → gave_up ≤ 16777216
below_all gave_up done size e1 e2 e3 = omega arith

one_more : (all first rest count most : ℕ) → all ≡ first + rest → first ≤ most → rest ≤ count * most → all ≤ suc count * most
one_more all first rest count most e1 e2 e3 = omega arith

both_none : (all first rest : ℕ) → all ≡ first + rest → first ≡ 0 → rest ≡ 0 → all ≡ 0
both_none all first rest e1 e2 e3 = omega arith

most_same : (a b c : ℕ) → a ≤ b → b ≡ c → a ≤ c
most_same a b c most same = omega arith

module _ {N H C S Part : Type 0} {h : Ghosts H Part} where
  sum_most : (f : WorkerRun N H C S Part h → ℕ) (most : ℕ) (rs : List (WorkerRun N H C S Part h)) → ((n : ℕ) (r : WorkerRun N H C S Part h) → slice_get rs n ≡ Some r → f r ≤ most) → sum_by f rs ≤ length rs * most
  sum_most f most [] each = omega arith
  sum_most f most (r ∷ rs) each = one_more _ _ _ _ _ (sum_by-cons f r rs) (each 0 r refl) (sum_most f most rs (λ n. each (suc n)))

few_sum : (all sum count workers : ℕ) → all ≡ sum → sum ≤ count * 16777216 → count ≡ workers → workers ≤ 16 → all < 2 ^ 64
few_sum all sum count workers same_sum most same few = omega arith

module _ {N H C S Part : Type 0} {h : Ghosts H Part} where
  pub gave_ups_few : (t : Trace) (clock : Clock H Part) (workers : List (Worker H Part h)) (name_works : List (NameWork N H C S Part)) (gave_ups : List ℕ) → IsValid t → length (lines_of t.rounds) ≤ 16777216
      → length workers ≡ t.head.workers → HaveEnded t clock workers name_works gave_ups → sum gave_ups < 2 ^ 64
  unfolding done_by
  gave_ups_few t clock workers name_works gave_ups valid few count e =
      let lines = reverse (lines_of t.rounds) in
      let own : WorkerRun N H C S Part h → ℕ = λ r. r.gave_up in
      few_sum (sum gave_ups) (sum_by own e.ended) (length e.ended) t.head.workers (ap sum e.gave_ups_are ∙ sum-map own e.ended)
      (sum_most own 16777216 e.ended (λ n r at.
      below_all r.gave_up (done_by n lines) (length (lines_of t.rounds)) (e.asked n r at).gave_up_few (most_same _ _ _ (count_by-le-length (is_by n) lines) (length-reverse (lines_of t.rounds))) few))
      (sym (length-map e.ended worker_in) ∙ (sym e.stay.count ∙ count)) valid.head.workers.1

  none_all : (rs : List (WorkerRun N H C S Part h)) → ((n : ℕ) (r : WorkerRun N H C S Part h) → slice_get rs n ≡ Some r → r.gave_up ≡ 0) → sum_by (λ (r : WorkerRun N H C S Part h). r.gave_up) rs ≡ 0
  none_all [] each = refl
  none_all (r ∷ rs) each = both_none _ _ _ (sum_by-cons (λ (r : WorkerRun N H C S Part h). r.gave_up) r rs) (each 0 r refl) (none_all rs (λ n. each (suc n)))

  -- a free gate's workers never did
  pub none_gave_up : (begun ended : List (WorkerRun N H C S Part h)) → ((n : ℕ) (r : WorkerRun N H C S Part h) → slice_get begun n ≡ Some r → r.gave_up ≡ 0) → GaveUpAsBefore begun ended → sum (gave_ups_of ended) ≡ 0
  none_gave_up begun ended none same = ap sum same ∙ (sum-map (λ (r : WorkerRun N H C S Part h). r.gave_up) begun ∙ none_all begun none)

-- ---- a vector whose items were written through a slice of all of them

written_all : {A : Type 0} (new old : List A) → length new ≡ length old → take (length new) (new ++ drop (length new) old) ≡ new
written_all [] [] same = refl
written_all [] (y ∷ old) same = absurd (omega arith)
written_all (x ∷ new) [] same = absurd (omega arith)
written_all (x ∷ new) (y ∷ old) same = ap (λ xs. x ∷ xs) (written_all new old (omega arith))

pub written_back : {A : Type 0} (new old : List A) (len : ℕ) → len ≡ length old → length new ≡ length old → take len (new ++ drop (length new) old) ≡ new
written_back new old len is same = ap (λ n. take n (new ++ drop (length new) old)) (is ∙ sym same) ∙ written_all new old same
