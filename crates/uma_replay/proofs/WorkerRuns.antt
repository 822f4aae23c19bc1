-- Workers between turns, by their numbers.
use Rattle.std.proofs.Common.{◌≡◌, ℕ, zero, suc, ◌+◌, ◌%◌, ◌≤◌, List, [], ◌∷◌, ◌++◌, length, true, false, Option, None, Some, inl, inr, refl, sym, ap, ◌∙◌, subst, arith}
use Rattle.std.proofs.lemmas.Bool.{false≢true}
use Rattle.std.proofs.lemmas.List.{map-append}
use Rattle.std.proofs.lemmas.Option.{none-some, same_Some}
use Rattle.std.specs.Prelude.{IfSome, IsTrue, slice_get}
use Rattle.smr_clock.specs.declared.host.Host.{Ghosts}
use Rattle.zone_stats.specs.declared.ledger.SeatLedger.{SeatLedger}
use Rattle.zone_stats.specs.LedgerSteps.{IsNew}
use Rattle.replay_worker.specs.declared.name_calls.NameCalls.{Ghosts as NameGhosts}
use Rattle.replay_worker.specs.declared.name_work.NameCounts.{NameCounts}
use Rattle.replay_worker.specs.declared.name_work.NameWork.{NameWork}
use Rattle.replay_worker.specs.declared.worker_run.WorkerRun.{WorkerRun}
use Rattle.replay_worker.specs.declared.worker.Worker.{Worker}
use Rattle.replay_worker.specs.Attendance.{is_out, worker_in}
use Rattle.replay_worker.specs.Counting.{binds, looks, unbinds}
use Rattle.replay_worker.specs.NameWork.{no_counts}
use Rattle.replay_worker.specs.NamesStand.{NameCountsStand, NameLedgerStands, NamesStand}
use Rattle.replay_worker.specs.Together.{crew}
use Rattle.replay_worker.proofs.LineCounts.{binds-none, looks-none}
use Rattle.uma_replay.specs.Names.{first_counts}
use Rattle.uma_replay.specs.Playing.{AreFirst, IsFirst, name_works_of}
use Rattle.uma_replay.proofs.Pushed.{at_end}

module _ {N H C S Part : Type 0} {h : Ghosts H Part} where
  -- who has this worker, and this of the names
  pub record OfBoth (runs : List (WorkerRun N H C S Part h)) (n : ℕ) (w : Worker H Part h) (name_work : NameWork N H C S Part) : Type 0 where
    pub run : WorkerRun N H C S Part h
    pub at : slice_get runs n ≡ Some run
    pub is_worker : worker_in run ≡ w
    pub is_name_work : run.name_work ≡ name_work

  pub of_both : (runs : List (WorkerRun N H C S Part h)) (n : ℕ) (w : Worker H Part h) (name_work : NameWork N H C S Part) → slice_get (crew runs) n ≡ Some w → slice_get (name_works_of runs) n ≡ Some name_work → OfBoth runs n w name_work
  of_both [] n w name_work at at_name_work = absurd (none-some w at)
  of_both (r ∷ runs) zero w name_work at at_name_work = record { run = r; at = refl; is_worker = same_Some (worker_in r) w at; is_name_work = same_Some r.name_work name_work at_name_work }
  of_both (r ∷ runs) (suc n) w name_work at at_name_work =
      let later = of_both runs n w name_work at at_name_work in
      record { run = later.run; at = later.at; is_worker = later.is_worker; is_name_work = later.is_name_work }

-- ---- before the first line

all_none : (hits misses late looked : ℕ) → hits ≡ 0 → misses ≡ 0 → late ≡ 0 → looked ≡ 0 → hits + misses + late ≡ looked
all_none hits misses late looked e1 e2 e3 e4 = omega arith

both_none : (bound refused asked : ℕ) → bound ≡ 0 → refused ≡ 0 → asked ≡ 0 → bound + refused ≡ asked
both_none bound refused asked e1 e2 e3 = omega arith

none_le : (a b : ℕ) → a ≡ 0 → a ≤ b
none_le a b none = omega arith

counts_first : (n late : ℕ) (counts : NameCounts) → counts ≡ no_counts → NameCountsStand n [] late counts
counts_first n late counts none = record {
  looks_add_up = all_none counts.hits counts.misses counts.late (looks n []) (ap (λ (c : NameCounts). c.hits) none) (ap (λ (c : NameCounts). c.misses) none) (ap (λ (c : NameCounts). c.late) none) (looks-none n);
  binds_add_up = both_none counts.binds counts.refused (binds n []) (ap (λ (c : NameCounts). c.binds) none) (ap (λ (c : NameCounts). c.refused) none) (binds-none n);
  unbound = none_le counts.unbound (unbinds n []) (ap (λ (c : NameCounts). c.unbound) none);
  late_few = none_le counts.late late (ap (λ (c : NameCounts). c.late) none);
}

ledger_first : (slabs n refused : ℕ) (ledger : SeatLedger) → IsNew ledger → NameLedgerStands slabs n [] refused ledger
ledger_first slabs n refused ledger new = record {
  requests = new.requests ∙ sym (binds-none n);
  turned = none_le ledger.fails ledger.turned new.fails;
  fails = none_le ledger.fails refused new.fails;
  frees = none_le ledger.frees (binds n [] + unbinds n []) new.frees;
  kept = λ refusal is. absurd (none-some refusal (sym new.last ∙ is));
}

if_first : (slabs n refused : ℕ) (o : Option SeatLedger) → IfSome o IsNew → IfSome o (NameLedgerStands slabs n [] refused)
if_first slabs n refused None new = tt
if_first slabs n refused (Some ledger) new = ledger_first slabs n refused ledger new

module _ {N H C S Part : Type 0} {h : Ghosts H Part} (names : NameGhosts N H C S Part) (cache : C) where
  pub named_first : (n late domain : ℕ) (r : WorkerRun N H C S Part h) → IsFirst names cache domain r → NamesStand names cache n [] late r.name_work
  named_first n late domain r is = record {
    seat = is.seat;
    counts = counts_first n late r.name_work.counts is.counts;
    ledger = if_first (names.sizes_of cache).slabs n r.name_work.counts.refused (names.counted r.name_work.seat) is.fresh;
  }

  -- a worker before its first turn
  pub first_of : (seat : S) (domain : ℕ) (r : WorkerRun N H C S Part h) → names.IsSeat cache seat → (IsTrue names.serves → names.domain_of seat ≡ domain) → IfSome (names.counted seat) IsNew → names.usable seat ≡ [] → r.name_work.seat ≡ seat
      → r.name_work.counts ≡ no_counts → r.asked ≡ 0 → r.gave_up ≡ 0 → is_out r.attendance ≡ false → IsFirst names cache domain r
  first_of seat domain r of_cache own new unused same counts asked gave_up there =
      let P : S → Type 0 = λ s. names.IsSeat cache s in
      let Q : S → Type 0 = λ s. IfSome (names.counted s) IsNew in
      record { seat = subst P (sym same) of_cache; own = λ serves. ap names.domain_of same ∙ own serves; fresh = subst Q (sym same) new; unused = ap names.usable same ∙ unused; counts = counts; asked = asked; gave_up = gave_up; there = there }

  -- one more
  pub first_more : (domains : ℕ) (workers : List (Worker H Part h)) (runs all : List (WorkerRun N H C S Part h)) (w : Worker H Part h) (r : WorkerRun N H C S Part h) → AreFirst names cache domains workers runs
      → IsFirst names cache (length runs % domains) r → worker_in r ≡ w → all ≡ runs ++ r ∷ [] → AreFirst names cache domains (workers ++ w ∷ []) all
  first_more domains workers runs all w r are first same pushed =
      let All : List (WorkerRun N H C S Part h) → Type 0 = λ list. AreFirst names cache domains (workers ++ w ∷ []) list in
      subst All (sym pushed) (record {
        are = map-append worker_in runs (r ∷ []) ∙ (ap (λ list. list ++ worker_in r ∷ []) are.are ∙ ap (λ x. workers ++ x ∷ []) same);
        each = λ n x at. elim (at_end runs r n x at) [
          | inl before ↦ are.each n x before
          | inr last ↦
              let P : ℕ → Type 0 = λ i. IsFirst names cache (i % domains) r in
              let Q : WorkerRun N H C S Part h → Type 0 = λ y. IsFirst names cache (n % domains) y in
              subst Q (sym last.1) (subst P (sym last.0) first)
        ];
      })

module _ {N H C S Part : Type 0} (names : NameGhosts N H C S Part) where
  -- names are served where the first seat counts
  pub serve_where_counted : (name_works : List (NameWork N H C S Part)) → first_counts names name_works ≡ true → IsTrue names.serves
  serve_where_counted [] counts = absurd (false≢true counts)
  serve_where_counted (name_work ∷ name_works) counts = sym (names.counts_where_served name_work.seat) ∙ counts
