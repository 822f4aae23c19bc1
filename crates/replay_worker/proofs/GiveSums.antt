-- What stays of all workers as slots of one of them are written: all but slots, and how many items of a zone they hold.
use Rattle.std.proofs.Common.{◌≡◌, ℕ, ◌+◌, ◌<◌, List, [], ◌∷◌, cond, Option, None, Some, refl, sym, ap, ◌∙◌, subst, arith, add-zero, length, get_or, map}
use Rattle.std.proofs.lemmas.List.{map-set, set-get_or, length-map}
use Rattle.std.proofs.lemmas.List.Sums.{sum_by-cons, sum_by-set}
use Rattle.std.proofs.lemmas.Option.{slice_get-map, slice_get-get_or, slice_get_within, get_or_from_slice_get, same_Some}
use Rattle.std.specs.List.{sum_by}
use Rattle.std.specs.Option.{option_map_or}
use Rattle.std.specs.Prelude.{option_map, slice_get, slice_set}
use Rattle.smr_clock.specs.declared.host.Host.{Ghosts}
use Rattle.replay_worker.specs.declared.gate.Attendance.{Attendance}
use Rattle.replay_worker.specs.declared.worker.Held.{Held}
use Rattle.replay_worker.specs.declared.worker_run.WorkerRun.{WorkerRun}
use Rattle.replay_worker.specs.declared.worker.Worker.{Worker}
use Rattle.replay_worker.specs.Attendance.{worker_in}
use Rattle.replay_worker.specs.Giving.{Gives, KeepsRest, SetsSlots, with_slots}
use Rattle.replay_worker.specs.Live.{is_of, live_count}
use Rattle.replay_worker.specs.Slots.{slot_at, filled, emptied}
use Rattle.replay_worker.specs.Together.{AddsUp, all_allocs, all_frees, all_live, crew, ledger_at}
use Rattle.replay_worker.proofs.Attending.{slots_with, with_twice, worker_with}
use Rattle.replay_worker.proofs.Belongs.{some_within}
use Rattle.replay_worker.proofs.Numbers.{below_as}
use Rattle.replay_worker.proofs.SlotLemmas.{count-with, count-emptied, emptied_none}

module _ {N H C S Part : Type 0} {h : Ghosts H Part} where
  -- ---- a worker of the crew is that of a turn

  pub crew_at : (workers : List (WorkerRun N H C S Part h)) (n : ℕ) (d : WorkerRun N H C S Part h) → n < length workers → slice_get (crew workers) n ≡ Some (worker_in (get_or workers n d))
  crew_at workers n d below = slice_get-map worker_in workers n ∙ ap (option_map worker_in) (slice_get-get_or workers n d below)

  pub worker_of : (P : ℕ → Worker H Part h → Type 0) (workers : List (WorkerRun N H C S Part h)) → ((n : ℕ) (d : WorkerRun N H C S Part h) → n < length workers → P n (worker_in (get_or workers n d)))
      → (n : ℕ) (w : Worker H Part h) → slice_get (crew workers) n ≡ Some w → P n w
  worker_of P workers all n w at =
      let below : n < length workers = below_as (slice_get_within (crew workers) n w at) (sym (length-map workers worker_in)) in
      let found = some_within workers n below in
      let r : WorkerRun N H C S Part h = found.0 in
      let is : worker_in r ≡ w = same_Some (worker_in r) w (sym (slice_get-map worker_in workers n ∙ ap (option_map worker_in) found.1) ∙ at) in
      let F : WorkerRun N H C S Part h → Type 0 = λ x. P n (worker_in x) in
      subst (P n) is (subst F (get_or_from_slice_get workers n r r found.1) (all n r below))

  -- ---- all but the slots

  abbrev bare : WorkerRun N H C S Part h → WorkerRun N H C S Part h
  bare r = with_slots r []

  rest_set : (n : ℕ) (after : List (Option Held) → List (Option Held)) (old new : List (WorkerRun N H C S Part h)) → SetsSlots n after old new → KeepsRest old new
  rest_set n after old new sets =
      let before = sets.before in
      let changed : WorkerRun N H C S Part h = with_slots before (after (worker_in before).slots) in
      let same : bare changed ≡ bare before = ap (λ (a : Attendance H Part h). record before { attendance = a }) (with_twice before.attendance (after (worker_in before).slots) []) in
      ap (map bare) sets.set ∙ (map-set bare old n changed ∙ ap (slice_set (map bare old) n) same ∙ (sym (map-set bare old n before) ∙ ap (map bare) (ap (slice_set old n) (sym (sets.at before)) ∙ set-get_or old n before)))

  pub rest_gives : (giver slot taker slot2 : ℕ) (old new : List (WorkerRun N H C S Part h)) → Gives giver slot taker slot2 old new → KeepsRest old new
  rest_gives giver slot taker slot2 old new gives =
      rest_set taker (λ slots. filled slots slot2 gives.held) gives.between new gives.puts.sets ∙ rest_set giver (λ slots. emptied slots slot) old gives.between gives.takes.sets

same_sum : {a b x x' s s' : ℕ} → a ≡ x + s → b ≡ x' + s' → x' ≡ x → s ≡ s' → a ≡ b
same_sum e f g h = omega arith

module _ {N H C S Part : Type 0} {h : Ghosts H Part} where
  -- a sum over workers that looks at no slots
  sum_bare : (f : Worker H Part h → ℕ) → ((w : Worker H Part h) → f (record w { slots = [] }) ≡ f w) → (workers : List (WorkerRun N H C S Part h)) → sum_by f (crew workers) ≡ sum_by f (crew (map bare workers))
  sum_bare f blind [] = refl
  sum_bare f blind (r ∷ workers) =
      same_sum (sum_by-cons f (worker_in r) (crew workers)) (sum_by-cons f (worker_in (bare r)) (crew (map bare workers))) (ap f (worker_with r.attendance []) ∙ blind (worker_in r)) (sum_bare f blind workers)

  sum_rest : (f : Worker H Part h → ℕ) → ((w : Worker H Part h) → f (record w { slots = [] }) ≡ f w) → (old new : List (WorkerRun N H C S Part h)) → KeepsRest old new → sum_by f (crew new) ≡ sum_by f (crew old)
  sum_rest f blind old new rest = sum_bare f blind new ∙ (ap (λ (workers : List (WorkerRun N H C S Part h)). sum_by f (crew workers)) rest ∙ sym (sum_bare f blind old))

  pub allocs_rest : (z : ℕ) (old new : List (WorkerRun N H C S Part h)) → KeepsRest old new → all_allocs z (crew new) ≡ all_allocs z (crew old)
  allocs_rest z old new rest = sum_rest (λ w. option_map_or (λ ledger. ledger.allocs) (ledger_at z w) 0) (λ w. refl) old new rest

  pub frees_rest : (z : ℕ) (old new : List (WorkerRun N H C S Part h)) → KeepsRest old new → all_frees z (crew new) ≡ all_frees z (crew old)
  frees_rest z old new rest = sum_rest (λ w. option_map_or (λ ledger. ledger.frees) (ledger_at z w) 0) (λ w. refl) old new rest

-- ---- the items

abbrev one_of : ℕ → Option Held → ℕ
one_of z got = cond (is_of z got) 1 0

live_emptied : (z slot : ℕ) (slots : List (Option Held)) (got : Option Held) → got ≡ slot_at slots slot → live_count z (emptied slots slot) + one_of z got ≡ live_count z slots
live_emptied z slot slots (Some it) is = count-emptied (is_of z) slots slot it refl (sym is)
live_emptied z slot slots None is = add-zero (live_count z (emptied slots slot)) ∙ ap (live_count z) (emptied_none slots slot (sym is))

live_filled : (z slot : ℕ) (slots : List (Option Held)) (got : Option Held) → slot_at slots slot ≡ None → live_count z (filled slots slot got) ≡ live_count z slots + one_of z got
live_filled z slot slots (Some it) empty = count-with (is_of z) slots slot it refl empty
live_filled z slot slots None empty = sym (add-zero (live_count z slots))

module _ {N H C S Part : Type 0} {h : Ghosts H Part} where
  live_set : (z n : ℕ) (after : List (Option Held) → List (Option Held)) (old new : List (WorkerRun N H C S Part h)) (sets : SetsSlots n after old new) → n < length old
      → all_live z (crew new) + live_count z (worker_in sets.before).slots ≡ all_live z (crew old) + live_count z (after (worker_in sets.before).slots)
  live_set z n after old new sets below =
      let f : Worker H Part h → ℕ = λ w. live_count z w.slots in
      let before = sets.before in
      let changed : WorkerRun N H C S Part h = with_slots before (after (worker_in before).slots) in
      let inside : n < length (crew old) = below_as below (length-map old worker_in) in
      let at : get_or (crew old) n (worker_in before) ≡ worker_in before =
      get_or_from_slice_get (crew old) n (worker_in before) (worker_in before) (crew_at old n before below ∙ ap (λ (r : WorkerRun N H C S Part h). Some (worker_in r)) (sets.at before)) in
      let are : all_live z (crew new) ≡ all_live z (slice_set (crew old) n (worker_in changed)) = ap (all_live z) (ap crew sets.set ∙ map-set worker_in old n changed) in
      let P : ℕ → Type 0 = λ now. now + live_count z (worker_in before).slots ≡ all_live z (crew old) + live_count z (worker_in changed).slots in
      let Q : Worker H Part h → Type 0 = λ w. all_live z (slice_set (crew old) n (worker_in changed)) + live_count z w.slots ≡ all_live z (crew old) + live_count z (worker_in changed).slots in
      let R : List (Option Held) → Type 0 = λ slots. all_live z (crew new) + live_count z (worker_in before).slots ≡ all_live z (crew old) + live_count z slots in
      subst R (slots_with before.attendance (after (worker_in before).slots)) (subst P (sym are) (subst Q at (sum_by-set f (crew old) n (worker_in changed) (worker_in before) inside)))

moved_sum : (second given took one : ℕ) {first third gave taken : ℕ} → second + gave ≡ first + given → given + one ≡ gave → third + took ≡ second + taken → taken ≡ took + one → third ≡ first
moved_sum second given took one e f g h = omega arith

module _ {N H C S Part : Type 0} {h : Ghosts H Part} where
  pub live_gives : (z giver slot taker slot2 : ℕ) (old new : List (WorkerRun N H C S Part h)) (gives : Gives giver slot taker slot2 old new) → giver < length old → taker < length gives.between
      → slot_at (worker_in gives.puts.sets.before).slots slot2 ≡ None → all_live z (crew new) ≡ all_live z (crew old)
  live_gives z giver slot taker slot2 old new gives is_giver is_taker empty =
      let took = gives.takes.sets in
      let put = gives.puts.sets in
      let S : WorkerRun N H C S Part h → Type 0 = λ r. gives.held ≡ slot_at (worker_in r).slots slot in
      let had : gives.held ≡ slot_at (worker_in took.before).slots slot = subst S (took.at took.before) (gives.takes.took took.before) in
      moved_sum (all_live z (crew gives.between)) (live_count z (emptied (worker_in took.before).slots slot)) (live_count z (worker_in put.before).slots) (one_of z gives.held)
      (live_set z giver (λ slots. emptied slots slot) old gives.between took is_giver) (live_emptied z slot (worker_in took.before).slots gives.held had)
      (live_set z taker (λ slots. filled slots slot2 gives.held) gives.between new put is_taker) (live_filled z slot2 (worker_in put.before).slots gives.held empty)

adds_as : {live frees allocs live' frees' allocs' : ℕ} → live' ≡ live → frees' ≡ frees → allocs' ≡ allocs → live + frees ≡ allocs → live' + frees' ≡ allocs'
adds_as e f g h = omega arith

module _ {N H C S Part : Type 0} {h : Ghosts H Part} where
  pub adds_up_on : (z : ℕ) (old new : List (WorkerRun N H C S Part h)) → KeepsRest old new → all_live z (crew new) ≡ all_live z (crew old) → AddsUp z (crew old) → AddsUp z (crew new)
  adds_up_on z old new rest live adds = adds_as live (frees_rest z old new rest) (allocs_rest z old new rest) adds
