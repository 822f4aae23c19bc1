-- Each kind of step may be taken, whoever the host is.
use Rattle.std.proofs.Common.{◌≡◌, ◌≢◌, ℕ, ◌-◌, ◌^◌, ◌<◌, ◌≤◌, refl, sym, subst, arith, Bool, true, false, cond, Option, Some, ◌⊎◌, IsSome}
use Rattle.std.specs.Prelude.{◌==◌}
use Rattle.std.specs.Int.Bits.{bit_and, bit_or}
use prog.Atomic.{either}
use Rattle.smr_core.specs.declared.clock_core.ClockConfig.{ClockConfig}
use Rattle.smr_core.specs.ClockLaw.{Keeps}
use Rattle.atomic_table.specs.Table.{State, Me, Allows}
use Rattle.smr_core.specs.declared.holder.Holder.{Holder}
use Rattle.smr_core.specs.declared.holder.Phase.TheVariants as phase
use Rattle.smr_core.specs.declared.holder.Task.TheVariants as task
use Rattle.smr_core.specs.ClockState.{write_place, read_place, seat_place, presence_place, IsSeatWord}
use Rattle.smr_core.specs.ClockStep.{same, stored, exchanged}
use Rattle.smr_core.specs.ClockStep as clock
use Rattle.smr_core.proofs.Keeps.Looks.{write_look-keeps, read_look-keeps}
use Rattle.smr_core.proofs.Keeps.EnterLoad.{enter_load-keeps}
use Rattle.smr_core.proofs.Keeps.EnterCheck.{enter_check-keeps}
use Rattle.smr_core.proofs.Keeps.Stores.{enter_store-keeps, clear-keeps}
use Rattle.smr_core.proofs.Keeps.Presences.{leave-keeps, come-keeps}
use Rattle.smr_core.proofs.Keeps.AdvanceLoads.{advance_read-keeps, advance_load-keeps}
use Rattle.smr_core.proofs.Keeps.Swaps.{advance_swap-keeps, poll_swap-keeps}
use Rattle.smr_core.proofs.Keeps.PollLoads.{poll_read-keeps, poll_load-keeps, poll_present-keeps}
use Rattle.smr_core.proofs.Keeps.PollScan.{poll_scan-keeps}
use Rattle.smr_core.specs.RememberedMoves.{KeepsMemory}
use Rattle.smr_core.proofs.Keeps.Memory.{write_look-remembers, read_look-remembers, enter_load-remembers, enter_store-remembers, enter_check-remembers, clear-remembers, leave-remembers, come-remembers, advance_read-remembers, advance_load-remembers, advance_swap-remembers, poll_read-remembers, poll_load-remembers, poll_present-remembers, poll_scan-remembers, poll_swap-remembers}
use Rattle.smr_clock.specs.declared.clock.Setup.{Setup}
use Rattle.smr_clock.specs.declared.view.View.{View}
use Rattle.smr_clock.specs.Views.{plain}
use Rattle.smr_clock.specs.HostLaws.{Rule, Includes, FrameLaw}
use Rattle.smr_clock.specs.Steps as step
use Rattle.smr_clock.specs.Steps.{IsWriteFound, IsReadFound}
use Rattle.smr_clock.proofs.Found.{write_found, read_found, above_read}
use Rattle.smr_clock.proofs.Kept.{SameAside, allowed}

pub aside : {P : Type 0} (v v' : View P) → v'.setup ≡ v.setup → v'.made ≡ v.made → v'.host ≡ v.host → v'.holder.seat ≡ v.holder.seat → SameAside v v'
aside v v' s m h n = record { setup = s; made = m; host = h; seat = n }

-- an advance's load leaves the seat, whether or not the advance goes on
by_test : (b : Bool) (h k : Holder) (s : Option ℕ) → h.seat ≡ s → k.seat ≡ s → (cond b h k).seat ≡ s
by_test true h k s p q = p
by_test false h k s p q = q

pub advance_seat : (a : ClockConfig) (h : Holder) (found : ℕ) → (clock.advance_loaded a h found).seat ≡ h.seat
advance_seat a h found =
    by_test (clock.is_spent found) (clock.advance_ended a h found) _ h.seat refl
    (by_test (clock.is_too_far a h.read found) (clock.advance_ended a h found) (record (clock.write_loaded a h found) { task = task.AdvLoaded; write = found }) h.seat refl refl)

module _ {P : Type 0} (holds : Rule P) (includes : Includes holds) (frame : FrameLaw holds) (a : Setup) (slots id : ℕ) (me : Me (Unit {0}) (View P)) (own : me.0.setup ≡ a) where
  abbrev Mine : ℕ → (ℕ → ℕ) → (ℕ → Me (Unit {0}) (View P) → Type 0) → Type 0
  Mine i f then = Allows (λ (s : State (Unit {0}) (View P)). holds a s.words s.views) slots id me i f then

  -- a load of the write sequence, and one of the read sequence
  write_load : (next : ℕ → View P) → ((found : ℕ) → SameAside me.0 (next found)) → Keeps me.0.setup.config id me.0.holder write_place same (λ found. (next found).holder)
      → KeepsMemory me.0.setup.config id (plain me.0) write_place (λ found. plain (next found))
      → Mine write_place (λ n. n) (λ found after. IsWriteFound me.0.holder found × (after ≡ (next found, me.1)))
  write_load next aside lawful remembers =
      allowed holds includes frame a slots id me write_place same next (λ found after. IsWriteFound me.0.holder found × (after ≡ (next found, me.1))) own (omega arith) aside lawful remembers
      (λ ws hs law at. (write_found me.0.setup.config ws hs id me.0.holder law at, refl))

  read_load : (next : ℕ → View P) → ((found : ℕ) → SameAside me.0 (next found)) → Keeps me.0.setup.config id me.0.holder read_place same (λ found. (next found).holder)
      → KeepsMemory me.0.setup.config id (plain me.0) read_place (λ found. plain (next found))
      → Mine read_place (λ n. n) (λ found after. IsReadFound me.0.holder found × (after ≡ (next found, me.1)))
  read_load next aside lawful remembers =
      allowed holds includes frame a slots id me read_place same next (λ found after. IsReadFound me.0.holder found × (after ≡ (next found, me.1))) own (omega arith) aside lawful remembers
      (λ ws hs law at. (read_found me.0.setup.config ws hs id me.0.holder law at, refl))

  pub write_looks : Mine write_place (λ n. n) (λ found after. IsWriteFound me.0.holder found × (me.0.holder.floor ≤ found) × (after ≡ (step.write_looking me.0 found, me.1)))
  write_looks =
      allowed holds includes frame a slots id me write_place same (step.write_looking me.0) (λ found after. IsWriteFound me.0.holder found × (me.0.holder.floor ≤ found) × (after ≡ (step.write_looking me.0 found, me.1))) own (omega arith)
      (λ found. aside _ _ refl refl refl refl) (write_look-keeps me.0.setup.config id me.0.holder) (write_look-remembers me.0.setup.config id (plain me.0))
      (λ ws hs law at. (write_found me.0.setup.config ws hs id me.0.holder law at, above_read me.0.setup.config ws hs id me.0.holder law at, refl))

  pub read_looks : Mine read_place (λ n. n) (λ found after. IsReadFound me.0.holder found × (after ≡ (step.read_looking me.0 found, me.1)))
  read_looks = read_load (step.read_looking me.0) (λ found. aside _ _ refl refl refl refl) (read_look-keeps me.0.setup.config id me.0.holder) (read_look-remembers me.0.setup.config id (plain me.0))

  pub enter_loads : me.0.holder.phase ≡ phase.Outside → Mine write_place (λ n. n) (λ found after. IsWriteFound me.0.holder found × (after ≡ (step.enter_loading me.0 found, me.1)))
  enter_loads outside = write_load (step.enter_loading me.0) (λ found. aside _ _ refl refl refl refl) (enter_load-keeps me.0.setup.config id me.0.holder outside) (enter_load-remembers me.0.setup.config id (plain me.0))

  pub enter_checks : me.0.holder.phase ≡ phase.Stored → Mine write_place (λ n. n) (λ found after. IsWriteFound me.0.holder found × (after ≡ (step.enter_checking me.0 found, me.1)))
  enter_checks stored = write_load (step.enter_checking me.0) (λ found. aside _ _ refl refl refl refl) (enter_check-keeps me.0.setup.config id me.0.holder stored) (enter_check-remembers me.0.setup.config id (plain me.0) stored)

  pub advance_reads : IsSome me.0.holder.seat → me.0.holder.phase ≢ phase.Vacant → Mine read_place (λ n. n) (λ found after. IsReadFound me.0.holder found × (after ≡ (step.advance_reading me.0 found, me.1)))
  advance_reads seated worker = read_load (step.advance_reading me.0) (λ found. aside _ _ refl refl refl refl) (advance_read-keeps me.0.setup.config id me.0.holder seated worker) (advance_read-remembers me.0.setup.config id (plain me.0))

  pub advance_loads : me.0.holder.task ≡ task.AdvRead → Mine write_place (λ n. n) (λ found after. IsWriteFound me.0.holder found × (after ≡ (step.advance_loading me.0 found, me.1)))
  advance_loads reads =
      write_load (step.advance_loading me.0) (λ found. aside _ _ refl refl refl (advance_seat me.0.setup.config me.0.holder found)) (advance_load-keeps me.0.setup.config id me.0.holder reads) (advance_load-remembers me.0.setup.config id (plain me.0))

  pub poll_reads : me.0.holder.phase ≢ phase.Vacant → Mine read_place (λ n. n) (λ found after. IsReadFound me.0.holder found × (after ≡ (step.poll_reading me.0 found, me.1)))
  poll_reads worker = read_load (step.poll_reading me.0) (λ found. aside _ _ refl refl refl refl) (poll_read-keeps me.0.setup.config id me.0.holder worker) (poll_read-remembers me.0.setup.config id (plain me.0))

  pub poll_loads : me.0.holder.task ≡ task.PollRead → Mine write_place (λ n. n) (λ found after. IsWriteFound me.0.holder found × (after ≡ (step.poll_loading me.0 found, me.1)))
  poll_loads reads = write_load (step.poll_loading me.0) (λ found. aside _ _ refl refl refl refl) (poll_load-keeps me.0.setup.config id me.0.holder reads) (poll_load-remembers me.0.setup.config id (plain me.0))

  -- a load of the presence word
  pub poll_presents : (i : ℕ) → i ≡ presence_place me.0.setup.config → me.0.holder.task ≡ task.PollLoaded
      → Mine i (λ n. n) (λ found after. (found < 2 ^ me.0.setup.config.seats) × (after ≡ (step.poll_presenting me.0 found, me.1)))
  poll_presents i place loaded =
      subst (λ (j : ℕ). Mine j same (λ found after. (found < 2 ^ me.0.setup.config.seats) × (after ≡ (step.poll_presenting me.0 found, me.1)))) (sym place)
      (allowed holds includes frame a slots id me (presence_place me.0.setup.config) same (step.poll_presenting me.0) (λ found after. (found < 2 ^ me.0.setup.config.seats) × (after ≡ (step.poll_presenting me.0 found, me.1)))
      own (omega arith)
      (λ found. aside _ _ refl refl refl refl) (poll_present-keeps me.0.setup.config id me.0.holder loaded) (poll_present-remembers me.0.setup.config id (plain me.0))
      (λ ws hs law at. (law.presence, refl)))

  -- a load of the next seat's word
  pub poll_scans : (i : ℕ) → i ≡ seat_place me.0.holder.scanned → me.0.holder.task ≡ task.Scanning → me.0.holder.scanned < me.0.setup.config.seats
      → Mine i (λ n. n) (λ found after. IsSeatWord found × (after ≡ (step.poll_scanning me.0 found, me.1)))
  poll_scans i place scanning known =
      subst (λ (j : ℕ). Mine j same (λ found after. IsSeatWord found × (after ≡ (step.poll_scanning me.0 found, me.1)))) (sym place)
      (allowed holds includes frame a slots id me (seat_place me.0.holder.scanned) same (step.poll_scanning me.0) (λ found after. IsSeatWord found × (after ≡ (step.poll_scanning me.0 found, me.1))) own (omega arith)
      (λ found. aside _ _ refl refl refl refl) (poll_scan-keeps me.0.setup.config id me.0.holder scanning known) (poll_scan-remembers me.0.setup.config id (plain me.0) scanning known)
      (λ ws hs law at. (law.seat_words me.0.holder.scanned known, refl)))

  -- a store in one's own word
  own_store : (i s word value : ℕ) (next : View P) → i ≡ seat_place s → word ≡ value → s < me.0.setup.config.seats → SameAside me.0 next
      → Keeps me.0.setup.config id me.0.holder (seat_place s) (stored value) (λ found. next.holder)
      → KeepsMemory me.0.setup.config id (plain me.0) (seat_place s) (λ found. plain next)
      → Mine i (λ n. word) (λ found after. after ≡ (next, me.1))
  own_store i s word value next place is known aside lawful remembers =
      subst (λ (j : ℕ). Mine j (λ n. word) (λ found after. after ≡ (next, me.1))) (sym place)
      (subst (λ (w : ℕ). Mine (seat_place s) (λ n. w) (λ found after. after ≡ (next, me.1))) (sym is)
      (allowed holds includes frame a slots id me (seat_place s) (stored value) (λ found. next) (λ found after. after ≡ (next, me.1)) own (omega arith) (λ found. aside) lawful remembers
      (λ ws hs law at. refl)))

  pub enter_stores : (i s word : ℕ) → i ≡ seat_place s → word ≡ clock.entry_word me.0.holder → s < me.0.setup.config.seats → me.0.holder.seat ≡ Some s → me.0.holder.phase ≡ phase.Loaded
      → Mine i (λ n. word) (λ found after. after ≡ (step.enter_storing me.0, me.1))
  enter_stores i s word place is known seat loaded =
      own_store i s word (clock.entry_word me.0.holder) (step.enter_storing me.0) place is known (aside _ _ refl refl refl refl) (enter_store-keeps me.0.setup.config id me.0.holder s seat loaded) (enter_store-remembers me.0.setup.config id s (plain me.0) loaded)

  pub clears : (i s : ℕ) → i ≡ seat_place s → s < me.0.setup.config.seats → me.0.holder.seat ≡ Some s → (me.0.holder.phase ≡ phase.Inside) ⊎ (me.0.holder.phase ≡ phase.Late)
      → Mine i (λ n. 0) (λ found after. after ≡ (step.clearing me.0, me.1))
  clears i s place known seat in_or_late =
      own_store i s 0 0 (step.clearing me.0) place refl known (aside _ _ refl refl refl refl) (clear-keeps me.0.setup.config id me.0.holder s seat in_or_late) (clear-remembers me.0.setup.config id s (plain me.0))

  -- the worker takes its bit out of the presence word, and the vacancy puts it in
  own_bit : (i : ℕ) (f : ℕ → ℕ) (next : View P) → i ≡ presence_place me.0.setup.config → SameAside me.0 next
      → Keeps me.0.setup.config id me.0.holder (presence_place me.0.setup.config) f (λ found. next.holder)
      → KeepsMemory me.0.setup.config id (plain me.0) (presence_place me.0.setup.config) (λ found. plain next)
      → Mine i f (λ found after. after ≡ (next, me.1))
  own_bit i f next place aside lawful remembers =
      subst (λ (j : ℕ). Mine j f (λ found after. after ≡ (next, me.1))) (sym place)
      (allowed holds includes frame a slots id me (presence_place me.0.setup.config) f (λ found. next) (λ found after. after ≡ (next, me.1)) own (omega arith) (λ found. aside) lawful remembers
      (λ ws hs law at. refl))

  pub leaves : (i s others : ℕ) → i ≡ presence_place me.0.setup.config → others ≡ 2 ^ 64 - 1 - 2 ^ s → me.0.holder.seat ≡ Some s → me.0.holder.phase ≡ phase.Outside → me.0.holder.task ≡ task.Idle
      → Mine i (λ n. bit_and n others) (λ found after. after ≡ (step.leaving me.0, me.1))
  leaves i s others place is seat outside idle =
      subst (λ (k : ℕ). Mine i (λ n. bit_and n k) (λ found after. after ≡ (step.leaving me.0, me.1))) (sym is)
      (own_bit i (clock.without s) (step.leaving me.0) place (aside _ _ refl refl refl refl)
      (leave-keeps me.0.setup.config id me.0.holder s seat outside idle) (leave-remembers me.0.setup.config id (plain me.0)))

  pub comes : (i s bit : ℕ) → i ≡ presence_place me.0.setup.config → bit ≡ 2 ^ s → me.0.holder.seat ≡ Some s → me.0.holder.phase ≡ phase.Vacant
      → Mine i (λ n. bit_or n bit) (λ found after. after ≡ (step.coming me.0, me.1))
  comes i s bit place is seat vacant =
      subst (λ (k : ℕ). Mine i (λ n. bit_or n k) (λ found after. after ≡ (step.coming me.0, me.1))) (sym is)
      (own_bit i (clock.with_seat s) (step.coming me.0) place (aside _ _ refl refl refl refl)
      (come-keeps me.0.setup.config id me.0.holder s seat vacant) (come-remembers me.0.setup.config id (plain me.0)))

  -- the exchange of the write sequence
  pub advance_swaps : (old new : ℕ) → old ≡ me.0.holder.write → new ≡ clock.goal_of me.0.holder → me.0.holder.task ≡ task.AdvLoaded
      → Mine write_place (λ n. either (n == old) new n) (λ found after. IsWriteFound me.0.holder found × (after ≡ (step.advance_swapping me.0 found, me.1)))
  advance_swaps old new was is loaded =
      subst (λ (o : ℕ). Mine write_place (λ n. either (n == o) new n) (λ found after. IsWriteFound me.0.holder found × (after ≡ (step.advance_swapping me.0 found, me.1)))) (sym was)
      (subst (λ (m : ℕ). Mine write_place (λ n. either (n == me.0.holder.write) m n) (λ found after. IsWriteFound me.0.holder found × (after ≡ (step.advance_swapping me.0 found, me.1)))) (sym is)
      (allowed holds includes frame a slots id me write_place (exchanged me.0.holder.write (clock.goal_of me.0.holder)) (step.advance_swapping me.0)
      (λ found after. IsWriteFound me.0.holder found × (after ≡ (step.advance_swapping me.0 found, me.1))) own (omega arith)
      (λ found. aside _ _ refl refl refl refl) (advance_swap-keeps me.0.setup.config id me.0.holder loaded) (advance_swap-remembers me.0.setup.config id (plain me.0))
      (λ ws hs law at. (write_found me.0.setup.config ws hs id me.0.holder law at, refl))))

  -- the exchange of the read sequence
  pub poll_swaps : (old new : ℕ) → old ≡ me.0.holder.read → new ≡ me.0.holder.least → me.0.holder.task ≡ task.Scanning → me.0.holder.scanned ≡ me.0.setup.config.seats
      → Mine read_place (λ n. either (n == old) new n) (λ found after. IsReadFound me.0.holder found × (after ≡ (step.poll_swapping me.0 found, me.1)))
  poll_swaps old new was is scanning all =
      subst (λ (o : ℕ). Mine read_place (λ n. either (n == o) new n) (λ found after. IsReadFound me.0.holder found × (after ≡ (step.poll_swapping me.0 found, me.1)))) (sym was)
      (subst (λ (m : ℕ). Mine read_place (λ n. either (n == me.0.holder.read) m n) (λ found after. IsReadFound me.0.holder found × (after ≡ (step.poll_swapping me.0 found, me.1)))) (sym is)
      (allowed holds includes frame a slots id me read_place (exchanged me.0.holder.read me.0.holder.least) (step.poll_swapping me.0)
      (λ found after. IsReadFound me.0.holder found × (after ≡ (step.poll_swapping me.0 found, me.1))) own (omega arith)
      (λ found. aside _ _ refl refl refl refl) (poll_swap-keeps me.0.setup.config id me.0.holder scanning all) (poll_swap-remembers me.0.setup.config id (plain me.0) scanning all)
      (λ ws hs law at. (read_found me.0.setup.config ws hs id me.0.holder law at, refl))))
