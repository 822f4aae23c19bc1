-- The loads of a poll before it scans keep the law.
use Rattle.std.proofs.Common.{◌≡◌, ℕ, ◌≤◌, refl, arith, Some}
use mathlib.Core.Option.{some}
use lib.ListN.{get_elem?}
use Rattle.smr_seq.specs.Reading.{reading}
use Rattle.smr_core.specs.declared.holder.Holder.{Holder}
use Rattle.smr_core.specs.declared.holder.Phase.TheVariants as phase
use Rattle.smr_core.specs.declared.holder.Task.TheVariants as task
use Rattle.smr_core.specs.ClockState.{write_hand, read_hand, write_place, read_place, presence_place, presence_word, IsPresent, IsAbsent}
use Rattle.smr_core.specs.ClockStep as step
use Rattle.smr_core.specs.ClockLaw.{HolderFits, ScanCovers}
use Rattle.smr_core.specs.ClockMoves.{PollReadKeeps, PollLoadKeeps, PollEndKeeps, PollPresentKeeps}
use Rattle.smr_core.proofs.PresenceLemmas.{next-within, next-present, next-skips}
use Rattle.smr_core.proofs.KindLemmas.{in_task, presence_in_phase, phase_kept, same_scans, keeps_load}
use Rattle.smr_core.proofs.Keeps.Looks.{write_known, read_known}
use Rattle.smr_core.proofs.Keeps.AdvanceLoads.{ended-loads}

pub poll_read-keeps : PollReadKeeps
poll_read-keeps a id h filled =
    keeps_load a id h read_place (step.poll_read h)
    (λ ws hs law at.
    let f : HolderFits a ws h = law.holders id h at in
    record {
      seat = refl;
      advances = refl;
      fits = record {
        seen = f.seen;
        floor = read_known a ws hs h f;
        seat = f.seat;
        phase = phase_kept a ws h (step.poll_read h (read_hand ws)) h.phase refl refl refl (omega arith) refl (λ v _. absurd (filled v)) f.phase;
        presence = f.presence;
        task = (law.hands.odd_read, omega arith);
      };
      scans = same_scans a ws hs id h (step.poll_read h (read_hand ws)) law at refl (record { scanning = λ e. cc; covers = λ e s m c. absurd (cc) }) (record { inside = λ e. e; mark = λ _. refl });
    })

pub poll_load-keeps : PollLoadKeeps
poll_load-keeps a id h reading =
    keeps_load a id h write_place (step.poll_loaded a h)
    (λ ws hs law at.
    let f : HolderFits a ws h = law.holders id h at in
    let t = in_task a ws h task.PollRead f reading in
    let order : read_hand ws ≤ write_hand ws = law.hands.in_order in
    let read : h.read ≤ read_hand ws = t.1 in
    record {
      seat = refl;
      advances = refl;
      fits = record {
        seen = (write_known a ws hs h law f).0;
        floor = (write_known a ws hs h law f).1;
        seat = f.seat;
        phase = phase_kept a ws h (step.poll_loaded a h (write_hand ws)) h.phase refl refl refl (omega arith) refl (λ _ e. absurd (cc)) f.phase;
        presence = f.presence;
        task = (t.0, read, omega arith, law.hands.odd_write, omega arith);
      };
      scans = same_scans a ws hs id h (step.poll_loaded a h (write_hand ws)) law at refl
          (record { scanning = λ e. cc; covers = λ e s m c. absurd (cc) }) (record { inside = λ e. e; mark = λ _. refl });
    })

-- Nothing is scanned yet, and the least mark is the write sequence itself. A seat with a section has a worker, so it is in the set.
pub poll_present-keeps : PollPresentKeeps
poll_present-keeps a id h loaded =
    keeps_load a id h (presence_place a) (step.poll_present a h)
    (λ ws hs law at.
    let f : HolderFits a ws h = law.holders id h at in
    let t = in_task a ws h task.PollLoaded f loaded in
    let p : ℕ = presence_word a ws in
    let begins : (j s : ℕ) (q : Holder) → get_elem? hs j ≡ some q → q.phase ≡ phase.Inside → q.seat ≡ Some s → ScanCovers (step.poll_present a h (presence_word a ws)) s q.mark =
    λ j s q g inside seat.
    let there : IsPresent (presence_word a ws) s = presence_in_phase a ws q phase.Inside (law.holders j q g) inside s seat in (
      λ present below. let absent : IsAbsent (presence_word a ws) s = next-skips a (presence_word a ws) 0 s (omega arith) below in absurd (omega arith),
      λ absent. absurd (omega arith),
    ) in
    record {
      seat = refl;
      advances = refl;
      fits = record {
        seen = f.seen;
        floor = f.floor;
        seat = f.seat;
        phase = phase_kept a ws h (step.poll_present a h (presence_word a ws)) h.phase refl refl refl (omega arith) refl (λ _ e. absurd (cc)) f.phase;
        presence = f.presence;
        task = (t.0, t.1, t.3, t.2, omega arith, t.3, t.4, (next-within a (presence_word a ws) 0 (omega arith), next-present a (presence_word a ws) 0));
      };
      scans = record {
        scan = λ _ j s q n g inside seat. begins j s q g inside seat;
        section = λ inside i s q n g sc seat. law.scans i id s q h g at sc inside seat;
        own = λ _ inside s seat. begins id s h at inside seat;
      };
    })

pub poll_end-keeps : PollEndKeeps
poll_end-keeps a id h = keeps_load a id h write_place (step.poll_ended a h) (λ ws hs law at. ended-loads a ws hs id h law at)
