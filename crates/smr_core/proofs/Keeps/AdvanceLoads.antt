-- The two loads of an advance keep the law. It goes on only where there is room for two more, which stays so, since neither hand is ever lower.
use Rattle.std.proofs.Common.{◌≡◌, ℕ, ◌+◌, ◌-◌, ◌^◌, ◌<◌, ◌≤◌, List, refl, arith, Bool, true, false, cond}
use borrow.Author.Tests.{ltb-false, leb-false}
use mathlib.Core.Option.{some}
use lib.ListN.{get_elem?}
use Rattle.smr_seq.specs.Reading.{reading}
use Rattle.smr_core.specs.declared.clock_core.ClockConfig.{ClockConfig}
use Rattle.smr_core.specs.declared.holder.Holder.{Holder}
use Rattle.smr_core.specs.declared.holder.Task.TheVariants as task
use Rattle.smr_core.specs.ClockState.{write_hand, read_hand, write_place, read_place}
use Rattle.smr_core.specs.ClockStep as step
use Rattle.smr_core.specs.ClockLaw.{HolderFits, ClockLaw}
use Rattle.smr_core.specs.ClockMoves.{AdvanceReadKeeps, AdvanceLoadKeeps}
use Rattle.smr_core.proofs.KindLemmas.{in_task, phase_kept, same_scans, Loads, keeps_load}
use Rattle.smr_core.proofs.Keeps.Looks.{write_known, read_known}

pub advance_read-keeps : AdvanceReadKeeps
advance_read-keeps a id h worker filled =
    keeps_load a id h read_place (step.advance_read h)
    (λ ws hs law at.
    let f : HolderFits a ws h = law.holders id h at in
    record {
      seat = refl;
      advances = refl;
      fits = record {
        seen = f.seen;
        floor = read_known a ws hs h f;
        seat = f.seat;
        phase = phase_kept a ws h (step.advance_read h (read_hand ws)) h.phase refl refl refl (omega arith) refl (λ v _. absurd (filled v)) f.phase;
        presence = f.presence;
        task = (worker, omega arith);
      };
      scans = same_scans a ws hs id h (step.advance_read h (read_hand ws)) law at refl (record { scanning = λ e. cc; covers = λ e s m c. absurd (cc) }) (record { inside = λ e. e; mark = λ _. refl });
    })

-- an operation of a worker or a note that a load of the write sequence ends
pub ended-loads : (a : ClockConfig) (ws : List ℕ) (hs : List Holder) (id : ℕ) (h : Holder) → ClockLaw a ws hs → get_elem? hs id ≡ some h
    → Loads a ws hs id h (step.advance_ended a h (write_hand ws))
ended-loads a ws hs id h law at =
    let f : HolderFits a ws h = law.holders id h at in
    record {
      seat = refl;
      advances = refl;
      fits = record {
        seen = (write_known a ws hs h law f).0;
        floor = (write_known a ws hs h law f).1;
        seat = f.seat;
        phase = phase_kept a ws h (step.advance_ended a h (write_hand ws)) h.phase refl refl refl (omega arith) refl (λ _ _. refl) f.phase;
        presence = f.presence;
        task = tt;
      };
      scans = same_scans a ws hs id h (step.advance_ended a h (write_hand ws)) law at refl (record { scanning = λ e. cc; covers = λ e s m c. absurd (cc) }) (record { inside = λ e. e; mark = λ _. refl });
    }

module _ (a : ClockConfig) (ws : List ℕ) (hs : List Holder) (id : ℕ) (h : Holder) where
  goes_on : Holder
  goes_on = record (step.write_loaded a h (write_hand ws)) { task = task.AdvLoaded; write = write_hand ws }

  goes_on-loads : ClockLaw a ws hs → get_elem? hs id ≡ some h → h.task ≡ task.AdvRead → write_hand ws + 2 < 2 ^ 63
      → write_hand ws + 2 - h.read ≤ a.window → Loads a ws hs id h goes_on
  unfolding goes_on
  goes_on-loads law at reading room near =
      let f : HolderFits a ws h = law.holders id h at in
      let t = in_task a ws h task.AdvRead f reading in
      record {
        seat = refl;
        advances = refl;
        fits = record {
          seen = (write_known a ws hs h law f).0;
          floor = (write_known a ws hs h law f).1;
          seat = f.seat;
          phase = phase_kept a ws h goes_on h.phase refl refl refl (omega arith) refl (λ _ e. absurd (cc)) f.phase;
          presence = f.presence;
          task = (t.0, t.1, omega arith, near, room, law.hands.odd_write);
        };
        scans = same_scans a ws hs id h goes_on law at refl (record { scanning = λ e. cc; covers = λ e s m c. absurd (cc) }) (record { inside = λ e. e; mark = λ _. refl });
      }

  too_far-loads : ClockLaw a ws hs → get_elem? hs id ≡ some h → h.task ≡ task.AdvRead → write_hand ws + 2 < 2 ^ 63
      → (b : Bool) → step.is_too_far a h.read (write_hand ws) ≡ b → Loads a ws hs id h (cond b (step.advance_ended a h (write_hand ws)) goes_on)
  too_far-loads law at reading room true e = ended-loads a ws hs id h law at
  too_far-loads law at reading room false e = goes_on-loads law at reading room (ltb-false a.window (write_hand ws + 2 - h.read) e)

  advance_loads : ClockLaw a ws hs → get_elem? hs id ≡ some h → h.task ≡ task.AdvRead → (b : Bool) → step.is_spent (write_hand ws) ≡ b
      → Loads a ws hs id h (cond b (step.advance_ended a h (write_hand ws)) (cond (step.is_too_far a h.read (write_hand ws)) (step.advance_ended a h (write_hand ws)) goes_on))
  advance_loads law at reading true e = ended-loads a ws hs id h law at
  advance_loads law at reading false e =
      too_far-loads law at reading (leb-false (2 ^ 63) (write_hand ws + 2) e) (step.is_too_far a h.read (write_hand ws)) refl

pub advance_load-keeps : AdvanceLoadKeeps
unfolding goes_on
advance_load-keeps a id h reading =
    keeps_load a id h write_place (step.advance_loaded a h)
    (λ ws hs law at. advance_loads a ws hs id h law at reading (step.is_spent (write_hand ws)) refl)
