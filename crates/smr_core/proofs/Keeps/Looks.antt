-- Each hand may be loaded alone, by any holder: what it knows of the sequences rises, and nothing else changes. The other loads of a hand start from these.
use Rattle.std.proofs.Common.{ℕ, ◌-◌, ◌≤◌, List, refl, arith, max}
use Rattle.smr_core.specs.declared.clock_core.ClockConfig.{ClockConfig}
use Rattle.smr_core.specs.declared.holder.Holder.{Holder}
use Rattle.smr_core.specs.ClockState.{write_hand, read_hand, write_place, read_place}
use Rattle.smr_core.specs.ClockStep as step
use Rattle.smr_core.specs.ClockLaw.{HolderFits, ClockLaw}
use Rattle.smr_core.specs.ClockMoves.{WriteLookKeeps, ReadLookKeeps}
use Rattle.smr_core.proofs.KindLemmas.{phase_kept, task_kept, same_scans, keeps_load}

module _ (a : ClockConfig) (ws : List ℕ) (hs : List Holder) (h : Holder) where
  -- what a load of the write sequence teaches is so
  pub write_known : ClockLaw a ws hs → HolderFits a ws h → (max h.seen (write_hand ws) ≤ write_hand ws) × (max h.floor (write_hand ws - a.window) ≤ read_hand ws)
  write_known law f =
      let s : h.seen ≤ write_hand ws = f.seen in let l : h.floor ≤ read_hand ws = f.floor in
      let w : write_hand ws - read_hand ws ≤ a.window = law.hands.within_window in
      (omega arith, omega arith)

  pub read_known : HolderFits a ws h → max h.floor (read_hand ws) ≤ read_hand ws
  read_known f = let l : h.floor ≤ read_hand ws = f.floor in omega arith

  pub write_loaded_fits : ClockLaw a ws hs → HolderFits a ws h → HolderFits a ws (step.write_loaded a h (write_hand ws))
  write_loaded_fits law f =
      record {
        seen = (write_known law f).0;
        floor = (write_known law f).1;
        seat = f.seat;
        phase = phase_kept a ws h (step.write_loaded a h (write_hand ws)) h.phase refl refl refl (omega arith) refl (λ _ e. e) f.phase;
        presence = f.presence;
        task = task_kept a ws h (step.write_loaded a h (write_hand ws)) h.task refl refl refl refl refl refl f.task;
      }

  pub read_loaded_fits : HolderFits a ws h → HolderFits a ws (step.read_loaded h (read_hand ws))
  read_loaded_fits f =
      record {
        seen = f.seen;
        floor = read_known f;
        seat = f.seat;
        phase = phase_kept a ws h (step.read_loaded h (read_hand ws)) h.phase refl refl refl (omega arith) refl (λ _ e. e) f.phase;
        presence = f.presence;
        task = task_kept a ws h (step.read_loaded h (read_hand ws)) h.task refl refl refl refl refl refl f.task;
      }

pub write_look-keeps : WriteLookKeeps
write_look-keeps a id h =
    keeps_load a id h write_place (step.write_loaded a h)
    (λ ws hs law at.
    let new : Holder = step.write_loaded a h (write_hand ws) in
    record {
      seat = refl;
      advances = refl;
      fits = write_loaded_fits a ws hs h law (law.holders id h at);
      scans = same_scans a ws hs id h (step.write_loaded a h (write_hand ws)) law at refl
          (record { scanning = λ e. e; covers = λ _ s m c. c })
          (record { inside = λ e. e; mark = λ _. refl });
    })

pub read_look-keeps : ReadLookKeeps
read_look-keeps a id h =
    keeps_load a id h read_place (step.read_loaded h)
    (λ ws hs law at.
    record {
      seat = refl;
      advances = refl;
      fits = read_loaded_fits a ws hs h (law.holders id h at);
      scans = same_scans a ws hs id h (step.read_loaded h (read_hand ws)) law at refl
          (record { scanning = λ e. e; covers = λ _ s m c. c })
          (record { inside = λ e. e; mark = λ _. refl });
    })
