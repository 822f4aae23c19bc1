-- The first step of an enter keeps the law: the write sequence that it loads is one that was.
use Rattle.std.proofs.Common.{refl, arith}
use Rattle.smr_core.specs.declared.holder.Phase.TheVariants as phase
use Rattle.smr_core.specs.ClockState.{write_hand, write_place}
use Rattle.smr_core.specs.ClockStep as step
use Rattle.smr_core.specs.ClockLaw.{HolderFits}
use Rattle.smr_core.specs.ClockMoves.{EnterLoadKeeps}
use Rattle.smr_core.proofs.KindLemmas.{in_phase, seat_in_phase, presence_in_phase, task_kept, same_scans, keeps_load}
use Rattle.smr_core.proofs.Keeps.Looks.{write_known}

pub enter_load-keeps : EnterLoadKeeps
enter_load-keeps a id h outside =
    keeps_load a id h write_place (step.enter_loaded a h)
    (λ ws hs law at.
    let f : HolderFits a ws h = law.holders id h at in
    record {
      seat = refl;
      advances = refl;
      fits = record {
        seen = (write_known a ws hs h law f).0;
        floor = (write_known a ws hs h law f).1;
        seat = seat_in_phase a ws h phase.Outside f outside;
        phase = (in_phase a ws h phase.Outside f outside, law.hands.odd_write, omega arith);
        presence = presence_in_phase a ws h phase.Outside f outside;
        task = task_kept a ws h (step.enter_loaded a h (write_hand ws)) h.task refl refl refl refl refl refl f.task;
      };
      scans = same_scans a ws hs id h (step.enter_loaded a h (write_hand ws)) law at refl
          (record { scanning = λ e. e; covers = λ _ s m c. c })
          (record { inside = λ e. cc; mark = λ e. cc });
    })
