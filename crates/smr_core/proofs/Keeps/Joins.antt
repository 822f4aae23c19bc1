-- A holder that takes in a note keeps the law: what the note knew is so, and the spent holder says nothing. The note may be any holder without a seat, whatever its task.
use Rattle.std.proofs.Common.{◌≡◌, ℕ, ◌≤◌, List, set, sym, refl, ◌∙◌, arith}
use mathlib.Core.Option.{some}
use lib.ListN.{get_elem?}
use Rattle.smr_core.specs.declared.clock_core.ClockConfig.{ClockConfig}
use Rattle.smr_core.specs.declared.holder.Holder.{Holder}
use Rattle.smr_core.specs.declared.holder.Phase.TheVariants as phase
use Rattle.smr_core.specs.ClockState.{write_hand, read_hand, spent}
use Rattle.smr_core.specs.ClockStep as step
use Rattle.smr_core.specs.ClockLaw.{HolderFits, ClockLaw}
use Rattle.smr_core.proofs.PlaceLemmas.{set_else}
use Rattle.smr_core.specs.ClockMoves.{JoinKeeps}
use Rattle.smr_core.proofs.KindLemmas.{in_phase, seat_in_phase, phase_kept, task_kept, same_scans, Loads, loads}

module _ (a : ClockConfig) (ws : List ℕ) (hs : List Holder) (id at : ℕ) (h other : Holder) where
  both_loads : ClockLaw a ws hs → get_elem? hs id ≡ some h → get_elem? hs at ≡ some other → Loads a ws hs id h (step.joined h other)
  both_loads law here there =
      let f : HolderFits a ws h = law.holders id h here in
      let g : HolderFits a ws other = law.holders at other there in
      let seen : h.seen ≤ write_hand ws = f.seen in let seen' : other.seen ≤ write_hand ws = g.seen in
      let floor : h.floor ≤ read_hand ws = f.floor in let floor' : other.floor ≤ read_hand ws = g.floor in
      record {
        seat = refl;
        advances = refl;
        fits = record {
          seen = omega arith;
          floor = omega arith;
          seat = f.seat;
          phase = phase_kept a ws h (step.joined h other) h.phase refl refl refl (omega arith) refl (λ _ e. e) f.phase;
          presence = f.presence;
          task = task_kept a ws h (step.joined h other) h.task refl refl refl refl refl refl f.task;
        };
        scans = same_scans a ws hs id h (step.joined h other) law here refl
            (record { scanning = λ e. e; covers = λ _ s m c. c })
            (record { inside = λ e. e; mark = λ _. refl });
      }

  spent_loads : ClockLaw a ws hs → get_elem? hs at ≡ some other → other.phase ≡ phase.Note → Loads a ws hs at other spent
  spent_loads law there note =
      let g : HolderFits a ws other = law.holders at other there in
      record {
        seat = sym (seat_in_phase a ws other phase.Note g note);
        advances = sym (in_phase a ws other phase.Note g note);
        fits = record { seen = omega arith; floor = omega arith; seat = refl; phase = refl; presence = λ s e. absurd (cc); task = tt };
        scans = same_scans a ws hs at other spent law there (sym (seat_in_phase a ws other phase.Note g note))
            (record { scanning = λ e. cc; covers = λ e s m c. absurd (cc) })
            (record { inside = λ e. cc; mark = λ e. cc });
      }

pub join-keeps : JoinKeeps
join-keeps a id h at other apart note ws hs law here there =
    let first = loads a ws hs id h (step.joined h other) law here (both_loads a ws hs id at h other law here there) in
    let still : get_elem? (set hs id (step.joined h other)) at ≡ some other = set_else hs id at (step.joined h other) apart ∙ there in
    loads a ws (set hs id (step.joined h other)) at other spent first.law still
    (spent_loads a ws (set hs id (step.joined h other)) at at other other first.law still note)
