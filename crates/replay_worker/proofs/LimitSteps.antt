-- A line that changes a limit leaves the workers as they are, and they stand for one line more.
use Rattle.std.proofs.Common.{ℕ, List, ◌∷◌, refl}
use Rattle.smr_clock.specs.declared.clock.Clock.{Clock}
use Rattle.smr_clock.specs.declared.host.Host.{Ghosts}
use Rattle.trace_text.specs.declared.trace.Between.TheVariants.{SetMax}
use Rattle.trace_text.specs.Lines.{Line, Moves}
use Rattle.uma_seat.specs.Seat.{ledger_of}
use Rattle.replay_worker.specs.declared.worker.Worker.{Worker}
use Rattle.replay_worker.specs.Giving.{HasMoved}
use Rattle.replay_worker.specs.Items.{CountedZone}
use Rattle.replay_worker.specs.Stands.{NamesZone, Stands}
use Rattle.replay_worker.specs.Together.{AllStand}
use Rattle.replay_worker.specs.Worker.{phase_of}
use Rattle.replay_worker.proofs.EntrySteps.{entries_kept}
use Rattle.replay_worker.proofs.LedgerSteps.{LedgerStands-other}

module _ {H Part : Type 0} {h : Ghosts H Part} where
  stands_still : (zones : List (CountedZone H Part h)) (clock : Clock H Part) (n : ℕ) (lines : List Line) (zone limit : ℕ) (w : Worker H Part h)
      → Stands zones clock n lines w → Stands zones clock n (Moves (SetMax zone limit) ∷ lines) w
  stands_still zones clock n lines zone limit w was =
      let line : Line = Moves (SetMax zone limit) in
      record {
        ledgers = λ z own seat is_zone at. LedgerStands-other (NamesZone own) n z lines line (ledger_of seat) refl refl (was.ledgers z own seat is_zone at);
        filled = was.filled;
        few = was.few;
        outside = was.outside;
        between = was.between;
        entries = entries_kept n line lines w.entered w.late w.entered w.late (phase_of w) (phase_of w) refl refl refl (λ inner. (inner, refl)) was.entries;
        begun = was.begun;
        overtaken = was.overtaken;
      }

  pub limit_moves : (zones : List (CountedZone H Part h)) (clock : Clock H Part) (lines : List Line) (zone limit : ℕ) (workers : List (Worker H Part h))
      → AllStand zones clock lines workers → HasMoved zones clock (Moves (SetMax zone limit) ∷ lines) workers workers
  limit_moves zones clock lines zone limit workers all = record {
    stand = record { fits = all.fits; stands = λ n w at. stands_still zones clock n lines zone limit w (all.stands n w at) };
    adds_up = λ z adds. adds;
  }
