-- What a worker stands for: its ledgers, its slots and its section, said over the lines so far, of which the last one comes first (own). It says nothing of what other workers do.
use Rattle.std.specs.Prelude.{◌≡◌, ◌≤◌, ◌<◌, ◌+◌, ℕ, Bool, false, List, Some, slice_get, length}
use Rattle.smr_clock.specs.declared.clock.Clock.{Clock}
use Rattle.smr_clock.specs.declared.host.Host.{Ghosts}
use Rattle.smr_clock.specs.Belongs.{setup_of}
use Rattle.smr_core.specs.declared.holder.Phase.TheVariants.{Outside}
use Rattle.trace_text.specs.Lines.{Line}
use Rattle.trace_text.specs.Reading.{held, in_section}
use Rattle.uma_seat.specs.Seat.{ledger_of}
use Rattle.uma_zone.specs.Alloc.{Names}
use Rattle.zone_stats.specs.declared.refusal.Refusal.{Refusal}
use Rattle.replay_worker.specs.declared.worker.Held.{Held}
use Rattle.replay_worker.specs.declared.worker.Worker.{Worker}
use Rattle.replay_worker.specs.EntriesStand.{EntriesStand}
use Rattle.replay_worker.specs.Items.{CountedSeat, CountedZone}
use Rattle.replay_worker.specs.LedgerStands.{LedgerStands}
use Rattle.replay_worker.specs.Performs.{IsBetween}
use Rattle.replay_worker.specs.Slots.{slot_at}
use Rattle.replay_worker.specs.Worker.{phase_of, seen_of}

module _ {H P : Type 0} {h : Ghosts H P} where
  -- what the refusal of a fetch names of its zone
  abbrev pub NamesZone : CountedZone H P h → Refusal → Type 0
  NamesZone zone refusal = (reserve : Bool) × Names zone reserve refusal

  pub record Stands (zones : List (CountedZone H P h)) (clock : Clock H P) (n : ℕ) (lines : List Line) (w : Worker H P h) : Type 0 where
    pub ledgers : (z : ℕ) (zone : CountedZone H P h) (seat : CountedSeat H P h) → slice_get zones z ≡ Some zone → slice_get w.seats.items z ≡ Some seat → LedgerStands (NamesZone zone) n z lines (ledger_of seat)
    -- what a slot holds, the reading holds there too
    pub filled : (slot : ℕ) (it : Held) → slot_at w.slots slot ≡ Some it → held lines n slot ≡ Some it.zone
    -- it has no slot past the last that a trace may name
    pub few : length w.slots ≤ 65536
    -- outside a section in the reading its pass is outside; inside it may be outside too, after a late enter
    pub outside : in_section lines n ≡ false → phase_of w ≡ Outside
    pub between : IsBetween w
    pub entries : EntriesStand n lines w.entered w.late (phase_of w)
    -- its pass knows where the clock's hands began; and once an enter was late, that the write sequence is the window or more above that
    pub begun : (setup_of clock).config.start ≤ seen_of w
    pub overtaken : 0 < w.late → (setup_of clock).config.start + (setup_of clock).config.window ≤ seen_of w
