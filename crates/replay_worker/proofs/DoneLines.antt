-- A worker that did a line, of names or not: it stands for one line more, its items and ledgers go together, and its pass forgets nothing.
use Rattle.std.proofs.Common.{◌≡◌, ◌≢◌, ℕ, ◌≤◌, inl, inr, List, ◌∷◌, false, refl, sym, ap, ◌∙◌, subst}
use Rattle.smr_clock.specs.declared.clock.Clock.{Clock}
use Rattle.smr_clock.specs.declared.host.Host.{Ghosts}
use Rattle.smr_clock.specs.Belongs.{IsPassOf}
use Rattle.trace_text.specs.declared.trace.Op.{Op}
use Rattle.trace_text.specs.declared.trace.Op.TheVariants.{Alloc, Free, Enter, Exit, Prealloc, Bind, Unbind, Look, Trim, Drain, DrainSeat, Away, Back}
use Rattle.trace_text.specs.Lines.{Line, Does}
use Rattle.trace_text.specs.Valid.{comes_back}
use Rattle.replay_worker.specs.declared.gate.Attendance.{Attendance}
use Rattle.replay_worker.specs.declared.gate.Attendance.TheVariants.{There}
use Rattle.replay_worker.specs.declared.name_calls.NameCalls.{Ghosts as NameGhosts}
use Rattle.replay_worker.specs.declared.name_work.NameWork.{NameWork}
use Rattle.replay_worker.specs.declared.worker_run.WorkerRun.{WorkerRun}
use Rattle.replay_worker.specs.declared.worker.Worker.{Worker}
use Rattle.replay_worker.specs.Attendance.{is_out, worker_at}
use Rattle.replay_worker.specs.Items.{CountedZone}
use Rattle.replay_worker.specs.NameLines.{Acts, CanDo, Changes, LineState, DoesLine, GoesOrComes, LooksLine, line_state, line_state_there}
use Rattle.replay_worker.specs.Performs.{CanPerform, KeepsHolds, Performs}
use Rattle.replay_worker.specs.Stands.{Stands}
use Rattle.replay_worker.specs.Turn.{Balances}
use Rattle.replay_worker.specs.Worker.{seen_of}
use Rattle.replay_worker.proofs.Attending.{keeps_holds, keeps_section}
use Rattle.replay_worker.proofs.Balance.{balance_holds, balance_step}
use Rattle.replay_worker.proofs.SeenSteps.{seen_step}
use Rattle.replay_worker.proofs.StandSteps.{stand_step, stands_find, stands_late, stands_look, stands_quiet}

module _ {N H C S Part : Type 0} {h : Ghosts H Part} (names : NameGhosts N H C S Part) (cache : C) (zones : List (CountedZone H Part h)) where
  looks_stand : (clock : Clock H Part) (n key : ℕ) (lines : List Line) (old new : LineState N H C S Part h) → IsPassOf clock old.worker.pass → LooksLine names cache old key new
      → Stands zones clock n lines old.worker → Stands zones clock n (Does n (Look key) ∷ lines) new.worker
  looks_stand clock n key lines old new of (inl step) stands = stands_find zones clock n key lines old.worker new.worker step.inside step.holds step.section stands
  looks_stand clock n key lines old new of (inr (inl step)) stands = stands_look zones clock n key lines old.worker new.worker step.outside step.phase step.holds step.seen step.entered step.late stands
  looks_stand clock n key lines old new of (inr (inr step)) stands =
      stands_late zones clock n key lines old.worker new.worker step.overtaken of step.misses step.phase step.holds step.seen step.entered step.late stands

  pub looks_holds : (key : ℕ) (old new : LineState N H C S Part h) → LooksLine names cache old key new → KeepsHolds old.worker new.worker
  looks_holds key old new (inl step) = step.holds
  looks_holds key old new (inr (inl step)) = step.holds
  looks_holds key old new (inr (inr step)) = step.holds

  looks_seen : (key : ℕ) (old new : LineState N H C S Part h) → LooksLine names cache old key new → seen_of old.worker ≤ seen_of new.worker
  looks_seen key old new (inl step) = step.section.seen
  looks_seen key old new (inr (inl step)) = step.seen
  looks_seen key old new (inr (inr step)) = step.seen

  -- what all lines leave of the worker
  pub record Leaves (clock : Clock H Part) (n : ℕ) (op : Op) (lines : List Line) (old new : LineState N H C S Part h) : Type 0 where
    pub stands : Stands zones clock n (Does n op ∷ lines) new.worker
    pub balances : (z : ℕ) → Balances z old.worker new.worker
    pub seen : seen_of old.worker ≤ seen_of new.worker

  performed : (clock : Clock H Part) (n : ℕ) (op : Op) (lines : List Line) (old new : LineState N H C S Part h) → IsPassOf clock old.worker.pass → CanPerform zones old.worker op → Performs zones old.worker op new.worker
      → Stands zones clock n lines old.worker → Leaves clock n op lines old new
  performed clock n op lines old new of can step stands = record {
    stands = stand_step zones clock n op lines old.worker new.worker of can step stands;
    balances = balance_step zones old.worker new.worker op can step;
    seen = seen_step zones op old.worker new.worker can step;
  }

  -- the pass left or came
  went : (clock : Clock H Part) (n : ℕ) (op : Op) (lines : List Line) (old new : LineState N H C S Part h) → GoesOrComes old new → Stands zones clock n (Does n op ∷ lines) new.worker → Leaves clock n op lines old new
  went clock n op lines old new step stands = record {
    stands = stands;
    balances = balance_holds old.worker new.worker (keeps_holds old.worker new.worker step.keeps);
    seen = (keeps_section old.worker new.worker step.keeps).seen;
  }

  pub line_step : (clock : Clock H Part) (n : ℕ) (op : Op) (lines : List Line) (old new : LineState N H C S Part h) → IsPassOf clock old.worker.pass → CanDo names zones old.worker op → Changes names cache zones old op new
      → Stands zones clock n lines old.worker → Leaves clock n op lines old new
  line_step clock n (Bind key value) lines old new of can step stands = record {
    stands = stands_quiet zones clock n (Bind key value) lines old.worker new.worker (λ z. refl) (λ z. refl) (λ slot o. refl) refl (λ b. refl) step.holds step.section stands;
    balances = balance_holds old.worker new.worker step.holds;
    seen = step.section.seen;
  }
  line_step clock n (Unbind key) lines old new of can step stands = record {
    stands = stands_quiet zones clock n (Unbind key) lines old.worker new.worker (λ z. refl) (λ z. refl) (λ slot o. refl) refl (λ b. refl) step.holds step.section stands;
    balances = balance_holds old.worker new.worker step.holds;
    seen = step.section.seen;
  }
  line_step clock n (Look key) lines old new of can step stands = record {
    stands = looks_stand clock n key lines old new of step stands;
    balances = balance_holds old.worker new.worker (looks_holds key old new step);
    seen = looks_seen key old new step;
  }
  line_step clock n (Alloc zone slot arg reserve) lines old new of can step stands = performed clock n (Alloc zone slot arg reserve) lines old new of can step.0 stands
  line_step clock n (Free slot) lines old new of can step stands = performed clock n (Free slot) lines old new of can step.0 stands
  line_step clock n Enter lines old new of can step stands = performed clock n Enter lines old new of can step.0 stands
  line_step clock n Exit lines old new of can step stands = performed clock n Exit lines old new of can step.0 stands
  line_step clock n (Prealloc zone items) lines old new of can step stands = performed clock n (Prealloc zone items) lines old new of can step.0 stands
  line_step clock n (Trim zone) lines old new of can step stands = performed clock n (Trim zone) lines old new of can step.0 stands
  line_step clock n (Drain zone) lines old new of can step stands = performed clock n (Drain zone) lines old new of can step.0 stands
  line_step clock n (DrainSeat zone) lines old new of can step stands = performed clock n (DrainSeat zone) lines old new of can step.0 stands
  line_step clock n Away lines old new of can step stands =
      went clock n Away lines old new step
      (stands_quiet zones clock n Away lines old.worker new.worker (λ z. refl) (λ z. refl) (λ slot o. refl) refl (λ b. refl)
      (keeps_holds old.worker new.worker step.keeps) (keeps_section old.worker new.worker step.keeps) stands)
  line_step clock n Back lines old new of can step stands =
      went clock n Back lines old new step
      (stands_quiet zones clock n Back lines old.worker new.worker (λ z. refl) (λ z. refl) (λ slot o. refl) refl (λ b. refl)
      (keeps_holds old.worker new.worker step.keeps) (keeps_section old.worker new.worker step.keeps) stands)

  -- ---- a worker that is there and stays

  there_line : (op : Op) (old new : Worker H Part h) (name_work name_work' : NameWork N H C S Part) → op ≢ Away → op ≢ Back → false ≡ comes_back op
      → Acts names cache zones (line_state_there old name_work) op (line_state_there new name_work') → DoesLine names cache zones (line_state_there old name_work) op (line_state_there new name_work')
  there_line (Alloc zone slot arg reserve) old new name_work name_work' here stays was acts = record { changes = acts; was = was; is = refl }
  there_line (Free slot) old new name_work name_work' here stays was acts = record { changes = acts; was = was; is = refl }
  there_line Enter old new name_work name_work' here stays was acts = record { changes = acts; was = was; is = refl }
  there_line Exit old new name_work name_work' here stays was acts = record { changes = acts; was = was; is = refl }
  there_line (Bind key value) old new name_work name_work' here stays was acts = record { changes = acts; was = was; is = refl }
  there_line (Unbind key) old new name_work name_work' here stays was acts = record { changes = acts; was = was; is = refl }
  there_line (Look key) old new name_work name_work' here stays was acts = record { changes = acts; was = was; is = refl }
  there_line (Trim zone) old new name_work name_work' here stays was acts = record { changes = acts; was = was; is = refl }
  there_line (Drain zone) old new name_work name_work' here stays was acts = record { changes = acts; was = was; is = refl }
  there_line (DrainSeat zone) old new name_work name_work' here stays was acts = record { changes = acts; was = was; is = refl }
  there_line (Prealloc zone items) old new name_work name_work' here stays was acts = record { changes = acts; was = was; is = refl }
  there_line Away old new name_work name_work' here stays was acts = absurd (here refl)
  there_line Back old new name_work name_work' here stays was acts = absurd (stays refl)

  pub acts_there : (r : WorkerRun N H C S Part h) (op : Op) (old new : Worker H Part h) (name_work : NameWork N H C S Part) → op ≢ Away → op ≢ Back → r.attendance ≡ There old → is_out r.attendance ≡ comes_back op
      → Acts names cache zones (line_state_there old r.name_work) op (line_state_there new name_work) → DoesLine names cache zones (line_state r) op (line_state_there new name_work)
  acts_there r op old new name_work here stays is was acts =
      let of : Attendance H Part h → LineState N H C S Part h = λ a. record { worker = worker_at a; name_work = r.name_work; out = is_out a } in
      let P : LineState N H C S Part h → Type 0 = λ d. DoesLine names cache zones d op (line_state_there new name_work) in
      subst P (sym (ap of is)) (there_line op old new r.name_work name_work here stays (sym (ap is_out is) ∙ was) acts)
