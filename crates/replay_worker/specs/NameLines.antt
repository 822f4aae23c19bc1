-- What each kind of line does to its worker and to what the worker has of the names (own).
use Rattle.std.specs.Prelude.{◌≡◌, ◌⊎◌, ◌≤◌, ◌+◌, ℕ, Bool, false, List, [], ◌∷◌, Option, IsTrue, IfSome}
use Rattle.smr_clock.specs.declared.clock.Clock.{Clock}
use Rattle.smr_clock.specs.declared.host.Host.{Ghosts}
use Rattle.smr_clock.specs.declared.polls.Overtaken.{Overtaken}
use Rattle.smr_clock.specs.Belongs.{IsPassOf, clock_id, view}
use Rattle.smr_clock.specs.Sections.{Misses}
use Rattle.smr_core.specs.declared.holder.Phase.TheVariants.{Outside, Inside}
use Rattle.trace_text.specs.declared.trace.Op.{Op}
use Rattle.trace_text.specs.declared.trace.Op.TheVariants.{Bind, Unbind, Look, Away, Back}
use Rattle.trace_text.specs.Reading.{away_after}
use Rattle.trace_text.specs.Valid.{comes_back}
use Rattle.replay_worker.specs.declared.name_calls.NameCalls.{Ghosts as NameGhosts}
use Rattle.replay_worker.specs.declared.name_work.NameWork.{NameWork}
use Rattle.replay_worker.specs.declared.worker_run.WorkerRun.{WorkerRun}
use Rattle.replay_worker.specs.declared.worker.Worker.{Worker}
use Rattle.replay_worker.specs.Attendance.{is_out, worker_in}
use Rattle.replay_worker.specs.Items.{CountedZone}
use Rattle.replay_worker.specs.Knowing.{StillKnows, Finds, Loads}
use Rattle.replay_worker.specs.NameCalls.{Bound, Unbound, CountedBind, CountedUnbind, MovesEntries}
use Rattle.replay_worker.specs.NameLedger.{HasRoomToBind}
use Rattle.replay_worker.specs.NamesStand.{NamesOfClock}
use Rattle.replay_worker.specs.NameWork.{CountsFew, CountsBind, CountsUnbind, CountsAnswer, CountsLate}
use Rattle.replay_worker.specs.Performs.{CanPerform, IsBetween, KeepsAll, KeepsHolds, KeepsSection, Performs}
use Rattle.replay_worker.specs.Worker.{AreOfClock, FitsZones, HasRooms, phase_of, seen_of}

-- what a worker's lines change: itself, what it has of the names, and whether it is away; then the worker is that as which it comes back
pub record LineState (N H C S P : Type 0) (h : Ghosts H P) : Type 0 where
  pub worker : Worker H P h
  pub name_work : NameWork N H C S P
  pub out : Bool

module _ {N H C S P : Type 0} {h : Ghosts H P} where
  abbrev pub line_state : WorkerRun N H C S P h → LineState N H C S P h
  line_state r = record { worker = worker_in r; name_work = r.name_work; out = is_out r.attendance }

  -- the same of a worker that is there
  abbrev pub line_state_there : Worker H P h → NameWork N H C S P → LineState N H C S P h
  line_state_there w name_work = record { worker = w; name_work = name_work; out = false }

  -- An `away` or a `back` line: the pass leaves, or comes, and nothing is counted.
  pub record GoesOrComes (old new : LineState N H C S P h) : Type 0 where
    pub keeps : KeepsAll old.worker new.worker
    pub name_work : new.name_work ≡ old.name_work

  -- what it counted of its gate, and how its last turn ended, stay
  pub record KeepsGate (old new : WorkerRun N H C S P h) : Type 0 where
    pub asked : new.asked ≡ old.asked
    pub gave_up : new.gave_up ≡ old.gave_up

module _ {N H C S P : Type 0} (names : NameGhosts N H C S P) where
  -- each of its counts of names can be one more, and so can its ledger of them, also by a free
  pub record HasNameRooms (name_work : NameWork N H C S P) : Type 0 where
    pub counts : CountsFew name_work.counts
    pub ledger : IfSome (names.counted name_work.seat) HasRoomToBind

module _ {N H C S P : Type 0} {h : Ghosts H P} (names : NameGhosts N H C S P) (cache : C) where
  -- what a line of names needs: they are served, clock, pass and seat go with the cache, and each of the counts can be one more
  pub record CanName (by : Clock H P) (w : Worker H P h) (name_work : NameWork N H C S P) : Type 0 where
    pub serves : IsTrue names.serves
    pub clock : clock_id by ≡ names.clock_of cache
    pub pass : IsPassOf by w.pass
    pub seat : names.IsSeat cache name_work.seat
    pub rooms : HasNameRooms names name_work

  -- what a `look` line needs: there is no section, or an open one, and each count of sections can be one more
  pub record CanLook (by : Clock H P) (w : Worker H P h) (name_work : NameWork N H C S P) : Type 0 where
    pub can : CanName by w name_work
    pub between : IsBetween w
    pub rooms : HasRooms w

  -- the same outside a section
  pub record CanLookOutside (by : Clock H P) (w : Worker H P h) (name_work : NameWork N H C S P) : Type 0 where
    pub can : CanName by w name_work
    pub outside : phase_of w ≡ Outside
    pub rooms : HasRooms w

  -- what it leaves: the pass is the clock's, and the seat the cache's
  pub record StaysNamed (by : Clock H P) (w : Worker H P h) (name_work : NameWork N H C S P) : Type 0 where
    pub pass : IsPassOf by w.pass
    pub seat : names.IsSeat cache name_work.seat

  -- what each line needs: the zones and the cache go by this clock, the worker fits the zones and its seat of the names the cache, and each of its counts can be one more
  pub record CanGoOn (zones : List (CountedZone H P h)) (by : Clock H P) (w : Worker H P h) (name_work : NameWork N H C S P) : Type 0 where
    pub clock : AreOfClock by zones
    pub of_clock : NamesOfClock names cache by
    pub fits : FitsZones zones by w
    pub seat : names.IsSeat cache name_work.seat
    pub rooms : HasRooms w
    pub name_rooms : HasNameRooms names name_work

  -- what it leaves: the worker fits the zones, and its seat of the names the cache
  pub record StaysFit (zones : List (CountedZone H P h)) (by : Clock H P) (w : Worker H P h) (name_work : NameWork N H C S P) : Type 0 where
    pub fits : FitsZones zones by w
    pub seat : names.IsSeat cache name_work.seat

  -- a `bind` line: one call, which bound the key or didn't; the seat stays in its memory domain, and what leaves it was usable there or came by this call
  pub record BindsLine (old : LineState N H C S P h) (key value : ℕ) (new : LineState N H C S P h) : Type 0 where
    pub done : Bool
    pub still : StillKnows names.knows (view old.worker.pass) (view new.worker.pass)
    pub bound : Bound names.knows (names.sizes_of cache).rows key value (view old.worker.pass) done (view new.worker.pass)
    pub ledger : CountedBind (names.sizes_of cache).slabs (names.IsFound cache) (names.TurnsBack cache key (view old.worker.pass) old.name_work.seat (view new.worker.pass) new.name_work.seat) done (names.counted old.name_work.seat) (names.counted new.name_work.seat)
    pub moves : MovesEntries (names.Came cache) (names.usable old.name_work.seat) (names.usable new.name_work.seat)
    pub domain : names.domain_of new.name_work.seat ≡ names.domain_of old.name_work.seat
    pub counts : CountsBind done old.name_work.counts new.name_work.counts
    pub holds : KeepsHolds old.worker new.worker
    pub section : KeepsSection old.worker new.worker

  -- an `unbind` line: one call, which took the key out or found it unbound; the seat stays in its memory domain, and no other entry is usable there
  pub record UnbindsLine (old : LineState N H C S P h) (key : ℕ) (new : LineState N H C S P h) : Type 0 where
    pub done : Bool
    pub still : StillKnows names.knows (view old.worker.pass) (view new.worker.pass)
    pub unbound : Unbound names.knows (names.sizes_of cache).rows key (view old.worker.pass) done (view new.worker.pass)
    pub ledger : CountedUnbind done (names.counted old.name_work.seat) (names.counted new.name_work.seat)
    pub usable : names.usable new.name_work.seat ≡ names.usable old.name_work.seat
    pub domain : names.domain_of new.name_work.seat ≡ names.domain_of old.name_work.seat
    pub counts : CountsUnbind done old.name_work.counts new.name_work.counts
    pub holds : KeepsHolds old.worker new.worker
    pub section : KeepsSection old.worker new.worker

  -- a look in the section that is open
  pub record FindsLine (old : LineState N H C S P h) (key : ℕ) (new : LineState N H C S P h) : Type 0 where
    pub found : Option ℕ
    pub inside : phase_of old.worker ≡ Inside
    pub still : StillKnows names.knows (view old.worker.pass) (view new.worker.pass)
    pub finds : Finds names.knows (names.sizes_of cache).rows key (view old.worker.pass) found (view new.worker.pass)
    pub loads : Loads names.knows names.told (names.sizes_of cache).rows key (view old.worker.pass) found (view new.worker.pass)
    pub counts : CountsAnswer found old.name_work.counts new.name_work.counts
    pub seat : new.name_work.seat ≡ old.name_work.seat
    pub holds : KeepsHolds old.worker new.worker
    pub section : KeepsSection old.worker new.worker

  -- a look in a section of its own, which is counted as entered
  pub record LooksInTime (old : LineState N H C S P h) (key : ℕ) (new : LineState N H C S P h) : Type 0 where
    pub found : Option ℕ
    pub outside : phase_of old.worker ≡ Outside
    pub still : StillKnows names.knows (view old.worker.pass) (view new.worker.pass)
    pub finds : Finds names.knows (names.sizes_of cache).rows key (view old.worker.pass) found (view new.worker.pass)
    pub loads : Loads names.knows names.told (names.sizes_of cache).rows key (view old.worker.pass) found (view new.worker.pass)
    pub counts : CountsAnswer found old.name_work.counts new.name_work.counts
    pub seat : new.name_work.seat ≡ old.name_work.seat
    pub phase : phase_of new.worker ≡ Outside
    pub seen : seen_of old.worker ≤ seen_of new.worker
    pub entered : new.worker.entered ≡ old.worker.entered + 1
    pub late : new.worker.late ≡ old.worker.late
    pub holds : KeepsHolds old.worker new.worker

  -- the enter of a look was overtaken: the section is counted as late, and the look too
  pub record LooksLate (old : LineState N H C S P h) (key : ℕ) (new : LineState N H C S P h) : Type 0 where
    pub overtaken : Overtaken
    pub outside : phase_of old.worker ≡ Outside
    pub misses : Misses (view old.worker.pass) overtaken (view new.worker.pass)
    pub still : StillKnows names.knows (view old.worker.pass) (view new.worker.pass)
    pub counts : CountsLate old.name_work.counts new.name_work.counts
    pub seat : new.name_work.seat ≡ old.name_work.seat
    pub phase : phase_of new.worker ≡ Outside
    pub seen : seen_of old.worker ≤ seen_of new.worker
    pub entered : new.worker.entered ≡ old.worker.entered
    pub late : new.worker.late ≡ old.worker.late + 1
    pub holds : KeepsHolds old.worker new.worker

  -- a look outside a section
  abbrev pub LookEnds : LineState N H C S P h → ℕ → LineState N H C S P h → Type 0
  LookEnds old key new = LooksInTime old key new ⊎ LooksLate old key new

  -- a `look` line
  abbrev pub LooksLine : LineState N H C S P h → ℕ → LineState N H C S P h → Type 0
  LooksLine old key new = FindsLine old key new ⊎ LookEnds old key new

  -- what a line of a worker that is there and stays does; one that isn't of names leaves what the worker has of them
  abbrev pub Acts : List (CountedZone H P h) → LineState N H C S P h → Op → LineState N H C S P h → Type 0
  Acts zones old (Bind key value) new = BindsLine old key value new
  Acts zones old (Unbind key) new = UnbindsLine old key new
  Acts zones old (Look key) new = LooksLine old key new
  Acts zones old op new = Performs zones old.worker op new.worker × (new.name_work ≡ old.name_work)

  abbrev pub Changes : List (CountedZone H P h) → LineState N H C S P h → Op → LineState N H C S P h → Type 0
  Changes zones old Away new = GoesOrComes old new
  Changes zones old Back new = GoesOrComes old new
  Changes zones old op new = Acts zones old op new

  -- What a line does. A worker that is away comes back before it does anything else, and is away after an `away` line alone.
  pub record DoesLine (zones : List (CountedZone H P h)) (old : LineState N H C S P h) (op : Op) (new : LineState N H C S P h) : Type 0 where
    pub changes : Changes zones old op new
    pub was : old.out ≡ comes_back op
    pub is : new.out ≡ away_after op old.out

  -- what lines do, one after another
  unfoldable pub DoesAll : List (CountedZone H P h) → LineState N H C S P h → List Op → LineState N H C S P h → Type 0
  DoesAll zones old [] new = new ≡ old
  DoesAll zones old (op ∷ ops) new = (next : LineState N H C S P h) × DoesLine zones old op next × DoesAll zones next ops new

module _ {N H C S P : Type 0} {h : Ghosts H P} (names : NameGhosts N H C S P) where
  -- what a line of a worker that is there and stays needs
  abbrev pub CanAct : List (CountedZone H P h) → Worker H P h → Op → Type 0
  CanAct zones w (Bind key value) = IsTrue names.serves
  CanAct zones w (Unbind key) = IsTrue names.serves
  CanAct zones w (Look key) = IsTrue names.serves × IsBetween w
  CanAct zones w op = CanPerform zones w op

  -- what a line needs of its worker, be it there or away
  abbrev pub CanDo : List (CountedZone H P h) → Worker H P h → Op → Type 0
  CanDo zones w Away = phase_of w ≡ Outside
  CanDo zones w Back = Unit {0}
  CanDo zones w op = CanAct zones w op

  -- the line has what it needs, and its worker is away only where the line brings it back
  pub record CanTurn (zones : List (CountedZone H P h)) (r : WorkerRun N H C S P h) (op : Op) : Type 0 where
    pub can : CanDo zones (worker_in r) op
    pub there : is_out r.attendance ≡ comes_back op
