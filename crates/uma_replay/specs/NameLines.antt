-- The steps of a worker as its lines of names (own). The words of names, `told`, `knows`, `usable`, `Came` and `IsFound`, are those of who keeps them (`NameCalls`): in the program `CacheNames`.
use Rattle.std.specs.Prelude.{◌≡◌, ◌⊎◌, ◌≤◌, ◌%◌, ℕ, All, List, [], ◌∷◌, ◌++◌, Option, Some, IfSome, count_by, is_some, map}
use Rattle.smr_clock.specs.declared.host.Host.{Ghosts}
use Rattle.trace_text.specs.declared.trace.Op.TheVariants.{Bind, Look}
use Rattle.uma_life.specs.declared.states.Ticket.{Ticket}
use Rattle.zone_stats.specs.declared.refusal.Refusal.{Refusal}
use Rattle.replay_worker.specs.declared.name_calls.NameCalls.{Ghosts as NameGhosts}
use Rattle.replay_worker.specs.declared.name_work.NameWork.{NameWork}
use Rattle.uma_replay.specs.Steps.{AreAmong, Step, seen}

-- a step as the lines of names go: the value that a look found, and what refused a bind its entry; then the entries that it brought to its seat of the names and handed out
pub record NameLine (N H C S P : Type 0) (h : Ghosts H P) : Type 0 where
  pub step : Step N H C S P h
  pub found : Option ℕ
  pub refused : Option Refusal
  pub brought : List Ticket
  pub handed : List Ticket

module _ {N H C S P : Type 0} {h : Ghosts H P} (names : NameGhosts N H C S P) (cache : C) where
  -- A look that found this value: in this step the worker's pass came to know a record of the key's row, which binds the key to it. It is one more in front of those that the pass was told of before, and of that row none of them is newer.
  pub record FindsBound (line : NameLine N H C S P h) (value : ℕ) : Type 0 where
    pub key : ℕ
    pub looks : line.step.op ≡ Look key
    pub version : ℕ
    pub loaded : names.told (seen line.step.new) ≡ (key % (names.sizes_of cache).rows, version, Some (key, value)) ∷ names.told (seen line.step.old)
    pub newest : (other : ℕ) (bound : Option (ℕ × ℕ)) → names.knows (seen line.step.old) (key % (names.sizes_of cache).rows) other bound → other ≤ version

  -- a bind that got no entry: its one fetch was refused so
  pub record RefusesEntry (line : NameLine N H C S P h) (refusal : Refusal) : Type 0 where
    pub key : ℕ
    pub value : ℕ
    pub binds : line.step.op ≡ Bind key value
    pub found : names.IsFound cache refusal

  -- What was usable and what came is what is usable now and what was handed out. What came was brought by a fetch from the keg, or out of a bucket that waited until a poll said yes.
  pub record WaitsForReaders (line : NameLine N H C S P h) : Type 0 where
    pub balance : names.usable line.step.new.name_work.seat ++ line.handed ≡ names.usable line.step.old.name_work.seat ++ line.brought
    pub come : (line.brought ≡ []) ⊎ names.Came cache line.brought

  -- These are the worker's steps. Its hits are the looks that found a value, and the fails of its seat of the names the binds that got no entry. What that seat handed out is among what was brought to it, each entry as often at most.
  pub record AreNameLines (steps : List (Step N H C S P h)) (lines : List (NameLine N H C S P h)) (name_work : NameWork N H C S P) : Type 0 where
    pub are : map (λ (line : NameLine N H C S P h). line.step) lines ≡ steps
    pub looked : All (λ (line : NameLine N H C S P h). IfSome line.found (FindsBound line)) lines
    pub hits : name_work.counts.hits ≡ count_by (λ (line : NameLine N H C S P h). is_some line.found) lines
    pub bound : All (λ (line : NameLine N H C S P h). IfSome line.refused (RefusesEntry line)) lines
    pub fails : IfSome (names.counted name_work.seat) (λ ledger. ledger.fails ≡ count_by (λ (line : NameLine N H C S P h). is_some line.refused) lines)
    pub waits : All WaitsForReaders lines
    pub among : AreAmong (λ (line : NameLine N H C S P h). line.handed) (λ (line : NameLine N H C S P h). line.brought) lines
