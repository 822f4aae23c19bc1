-- Own: how the calls of a local and of a directory's local end, each in one record.
use Rattle.std.specs.Prelude.{◌≡◌, ◌==◌, ℕ, Bool, true, false, not, Option, Result, OnOk, OnErr, IfOk, IfErr, IfSome, IfNone}
use Rattle.zone_stats.specs.LedgerSteps.{HasRoom, CountsAlloc, CountsFree}
use Rattle.uma_life.specs.declared.states.Live.{Live}
use Rattle.uma_life.specs.Live.{live_domain}
use Rattle.uma_seat.specs.Seat.{seat_domain}
use Rattle.uma.specs.declared.directory.DirectoryLocal.{DirectoryLocal}
use Rattle.uma.specs.declared.local.Local.{Local}
use Rattle.uma.specs.declared.local.NotFreed.{NotFreed}
use Rattle.uma.specs.declared.refused.Refused.{Refused}
use Rattle.uma.specs.Directory.{BindsName, FindsNone, LooksUp, RefusesBind, RefusesUnbind, StillKnows, TakesOut, WasBound, directory_of, known_to}
use Rattle.uma.specs.Local.{pool_of, ledger_in, Allocs, RefusesAlloc, CanHold, Puts, Defers, Frees, IsNotReady, KeepsLocal, KeepsUsable}
use Rattle.uma.specs.Pool.{IsItemOf, pool_plan}
use Rattle.uma.specs.Refusing.{KeepsOut, TellsRefusal}

module _ {T K : Type 0} {g k : _} where
  -- A request got an item of this pool, whose `ctor` took this argument, and one request and one alloc are counted; or it was refused, and the answer tells why, in the zone's words and in the pool's. Then as many items are out as before.
  pub record AnswersAlloc (arg : ℕ) (reserve : Bool) (old : Local T K g k) (answer : Result (Live T g) Refused) (new : Local T K g k) : Type 0 where
    pub pool : pool_of new ≡ pool_of old
    pub home : IfOk answer (IsItemOf (pool_of new))
    pub served : IfOk answer (λ held. Allocs arg reserve old held new)
    pub counted : OnOk answer (CountsAlloc (ledger_in old) (ledger_in new))
    pub refused : IfErr answer (RefusesAlloc arg reserve old new)
    pub told : IfErr answer (TellsRefusal arg reserve old new)
    pub out : OnErr answer (KeepsOut old new)

  -- The item was freed; or the local wasn't ready, and the item comes back.
  pub record AnswersFree (old : Local T K g k) (held : Live T g) (answer : Result (Unit {0}) (NotFreed T g)) (new : Local T K g k) : Type 0 where
    pub pool : pool_of new ≡ pool_of old
    pub freed : OnOk answer (Frees old held new)
    pub back : IfErr answer (λ back. back.item ≡ held)
    pub kept : OnErr answer (KeepsLocal old new)
    pub refused : IfErr answer (λ back. IsNotReady old back.why)

  -- what a free asks that neither fails nor waits: room to count it, a bucket for the item, and an item of this pool
  pub record CanPut (local : Local T K g k) (held : Live T g) : Type 0 where
    pub room : HasRoom (ledger_in local)
    pub spare : CanHold local
    pub home : IsItemOf (pool_of local) held

  -- The item was freed, and one free is counted. In a pool with readers the items that a request can have are still the same.
  pub record PutsItem (old : Local T K g k) (held : Live T g) (new : Local T K g k) : Type 0 where
    pub pool : pool_of new ≡ pool_of old
    pub put : (pool_plan (pool_of old)).smr ≡ false → Puts old held new
    pub deferred : (pool_plan (pool_of old)).smr ≡ true → Defers old held new
    pub unseen : (pool_plan (pool_of old)).smr ≡ true → KeepsUsable old new
    pub counted : CountsFree (ledger_in old) (ledger_in new) (not (live_domain held == seat_domain old.seat))

  -- A free can be counted, and there is a bucket for what is freed; or the answer tells what is wanting.
  pub record AnswersReady (old : Local T K g k) (answer : Result (Unit {0}) Refused) (new : Local T K g k) : Type 0 where
    pub room : OnOk answer (HasRoom (ledger_in new))
    pub spare : OnOk answer (CanHold new)
    pub kept : KeepsLocal old new
    pub usable : KeepsUsable old new
    pub refused : IfErr answer (IsNotReady old)

-- The name is bound, by a record that is known now; or the answer tells why it isn't. What was known is still known.
pub record AnswersBind (name value : ℕ) (old : DirectoryLocal) (answer : Result (Unit {0}) Refused) (new : DirectoryLocal) : Type 0 where
  pub directory : directory_of new ≡ directory_of old
  pub bound : OnOk answer (BindsName name value old new)
  pub told : OnOk answer (WasBound name value (known_to new))
  pub refused : IfErr answer (RefusesBind name old new)
  pub still : StillKnows old new

-- The name was bound to the value, by a record that is known now, and is taken out; or its row doesn't bind it; or the answer tells why it isn't taken out. What was known is still known.
pub record AnswersUnbind (name : ℕ) (old : DirectoryLocal) (answer : Result (Option ℕ) Refused) (new : DirectoryLocal) : Type 0 where
  pub directory : directory_of new ≡ directory_of old
  pub unbound : IfOk answer (λ found. IfSome found (λ value. TakesOut name value old new))
  pub told : IfOk answer (λ found. IfSome found (λ value. WasBound name value (known_to new)))
  pub none : IfOk answer (λ found. IfNone found (FindsNone name old new))
  pub refused : IfErr answer (RefusesUnbind old new)
  pub still : StillKnows old new

-- it is of the same directory, and what it knew it still knows
pub record KeepsKnown (old new : DirectoryLocal) : Type 0 where
  pub directory : directory_of new ≡ directory_of old
  pub still : StillKnows old new

-- The name was looked up in a section, and a record that is known now bound it to what was found.
pub record LooksOne (name : ℕ) (old : DirectoryLocal) (found : Option ℕ) (new : DirectoryLocal) : Type 0 where
  pub looked : LooksUp name found old new
  pub told : IfSome found (λ value. WasBound name value (known_to new))
