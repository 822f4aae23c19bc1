-- What the advances of a list come to. That the write sequence moves once in `limit` retirements is the manner of FreeBSD's SMR_DEFERRED; the rest is own.
use Rattle.std.specs.Prelude.{◌≡◌, ◌≤◌, ℕ, Option, Some, None, MatchOption, Result, Ok, Err, ⊤}
use Rattle.smr_clock.specs.declared.view.View.{View}
use Rattle.smr_clock.specs.declared.polls.AdvanceRefused.{AdvanceRefused}
use Rattle.smr_clock.specs.declared.host.Host.{Ghosts}
use Rattle.smr_clock.specs.Advances.{Advances, AdvanceIsRefused}
use Rattle.smr_clock.specs.Notes.{Notes}
use Rattle.smr_deferred.specs.declared.asked.Asked.{Asked}
use Rattle.smr_deferred.specs.declared.pace.Pace.{Pace}
use Rattle.smr_deferred.specs.Asked.{asked_goal, asked_knows}
use Rattle.smr_deferred.specs.Numbers.{Numbers, one_answered, one_retired, one_pushed, IsDue}
use Rattle.smr_deferred.specs.Pass.{KnowsMore}
use Rattle.smr_deferred.specs.Pace.{limit_in, moved_in, asked_in, refused_in, numbers_of, IsUsed}

-- v is the pass's view when the advance began, and v' after it. `moved` is two above the write sequence that the list had loaded before it, and n are the numbers before it.
module _ {H P : Type 0} {g : Ghosts H P} where
  -- The advance answered, and a note was taken right after it. The goal is at least `moved`, since the advance loaded the write sequence later.
  pub record Answers (copied : P → P) (v : View P) (moved : ℕ) (n : Numbers) (was is : Pace H P g) (v' : View P) : Type 0 where
    pub asked : Asked H P g
    pub between : View P
    pub asked_is : asked_in is ≡ Some asked
    pub advance : Advances v (asked_goal asked) between
    pub noted : Notes copied between v' (asked_knows asked)
    pub reached : moved ≤ asked_goal asked
    pub moved_is : moved_in is ≡ moved
    pub refused_is : refused_in is ≡ None
    pub numbers : numbers_of is ≡ one_answered n
    pub limit : limit_in is ≡ limit_in was

  -- The advance was refused, which is kept. What the list asked before stays.
  pub record Declines (v : View P) (refused : AdvanceRefused) (n : Numbers) (was is : Pace H P g) (v' : View P) : Type 0 where
    pub cause : AdvanceIsRefused v refused v'
    pub refused_is : refused_in is ≡ Some refused
    pub asked : asked_in is ≡ asked_in was
    pub moved : moved_in is ≡ moved_in was
    pub numbers : numbers_of is ≡ n
    pub limit : limit_in is ≡ limit_in was

  -- One advance, by what is kept of its answer.
  abbrev pub AdvancesOnce : (P → P) → View P → ℕ → Numbers → Pace H P g → Pace H P g → View P → Type 0
  AdvancesOnce copied v moved n was is v' = MatchOption (refused_in is) (Answers copied v moved n was is v') (λ refused. Declines v refused n was is v')

  -- No advance: but for the numbers all is as it was.
  pub record Rests (n : Numbers) (was is : Pace H P g) : Type 0 where
    pub asked : asked_in is ≡ asked_in was
    pub moved : moved_in is ≡ moved_in was
    pub refused : refused_in is ≡ refused_in was
    pub numbers : numbers_of is ≡ n
    pub limit : limit_in is ≡ limit_in was

  -- A retirement counts its value, and then advances once exactly where an advance is due.
  pub record Paces (copied : P → P) (v : View P) (moved : ℕ) (was is : Pace H P g) (v' : View P) : Type 0 where
    pub due : IsDue (limit_in was) (one_retired (numbers_of was)) → AdvancesOnce copied v moved (one_retired (numbers_of was)) was is v'
    pub not_due : (IsDue (limit_in was) (one_retired (numbers_of was)) → ⊥) → Rests (one_retired (numbers_of was)) was is × (v' ≡ v)

  -- So it does, from where the pass stands after the note that a list takes at its first use.
  pub record PacesFrom (copied : P → P) (v : View P) (moved : ℕ) (was is : Pace H P g) (v' : View P) : Type 0 where
    pub begun : View P
    pub more : KnowsMore v begun
    pub once : IsUsed was → begun ≡ v
    pub paces : Paces copied begun moved was is v'

  -- A push counts itself, and advances once, likewise.
  pub record PushesFrom (copied : P → P) (v : View P) (moved : ℕ) (was is : Pace H P g) (v' : View P) : Type 0 where
    pub begun : View P
    pub more : KnowsMore v begun
    pub once : IsUsed was → begun ≡ v
    pub advances : AdvancesOnce copied begun moved (one_pushed (numbers_of was)) was is v'

-- the refusal, if the advance was refused
abbrev pub refusal_of : Result ⊤ AdvanceRefused → Option AdvanceRefused
refusal_of (Ok _) = None
refusal_of (Err refused) = Some refused
