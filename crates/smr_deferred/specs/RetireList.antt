-- What contracts see of a list. Own.
use Rattle.std.specs.Prelude.{◌≡◌, ◌≤◌, ℕ, List, [], Option, None}
use Rattle.std.specs.VecDeque.{deque_len, deque_capacity}
use Rattle.smr_clock.specs.declared.clock.Setup.{Setup}
use Rattle.smr_clock.specs.declared.polls.AdvanceRefused.{AdvanceRefused}
use Rattle.smr_clock.specs.declared.host.Host.{Ghosts}
use Rattle.smr_clock.specs.Belongs.{TableId}
use Rattle.smr_deferred.specs.declared.asked.Asked.{Asked}
use Rattle.smr_deferred.specs.declared.pace.Pace.{Pace}
use Rattle.smr_deferred.specs.declared.retire_list.Retired.{Retired}
use Rattle.smr_deferred.specs.declared.retire_list.RetireList.{RetireList}
use Rattle.smr_deferred.specs.Numbers.{Numbers, none}
use Rattle.smr_deferred.specs.Pace.{limit_in, moved_in, asked_in, refused_in, numbers_of, IsLimit, IsOfClock}

module _ {T H P : Type 0} {g : Ghosts H P} where
  -- its values with their goals, the oldest first
  abbrev pub listed : RetireList T H P g → List (Retired T)
  listed list = list.queue.items

  -- what it keeps of its advances
  abbrev pub pace_of : RetireList T H P g → Pace H P g
  pace_of list = list.pace

  abbrev pub limit_of : RetireList T H P g → ℕ
  limit_of list = limit_in (pace_of list)

  -- two above the write sequence that it loaded before its last advance that answered, or 0
  abbrev pub moved_of : RetireList T H P g → ℕ
  moved_of list = moved_in (pace_of list)

  -- that advance's goal, and the note that was taken right after it
  abbrev pub asked_of : RetireList T H P g → Option (Asked H P g)
  asked_of list = asked_in (pace_of list)

  -- how its last advance was refused, if it was
  abbrev pub refused_of : RetireList T H P g → Option AdvanceRefused
  refused_of list = refused_in (pace_of list)

  -- the four numbers
  abbrev pub counts_of : RetireList T H P g → Numbers
  counts_of list = numbers_of (pace_of list)

  -- it was used with no clock but this one, if it was used
  abbrev pub IsUsedWith : TableId × Setup → RetireList T H P g → Type 0
  IsUsedWith clock list = IsOfClock clock (pace_of list)

  -- all the room that it has taken for values is used
  abbrev pub IsFull : RetireList T H P g → Type 0
  IsFull list = deque_capacity list.queue ≤ deque_len list.queue

  -- the same values with the same goals, and all else the same; the room may be greater
  pub record IsSame (was is : RetireList T H P g) : Type 0 where
    pub listed_same : listed is ≡ listed was
    pub pace : pace_of is ≡ pace_of was

  -- a list as it is made
  pub record IsNew (limit : ℕ) (list : RetireList T H P g) : Type 0 where
    pub empty : listed list ≡ []
    pub limit_is : limit_of list ≡ limit
    pub moved : moved_of list ≡ 0
    pub asked : asked_of list ≡ None
    pub refused : refused_of list ≡ None
    pub numbers : counts_of list ≡ none

  -- and may be used with any clock: the limit is one that a list may have
  pub record IsMade (limit : ℕ) (list : RetireList T H P g) : Type 0 where
    pub in_range : IsLimit limit
    pub new : IsNew limit list
    pub unused : (clock : TableId × Setup) → IsUsedWith clock list

-- no list may have the limit, which is named
pub record RefusesLimit (limit named : ℕ) : Type 0 where
  pub its_limit : named ≡ limit
  pub out_of_range : IsLimit limit → ⊥
