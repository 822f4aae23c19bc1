-- Own: what a scan of the sealed buckets by polls comes to.
use Rattle.std.specs.Prelude.{◌≡◌, ◌≤◌, ◌<◌, ◌+◌, ◌-◌, ◌⊎◌, ℕ, List, [], ◌∷◌, ◌++◌, take, drop, slice_index_or, Option, IfSome, IfNone}
use Rattle.std.specs.List.{All, AllZip}
use Rattle.std.specs.VecDeque.{deque_len, deque_capacity}
use Rattle.std.specs.declared.collections.VecDeque.{VecDeque}
use Rattle.smr_clock.specs.declared.clock.Setup.{Setup}
use Rattle.uma_bucket.specs.declared.freed.Sealed.{Sealed}
use Rattle.uma_bucket.specs.declared.freed.Ripe.{Ripe}
use Rattle.uma_bucket.specs.Ripe.{ripe_note, SaidYes}
use Rattle.uma_bucket.specs.Sealed.{sealed_note, SaidNo, IsSealedAt}
use Rattle.smr_clock.specs.Belongs.{TableId}
use Rattle.smr_clock.specs.Notes.{note_clock}
use Rattle.uma_domain.specs.Listed.{sealed_len}

module _ {T H P : Type 0} {g h : _} where
  -- The bucket was polled once, which said no, by its note's own account. The note is of the same clock.
  pub record Stays (was is : Sealed T H P g h) : Type 0 where
    pub no : SaidNo was is
    pub clock : note_clock (sealed_note is) ≡ note_clock (sealed_note was)

  -- The bucket was polled once, which said yes, and is ripe. The note is of the same clock.
  pub record Ripens (was : Sealed T H P g h) (ripe : Ripe T H P g h) : Type 0 where
    pub yes : SaidYes was ripe
    pub clock : note_clock (ripe_note ripe) ≡ note_clock (sealed_note was)

  -- each bucket was polled once, which said no, and it stays at its place
  abbrev pub AllStay : List (Sealed T H P g h) → List (Sealed T H P g h) → Type 0
  AllStay was is = AllZip Stays was is

  -- The oldest bucket whose poll said yes is taken. Each one before it was polled once, which said no, and it stays at its place; those behind it weren't polled, and stay as they were.
  pub record TakesRipe (was : List (Sealed T H P g h)) (ripe : Ripe T H P g h) (is : List (Sealed T H P g h)) : Type 0 where
    pub before : List (Sealed T H P g h)
    pub stay : List (Sealed T H P g h)
    pub taken : Sealed T H P g h
    pub behind : List (Sealed T H P g h)
    pub split : was ≡ before ++ taken ∷ behind
    pub said_no : AllStay before stay
    pub said_yes : Ripens taken ripe
    pub rest : is ≡ stay ++ behind

  -- Each bucket was polled once, in order: those whose poll said yes are taken, and the others stay, both in their order.
  abbrev pub TakesAllRipe : List (Sealed T H P g h) → List (Ripe T H P g h) → List (Sealed T H P g h) → Type 0
  TakesAllRipe [] ripe is = (ripe ≡ []) × (is ≡ [])
  TakesAllRipe (s ∷ ss) ripe is =
      ((r : Ripe T H P g h) × (rest : List (Ripe T H P g h)) × Ripens s r × (ripe ≡ r ∷ rest) × TakesAllRipe ss rest is)
      ⊎ ((stay : Sealed T H P g h) × (rest : List (Sealed T H P g h)) × Stays s stay × (is ≡ stay ∷ rest) × TakesAllRipe ss ripe rest)

  -- The sealed buckets of a trim, of which so many items remain before it comes to them. It stops before the first whose removal would leave fewer items than the floor: this one and those behind it weren't polled, and stay as they were. Each before it was polled once: where that said yes it is taken, and else it stays.
  abbrev pub TrimsSealed : ℕ → ℕ → List (Sealed T H P g h) → List (Ripe T H P g h) → List (Sealed T H P g h) → Type 0
  TrimsSealed floor remain [] ripe is = (ripe ≡ []) × (is ≡ [])
  TrimsSealed floor remain (s ∷ ss) ripe is =
      ((remain < floor + sealed_len s) × (ripe ≡ []) × (is ≡ s ∷ ss))
      ⊎ (((floor + sealed_len s ≤ remain) × (r : Ripe T H P g h) × (rest : List (Ripe T H P g h)) × Ripens s r × (ripe ≡ r ∷ rest) × TrimsSealed floor (remain - sealed_len s) ss rest is)
      ⊎ ((floor + sealed_len s ≤ remain) × (stay : Sealed T H P g h) × (rest : List (Sealed T H P g h)) × Stays s stay × (is ≡ stay ∷ rest) × TrimsSealed floor remain ss ripe rest))

  -- One try to take the bucket at a place: it was polled once. Where that said yes it is taken, and else it stays there.
  pub record TriesAt (was : List (Sealed T H P g h)) (at : ℕ) (result : Option (Ripe T H P g h)) (is : List (Sealed T H P g h)) : Type 0 where
    pub bucket : Sealed T H P g h
    pub there : bucket ≡ slice_index_or was at bucket
    pub split : was ≡ take at was ++ bucket ∷ drop (at + 1) was
    pub taken : IfSome result (λ ripe. Ripens bucket ripe × (is ≡ take at was ++ drop (at + 1) was))
    pub stays : IfNone result ((stay : Sealed T H P g h) × Stays bucket stay × (is ≡ take at was ++ stay ∷ drop (at + 1) was))

module _ {T H P Z : Type 0} {g h : _} where
  -- there is a bucket at the place, and all are of this clock
  pub record CanTryAt (clock : TableId × Setup) (sealed : VecDeque (Sealed T H P g h) Z) (at : ℕ) : Type 0 where
    pub within : at < deque_len sealed
    pub here : All (IsSealedAt clock) sealed.items

  -- Those that are left are of the clock too, in the same room. They are one fewer where one was taken.
  pub record LeavesTried (clock : TableId × Setup) (was : VecDeque (Sealed T H P g h) Z) (result : Option (Ripe T H P g h)) (is : VecDeque (Sealed T H P g h) Z) : Type 0 where
    pub here : All (IsSealedAt clock) is.items
    pub some : IfSome result (λ _. deque_len is + 1 ≡ deque_len was)
    pub none : IfNone result (deque_len is ≡ deque_len was)
    pub capacity : deque_capacity is ≡ deque_capacity was

  -- The oldest bucket whose poll said yes is taken; none where each one's poll said no. No bucket came, and the room is the same.
  pub record ScansForRipe (was : VecDeque (Sealed T H P g h) Z) (result : Option (Ripe T H P g h)) (is : VecDeque (Sealed T H P g h) Z) : Type 0 where
    pub some : IfSome result (λ ripe. TakesRipe was.items ripe is.items)
    pub none : IfNone result (AllStay was.items is.items)
    pub fewer : deque_len is ≤ deque_len was
    pub capacity : deque_capacity is ≡ deque_capacity was
