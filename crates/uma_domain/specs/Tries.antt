-- Own: what the tries to seal loose buckets come to.
use Rattle.std.specs.Prelude.{◌≡◌, ◌≤◌, ◌<◌, ◌+◌, ◌^◌, ◌⊎◌, ℕ, List, [], ◌∷◌, ◌++◌, length}
use Rattle.std.specs.VecDeque.{deque_len, deque_capacity}
use Rattle.std.specs.declared.collections.VecDeque.{VecDeque}
use Rattle.smr_clock.specs.declared.clock.Clock.{Clock}
use Rattle.smr_clock.specs.declared.pass.Pass.{Pass}
use Rattle.smr_clock.specs.declared.clock.Setup.{Setup}
use Rattle.smr_clock.specs.declared.polls.AdvanceRefused.{AdvanceRefused}
use Rattle.smr_clock.specs.declared.view.View.{View}
use Rattle.smr_clock.specs.Advances.{AdvanceIsRefused}
use Rattle.smr_clock.specs.Belongs.{TableId, IsPassOf, clock_id}
use Rattle.uma_bucket.specs.declared.freed.Loose.{Loose}
use Rattle.uma_bucket.specs.declared.freed.Sealed.{Sealed}
use Rattle.uma_bucket.specs.Sealed.{Seals, IsSealedAt}
use Rattle.uma_domain.specs.Frames.{KeepsPass}
use Rattle.uma_domain.specs.Identity.{Identity}

module _ {T H P : Type 0} {g h : _} where
  -- Each loose bucket was tried once, in order, by a pass whose view was v before and v' after. It was sealed, by the clock, or its advance was refused and it stays; both in their order.
  abbrev pub Tries : (P → P) → TableId × Setup → View P → List (Loose T g) → List (Loose T g) → List (Sealed T H P g h) → View P → Type 0
  Tries copied clock v [] stay sealed v' = (stay ≡ []) × (sealed ≡ []) × (v' ≡ v)
  Tries copied clock v (b ∷ bs) stay sealed v' =
      (next : View P) × (((s : Sealed T H P g h) × (rest : List (Sealed T H P g h)) × (sealed ≡ s ∷ rest) × Seals copied v b s next × IsSealedAt clock s × Tries copied clock next bs stay rest v')
      ⊎ ((refused : AdvanceRefused) × (rest : List (Loose T g)) × (stay ≡ b ∷ rest) × AdvanceIsRefused v refused next × Tries copied clock next bs rest sealed v'))

  -- The tries of all loose buckets. So many were sealed, and are the newest sealed ones, in their order.
  pub record SealsEach (copied : P → P) (clock : TableId × Setup) (v : View P) (loose : List (Loose T g)) (sealed : List (Sealed T H P g h)) (count : ℕ) (loose_left : List (Loose T g)) (sealed_now : List (Sealed T H P g h)) (v' : View P) : Type 0 where
    pub new : List (Sealed T H P g h)
    pub tries : Tries copied clock v loose loose_left new v'
    pub newest : sealed_now ≡ sealed ++ new
    pub counted : count ≡ length new

module _ {H P : Type 0} {h : _} where
  -- the clock is that of the domain's notes, and the pass is its
  pub record CanSeal (identity : Identity) (clock : Clock H P) (by : Pass H P h) : Type 0 where
    pub here : clock_id clock ≡ identity.clock
    pub pass : IsPassOf clock by

module _ {T H P Y Z : Type 0} {g h : _} where
  -- the pass is of the clock, and there is room to seal each loose bucket
  pub record CanTryEach (clock : Clock H P) (pass : Pass H P h) (loose : VecDeque (Loose T g) Y) (sealed : VecDeque (Sealed T H P g h) Z) : Type 0 where
    pub here : IsPassOf clock pass
    pub few : deque_len loose < 2 ^ 32
    pub room : deque_len loose + deque_len sealed ≤ deque_capacity sealed

  -- the pass is as it was, but for what it learnt, and there is such room still
  pub record StaysTried (clock : Clock H P) (pass pass' : Pass H P h) (loose : VecDeque (Loose T g) Y) (sealed : VecDeque (Sealed T H P g h) Z) : Type 0 where
    pub kept : KeepsPass clock pass pass'
    pub room : deque_len loose + deque_len sealed ≤ deque_capacity sealed
