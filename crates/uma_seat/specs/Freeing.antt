-- Own: what a free does to a seat.
use Rattle.std.specs.Prelude.{◌≡◌, ℕ, [], ◌∷◌, ◌++◌, slice_set}
use Rattle.smr_clock.specs.declared.view.View.{View}
use Rattle.smr_clock.specs.Advances.{AdvanceIsRefused as RefusesAdvance}
use Rattle.smr_clock.specs.declared.polls.AdvanceRefused.{AdvanceRefused}
use Rattle.uma_life.specs.declared.states.Cached.{Cached}
use Rattle.uma_bucket.specs.declared.bucket.Bucket.{Bucket}
use Rattle.uma_life.specs.declared.states.Live.{Live}
use Rattle.uma_bucket.specs.declared.freed.Loose.{Loose}
use Rattle.uma_bucket.specs.declared.shelved.Shelved.{Shelved}
use Rattle.uma_bucket.specs.declared.shelved.Shelved.TheVariants.{Plain, Loose as Loose', Sealed as Sealed'}
use Rattle.uma_bucket.specs.Sealed.{Seals}
use Rattle.uma_seat.specs.declared.seat.SeatCache.{SeatCache}
use Rattle.uma_seat.specs.Stack.{Stack, stack_of, loose_stack, empty_stack}
use Rattle.uma_seat.specs.Seat.{plain_of, freed_of, shelf_of, spares_of}

module _ {T H P : Type 0} {g h : _} where
  -- The bucket of the domain, which is full so, is the newest on the shelf under that domain, and a spare stands in its place.
  pub record ShelvesPlain (old : SeatCache T H P g h) (domain : ℕ) (full : Stack (Cached T g)) (new : SeatCache T H P g h) : Type 0 where
    pub bucket : Bucket T g
    pub room : ℕ
    pub is_full : stack_of bucket ≡ full
    pub shelf : shelf_of new ≡ shelf_of old ++ Plain domain bucket ∷ []
    pub spares : spares_of old ≡ spares_of new ++ room ∷ []
    pub buckets : plain_of new ≡ slice_set (plain_of old) domain (empty_stack room)

  -- A loose bucket of the domain was tried once to be sealed, by a pass whose view was v before and v' after: it is sealed, with the goal of an advance and a note taken after that, or is loose still where its advance was refused.
  abbrev pub IsTried : (P → P) → View P → ℕ → Loose T g → Shelved T H P g h → View P → Type 0
  IsTried copied v domain loose (Sealed' named sealed) v' = (named ≡ domain) × Seals copied v loose sealed v'
  IsTried copied v domain loose (Loose' named back) v' = (named ≡ domain) × (back ≡ loose) × ((refused : AdvanceRefused) × RefusesAdvance v refused v')
  IsTried copied v domain loose (Plain named bucket) v' = ⊥

  -- The bucket of the domain, which is full so, was tried to be sealed after its last item was put in, and is the newest on the shelf under that domain; a spare stands in its place.
  pub record ShelvesFreed (copied : P → P) (v : View P) (old : SeatCache T H P g h) (domain : ℕ) (full : Stack (Live T g)) (new : SeatCache T H P g h) (v' : View P) : Type 0 where
    pub loose : Loose T g
    pub newest : Shelved T H P g h
    pub room : ℕ
    pub is_full : loose_stack loose ≡ full
    pub tried : IsTried copied v domain loose newest v'
    pub shelf : shelf_of new ≡ shelf_of old ++ newest ∷ []
    pub spares : spares_of old ≡ spares_of new ++ room ∷ []
    pub buckets : freed_of new ≡ slice_set (freed_of old) domain (empty_stack room)
