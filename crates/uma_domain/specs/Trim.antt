-- Own: what a domain gives back. The candidates are the plain buckets, oldest first, and then the sealed ones whose poll says yes, oldest first.
use Rattle.std.specs.Prelude.{◌≡◌, ◌≤◌, ◌<◌, ◌+◌, ◌-◌, ℕ, List, [], ◌∷◌, ◌++◌, length, map, sum_by}
use Rattle.std.specs.List.{All}
use Rattle.std.specs.VecDeque.{deque_len, deque_capacity}
use Rattle.std.specs.declared.collections.VecDeque.{VecDeque}
use Rattle.smr_clock.specs.declared.clock.Setup.{Setup}
use Rattle.smr_clock.specs.Belongs.{TableId}
use Rattle.uma_bucket.specs.declared.bucket.Bucket.{Bucket}
use Rattle.uma_bucket.specs.declared.freed.Sealed.{Sealed}
use Rattle.uma_bucket.specs.declared.freed.Ripe.{Ripe}
use Rattle.uma_bucket.specs.Sealed.{IsSealedAt}
use Rattle.uma_domain.specs.declared.trims.TakenBucket.{TakenBucket}
use Rattle.uma_domain.specs.declared.trims.TakenBucket.TheVariants.{Plain as Plain', Ripe as Ripe'}
use Rattle.uma_domain.specs.Listed.{plain_len, sealed_len, ripe_len}
use Rattle.uma_domain.specs.Scans.{TakesAllRipe, TrimsSealed}

module _ {T : Type 0} {g : _} where
  -- The plain buckets of a trim, of which so many items remain. The oldest are taken, as long as the items that remain are at least the floor, and it stops before the first whose removal would leave fewer.
  pub record TrimsPlain (floor remain : ℕ) (was taken is : List (Bucket T g)) : Type 0 where
    pub split : was ≡ taken ++ is
    pub enough : 0 < length taken → floor + sum_by plain_len taken ≤ remain
    pub stops : (next : Bucket T g) (behind : List (Bucket T g)) → is ≡ next ∷ behind → remain < floor + sum_by plain_len taken + plain_len next

module _ {T H P : Type 0} {g h : _} where
  -- the plain buckets, and then the ripe ones, each in their order
  abbrev pub in_order : List (Bucket T g) → List (Ripe T H P g h) → List (TakenBucket T H P g h)
  in_order plain ripe = map Plain' plain ++ map Ripe' ripe

  -- A trim of a domain of which so many items were listed, that keeps the floor. It goes through the plain buckets, and through the sealed ones only where it took each plain one.
  pub record Trims (floor count : ℕ) (plain : List (Bucket T g)) (sealed : List (Sealed T H P g h)) (taken : List (TakenBucket T H P g h)) (plain_left : List (Bucket T g)) (sealed_left : List (Sealed T H P g h)) : Type 0 where
    pub plain_taken : List (Bucket T g)
    pub ripe : List (Ripe T H P g h)
    pub order : taken ≡ in_order plain_taken ripe
    pub plain_trimmed : TrimsPlain floor count plain plain_taken plain_left
    pub sealed_trimmed : plain_left ≡ [] → TrimsSealed floor (count - sum_by plain_len plain_taken) sealed ripe sealed_left
    pub sealed_unseen : 0 < length plain_left → (ripe ≡ []) × (sealed_left ≡ sealed)

  -- Each candidate is taken: every plain bucket, and each sealed one whose poll said yes. Every sealed bucket was polled once.
  pub record TakesAll (plain : List (Bucket T g)) (sealed : List (Sealed T H P g h)) (taken : List (TakenBucket T H P g h)) (sealed_left : List (Sealed T H P g h)) : Type 0 where
    pub ripe : List (Ripe T H P g h)
    pub order : taken ≡ in_order plain ripe
    pub sealed_taken : TakesAllRipe sealed ripe sealed_left

  -- A trim of plain buckets, which lists those taken behind what was listed. So many items remain.
  pub record TrimsPlainInto (floor remain : ℕ) (was : List (Bucket T g)) (listed : List (TakenBucket T H P g h)) (remains : ℕ) (is : List (Bucket T g)) (list : List (TakenBucket T H P g h)) : Type 0 where
    pub taken : List (Bucket T g)
    pub trims : TrimsPlain floor remain was taken is
    pub order : list ≡ listed ++ map Plain' taken
    pub left : remains + sum_by plain_len taken ≡ remain

  -- A trim of sealed buckets, which lists those taken behind what was listed. So many items remain.
  pub record TrimsSealedInto (floor remain : ℕ) (was : List (Sealed T H P g h)) (listed : List (TakenBucket T H P g h)) (remains : ℕ) (is : List (Sealed T H P g h)) (list : List (TakenBucket T H P g h)) : Type 0 where
    pub ripe : List (Ripe T H P g h)
    pub trims : TrimsSealed floor remain was ripe is
    pub order : list ≡ listed ++ map Ripe' ripe
    pub left : remains + sum_by ripe_len ripe ≡ remain

module _ {X Z : Type 0} where
  -- no bucket came, and the room is the same
  pub record IsNoLonger (was is : VecDeque X Z) : Type 0 where
    pub fewer : deque_len is ≤ deque_len was
    pub capacity : deque_capacity is ≡ deque_capacity was

module _ {T H P Y Z : Type 0} {g h : _} where
  -- at least so many items remain as these buckets have, and the list of those taken has room for each bucket
  pub record HasRoomFor {X : Type 0} (len : X → ℕ) (buckets : VecDeque X Y) (remain : ℕ) (taken : VecDeque (TakenBucket T H P g h) Z) : Type 0 where
    pub enough : sum_by len buckets.items ≤ remain
    pub room : deque_len taken + deque_len buckets ≤ deque_capacity taken

  -- and the buckets are sealed by this clock
  pub record CanTrimSealed (clock : TableId × Setup) (sealed : VecDeque (Sealed T H P g h) Y) (remain : ℕ) (taken : VecDeque (TakenBucket T H P g h) Z) : Type 0 where
    pub here : All (IsSealedAt clock) sealed.items
    pub fits : HasRoomFor sealed_len sealed remain taken

  -- both lists have no bucket more than they had, and that of those taken has the same room
  pub record StaysWithin (plain : VecDeque (Bucket T g) Y) (taken : VecDeque (TakenBucket T H P g h) Z) (plain_left : VecDeque (Bucket T g) Y) (list : VecDeque (TakenBucket T H P g h) Z) : Type 0 where
    pub room : deque_len list + deque_len plain_left ≤ deque_len taken + deque_len plain
    pub capacity : deque_capacity list ≡ deque_capacity taken

module _ {T H P X Y Z : Type 0} {g h : _} where
  -- the sealed buckets are of this clock, at least so many items remain as both lists have, and that of those taken is empty and has room for each bucket
  pub record CanTakeCandidates (clock : TableId × Setup) (plain : VecDeque (Bucket T g) X) (sealed : VecDeque (Sealed T H P g h) Y) (remain : ℕ) (taken : VecDeque (TakenBucket T H P g h) Z) : Type 0 where
    pub here : All (IsSealedAt clock) sealed.items
    pub enough : sum_by plain_len plain.items + sum_by sealed_len sealed.items ≤ remain
    pub empty : taken.items ≡ []
    pub room : deque_len taken + (deque_len plain + deque_len sealed) ≤ deque_capacity taken

module _ {T H P X Y : Type 0} {g h : _} where
  -- as many items remain as before less those of the buckets that went, and no sealed bucket came
  pub record LeavesItems (remain : ℕ) (plain : VecDeque (Bucket T g) X) (sealed : VecDeque (Sealed T H P g h) Y) (remains : ℕ) (plain_left : VecDeque (Bucket T g) X) (sealed_left : VecDeque (Sealed T H P g h) Y) : Type 0 where
    pub left : remains + sum_by plain_len plain.items + sum_by sealed_len sealed.items ≡ remain + sum_by plain_len plain_left.items + sum_by sealed_len sealed_left.items
    pub bound : remains ≤ remain
    pub shorter : IsNoLonger sealed sealed_left
