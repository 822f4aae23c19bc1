-- Own: laws of what a trim and a drain of a domain take, and of what they leave listed.
use Rattle.std.specs.Prelude.{◌≡◌, ◌≤◌, ◌<◌, ◌+◌, ℕ, List, [], ◌∷◌, ◌++◌, length, sum_by}
use Rattle.smr_clock.specs.declared.host.Host.{Ghosts as HostGhosts}
use Rattle.uma_life.specs.declared.hooks.Body.{Ghosts}
use Rattle.uma_bucket.specs.declared.bucket.Bucket.{Bucket}
use Rattle.uma_bucket.specs.declared.freed.Ripe.{Ripe}
use Rattle.uma_bucket.specs.declared.freed.Sealed.{Sealed}
use Rattle.uma_domain.specs.declared.domain.Domain.{Domain}
use Rattle.uma_domain.specs.declared.trims.Taken.{Taken}
use Rattle.uma_domain.specs.declared.trims.TakenBucket.{TakenBucket}
use Rattle.uma_domain.specs.declared.trims.TakenBucket.TheVariants.{Plain as Plain', Ripe as Ripe'}
use Rattle.uma_domain.specs.Listed.{plain_len, ripe_len, sealed_len}
use Rattle.uma_domain.specs.Lists.{plain_in, sealed_in, working_in}
use Rattle.uma_domain.specs.Scans.{TakesAllRipe}
use Rattle.uma_domain.specs.Taken.{taken_in}
use Rattle.uma_domain.specs.Trim.{in_order}
use Rattle.uma_domain.specs.UnderLock.{TakesUnused, TakesEach}
use Rattle.uma_domain.specs.Working.{working_set}

-- The first of these buckets has more items than may go: without them fewer than the floor would be left.
abbrev pub FirstIsTooMany : {B : Type 0} → (B → ℕ) → ℕ → ℕ → List B → Type 0
FirstIsTooMany len floor left [] = Unit
FirstIsTooMany len floor left (first ∷ behind) = left < floor + len first

module _ {T H P : Type 0} {g h : _} where
  -- how many items a bucket has that was taken
  abbrev pub taken_len : TakenBucket T H P g h → ℕ
  taken_len (Plain' bucket) = plain_len bucket
  taken_len (Ripe' bucket) = ripe_len bucket

  -- What a trim that keeps a floor did, where so many items are left. It took the oldest plain buckets. Where no plain one is left it came to the sealed ones, polled each once from the oldest on, and took those whose poll said yes. It stopped before the first bucket without whose items fewer than the floor would be left.
  pub record StopsAtFloor (floor left : ℕ) (plain : List (Bucket T g)) (sealed : List (Sealed T H P g h)) (taken : List (TakenBucket T H P g h)) (plain_left : List (Bucket T g)) (sealed_left : List (Sealed T H P g h)) : Type 0 where
    pub plain_taken : List (Bucket T g)
    pub ripe : List (Ripe T H P g h)
    pub order : taken ≡ in_order plain_taken ripe
    pub oldest : plain ≡ plain_taken ++ plain_left
    pub plain_stops : FirstIsTooMany plain_len floor left plain_left
    pub polled : List (Sealed T H P g h)
    pub unseen : List (Sealed T H P g h)
    pub stay : List (Sealed T H P g h)
    pub split : sealed ≡ polled ++ unseen
    pub polls : TakesAllRipe polled ripe stay
    pub others_stay : sealed_left ≡ stay ++ unseen
    pub plain_first : 0 < length plain_left → polled ≡ []
    pub sealed_stops : plain_left ≡ [] → FirstIsTooMany sealed_len floor left unseen

  -- No item is lost: those taken and those left are all that were listed. Where any bucket was taken, at least the floor is left. And it stopped there.
  pub record KeepsFloor (floor count left : ℕ) (plain : List (Bucket T g)) (sealed : List (Sealed T H P g h)) (taken : List (TakenBucket T H P g h)) (plain_left : List (Bucket T g)) (sealed_left : List (Sealed T H P g h)) : Type 0 where
    pub all : left + sum_by taken_len taken ≡ count
    pub enough : 0 < length taken → floor ≤ left
    pub stops : StopsAtFloor floor left plain sealed taken plain_left sealed_left

-- What a trim leaves listed of a domain is at least its working set, where it takes any bucket, and it stopped at the first bucket whose removal would have left fewer.
abbrev pub TrimsKeepFloor : (T H P : Type 0) (g : Ghosts T) (h : HostGhosts H P) → Type 0
TrimsKeepFloor T H P g h =
    (domain : Domain T H P g h) (taken : Taken T H P g h) (trim : TakesUnused domain taken)
    → KeepsFloor (working_set (working_in trim.was)) (working_in trim.was).count (working_in trim.is).count (plain_in trim.was) (sealed_in trim.was) (taken_in taken) (plain_in trim.is) (sealed_in trim.is)

-- A drain loses no item: those taken and those left are all that were listed.
abbrev pub DrainsLoseNone : (T H P : Type 0) (g : Ghosts T) (h : HostGhosts H P) → Type 0
DrainsLoseNone T H P g h =
    (domain : Domain T H P g h) (taken : Taken T H P g h) (drain : TakesEach domain taken) → (working_in drain.is).count + sum_by taken_len (taken_in taken) ≡ (working_in drain.was).count
