-- Sums of one bucket after another.
use Rattle.std.proofs.Common.{◌≡◌, ◌<◌, ◌≤◌, ◌+◌, ◌*◌, ◌^◌, ℕ, suc, List, [], ◌∷◌, length, get_or, take, refl, sym, ap, ◌∙◌, subst, arith, Option, Some, None, Bool, true, false, cond}
use Rattle.std.specs.List.{sum_by, filter_map, cons_option, All}
use Rattle.std.proofs.lemmas.List.Sums.{sum_by-cons, sum_by_more}
use Rattle.uma_life.specs.Hook.{Hook}
use Rattle.uma_bucket.specs.declared.bucket.Bucket.{Bucket}
use Rattle.uma_bucket.specs.declared.freed.Loose.{Loose}
use Rattle.uma_bucket.specs.declared.shelved.Sums.{Sums}
use Rattle.uma_bucket.specs.declared.shelved.Shelved.{Shelved}
use Rattle.uma_bucket.specs.declared.shelved.Shelved.TheVariants.{Plain, Loose as Loose', Sealed as Sealed'}
use Rattle.uma_bucket.specs.Sealed.{sealed_bucket}
use Rattle.uma_bucket.specs.Shelved.{count_of}
use Rattle.uma_bucket.specs.Bucket.{items_of}
use Rattle.uma_bucket.specs.Loose.{loose_items}
use Rattle.uma_bucket.specs.Home.{Home}
use Rattle.uma_bucket.specs.Room.{cached_in, freed_in}
use Rattle.uma_bucket.specs.Sums.{Adds, AreOfAtMost, Balance}

pub widen : (n m : ℕ) (sums : Sums) → n ≤ m → AreOfAtMost n sums → AreOfAtMost m sums
widen n m sums within at = record {
  tally = λ hook. let a = at.tally hook in omega arith;
  deferred = let a = at.deferred in omega arith;
}

pub zero_sum : {B : Type 0} (xs : List B) → sum_by (λ x. 0) xs ≡ 0
zero_sum [] = refl
zero_sum (x ∷ xs) = let step = sum_by-cons (λ x. 0) x xs in let rest = zero_sum xs in omega (arith, step, rest)

pub take_whole : {B : Type 0} (xs : List B) → take (length xs) xs ≡ xs
take_whole [] = refl
take_whole (x ∷ xs) = ap (λ l. x ∷ l) (take_whole xs)

module _ {B : Type 0} (times : Hook → B → ℕ) (deferred : B → ℕ) (at : Home → B → Type 0) (xs : List B) where
  -- the first i buckets were added
  pub record SoFar (was now : Sums) (i : ℕ) : Type 0 where
    pub adds : Adds (λ hook. sum_by (times hook) (take i xs)) (sum_by deferred (take i xs)) was now
    pub few : (count : ℕ) → AreOfAtMost count was → AreOfAtMost (count + 64 * i) now
    pub balance : (home : Home) → All (at home) xs → Balance home.zone was → Balance home.zone now

  pub none_so_far : (was : Sums) → SoFar was was 0
  none_so_far was = record {
    adds = record { tally = λ hook. omega arith; deferred_too = omega arith };
    few = λ count most. widen count (count + 64 * 0) was (omega arith) most;
    balance = λ home homes before. before;
  }

  pub one_more_added : (was now next : Sums) (i : ℕ) (x : B) (size : ℕ) → SoFar was now i → i < length xs → x ≡ get_or xs i x → size ≤ 64
      → Adds (λ hook. times hook x) (deferred x) now next → ((count : ℕ) → AreOfAtMost count now → AreOfAtMost (count + size) next) → ((home : Home) → at home x → Balance home.zone now → Balance home.zone next)
      → SoFar was next (i + 1)
  one_more_added was now next i x size so within there small adds few balance = record {
    adds = record {
      tally = λ hook.
          let more = sum_by_more (times hook) xs i x within in
          let here : times hook (get_or xs i x) ≡ times hook x = ap (times hook) (sym there) in
          let a = so.adds.tally hook in let b = adds.tally hook in omega (arith, more, here, a, b);
      deferred_too =
          let more = sum_by_more deferred xs i x within in
          let here : deferred (get_or xs i x) ≡ deferred x = ap deferred (sym there) in
          let a = so.adds.deferred_too in let b = adds.deferred_too in omega (arith, more, here, a, b);
    };
    few = λ count most. widen (count + 64 * i + size) (count + 64 * (i + 1)) next (omega (arith, small)) (few (count + 64 * i) (so.few count most));
    balance = λ home homes before. balance home (subst (at home) (sym there) (homes i x within)) (so.balance home homes before);
  }

  pub all_added : (was now : Sums) (i : ℕ) → SoFar was now i → i ≡ length xs → Adds (λ hook. sum_by (times hook) xs) (sum_by deferred xs) was now
  all_added was now i so whole =
      let is : take i xs ≡ xs = ap (λ (n : ℕ). take n xs) whole ∙ take_whole xs in
      subst (λ (l : List B). Adds (λ hook. sum_by (times hook) l) (sum_by deferred l) was now) is so.adds

  pub room_so_far : (was now : Sums) (i : ℕ) → SoFar was now i → AreOfAtMost (2 ^ 61) was → i < length xs → length xs ≤ 4 → AreOfAtMost (2 ^ 62) now
  room_so_far was now i so most within few = widen (2 ^ 61 + 64 * i) (2 ^ 62) now (omega (arith, within, few)) (so.few (2 ^ 61) most)

-- ---- a bucket has at most 64 items

one_part : {A : Type 0} (o : Option A) (xs : List A) (n : ℕ) → length xs ≤ n → length (cons_option o xs) ≤ suc n
one_part None xs n few = omega arith
one_part (Some x) xs n few = omega arith

parts_few : {X A : Type 0} (part : X → Option A) (xs : List X) → length (filter_map part xs) ≤ length xs
parts_few part [] = omega arith
parts_few part (x ∷ xs) = let rest = parts_few part xs in one_part (part x) (filter_map part xs) (length xs) rest

module _ {T : Type 0} {g : _} where
  pub bucket_few : (bucket : Bucket T g) → length (items_of bucket) ≤ 64
  bucket_few bucket = let few = parts_few cached_in bucket.room.items in omega (arith, few, bucket.kept.within, bucket.kept.most, bucket.room.ok.0)

  pub loose_few : (loose : Loose T g) → length (loose_items loose) ≤ 64
  loose_few loose = let few = parts_few freed_in loose.room.items in omega (arith, few, loose.kept.within, loose.kept.most, loose.room.ok.0)

  pub top_room : (was now : Sums) (bucket : Bucket T g) → AreOfAtMost 0 was → ((count : ℕ) → AreOfAtMost count was → AreOfAtMost (count + length (items_of bucket)) now) → AreOfAtMost 64 now
  top_room was now bucket none few = let small = bucket_few bucket in widen (0 + length (items_of bucket)) 64 now (omega (arith, small)) (few 0 none)

module _ {T H P : Type 0} {g h : _} where
  pub shelved_few : (shelved : Shelved T H P g h) → count_of shelved ≤ 64
  shelved_few (Plain domain bucket) = bucket_few bucket
  shelved_few (Loose' domain loose) = loose_few loose
  shelved_few (Sealed' domain sealed) = loose_few (sealed_bucket sealed)

-- so many rows more
pub rows_room : (was now : Sums) (most rows bound : ℕ) → AreOfAtMost most was → ((count : ℕ) → AreOfAtMost count was → AreOfAtMost (count + 64 * rows) now) → rows ≤ bound → AreOfAtMost (most + 64 * bound) now
rows_room was now most rows bound at few small = widen (most + 64 * rows) (most + 64 * bound) now (omega (arith, small)) (few most at)

pub row_small : (smr : Bool) (rows domains : ℕ) → rows ≡ cond smr 0 domains → domains ≤ 4 → rows ≤ 4
row_small true rows domains is small = omega (arith, is)
row_small false rows domains is small = omega (arith, is, small)

pub freed_small : (smr : Bool) (rows domains : ℕ) → rows ≡ cond smr domains 0 → domains ≤ 4 → rows ≤ 4
freed_small true rows domains is small = omega (arith, is, small)
freed_small false rows domains is small = omega (arith, is)
