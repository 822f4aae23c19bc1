-- A trim, one bucket after another.
use Rattle.std.proofs.Common.{◌≡◌, ◌<◌, ◌≤◌, ◌+◌, ◌-◌, ℕ, List, [], ◌∷◌, ◌++◌, length, take, drop, get_or, map, sum_by, Some, None, inl, inr, refl, sym, ap, ◌∙◌, subst, append_assoc, arith}
use Rattle.std.proofs.lemmas.List.{take-append-drop, drop_more, drop_at, take_at, length-take-le, length_push, drop_all, append-nil, map_push, get_or_default}
use Rattle.std.proofs.lemmas.List.Sums.{sum_by-cons, sum_by_push}
use Rattle.uma_bucket.specs.declared.bucket.Bucket.{Bucket}
use Rattle.uma_bucket.specs.declared.freed.Sealed.{Sealed}
use Rattle.uma_bucket.specs.declared.freed.Ripe.{Ripe}
use Rattle.uma_domain.specs.declared.trims.TakenBucket.{TakenBucket}
use Rattle.uma_domain.specs.declared.trims.TakenBucket.TheVariants.{Plain as Plain', Ripe as Ripe'}
use Rattle.uma_domain.specs.Listed.{plain_len, loose_len, sealed_len, ripe_len}
use Rattle.uma_domain.specs.Scans.{TriesAt, TrimsSealed}
use Rattle.uma_domain.specs.Trim.{Trims, TrimsPlainInto, TrimsSealedInto}

module _ {T : Type 0} {g : _} where
  -- the first bucket's size, where it is read at place 0
  pub first_is : (is : List (Bucket T g)) (read next : Bucket T g) (behind : List (Bucket T g)) → is ≡ next ∷ behind → read ≡ get_or is 0 read → plain_len read ≡ plain_len next
  first_is is read next behind here there = ap plain_len (there ∙ ap (λ (xs : List (Bucket T g)). get_or xs 0 read) here)

module _ {T H P : Type 0} {g h : _} where
  -- A trim of sealed buckets that has come to a place. What a trim from there does makes it whole.
  pub record Trimming (floor remain : ℕ) (was : List (Sealed T H P g h)) (list : List (TakenBucket T H P g h)) (at left : ℕ) (is : List (Sealed T H P g h)) (now : List (TakenBucket T H P g h)) : Type 0 where
    pub ripe : List (Ripe T H P g h)
    pub order : now ≡ list ++ map Ripe' ripe
    pub sums : left + sum_by ripe_len ripe ≡ remain
    pub enough : sum_by sealed_len (drop at is) ≤ left
    pub so_far : (more : List (Ripe T H P g h)) (rest : List (Sealed T H P g h)) → TrimsSealed floor left (drop at is) more rest → TrimsSealed floor remain was (ripe ++ more) (take at is ++ rest)

  pub trim_begins : (floor remain : ℕ) (was : List (Sealed T H P g h)) (list : List (TakenBucket T H P g h)) → sum_by sealed_len was ≤ remain → Trimming floor remain was list 0 remain was list
  trim_begins floor remain was list enough = record { ripe = []; order = sym (append-nil list); sums = omega arith; enough = enough; so_far = λ more rest trims. trims }

  -- what is left from a place on: the bucket there, and those behind it
  next_of : (is : List (Sealed T H P g h)) (at : ℕ) (bucket : Sealed T H P g h) → at < length is → bucket ≡ get_or is at bucket → drop at is ≡ bucket ∷ drop (at + 1) is
  next_of is at bucket within there = drop_more is at bucket within ∙ ap (λ (b : Sealed T H P g h). b ∷ drop (at + 1) is) (sym there)

  next_sum : (is : List (Sealed T H P g h)) (at : ℕ) (bucket : Sealed T H P g h) → at < length is → bucket ≡ get_or is at bucket → sum_by sealed_len (drop at is) ≡ sealed_len bucket + sum_by sealed_len (drop (at + 1) is)
  next_sum is at bucket within there = ap (sum_by sealed_len) (next_of is at bucket within there) ∙ sum_by-cons sealed_len bucket (drop (at + 1) is)

  -- the bucket at the place has no more items than are left
  pub next_fits : (floor remain : ℕ) (was : List (Sealed T H P g h)) (list : List (TakenBucket T H P g h)) (at left : ℕ) (is : List (Sealed T H P g h)) (now : List (TakenBucket T H P g h)) (bucket : Sealed T H P g h)
      → at < length is → bucket ≡ get_or is at bucket → Trimming floor remain was list at left is now → sealed_len bucket ≤ left
  next_fits floor remain was list at left is now bucket within there so = let sum = next_sum is at bucket within there in omega (arith, so.enough, sum)

  pub trim_stops : (floor remain : ℕ) (was : List (Sealed T H P g h)) (list : List (TakenBucket T H P g h)) (at left : ℕ) (is : List (Sealed T H P g h)) (now : List (TakenBucket T H P g h)) (bucket : Sealed T H P g h)
      → at < length is → bucket ≡ get_or is at bucket → left < floor + sealed_len bucket → Trimming floor remain was list at left is now → TrimsSealedInto floor remain was list left is now
  trim_stops floor remain was list at left is now bucket within there short so =
      let next = next_of is at bucket within there in
      let here : TrimsSealed floor left (drop at is) [] (drop at is) = subst (λ (xs : List (Sealed T H P g h)). TrimsSealed floor left xs [] xs) (sym next) (inl (short, refl, refl)) in
      record {
        ripe = so.ripe;
        trims = subst (λ (xs : List (Sealed T H P g h)). TrimsSealed floor remain was so.ripe xs) (take-append-drop at is) (subst (λ (rs : List (Ripe T H P g h)). TrimsSealed floor remain was rs (take at is ++ drop at is)) (append-nil so.ripe) (so.so_far [] (drop at is) here));
        order = so.order;
        left = so.sums;
      }

  pub trim_ends : (floor remain : ℕ) (was : List (Sealed T H P g h)) (list : List (TakenBucket T H P g h)) (at left : ℕ) (is : List (Sealed T H P g h)) (now : List (TakenBucket T H P g h))
      → length is ≤ at → Trimming floor remain was list at left is now → TrimsSealedInto floor remain was list left is now
  trim_ends floor remain was list at left is now past so =
      let none : drop at is ≡ [] = drop_all at is past in
      let here : TrimsSealed floor left (drop at is) [] (drop at is) = subst (λ (xs : List (Sealed T H P g h)). TrimsSealed floor left xs [] xs) (sym none) (refl, refl) in
      record {
        ripe = so.ripe;
        trims = subst (λ (xs : List (Sealed T H P g h)). TrimsSealed floor remain was so.ripe xs) (take-append-drop at is) (subst (λ (rs : List (Ripe T H P g h)). TrimsSealed floor remain was rs (take at is ++ drop at is)) (append-nil so.ripe) (so.so_far [] (drop at is) here));
        order = so.order;
        left = so.sums;
      }

  pub trim_keeps : (floor remain : ℕ) (was : List (Sealed T H P g h)) (list : List (TakenBucket T H P g h)) (at left : ℕ) (is : List (Sealed T H P g h)) (now : List (TakenBucket T H P g h)) (next : List (Sealed T H P g h)) (len : ℕ)
      → at < length is → (bucket : Sealed T H P g h) → bucket ≡ get_or is at bucket → len ≡ sealed_len bucket → floor + len ≤ left → Trimming floor remain was list at left is now → TriesAt is at None next → Trimming floor remain was list (at + 1) left next now
  trim_keeps floor remain was list at left is now next len within read was_read same_len enough so tries =
      let b = tries.bucket in
      let s = tries.stays in
      let here : read ≡ b = was_read ∙ get_or_default is at read b within ∙ sym tries.there in
      let size : floor + sealed_len b ≤ left = omega (arith, enough, same_len ∙ ap sealed_len here) in
      let long : length (take at is ++ s.0 ∷ []) ≡ at + 1 = length_push (take at is) s.0 ∙ ap (λ (n : ℕ). n + 1) (length-take-le at is (omega arith)) in
      let split : next ≡ (take at is ++ s.0 ∷ []) ++ drop (at + 1) is = s.2 ∙ sym (append_assoc (take at is) (s.0 ∷ []) (drop (at + 1) is)) in
      let front : take (at + 1) next ≡ take at is ++ s.0 ∷ [] = ap (take (at + 1)) split ∙ take_at (take at is ++ s.0 ∷ []) (drop (at + 1) is) (at + 1) long in
      let back : drop (at + 1) next ≡ drop (at + 1) is = ap (drop (at + 1)) split ∙ drop_at (take at is ++ s.0 ∷ []) (drop (at + 1) is) (at + 1) long in
      let sum = next_sum is at b within tries.there in
      record {
        ripe = so.ripe;
        order = so.order;
        sums = so.sums;
        enough = omega (arith, so.enough, sum, ap (sum_by sealed_len) back);
        so_far = λ more rest trims.
            let here' : TrimsSealed floor left (drop at is) more (s.0 ∷ rest) = subst (λ (xs : List (Sealed T H P g h)). TrimsSealed floor left xs more (s.0 ∷ rest)) (sym (next_of is at b within tries.there)) (inr (inr (size, s.0, rest, s.1, refl, subst (λ (xs : List (Sealed T H P g h)). TrimsSealed floor left xs more rest) back trims))) in
            subst (λ (xs : List (Sealed T H P g h)). TrimsSealed floor remain was (so.ripe ++ more) xs) (sym (append_assoc (take at is) (s.0 ∷ []) rest) ∙ ap (λ (xs : List (Sealed T H P g h)). xs ++ rest) (sym front)) (so.so_far more (s.0 ∷ rest) here');
      }

  pub trim_takes : (floor remain : ℕ) (was : List (Sealed T H P g h)) (list : List (TakenBucket T H P g h)) (at left : ℕ) (is : List (Sealed T H P g h)) (now : List (TakenBucket T H P g h)) (next : List (Sealed T H P g h)) (len : ℕ) (r : Ripe T H P g h) (later : List (TakenBucket T H P g h))
      → at < length is → (bucket : Sealed T H P g h) → bucket ≡ get_or is at bucket → len ≡ sealed_len bucket → floor + len ≤ left → Trimming floor remain was list at left is now → TriesAt is at (Some r) next → later ≡ now ++ Ripe' r ∷ [] → Trimming floor remain was list at (left - len) next later
  trim_takes floor remain was list at left is now next len r later within read was_read same_len enough so tries pushed =
      let b = tries.bucket in
      let ripens = tries.taken.0 in
      let here : read ≡ b = was_read ∙ get_or_default is at read b within ∙ sym tries.there in
      let len_is : len ≡ sealed_len b = same_len ∙ ap sealed_len here in
      let size : floor + sealed_len b ≤ left = omega (arith, enough, len_is) in
      let long : length (take at is) ≡ at = length-take-le at is (omega arith) in
      let split : next ≡ take at is ++ drop (at + 1) is = tries.taken.1 in
      let front : take at next ≡ take at is = ap (take at) split ∙ take_at (take at is) (drop (at + 1) is) at long in
      let back : drop at next ≡ drop (at + 1) is = ap (drop at) split ∙ drop_at (take at is) (drop (at + 1) is) at long in
      let sum = next_sum is at b within tries.there in
      let ripe_is : ripe_len r ≡ sealed_len b = ap loose_len ripens.yes.0 in
      let pushed_sum = sum_by_push ripe_len so.ripe r in
      record {
        ripe = so.ripe ++ r ∷ [];
        order = pushed ∙ ap (λ (xs : List (TakenBucket T H P g h)). xs ++ Ripe' r ∷ []) so.order ∙ append_assoc list (map Ripe' so.ripe) (Ripe' r ∷ []) ∙ ap (λ (xs : List (TakenBucket T H P g h)). list ++ xs) (sym (map_push Ripe' so.ripe r));
        sums = omega (arith, so.sums, pushed_sum, ripe_is, len_is, size);
        enough = omega (arith, so.enough, sum, len_is, size, ap (sum_by sealed_len) back);
        so_far = λ more rest trims.
            let from : TrimsSealed floor (left - sealed_len b) (drop (at + 1) is) more rest = subst (λ (n : ℕ). TrimsSealed floor (left - n) (drop (at + 1) is) more rest) len_is (subst (λ (xs : List (Sealed T H P g h)). TrimsSealed floor (left - len) xs more rest) back trims) in
            let here' : TrimsSealed floor left (drop at is) (r ∷ more) rest = subst (λ (xs : List (Sealed T H P g h)). TrimsSealed floor left xs (r ∷ more) rest) (sym (next_of is at b within tries.there)) (inr (inl (size, r, more, ripens, refl, from))) in
            subst (λ (xs : List (Sealed T H P g h)). TrimsSealed floor remain was ((so.ripe ++ r ∷ []) ++ more) (xs ++ rest)) (sym front) (subst (λ (rs : List (Ripe T H P g h)). TrimsSealed floor remain was rs (take at is ++ rest)) (sym (append_assoc so.ripe (r ∷ []) more)) (so.so_far (r ∷ more) rest here'));
      }

  -- A trim of plain buckets that has taken so many.
  pub record TrimmingPlain (floor remain : ℕ) (was : List (Bucket T g)) (list : List (TakenBucket T H P g h)) (left : ℕ) (is : List (Bucket T g)) (now : List (TakenBucket T H P g h)) : Type 0 where
    pub gone : List (Bucket T g)
    pub split : was ≡ gone ++ is
    pub order : now ≡ list ++ map Plain' gone
    pub sums : left + sum_by plain_len gone ≡ remain
    pub floored : 0 < length gone → floor ≤ left
    pub enough : sum_by plain_len is ≤ left

  pub plain_stops : (floor remain : ℕ) (was : List (Bucket T g)) (list : List (TakenBucket T H P g h)) (left : ℕ) (is : List (Bucket T g)) (now : List (TakenBucket T H P g h))
      → ((next : Bucket T g) (behind : List (Bucket T g)) → is ≡ next ∷ behind → left < floor + plain_len next) → TrimmingPlain floor remain was list left is now → TrimsPlainInto {h = h} floor remain was list left is now
  plain_stops floor remain was list left is now short so = record {
    taken = so.gone;
    trims = record {
      split = so.split;
      enough = λ some. let above = so.floored some in omega (arith, above, so.sums);
      stops = λ next behind here. let below = short next behind here in omega (arith, below, so.sums);
    };
    order = so.order;
    left = so.sums;
  }

  pub first_fits : (floor remain : ℕ) (was : List (Bucket T g)) (list : List (TakenBucket T H P g h)) (left : ℕ) (is : List (Bucket T g)) (now : List (TakenBucket T H P g h)) (read : Bucket T g)
      → 0 < length is → read ≡ get_or is 0 read → TrimmingPlain floor remain was list left is now → plain_len read ≤ left
  first_fits floor remain was list left is now read some there so =
      let sum = sum_by-cons plain_len (get_or is 0 read) (drop 1 is) in
      let whole : sum_by plain_len is ≡ sum_by plain_len (get_or is 0 read ∷ drop 1 is) = ap (sum_by plain_len) (drop_more is 0 read some) in
      omega (arith, so.enough, sum, whole, ap plain_len there)

  pub plain_takes : (floor remain : ℕ) (was : List (Bucket T g)) (list : List (TakenBucket T H P g h)) (left : ℕ) (is : List (Bucket T g)) (now : List (TakenBucket T H P g h)) (b : Bucket T g) (rest : List (Bucket T g)) (len : ℕ) (later : List (TakenBucket T H P g h))
      → is ≡ b ∷ rest → len ≡ plain_len b → floor + len ≤ left → later ≡ now ++ Plain' b ∷ [] → TrimmingPlain floor remain was list left is now → TrimmingPlain floor remain was list (left - len) rest later
  plain_takes floor remain was list left is now b rest len later popped same_len enough pushed so =
      let sum : sum_by plain_len is ≡ plain_len b + sum_by plain_len rest = ap (sum_by plain_len) popped ∙ sum_by-cons plain_len b rest in
      let more = sum_by_push plain_len so.gone b in
      record {
        gone = so.gone ++ b ∷ [];
        split = so.split ∙ ap (λ (xs : List (Bucket T g)). so.gone ++ xs) popped ∙ sym (append_assoc so.gone (b ∷ []) rest);
        order = pushed ∙ ap (λ (xs : List (TakenBucket T H P g h)). xs ++ Plain' b ∷ []) so.order ∙ append_assoc list (map Plain' so.gone) (Plain' b ∷ []) ∙ ap (λ (xs : List (TakenBucket T H P g h)). list ++ xs) (sym (map_push Plain' so.gone b));
        sums = omega (arith, so.sums, more, same_len, enough);
        floored = λ some. omega (arith, enough);
        enough = omega (arith, so.enough, sum, same_len);
      }

  -- a trim that takes every plain bucket, and goes on to the sealed ones
  pub both_kinds : (floor remain : ℕ) (plain : List (Bucket T g)) (sealed : List (Sealed T H P g h)) (list : List (TakenBucket T H P g h)) (left : ℕ) (plain_left : List (Bucket T g)) (now : List (TakenBucket T H P g h)) (last : ℕ) (sealed_left : List (Sealed T H P g h)) (later : List (TakenBucket T H P g h))
      → list ≡ [] → TrimsPlainInto {h = h} floor remain plain list left plain_left now → length plain_left ≡ 0 → TrimsSealedInto floor left sealed now last sealed_left later → Trims floor remain plain sealed later plain_left sealed_left
  both_kinds floor remain plain sealed list left plain_left now last sealed_left later empty p none s =
      let here : left ≡ remain - sum_by plain_len p.taken = omega (arith, p.left) in
      record {
        plain_taken = p.taken;
        ripe = s.ripe;
        order = s.order ∙ ap (λ (xs : List (TakenBucket T H P g h)). xs ++ map Ripe' s.ripe) (p.order ∙ ap (λ (xs : List (TakenBucket T H P g h)). xs ++ map Plain' p.taken) empty);
        plain_trimmed = p.trims;
        sealed_trimmed = λ _. subst (λ (n : ℕ). TrimsSealed floor n sealed s.ripe sealed_left) here s.trims;
        sealed_unseen = λ some. absurd (omega (arith, some, none));
      }
