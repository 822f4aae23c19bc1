-- A trim keeps its floor, and a drain loses no item.
use Rattle.std.proofs.Common.{◌≡◌, ◌≤◌, ◌<◌, ◌+◌, ◌-◌, ℕ, List, [], ◌∷◌, ◌++◌, length, map, sum_by, inl, inr, refl, ap, ◌∙◌, subst, arith}
use Rattle.std.proofs.lemmas.List.{length-append, length-map}
use Rattle.std.proofs.lemmas.List.Sums.{sum_by-append, sum_by-cons}
use Rattle.smr_clock.specs.declared.host.Host.{Ghosts as HostGhosts}
use Rattle.uma_life.specs.declared.hooks.Body.{Ghosts}
use Rattle.uma_bucket.specs.declared.bucket.Bucket.{Bucket}
use Rattle.uma_bucket.specs.declared.freed.Loose.{Loose}
use Rattle.uma_bucket.specs.declared.freed.Ripe.{Ripe}
use Rattle.uma_bucket.specs.declared.freed.Sealed.{Sealed}
use Rattle.uma_domain.specs.declared.trims.TakenBucket.{TakenBucket}
use Rattle.uma_domain.specs.declared.trims.TakenBucket.TheVariants.{Plain as Plain', Ripe as Ripe'}
use Rattle.uma_domain.specs.Listed.{plain_len, loose_len, ripe_len, sealed_len, listed}
use Rattle.uma_domain.specs.Lists.{plain_in, loose_in, sealed_in, working_in}
use Rattle.uma_domain.specs.Scans.{TakesAllRipe, TrimsSealed}
use Rattle.uma_domain.specs.Taken.{taken_in}
use Rattle.uma_domain.specs.Trim.{in_order, Trims}
use Rattle.uma_domain.specs.Working.{working_set}
use Rattle.uma_zone.specs.TrimLaw.{taken_len, FirstIsTooMany, KeepsFloor, TrimsKeepFloor, DrainsLoseNone}

-- what a list that is empty comes to
sum_none : {X : Type 0} (f : X → ℕ) (xs : List X) → xs ≡ [] → sum_by f xs ≡ 0
sum_none f xs none = ap (sum_by f) none

none_longer : {X : Type 0} (xs : List X) → xs ≡ [] → 0 < length xs → ⊥
none_longer xs none some = let e : length xs ≡ 0 = ap length none in absurd (omega (arith, e, some))

-- at least the floor is left where the first and the rest went
first_enough : {X : Type 0} (f : X → ℕ) (floor remain len left : ℕ) (rest : List X) → floor + len ≤ remain → left + sum_by f rest ≡ remain - len → (0 < length rest → floor ≤ left) → floor ≤ left
first_enough f floor remain len left [] most all more = omega (arith, most, all)
first_enough f floor remain len left (x ∷ xs) most all more = more (omega arith)

-- what is mapped comes to what it is of
mapped_sum : {A B : Type 0} (f : A → B) (len : B → ℕ) (own : A → ℕ) → ((x : A) → len (f x) ≡ own x) → (xs : List A) → sum_by len (map f xs) ≡ sum_by own xs
mapped_sum f len own same [] = refl
mapped_sum f len own same (x ∷ xs) =
    let all = sum_by-cons len (f x) (map f xs) in
    let one = sum_by-cons own x xs in
    let more = mapped_sum f len own same xs in
    let first = same x in
    omega (arith, all, one, more, first)

module _ {T H P : Type 0} {g : Ghosts T} {h : HostGhosts H P} where
  -- a trim of sealed buckets, of which so many items remain before it and so many after
  record Polled (floor remain : ℕ) (sealed : List (Sealed T H P g h)) (ripe : List (Ripe T H P g h)) (is : List (Sealed T H P g h)) : Type 0 where
    left : ℕ
    polled : List (Sealed T H P g h)
    unseen : List (Sealed T H P g h)
    stay : List (Sealed T H P g h)
    split : sealed ≡ polled ++ unseen
    polls : TakesAllRipe polled ripe stay
    others_stay : is ≡ stay ++ unseen
    all : left + sum_by ripe_len ripe ≡ remain
    same : sum_by ripe_len ripe + sum_by sealed_len is ≡ sum_by sealed_len sealed
    enough : 0 < length ripe → floor ≤ left
    stops : FirstIsTooMany sealed_len floor left unseen

  polled_of : (floor remain : ℕ) (sealed : List (Sealed T H P g h)) (ripe : List (Ripe T H P g h)) (is : List (Sealed T H P g h)) → TrimsSealed floor remain sealed ripe is → Polled floor remain sealed ripe is
  polled_of floor remain [] ripe is trims = record {
    left = remain;
    polled = [];
    unseen = [];
    stay = [];
    split = refl;
    polls = (trims.0, refl);
    others_stay = trims.1;
    all = let e = sum_none ripe_len ripe trims.0 in omega (arith, e);
    same = let e = sum_none ripe_len ripe trims.0 in let d = sum_none sealed_len is trims.1 in omega (arith, e, d);
    enough = λ some. absurd (none_longer ripe trims.0 some);
    stops = tt;
  }
  polled_of floor remain (s ∷ ss) ripe is (inl stopped) = record {
    left = remain;
    polled = [];
    unseen = s ∷ ss;
    stay = [];
    split = refl;
    polls = (stopped.1, refl);
    others_stay = stopped.2;
    all = let e = sum_none ripe_len ripe stopped.1 in omega (arith, e);
    same = let e = sum_none ripe_len ripe stopped.1 in let d = ap (sum_by sealed_len) stopped.2 in omega (arith, e, d);
    enough = λ some. absurd (none_longer ripe stopped.1 some);
    stops = stopped.0;
  }
  polled_of floor remain (s ∷ ss) ripe is (inr (inl (most, r, rest, ripens, split, trims))) =
      let more = polled_of floor (remain - sealed_len s) ss rest is trims in
      let len : ripe_len r ≡ sealed_len s = ap loose_len ripens.yes.0 in
      let sum : sum_by ripe_len ripe ≡ ripe_len r + sum_by ripe_len rest = ap (sum_by ripe_len) split ∙ sum_by-cons ripe_len r rest in
      let was = sum_by-cons sealed_len s ss in
      record {
        left = more.left;
        polled = s ∷ more.polled;
        unseen = more.unseen;
        stay = more.stay;
        split = ap (λ (l : List (Sealed T H P g h)). s ∷ l) more.split;
        polls = inl (r, rest, ripens, split, more.polls);
        others_stay = more.others_stay;
        all = omega (arith, more.all, len, sum, most);
        same = omega (arith, more.same, len, sum, was);
        enough = λ _. first_enough ripe_len floor remain (sealed_len s) more.left rest most more.all more.enough;
        stops = more.stops;
      }
  polled_of floor remain (s ∷ ss) ripe is (inr (inr (most, stays, rest, said, split, trims))) =
      let more = polled_of floor remain ss ripe rest trims in
      let len : sealed_len stays ≡ sealed_len s = ap loose_len said.no.0.0 in
      let sum : sum_by sealed_len is ≡ sealed_len stays + sum_by sealed_len rest = ap (sum_by sealed_len) split ∙ sum_by-cons sealed_len stays rest in
      let was = sum_by-cons sealed_len s ss in
      record {
        left = more.left;
        polled = s ∷ more.polled;
        unseen = more.unseen;
        stay = stays ∷ more.stay;
        split = ap (λ (l : List (Sealed T H P g h)). s ∷ l) more.split;
        polls = inr (stays, more.stay, said, refl, more.polls);
        others_stay = split ∙ ap (λ (l : List (Sealed T H P g h)). stays ∷ l) more.others_stay;
        all = more.all;
        same = omega (arith, more.same, len, sum, was);
        enough = more.enough;
        stops = more.stops;
      }

  -- how many items the plain and the ripe buckets have that were taken
  taken_sum : (plain : List (Bucket T g)) (ripe : List (Ripe T H P g h)) (taken : List (TakenBucket T H P g h)) → taken ≡ in_order plain ripe → sum_by taken_len taken ≡ sum_by plain_len plain + sum_by ripe_len ripe
  taken_sum plain ripe taken order =
      let both = ap (sum_by taken_len) order ∙ sum_by-append taken_len (map Plain' plain) (map Ripe' ripe) in
      let first = mapped_sum {A = Bucket T g} {B = TakenBucket T H P g h} Plain' taken_len plain_len (λ _. refl) plain in
      let second = mapped_sum {A = Ripe T H P g h} {B = TakenBucket T H P g h} Ripe' taken_len ripe_len (λ _. refl) ripe in
      omega (arith, both, first, second)

  taken_len_of : (plain : List (Bucket T g)) (ripe : List (Ripe T H P g h)) (taken : List (TakenBucket T H P g h)) → taken ≡ in_order plain ripe → length taken ≡ length plain + length ripe
  taken_len_of plain ripe taken order =
      let both = ap length order ∙ length-append (map Plain' plain) (map Ripe' ripe) in
      omega (arith, both, length-map {B = TakenBucket T H P g h} plain Plain', length-map {B = TakenBucket T H P g h} ripe Ripe')

  -- where some were taken, at least the floor is left
  some_enough : (floor count left : ℕ) (plain : List (Bucket T g)) (ripe : List (Ripe T H P g h)) (n : ℕ) → n ≡ length plain + length ripe → left + sum_by plain_len plain + sum_by ripe_len ripe ≡ count
      → (0 < length plain → floor + sum_by plain_len plain ≤ count) → (0 < length ripe → floor ≤ left) → 0 < n → floor ≤ left
  some_enough floor count left plain (r ∷ rs) n many all one other some = other (omega arith)
  some_enough floor count left (b ∷ bs) [] n many all one other some = let most = one (omega arith) in omega (arith, most, all)
  some_enough floor count left [] [] n many all one other some = absurd (omega (arith, many, some))

  keeps_of : (floor count left : ℕ) (plain : List (Bucket T g)) (loose : List (Loose T g)) (sealed : List (Sealed T H P g h)) (taken : List (TakenBucket T H P g h)) (plain_left : List (Bucket T g)) (sealed_left : List (Sealed T H P g h))
      → count ≡ listed plain loose sealed → left ≡ listed plain_left loose sealed_left → Trims floor count plain sealed taken plain_left sealed_left → KeepsFloor floor count left plain sealed taken plain_left sealed_left
  keeps_of floor count left plain loose sealed taken [] sealed_left was is trims =
      let gone = trims.plain_taken in
      let more = polled_of floor (count - sum_by plain_len gone) sealed trims.ripe sealed_left (trims.sealed_trimmed refl) in
      let plain_all : sum_by plain_len plain ≡ sum_by plain_len gone + 0 = ap (sum_by plain_len) trims.plain_trimmed.split ∙ sum_by-append plain_len gone [] in
      let sums = taken_sum gone trims.ripe taken trims.order in
      let lens = taken_len_of gone trims.ripe taken trims.order in
      let all : left + sum_by plain_len gone + sum_by ripe_len trims.ripe ≡ count = omega (arith, was, is, plain_all, more.same) in
      let same : more.left ≡ left = omega (arith, all, more.all) in
      record {
        all = omega (arith, all, sums);
        enough = λ some. some_enough floor count left gone trims.ripe (length taken) lens all trims.plain_trimmed.enough (λ ripe. let e = more.enough ripe in omega (arith, e, same)) some;
        stops = record {
          plain_taken = gone;
          ripe = trims.ripe;
          order = trims.order;
          oldest = trims.plain_trimmed.split;
          plain_stops = tt;
          polled = more.polled;
          unseen = more.unseen;
          stay = more.stay;
          split = more.split;
          polls = more.polls;
          others_stay = more.others_stay;
          plain_first = λ some. absurd (omega (arith, some));
          sealed_stops = λ _. subst (λ (n : ℕ). FirstIsTooMany sealed_len floor n more.unseen) same more.stops;
        };
      }
  keeps_of floor count left plain loose sealed taken (next ∷ behind) sealed_left was is trims =
      let gone = trims.plain_taken in
      let unseen = trims.sealed_unseen (omega arith) in
      let none = sum_none ripe_len trims.ripe unseen.0 in
      let stay : sum_by sealed_len sealed_left ≡ sum_by sealed_len sealed = ap (sum_by sealed_len) unseen.1 in
      let plain_all : sum_by plain_len plain ≡ sum_by plain_len gone + sum_by plain_len (next ∷ behind) = ap (sum_by plain_len) trims.plain_trimmed.split ∙ sum_by-append plain_len gone (next ∷ behind) in
      let sums = taken_sum gone trims.ripe taken trims.order in
      let lens = taken_len_of gone trims.ripe taken trims.order in
      let all : left + sum_by plain_len gone + sum_by ripe_len trims.ripe ≡ count = omega (arith, was, is, plain_all, none, stay) in
      let stops = trims.plain_trimmed.stops next behind refl in
      record {
        all = omega (arith, all, sums);
        enough = λ some. some_enough floor count left gone trims.ripe (length taken) lens all trims.plain_trimmed.enough (λ ripe. absurd (none_longer trims.ripe unseen.0 ripe)) some;
        stops = record {
          plain_taken = gone;
          ripe = trims.ripe;
          order = trims.order;
          oldest = trims.plain_trimmed.split;
          plain_stops = omega (arith, stops, all, none);
          polled = [];
          unseen = sealed;
          stay = [];
          split = refl;
          polls = (unseen.0, refl);
          others_stay = unseen.1;
          plain_first = λ _. refl;
          sealed_stops = λ plain. absurd (cc);
        };
      }

  -- every sealed bucket was polled once
  polled_sum : (sealed : List (Sealed T H P g h)) (ripe : List (Ripe T H P g h)) (is : List (Sealed T H P g h)) → TakesAllRipe sealed ripe is → sum_by ripe_len ripe + sum_by sealed_len is ≡ sum_by sealed_len sealed
  polled_sum [] ripe is polls = let e = sum_none ripe_len ripe polls.0 in let d = sum_none sealed_len is polls.1 in omega (arith, e, d)
  polled_sum (s ∷ ss) ripe is (inl (r, rest, ripens, split, polls)) =
      let more = polled_sum ss rest is polls in
      let len : ripe_len r ≡ sealed_len s = ap loose_len ripens.yes.0 in
      let sum : sum_by ripe_len ripe ≡ ripe_len r + sum_by ripe_len rest = ap (sum_by ripe_len) split ∙ sum_by-cons ripe_len r rest in
      let was = sum_by-cons sealed_len s ss in
      omega (arith, more, len, sum, was)
  polled_sum (s ∷ ss) ripe is (inr (stays, rest, said, split, polls)) =
      let more = polled_sum ss ripe rest polls in
      let len : sealed_len stays ≡ sealed_len s = ap loose_len said.no.0.0 in
      let sum : sum_by sealed_len is ≡ sealed_len stays + sum_by sealed_len rest = ap (sum_by sealed_len) split ∙ sum_by-cons sealed_len stays rest in
      let was = sum_by-cons sealed_len s ss in
      omega (arith, more, len, sum, was)

  pub trims_keep_floor : TrimsKeepFloor T H P g h
  trims_keep_floor domain taken trim =
      let was = trim.was in
      let is = trim.is in
      let left : (working_in is).count ≡ listed (plain_in is) (loose_in was) (sealed_in is) = is.counted ∙ ap (λ (l : List (Loose T g)). listed (plain_in is) l (sealed_in is)) trim.kept.loose in
      keeps_of (working_set (working_in was)) (working_in was).count (working_in is).count (plain_in was) (loose_in was) (sealed_in was) (taken_in taken) (plain_in is) (sealed_in is) was.counted left trim.trimmed

  pub drains_lose_none : DrainsLoseNone T H P g h
  drains_lose_none domain taken drain =
      let was = drain.was in
      let is = drain.is in
      let sums = taken_sum (plain_in was) drain.all.ripe (taken_in taken) drain.all.order in
      let polled = polled_sum (sealed_in was) drain.all.ripe (sealed_in is) drain.all.sealed_taken in
      let none = sum_none plain_len (plain_in is) drain.none_left in
      let same : sum_by loose_len (loose_in is) ≡ sum_by loose_len (loose_in was) = ap (sum_by loose_len) drain.kept.loose in
      omega (arith, was.counted, is.counted, sums, polled, none, same)
