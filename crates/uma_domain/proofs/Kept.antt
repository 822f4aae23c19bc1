-- What stays of the domain's own, and how many items go, where buckets are taken or sealed.
use Rattle.std.proofs.Common.{◌≡◌, ◌≤◌, ◌+◌, ◌-◌, ℕ, List, [], ◌∷◌, ◌++◌, length, map, sum_by, All, inl, inr, refl, sym, ap, ◌∙◌, subst, arith}
use Rattle.std.proofs.lemmas.List.{append-nil}
use Rattle.std.proofs.lemmas.List.Elements.{All-nil, All-cons, All-head, All-tail, All-append, All-same, All-map}
use Rattle.std.proofs.lemmas.List.Sums.{sum_by-cons, sum_by-append}
use Rattle.smr_clock.specs.declared.clock.Setup.{Setup}
use Rattle.smr_clock.specs.declared.view.View.{View}
use Rattle.smr_clock.specs.Belongs.{TableId}
use Rattle.uma_bucket.specs.declared.bucket.Bucket.{Bucket}
use Rattle.uma_bucket.specs.declared.freed.Loose.{Loose}
use Rattle.uma_bucket.specs.declared.freed.Sealed.{Sealed}
use Rattle.uma_bucket.specs.declared.freed.Ripe.{Ripe}
use Rattle.uma_bucket.specs.Home.{Home}
use Rattle.uma_domain.specs.declared.trims.TakenBucket.{TakenBucket}
use Rattle.uma_domain.specs.declared.trims.TakenBucket.TheVariants.{Plain as Plain', Ripe as Ripe'}
use Rattle.uma_domain.specs.Identity.{Identity}
use Rattle.uma_domain.specs.Listed.{IsPlainOf, IsLooseOf, IsSealedOf, IsRipeOf, plain_len, loose_len, sealed_len, ripe_len}
use Rattle.uma_domain.specs.Scans.{Stays, Ripens, AllStay, TakesRipe, TakesAllRipe, TrimsSealed}
use Rattle.uma_domain.specs.Taken.{IsTakenOf}
use Rattle.uma_domain.specs.Tries.{Tries}
use Rattle.uma_domain.specs.Trim.{Trims, TakesAll, in_order}

all_parts : {X : Type 0} (Q : X → Type 0) (xs ys : List X) → All Q (xs ++ ys) → All Q xs × All Q ys
all_parts Q [] ys all = (All-nil Q, all)
all_parts Q (x ∷ xs) ys all =
    let rest = all_parts Q xs ys (All-tail Q x (xs ++ ys) all) in
    (All-cons Q x xs (All-head Q x (xs ++ ys) all) rest.0, rest.1)

module _ {T : Type 0} {g : _} where
  -- no more buckets than items, where none is empty
  pub no_more : (home : Home) (xs : List (Loose T g)) → All (IsLooseOf home) xs → length xs ≤ sum_by loose_len xs
  no_more home [] all = omega arith
  no_more home (x ∷ xs) all =
      let here = (All-head (IsLooseOf home) x xs all).some in
      let rest = no_more home xs (All-tail (IsLooseOf home) x xs all) in
      let sum = sum_by-cons loose_len x xs in
      omega (arith, here, rest, sum)

module _ {T H P : Type 0} {g h : _} where
  stays_of : (identity : Identity) (was is : Sealed T H P g h) → Stays was is → IsSealedOf identity was → IsSealedOf identity is
  stays_of identity was is stays so = record { bucket = subst (IsLooseOf identity.home) (sym stays.no.0.0) so.bucket; clock = stays.clock ∙ so.clock }

  ripens_of : (identity : Identity) (was : Sealed T H P g h) (ripe : Ripe T H P g h) → Ripens was ripe → IsSealedOf identity was → IsRipeOf identity ripe
  ripens_of identity was ripe ripens so = record { bucket = subst (IsLooseOf identity.home) (sym ripens.yes.0) so.bucket; clock = ripens.clock ∙ so.clock }

  stays_len : (was is : Sealed T H P g h) → Stays was is → sealed_len is ≡ sealed_len was
  stays_len was is stays = ap loose_len stays.no.0.0

  ripens_len : (was : Sealed T H P g h) (ripe : Ripe T H P g h) → Ripens was ripe → ripe_len ripe ≡ sealed_len was
  ripens_len was ripe ripens = ap loose_len ripens.yes.0

  -- where each stays
  pub all_stay_of : (identity : Identity) (was is : List (Sealed T H P g h)) → AllStay was is → All (IsSealedOf identity) was → All (IsSealedOf identity) is
  all_stay_of identity [] [] stay all = all
  all_stay_of identity [] (y ∷ ys) stay all = absurd stay
  all_stay_of identity (x ∷ xs) [] stay all = absurd stay
  all_stay_of identity (x ∷ xs) (y ∷ ys) stay all =
      All-cons (IsSealedOf identity) y ys (stays_of identity x y stay.0 (All-head (IsSealedOf identity) x xs all)) (all_stay_of identity xs ys stay.1 (All-tail (IsSealedOf identity) x xs all))

  pub all_stay_sum : (was is : List (Sealed T H P g h)) → AllStay was is → sum_by sealed_len is ≡ sum_by sealed_len was
  all_stay_sum [] [] stay = refl
  all_stay_sum [] (y ∷ ys) stay = absurd stay
  all_stay_sum (x ∷ xs) [] stay = absurd stay
  all_stay_sum (x ∷ xs) (y ∷ ys) stay =
      let here = stays_len x y stay.0 in
      let rest = all_stay_sum xs ys stay.1 in
      let sum = sum_by-cons sealed_len x xs in
      let sum' = sum_by-cons sealed_len y ys in
      omega (arith, here, rest, sum, sum')

  -- where the oldest ripe one is taken
  pub takes_ripe_sum : (was : List (Sealed T H P g h)) (ripe : Ripe T H P g h) (is : List (Sealed T H P g h)) → TakesRipe was ripe is → sum_by sealed_len is + ripe_len ripe ≡ sum_by sealed_len was
  takes_ripe_sum was ripe is takes =
      let front = all_stay_sum takes.before takes.stay takes.said_no in
      let here = ripens_len takes.taken ripe takes.said_yes in
      let old : sum_by sealed_len was ≡ sum_by sealed_len takes.before + sum_by sealed_len (takes.taken ∷ takes.behind) = ap (sum_by sealed_len) takes.split ∙ sum_by-append sealed_len takes.before (takes.taken ∷ takes.behind) in
      let one = sum_by-cons sealed_len takes.taken takes.behind in
      let new : sum_by sealed_len is ≡ sum_by sealed_len takes.stay + sum_by sealed_len takes.behind = ap (sum_by sealed_len) takes.rest ∙ sum_by-append sealed_len takes.stay takes.behind in
      omega (arith, front, here, old, one, new)

  all_split : (identity : Identity) (xs ys : List (Sealed T H P g h)) → All (IsSealedOf identity) (xs ++ ys) → All (IsSealedOf identity) xs × All (IsSealedOf identity) ys
  all_split identity [] ys all = (All-nil (IsSealedOf identity), all)
  all_split identity (x ∷ xs) ys all =
      let rest = all_split identity xs ys (All-tail (IsSealedOf identity) x (xs ++ ys) all) in
      (All-cons (IsSealedOf identity) x xs (All-head (IsSealedOf identity) x (xs ++ ys) all) rest.0, rest.1)

  pub takes_ripe_of : (identity : Identity) (was : List (Sealed T H P g h)) (ripe : Ripe T H P g h) (is : List (Sealed T H P g h)) → TakesRipe was ripe is → All (IsSealedOf identity) was → IsRipeOf identity ripe × All (IsSealedOf identity) is
  takes_ripe_of identity was ripe is takes all =
      let parts = all_split identity takes.before (takes.taken ∷ takes.behind) (All-same (IsSealedOf identity) _ _ (sym takes.split) all) in
      let taken = All-head (IsSealedOf identity) takes.taken takes.behind parts.1 in
      let behind = All-tail (IsSealedOf identity) takes.taken takes.behind parts.1 in (
        ripens_of identity takes.taken ripe takes.said_yes taken,
        All-same (IsSealedOf identity) _ _ takes.rest (All-append (IsSealedOf identity) takes.stay takes.behind (all_stay_of identity takes.before takes.stay takes.said_no parts.0) behind),
      )

  -- where a trim takes the ripe ones
  pub trims_sum : (floor remain : ℕ) (was : List (Sealed T H P g h)) (ripe : List (Ripe T H P g h)) (is : List (Sealed T H P g h)) → TrimsSealed floor remain was ripe is → sum_by sealed_len was ≡ sum_by ripe_len ripe + sum_by sealed_len is
  trims_sum floor remain [] ripe is t = let r = ap (sum_by ripe_len) t.0 in let s = ap (sum_by sealed_len) t.1 in omega (arith, r, s)
  trims_sum floor remain (x ∷ xs) ripe is (inl t) = let r = ap (sum_by ripe_len) t.1 in let s = ap (sum_by sealed_len) t.2 in omega (arith, r, s)
  trims_sum floor remain (x ∷ xs) ripe is (inr (inl t)) =
      let rest = trims_sum floor (remain - sealed_len x) xs t.2 is t.5 in
      let sum = sum_by-cons sealed_len x xs in
      let new : sum_by ripe_len ripe ≡ ripe_len t.1 + sum_by ripe_len t.2 = ap (sum_by ripe_len) t.4 ∙ sum_by-cons ripe_len t.1 t.2 in
      let here = ripens_len x t.1 t.3 in
      omega (arith, rest, sum, new, here)
  trims_sum floor remain (x ∷ xs) ripe is (inr (inr t)) =
      let rest = trims_sum floor remain xs ripe t.2 t.5 in
      let sum = sum_by-cons sealed_len x xs in
      let new : sum_by sealed_len is ≡ sealed_len t.1 + sum_by sealed_len t.2 = ap (sum_by sealed_len) t.4 ∙ sum_by-cons sealed_len t.1 t.2 in
      let here = stays_len x t.1 t.3 in
      omega (arith, rest, sum, new, here)

  pub trims_of : (identity : Identity) (floor remain : ℕ) (was : List (Sealed T H P g h)) (ripe : List (Ripe T H P g h)) (is : List (Sealed T H P g h)) → TrimsSealed floor remain was ripe is → All (IsSealedOf identity) was → All (IsRipeOf identity) ripe × All (IsSealedOf identity) is
  trims_of identity floor remain [] ripe is t all = (All-same (IsRipeOf identity) ripe [] t.0 (All-nil (IsRipeOf identity)), All-same (IsSealedOf identity) is [] t.1 all)
  trims_of identity floor remain (x ∷ xs) ripe is (inl t) all = (All-same (IsRipeOf identity) ripe [] t.1 (All-nil (IsRipeOf identity)), All-same (IsSealedOf identity) is (x ∷ xs) t.2 all)
  trims_of identity floor remain (x ∷ xs) ripe is (inr (inl t)) all =
      let rest = trims_of identity floor (remain - sealed_len x) xs t.2 is t.5 (All-tail (IsSealedOf identity) x xs all) in
      (All-same (IsRipeOf identity) ripe (t.1 ∷ t.2) t.4 (All-cons (IsRipeOf identity) t.1 t.2 (ripens_of identity x t.1 t.3 (All-head (IsSealedOf identity) x xs all)) rest.0), rest.1)
  trims_of identity floor remain (x ∷ xs) ripe is (inr (inr t)) all =
      let rest = trims_of identity floor remain xs ripe t.2 t.5 (All-tail (IsSealedOf identity) x xs all) in
      (rest.0, All-same (IsSealedOf identity) is (t.1 ∷ t.2) t.4 (All-cons (IsSealedOf identity) t.1 t.2 (stays_of identity x t.1 t.3 (All-head (IsSealedOf identity) x xs all)) rest.1))

  -- no bucket stops a trim that keeps nothing
  pub takes_all_ripe : (remain : ℕ) (was : List (Sealed T H P g h)) (ripe : List (Ripe T H P g h)) (is : List (Sealed T H P g h)) → TrimsSealed 0 remain was ripe is → sum_by sealed_len was ≤ remain → TakesAllRipe was ripe is
  takes_all_ripe remain [] ripe is t enough = t
  takes_all_ripe remain (x ∷ xs) ripe is (inl t) enough = let sum = sum_by-cons sealed_len x xs in absurd (omega (arith, t.0, sum, enough))
  takes_all_ripe remain (x ∷ xs) ripe is (inr (inl t)) enough =
      let sum = sum_by-cons sealed_len x xs in
      inl (t.1, t.2, t.3, t.4, takes_all_ripe (remain - sealed_len x) xs t.2 is t.5 (omega (arith, sum, enough)))
  takes_all_ripe remain (x ∷ xs) ripe is (inr (inr t)) enough =
      let sum = sum_by-cons sealed_len x xs in
      inr (t.1, t.2, t.3, t.4, takes_all_ripe remain xs ripe t.2 t.5 (omega (arith, sum, enough)))

  -- where loose ones are sealed
  pub tries_sum : (copied : P → P) (clock : TableId × Setup) (v : View P) (was stay : List (Loose T g)) (new : List (Sealed T H P g h)) (v' : View P) → Tries copied clock v was stay new v' → sum_by loose_len was ≡ sum_by loose_len stay + sum_by sealed_len new
  tries_sum copied clock v [] stay new v' t = let r = ap (sum_by loose_len) t.0 in let s = ap (sum_by sealed_len) t.1 in omega (arith, r, s)
  tries_sum copied clock v (x ∷ xs) stay new v' (next, inl t) =
      let rest = tries_sum copied clock next xs stay t.1 v' t.5 in
      let sum = sum_by-cons loose_len x xs in
      let made : sum_by sealed_len new ≡ sealed_len t.0 + sum_by sealed_len t.1 = ap (sum_by sealed_len) t.2 ∙ sum_by-cons sealed_len t.0 t.1 in
      let here : sealed_len t.0 ≡ loose_len x = ap loose_len t.3.bucket in
      omega (arith, rest, sum, made, here)
  tries_sum copied clock v (x ∷ xs) stay new v' (next, inr t) =
      let rest = tries_sum copied clock next xs t.1 new v' t.4 in
      let sum = sum_by-cons loose_len x xs in
      let kept : sum_by loose_len stay ≡ loose_len x + sum_by loose_len t.1 = ap (sum_by loose_len) t.2 ∙ sum_by-cons loose_len x t.1 in
      omega (arith, rest, sum, kept)

  pub tries_of : (identity : Identity) (copied : P → P) (v : View P) (was stay : List (Loose T g)) (new : List (Sealed T H P g h)) (v' : View P) → Tries copied identity.clock v was stay new v' → All (IsLooseOf identity.home) was → All (IsLooseOf identity.home) stay × All (IsSealedOf identity) new
  tries_of identity copied v [] stay new v' t all = (All-same (IsLooseOf identity.home) stay [] t.0 all, All-same (IsSealedOf identity) new [] t.1 (All-nil (IsSealedOf identity)))
  tries_of identity copied v (x ∷ xs) stay new v' (next, inl t) all =
      let rest = tries_of identity copied next xs stay t.1 v' t.5 (All-tail (IsLooseOf identity.home) x xs all) in
      let here : IsSealedOf identity t.0 = record { bucket = subst (IsLooseOf identity.home) (sym t.3.bucket) (All-head (IsLooseOf identity.home) x xs all); clock = t.4 } in
      (rest.0, All-same (IsSealedOf identity) new (t.0 ∷ t.1) t.2 (All-cons (IsSealedOf identity) t.0 t.1 here rest.1))
  tries_of identity copied v (x ∷ xs) stay new v' (next, inr t) all =
      let rest = tries_of identity copied next xs t.1 new v' t.4 (All-tail (IsLooseOf identity.home) x xs all) in
      (All-same (IsLooseOf identity.home) stay (x ∷ t.1) t.2 (All-cons (IsLooseOf identity.home) x t.1 (All-head (IsLooseOf identity.home) x xs all) rest.0), rest.1)

  trim_part : (identity : Identity) (floor count : ℕ) (plain : List (Bucket T g)) (sealed : List (Sealed T H P g h)) (taken : List (TakenBucket T H P g h)) (plain_left : List (Bucket T g)) (sealed_left : List (Sealed T H P g h))
      → (t : Trims floor count plain sealed taken plain_left sealed_left) → All (IsSealedOf identity) sealed → All (IsRipeOf identity) t.ripe × All (IsSealedOf identity) sealed_left
  trim_part identity floor count plain sealed taken [] sealed_left t all = trims_of identity floor (count - sum_by plain_len t.plain_taken) sealed t.ripe sealed_left (t.sealed_trimmed refl) all
  trim_part identity floor count plain sealed taken (b ∷ bs) sealed_left t all =
      let unseen = t.sealed_unseen (omega arith) in
      (All-same (IsRipeOf identity) t.ripe [] unseen.0 (All-nil (IsRipeOf identity)), All-same (IsSealedOf identity) sealed_left sealed unseen.1 all)

  -- what a trim takes, and what it leaves, is of the domain
  pub trim_of : (identity : Identity) (floor count : ℕ) (plain : List (Bucket T g)) (sealed : List (Sealed T H P g h)) (taken : List (TakenBucket T H P g h)) (plain_left : List (Bucket T g)) (sealed_left : List (Sealed T H P g h))
      → Trims floor count plain sealed taken plain_left sealed_left → All (IsPlainOf identity.home) plain → All (IsSealedOf identity) sealed
      → All (IsTakenOf identity) taken × All (IsPlainOf identity.home) plain_left × All (IsSealedOf identity) sealed_left
  trim_of identity floor count plain sealed taken plain_left sealed_left t plains all =
      let part = trim_part identity floor count plain sealed taken plain_left sealed_left t all in
      let parts = all_parts (IsPlainOf identity.home) t.plain_taken plain_left (All-same (IsPlainOf identity.home) (t.plain_taken ++ plain_left) plain (sym t.plain_trimmed.split) plains) in
      let listed = All-append (IsTakenOf identity) (map Plain' t.plain_taken) (map Ripe' t.ripe) (All-map (IsTakenOf identity) Plain' t.plain_taken parts.0) (All-map (IsTakenOf identity) Ripe' t.ripe part.0) in
      (All-same (IsTakenOf identity) taken (in_order t.plain_taken t.ripe) t.order listed, parts.1, part.1)

  -- a trim that keeps nothing takes every candidate
  pub trims_all : (count : ℕ) (plain : List (Bucket T g)) (sealed : List (Sealed T H P g h)) (taken : List (TakenBucket T H P g h)) (plain_left : List (Bucket T g)) (sealed_left : List (Sealed T H P g h))
      → Trims 0 count plain sealed taken plain_left sealed_left → sum_by plain_len plain + sum_by sealed_len sealed ≤ count → TakesAll plain sealed taken sealed_left × (plain_left ≡ [])
  trims_all count plain sealed taken [] sealed_left t enough =
      let whole : plain ≡ t.plain_taken = t.plain_trimmed.split ∙ append-nil t.plain_taken in
      let sum = ap (sum_by plain_len) whole in (
        record {
          ripe = t.ripe;
          order = t.order ∙ ap (λ (xs : List (Bucket T g)). in_order xs t.ripe) (sym whole);
          sealed_taken = takes_all_ripe (count - sum_by plain_len t.plain_taken) sealed t.ripe sealed_left (t.sealed_trimmed refl) (omega (arith, enough, sum));
        },
        refl,
      )
  trims_all count plain sealed taken (b ∷ bs) sealed_left t enough =
      let short = t.plain_trimmed.stops b bs refl in
      let old : sum_by plain_len plain ≡ sum_by plain_len t.plain_taken + sum_by plain_len (b ∷ bs) = ap (sum_by plain_len) t.plain_trimmed.split ∙ sum_by-append plain_len t.plain_taken (b ∷ bs) in
      let one = sum_by-cons plain_len b bs in
      absurd (omega (arith, short, old, one, enough))
