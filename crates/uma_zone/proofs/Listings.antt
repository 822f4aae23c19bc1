-- What a flush did to the lists of a zone's domains.
use Rattle.std.proofs.Common.{◌≡◌, ◌≤◌, ℕ, List, [], ◌∷◌, ◌++◌, length, Option, Some, None, IfSome, IfNone, refl, sym, ap, ◌∙◌, subst, arith}
use Rattle.std.proofs.lemmas.List.{append-nil}
use Rattle.smr_clock.specs.declared.view.View.{View}
use Rattle.uma_bucket.specs.declared.shelved.Shelved.{Shelved}
use Rattle.uma_zone.specs.declared.domains.ZoneDomains.{ZoneDomains}
use Rattle.uma_zone.specs.Flushed.{TakesTried, in_order}
use Rattle.uma_zone.specs.OwnDomain.{SentEach, PutsFirst, TryEach, TriesLoose, Flushes, IsFlushed}

-- a list that isn't longer than none is empty
none_long : {X : Type 0} (xs : List X) → length xs ≤ 0 → xs ≡ []
none_long [] few = refl
none_long (x ∷ xs) few = absurd (omega (arith, few))

-- a list with a last element isn't empty
pub not_none : {X : Type 0} (xs : List X) (x : X) → xs ++ x ∷ [] ≡ [] → ⊥
not_none [] x none = absurd (cc)
not_none (y ∷ ys) x none = absurd (cc)

module _ {T H P : Type 0} {g h : _} where
  -- one bucket or none went to its domain
  pub put_or_none : (them : ZoneDomains T H P g h) (newest : Option (Shelved T H P g h)) (is : List (Shelved T H P g h)) (sent sent' : List (List (Shelved T H P g h))) → SentEach them sent (in_order None newest) sent' → is ≡ [] → PutsFirst them (in_order None newest) is sent sent'
  put_or_none them newest is sent sent' each none = record {
    put = in_order None newest;
    split = sym (append-nil (in_order None newest)) ∙ ap (λ (l : List (Shelved T H P g h)). in_order None newest ++ l) (sym none);
    each = each;
  }

  -- the same of ports that had pushed as much
  pub puts_from : (them : ZoneDomains T H P g h) (was is : List (Shelved T H P g h)) (sent mid sent' : List (List (Shelved T H P g h))) → mid ≡ sent → PutsFirst them was is mid sent' → PutsFirst them was is sent sent'
  puts_from them was is sent mid sent' same puts = subst (λ (s : List (List (Shelved T H P g h))). PutsFirst them was is s sent') same puts

  -- none went to its domain
  pub put_none : (them : ZoneDomains T H P g h) (was is : List (Shelved T H P g h)) (sent sent' : List (List (Shelved T H P g h))) → was ≡ is → sent' ≡ sent → PutsFirst them was is sent sent'
  put_none them was is sent sent' same still = record { put = []; split = same; each = still }

  -- the oldest went to its domain, and then the newest, or it stays
  pub put_both : (them : ZoneDomains T H P g h) (oldest newest : Option (Shelved T H P g h)) (is : List (Shelved T H P g h)) (sent mid sent' : List (List (Shelved T H P g h))) → SentEach them sent (in_order None oldest) mid → PutsFirst them (in_order None newest) is mid sent'
      → PutsFirst them (in_order oldest newest) is sent sent'
  put_both them None newest is sent mid sent' first rest = subst (λ (s : List (List (Shelved T H P g h))). PutsFirst them (in_order None newest) is s sent') first rest
  put_both them (Some o) None is sent mid sent' first rest = record {
    put = o ∷ rest.put;
    split = ap (λ (l : List (Shelved T H P g h)). o ∷ l) rest.split;
    each = (first.0, first.1, subst (λ (s : List (List (Shelved T H P g h))). SentEach them s rest.put sent') first.2 rest.each);
  }
  put_both them (Some o) (Some n) is sent mid sent' first rest = record {
    put = o ∷ rest.put;
    split = ap (λ (l : List (Shelved T H P g h)). o ∷ l) rest.split;
    each = (first.0, first.1, subst (λ (s : List (List (Shelved T H P g h))). SentEach them s rest.put sent') first.2 rest.each);
  }

  -- two tries of a shelf of at most two are the tries of all
  pub tries_both : (copied : P → P) (v mid_v v' : View P) (was mid is : List (Shelved T H P g h)) (oldest newest : Option (Shelved T H P g h)) → length was ≤ 2
      → IfSome oldest (λ tried. TakesTried copied v was tried mid mid_v) → IfNone oldest (was ≡ []) → IfNone oldest (mid ≡ []) → IfNone oldest (mid_v ≡ v)
      → IfSome newest (λ tried. TakesTried copied mid_v mid tried is v') → IfNone newest (mid ≡ []) → IfNone newest (v' ≡ mid_v)
      → TryEach copied v was (in_order oldest newest) v'
  tries_both copied v mid_v v' was mid is None None few first none left unseen second none' unseen' = subst (λ (l : List (Shelved T H P g h)). TryEach copied v l [] v') (sym none) (refl, unseen' ∙ unseen)
  tries_both copied v mid_v v' was mid is None (Some n) few first none left unseen second none' unseen' = let e : [] ≡ second.oldest ∷ is = sym left ∙ second.taken in absurd (cc)
  tries_both copied v mid_v v' was mid is (Some o) None few first none left unseen second none' unseen' =
      let all : was ≡ first.oldest ∷ [] = first.taken ∙ ap (λ (l : List (Shelved T H P g h)). first.oldest ∷ l) none' in
      subst (λ (l : List (Shelved T H P g h)). TryEach copied v l (o ∷ []) v') (sym all) (o, [], mid_v, refl, first.tries, (refl, unseen'))
  tries_both copied v mid_v v' was mid is (Some o) (Some n) few first none left unseen second none' unseen' =
      let long : length was ≡ length (first.oldest ∷ second.oldest ∷ is) = ap length (first.taken ∙ ap (λ (l : List (Shelved T H P g h)). first.oldest ∷ l) second.taken) in
      let none_left : is ≡ [] = none_long is (omega (arith, long, few)) in
      let all : was ≡ first.oldest ∷ second.oldest ∷ [] = first.taken ∙ ap (λ (l : List (Shelved T H P g h)). first.oldest ∷ l) (second.taken ∙ ap (λ (l : List (Shelved T H P g h)). second.oldest ∷ l) none_left) in
      subst (λ (l : List (Shelved T H P g h)). TryEach copied v l (o ∷ n ∷ []) v') (sym all) (o, n ∷ [], mid_v, refl, first.tries, (n, [], v', refl, second.tries, (refl, refl)))

  -- the same tries, of the domain by its other name
  pub tries_of : (them : ZoneDomains T H P g h) (copied : P → P) (v v' : View P) (number own : ℕ) → number ≡ own → TriesLoose them number copied v v' → TriesLoose them own copied v v'
  tries_of them copied v v' number own same tries = subst (λ (n : ℕ). TriesLoose them n copied v v') same tries

  -- the same flush of a seat that is as that left it
  pub flushes_still : (them : ZoneDomains T H P g h) (own : ℕ) (copied : P → P) (was is is' : List (Shelved T H P g h)) (sent sent' sent'' : List (List (Shelved T H P g h))) (v left : View P) → is' ≡ is → sent'' ≡ sent' → Flushes them own copied was is sent sent' v left
      → Flushes them own copied was is' sent sent'' v left
  flushes_still them own copied was is is' sent sent' sent'' v left same pushed flushes = record {
    tried = flushes.tried;
    mid = flushes.mid;
    tries = flushes.tries;
    loose = flushes.loose;
    puts = record {
      put = flushes.puts.put;
      split = flushes.puts.split ∙ ap (λ (l : List (Shelved T H P g h)). flushes.puts.put ++ l) (sym same);
      each = subst (λ (s : List (List (Shelved T H P g h))). SentEach them sent flushes.puts.put s) (sym pushed) flushes.puts.each;
    };
  }

  -- the seat was flushed, and is as that left it
  pub still_flushed : (them : ZoneDomains T H P g h) (own : ℕ) (copied : P → P) (was is is' : List (Shelved T H P g h)) (sent sent' sent'' : List (List (Shelved T H P g h))) (v : View P) → is' ≡ is → sent'' ≡ sent' → IsFlushed them own copied was is sent sent' v
      → IsFlushed them own copied was is' sent sent'' v
  still_flushed them own copied was is is' sent sent' sent'' v same pushed flushed =
      record { left = flushed.left; flushes = flushes_still them own copied was is is' sent sent' sent'' v flushed.left same pushed flushed.flushes }

  -- the same of a seat that is as it was before, and as it is after
  pub flushed_between : (them : ZoneDomains T H P g h) (number own : ℕ) (copied : P → P) (was was' is is' : List (Shelved T H P g h)) (sent start sent' sent'' : List (List (Shelved T H P g h))) (v : View P) → number ≡ own → was ≡ was' → is' ≡ is → sent ≡ start → sent'' ≡ sent'
      → IsFlushed them number copied was is sent sent' v → IsFlushed them own copied was' is' start sent'' v
  flushed_between them number own copied was was' is is' sent start sent' sent'' v here before same begun pushed flushed =
      let of_own : IsFlushed them own copied was is sent sent' v = subst (λ (n : ℕ). IsFlushed them n copied was is sent sent' v) here flushed in
      let of_shelf : IsFlushed them own copied was' is sent sent' v = subst (λ (l : List (Shelved T H P g h)). IsFlushed them own copied l is sent sent' v) before of_own in
      still_flushed them own copied was' is is' start sent' sent'' v same pushed (subst (λ (s : List (List (Shelved T H P g h))). IsFlushed them own copied was' is s sent' v) begun of_shelf)
