-- What a request has of its one fetch, while its seat goes on.
use Rattle.std.proofs.Common.{◌≡◌, ◌≤◌, ◌==◌, ◌&&◌, ℕ, Bool, true, false, not, cond, List, [], ◌∷◌, ◌++◌, length, inl, inr, refl, sym, ap, ◌∙◌, subst, arith}
use Rattle.std.proofs.Math.Dec.{eqb-suc-zero}
use Rattle.deed_book.specs.declared.fail_book.FailShare.{FailShare}
use Rattle.deed_book.specs.FailViews.{cause}
use Rattle.uma_life.specs.declared.states.Cached.{Cached}
use Rattle.uma_keg.specs.declared.fetch.FetchAsk.{FetchAsk}
use Rattle.uma_keg.specs.Fetched.{Fetches}
use Rattle.uma_domain.specs.Lists.{IsRaised}
use Rattle.uma_seat.specs.declared.seat.SeatCache.{SeatCache}
use Rattle.uma_seat.specs.Counts.{fetches_in}
use Rattle.uma_seat.specs.Seat.{seat_domain, seat_smr, free_bucket, top_of, usable_of, fetches_of, misses_of, top_ready, IsSameSeat, KeepsPlain, KeepsCounts, KeepsMisses}
use Rattle.uma_zone.specs.declared.zone.Zone.{Zone}
use Rattle.uma_zone.specs.Zone.{zone_hooks, zone_index}
use Rattle.uma_zone.specs.OwnDomain.{AreFoundIn, FindsNothing}
use Rattle.uma_zone.specs.Alloc.{AreReused, IsOneFetch, IsFilled, TakesUsable}
use Rattle.uma_zone.proofs.Fills.{only_top}

-- two buckets aren't exchanged, where the first has an item
not_exchanged : {A : Type 0} (smr : Bool) (items : List A) → 1 ≤ length items → (not smr && (length items == 0)) ≡ false
not_exchanged true items some = refl
not_exchanged false [] some = absurd (omega (arith, some))
not_exchanged false (item ∷ items) some = eqb-suc-zero (length items)

-- an allocation takes from a bucket with as much room, where the allocation bucket has an item
same_room : {T H P : Type 0} {g h : _} (mid new : SeatCache T H P g h) → 1 ≤ length (top_of mid).items → (top_of new).room ≡ (top_ready mid).room → (top_of new).room ≡ (top_of mid).room
same_room mid new some room = room ∙ ap (λ (b : Bool). (cond b (free_bucket mid) (top_of mid)).room) (not_exchanged (seat_smr mid) (top_of mid).items some)

module _ {T K H P : Type 0} {g k h : _} where
  -- it is the same fetch, while the seat's domain and the room of its allocation bucket stay
  pub one_still : (zone : Zone T K H P g k h) (reserve : Bool) (items : List (Cached T g)) (mid new : SeatCache T H P g h) → (top_of new).room ≡ (top_of mid).room → IsSameSeat mid new → IsOneFetch zone reserve items mid
      → IsOneFetch zone reserve items new
  one_still zone reserve items mid new room same one =
      let back = sym room in
      let seated = sym same.0 in
      record {
        was = one.was;
        is = one.is;
        of_zone = one.of_zone;
        kept = one.kept;
        fetches = subst (λ (a : FetchAsk). Fetches one.was (zone_hooks zone) a items one.is) (λ i. record { zone = zone_index zone; most = back i; reserve = reserve; domain = (seated i).domain }) one.fetches;
      }

  -- where the item came from that was taken last of those with which the seat was filled: old has none usable, nor has one, which was filled and is mid then
  pub takes_of_filled : (zone : Zone T K H P g k h) (reserve : Bool) (old one mid new : SeatCache T H P g h) (item : Cached T g) → usable_of old ≡ [] → IsSameSeat old one → KeepsCounts old one → KeepsMisses old one
      → usable_of one ≡ [] → IsSameSeat one mid → KeepsPlain one mid → IsFilled zone reserve one mid
      → (top_of new).room ≡ (top_ready mid).room → usable_of mid ≡ usable_of new ++ item ∷ [] → IsSameSeat mid new → KeepsCounts mid new → KeepsMisses mid new
      → TakesUsable zone reserve old item (usable_of new) new
  takes_of_filled zone reserve old one mid new item was seated counts misses none same plain filled room last same' counts' misses' =
      let near : seat_domain one ≡ seat_domain old = ap (λ (s : _). s.domain) seated.0 in
      let all : (top_of mid).items ≡ usable_of new ++ item ∷ [] = sym (only_top one mid same plain none) ∙ last in
      elim filled.from [
        | inl listed ↦ inr (inl record {
          empty = was;
          fetches = ap fetches_in counts' ∙ listed.fetches ∙ ap fetches_in counts;
          misses = misses' ∙ listed.misses ∙ misses;
          own = subst (λ (n : ℕ). AreFoundIn zone.domains n (k.leaves_dtor (zone_hooks zone)) (usable_of new ++ item ∷ [])) near (subst (AreFoundIn zone.domains (seat_domain one) (k.leaves_dtor (zone_hooks zone))) all listed.own);
          reused = λ smr. subst (AreReused zone) all (listed.reused smr);
        })
        | inr fetched ↦ inr (inr record {
          empty = was;
          looked = subst (λ (n : ℕ). FindsNothing zone.domains n) near fetched.looked;
          missed = subst (λ (s : FailShare). IsRaised s (misses_of new)) misses (subst (λ (s : FailShare). IsRaised (misses_of one) s) (sym misses') fetched.missed);
          one = subst (λ (l : List (Cached T g)). IsOneFetch zone reserve l new) all (one_still zone reserve (top_of mid).items mid new (same_room mid new filled.some room) same' fetched.one);
          fetches = ap fetches_in counts' ∙ subst (λ (l : List (Cached T g)). fetches_of mid ≡ fetches_of old ++ cause 6 (length l) 0 ∷ []) all (fetched.fetches ∙ ap (λ (c : _). fetches_in c ++ cause 6 (length (top_of mid).items) 0 ∷ []) counts);
        })
      ]
