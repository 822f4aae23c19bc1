-- Takes from one domain after another.
use Rattle.std.proofs.Common.{◌≡◌, ◌+◌, ℕ, suc, Some, List, [], ◌∷◌, ◌++◌, length, map, Result, Ok, Err, IfOk, OnErr, fold, flat_map, refl, sym, ap, ◌∙◌, subst, arith}
use Rattle.std.proofs.lemmas.List.{map-append, length-map}
use Rattle.uma_domain.specs.declared.domain.Domain.{Domain}
use Rattle.uma_domain.specs.declared.trims.Taken.{Taken}
use Rattle.uma_domain.specs.declared.trims.TakenBucket.{TakenBucket}
use Rattle.uma_domain.specs.Taken.{taken_in}
use Rattle.uma_zone.specs.declared.zone.Zone.{Zone}
use Rattle.uma_zone.specs.Zone.{zone_domain}
use Rattle.uma_domain.specs.UnderLock.{TakesUnused, TakesEach, KeepsLists}
use Rattle.uma_reclaim.specs.declared.reclaim.Extent.{Extent}
use Rattle.uma_reclaim.specs.declared.reclaim.Extent.TheVariants.{Unused, All as All'}
use Rattle.uma_reclaim.specs.Reclaimed.{TakesExtent, IsTakenAt, TakesInTurn, KeepsListsAt, StopsTaking}
use Rattle.uma_reclaim.specs.Told.{notes_in}

module _ {T K H P : Type 0} {g k h : _} (zone : Zone T K H P g k h) (extent : Extent) where
  -- one take from the domain of a number
  pub unused_at : {E : Type 0} (number : ℕ) (domain : Domain T H P g h) (result : Result (Taken T H P g h) E) → extent ≡ Unused → zone_domain zone number ≡ Some domain → IfOk result (TakesUnused domain) → IfOk result (λ taken. IsTakenAt zone extent number (taken_in taken))
  unused_at number domain (Ok taken) is named took = record { domain = domain; named = named; take = taken; all = refl; took = subst (λ (e : Extent). TakesExtent e domain taken) (sym is) took }
  unused_at number domain (Err e) is named took = tt

  pub all_at : {E : Type 0} (number : ℕ) (domain : Domain T H P g h) (result : Result (Taken T H P g h) E) → extent ≡ All' → zone_domain zone number ≡ Some domain → IfOk result (TakesEach domain) → IfOk result (λ taken. IsTakenAt zone extent number (taken_in taken))
  all_at number domain (Ok taken) is named took = record { domain = domain; named = named; take = taken; all = refl; took = subst (λ (e : Extent). TakesExtent e domain taken) (sym is) took }
  all_at number domain (Err e) is named took = tt

  -- one more take, from the next domain
  in_turn_more : (number : ℕ) (takes : List (List (TakenBucket T H P g h))) (one : List (TakenBucket T H P g h)) → TakesInTurn zone extent number takes → IsTakenAt zone extent (number + length takes) one → TakesInTurn zone extent number (takes ++ one ∷ [])
  in_turn_more number [] one turn here = (subst (λ (n : ℕ). IsTakenAt zone extent n one) (omega arith) here, tt)
  in_turn_more number (b ∷ bs) one turn here = (turn.0, in_turn_more (suc number) bs one turn.1 (subst (λ (n : ℕ). IsTakenAt zone extent n one) (omega arith) here))

  -- the same of what was seen of each take
  pub turn_more : {X : Type 0} (seen : X → List (TakenBucket T H P g h)) (takes : List X) (take : X) (number : ℕ) → length takes ≡ number → TakesInTurn zone extent 0 (map seen takes) → IsTakenAt zone extent number (seen take) → TakesInTurn zone extent 0 (map seen (takes ++ take ∷ []))
  turn_more seen takes take number many turn here =
      let at : number ≡ 0 + length (map seen takes) = omega (arith, many, length-map takes seen) in
      subst (TakesInTurn zone extent 0) (sym (map-append seen takes (take ∷ []))) (in_turn_more 0 (map seen takes) (seen take) turn (subst (λ (n : ℕ). IsTakenAt zone extent n (seen take)) at here))

  -- where memory was wanting for the take from the domain of a number
  pub keeps_at : {E : Type 0} (number : ℕ) (domain : Domain T H P g h) (result : Result (Taken T H P g h) E) → zone_domain zone number ≡ Some domain → OnErr result (KeepsLists domain) → OnErr result (KeepsListsAt zone number)
  keeps_at number domain (Ok taken) named kept = tt
  keeps_at number domain (Err e) named kept = record { domain = domain; named = named; keeps = kept }

  -- what was done before it changed no note
  pub stops_from : (merged : P → P → P) (p q p' : P) → q ≡ p → StopsTaking zone extent merged q p' → StopsTaking zone extent merged p p'
  stops_from merged p q p' same stops = record {
    takes = stops.takes;
    few = stops.few;
    own = stops.own;
    given = stops.given;
    told = stops.told ∙ ap (λ (x : P). fold merged x (flat_map notes_in stops.takes)) same;
    keeps = stops.keeps;
  }
