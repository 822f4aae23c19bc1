-- Items that were ended, by their places and by their numbers.
use Rattle.std.proofs.Common.{◌≡◌, List, [], ◌∷◌, ◌++◌, Option, All, sym, subst}
use Rattle.std.proofs.lemmas.List.Elements.{All-same, All-push}
use Rattle.uma_life.specs.declared.states.Stored.{Stored}
use Rattle.uma_keg.specs.declared.keg.Keg.{Keg}
use Rattle.uma_keg.specs.Keg.{hooks_in}
use Rattle.uma_keg.specs.Ended.{IsEndedAt}
use Rattle.uma_keg.specs.FreeSlabs.{FiniLeaves}

-- the items of a list's places were ended where that of the last one was and those of the others
pub ended_with : {T : Type 0} {g : _} (Leaves : T → T → Type 0) (now rest : List (Option (Stored T g))) (place : Option (Stored T g)) → now ≡ rest ++ place ∷ [] → IsEndedAt Leaves place → All (IsEndedAt Leaves) rest → All (IsEndedAt Leaves) now
ended_with {T} {g} Leaves now rest place is here all =
    let At : Option (Stored T g) → Type 0 = λ o. IsEndedAt Leaves o in
    All-same At now (rest ++ place ∷ []) is (All-push At rest place all here)

-- the same item at another place
pub ended_at : {T : Type 0} {g : _} (Leaves : T → T → Type 0) (place there : Option (Stored T g)) → place ≡ there → IsEndedAt Leaves there → IsEndedAt Leaves place
ended_at {T} {g} Leaves place there is ended =
    let At : Option (Stored T g) → Type 0 = λ o. IsEndedAt Leaves o in
    subst At (sym is) ended

-- what a keg's hooks left of an item, where an earlier keg has the same hooks and the same item
pub ended_before : {T K : Type 0} {g : _} {h : _} (old mid : Keg T K g h) (place there : Option (Stored T g)) → hooks_in mid ≡ hooks_in old → there ≡ place → IsEndedAt (FiniLeaves mid) there → IsEndedAt (FiniLeaves old) place
ended_before {T} {K} {g} {h} old mid place there same is ended =
    let By : K → Type 0 = λ hooks. IsEndedAt (λ body gone. h.leaves_fini hooks body 0 gone) there in
    ended_at (FiniLeaves old) place there (sym is) (subst By same ended)
