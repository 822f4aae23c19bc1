-- Why a keg brought no slab in, from why its items weren't made.
use Rattle.std.proofs.Common.{◌≡◌, ◌<◌, ◌+◌, ◌*◌, ◌^◌, ℕ, Result, Ok, Err}
use Rattle.std.specs.Prelude.{IfErr, OnErr}
use Rattle.uma_keg.specs.declared.fetch.FetchRefused.{FetchRefused}
use Rattle.uma_life.specs.declared.hooks.BringRefused.{BringRefused}
use Rattle.uma_life.specs.declared.hooks.BringRefused.TheVariants.{Init, Memory}
use Rattle.uma_life.specs.declared.tally.TallySum.{TallySum}
use Rattle.uma_life.specs.Sum.{AreBelow}
use Rattle.uma_keg.specs.declared.keg.Keg.{Keg}
use Rattle.uma_slabs.specs.Places.{KegPlaces, IsSound, slab_count}
use Rattle.uma_keg.specs.Keg.{places_in, stored_in, buried_in}
use Rattle.uma_keg.specs.NewItems.{RefusesItems}
use Rattle.uma_keg.specs.Tallies.{TallyLaw}
use Rattle.uma_keg.specs.BringSlab.{AcceptsNumber, RefusesNumber, IsNextIndex, RefusesSlab, StaysWithout, as_fetch}
use Rattle.uma_keg.proofs.TallyLaws.{TallyLaw-vain}

pub refuses_slab : {T K : Type 0} {g : _} {h : _} (old : Keg T K g h) (buried : TallySum) (index : ℕ) (why : BringRefused) → slab_count (places_in old) < (places_in old).cap → IsNextIndex (places_in old) index
    → RefusesItems (places_in old).per_slab (λ place code. RefusesNumber old (index * (places_in old).per_slab + place) code) (λ place. AcceptsNumber old (index * (places_in old).per_slab + place)) (buried_in old) buried why
    → RefusesSlab old buried (as_fetch why)
refuses_slab old buried index (Init code) room next is = (room, index, next, is.0, is.1, is.2, is.3)
refuses_slab old buried index Memory room next is = (is.0, is.1.within, is.1.buried)

-- the sums keep their bound
pub TallyLaw-refused : (old new : TallySum) (places : KegPlaces) (Refuses : ℕ → ℕ → Type 0) (Accepts : ℕ → Type 0) (why : BringRefused) → AreBelow (2 ^ 120) old → IsSound places → slab_count places < places.cap → RefusesItems places.per_slab Refuses Accepts old new why → TallyLaw new places
TallyLaw-refused old new places Refuses Accepts (Init code) below sound room is = TallyLaw-vain old new places is.0 below is.1.buried is.1.within sound room
TallyLaw-refused old new places Refuses Accepts Memory below sound room is = TallyLaw-vain old new places is.0 below is.1.buried is.1.within sound room

-- what a refusal left, where the answer isn't told apart
module _ {T K : Type 0} {g : _} {h : _} (old new : Keg T K g h) where
  pub stays_places : (end : Result (Unit {0}) FetchRefused) → IfErr end (λ why. StaysWithout old why new) → OnErr end (places_in new ≡ places_in old)
  stays_places (Ok done) is = tt
  stays_places (Err why) is = is.places

  pub stays_items : (end : Result (Unit {0}) FetchRefused) → IfErr end (λ why. StaysWithout old why new) → OnErr end ((n : ℕ) → stored_in new n ≡ stored_in old n)
  stays_items (Ok done) is = tt
  stays_items (Err why) is = is.stored
