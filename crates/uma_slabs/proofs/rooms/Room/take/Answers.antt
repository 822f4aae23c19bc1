use Rattle.std.proofs.Common.{◌≡◌, ◌<◌, ℕ, Bool, false, List, Option, Some, None, IsSome, arith, refl, sym, ap, subst, count_by}
use Rattle.std.specs.Option.{IfSome, IfNone}
use Rattle.slab_bits.specs.Members.{HasNoneFrom, IsLeastFrom}
use Rattle.uma_slabs.specs.Room.{RoomState, free_in}
use Rattle.uma_slabs.proofs.RoomBits.{IsRoom-set, count_of-room, count_of-none, least_within, least_free, least_least, take-set_at, with_free}
use Rattle.uma_slabs.proofs.RoomTests.{can_take-counts}
use Rattle.uma_slabs.proofs.rooms.Room.take.Goals as goal

is_least : (o : Option ℕ) (place : ℕ) (free : List Bool) → o ≡ Some place → IfSome o (IsLeastFrom free 0) → IsLeastFrom free 0 place
is_least o place free is least = let P : Option ℕ → Type 0 = λ x. IfSome x (IsLeastFrom free 0) in subst P is least

some_member : (o : Option ℕ) (free : List Bool) → 0 < count_by (λ b. b) free → IfNone o (HasNoneFrom free 0) → IsSome o
some_member None free some none = let no = count_of-none free none in absurd (omega arith)
some_member (Some place) free some none = refl

pub unwrap-place-requires : goal.unwrap-place-requires
unwrap-place-requires c =
    let P : RoomState → Type 0 = λ r. 0 < free_in r in
    let some = subst P (sym c.self.view_is) (can_take-counts c.args.self.now c.requires) in
    let count = count_of-room c.self.inside.places c.self.inside.free c.self.invariant in
    some_member c.first.result c.self.inside.free (omega arith) c.first.ensures.none

pub clear-requires : goal.clear-requires
clear-requires c =
    let least = is_least c.first.result c.unwrap-place.result c.self.inside.free c.unwrap-place.ensures c.first.ensures.least in
    let within = least_within c.self.inside.places c.self.inside.free c.self.invariant c.unwrap-place.result least in
    let few = c.self.invariant.few in
    omega arith

pub invariant_of-self : goal.invariant_of-self
invariant_of-self c =
    let least = is_least c.first.result c.unwrap-place.result c.self.inside.free c.unwrap-place.ensures c.first.ensures.least in
    let within = least_within c.self.inside.places c.self.inside.free c.self.invariant c.unwrap-place.result least in
    rw c.clear.ensures (IsRoom-set c.self.inside.places c.self.inside.free c.unwrap-place.result false c.self.invariant within)

pub returns : goal.returns
returns c =
    record {
      free =
          let least = is_least c.first.result c.unwrap-place.result c.self.inside.free c.unwrap-place.ensures c.first.ensures.least in
          rw (← c.self.view_is) (least_free c.self.inside.places c.self.inside.free c.self.invariant c.unwrap-place.result least);
      least =
          let least = is_least c.first.result c.unwrap-place.result c.self.inside.free c.unwrap-place.ensures c.first.ensures.least in
          rw (← c.self.view_is) (least_least c.self.inside.places c.self.inside.free c.self.invariant c.unwrap-place.result least);
      used =
          rw (← c.self.view_is, c.clear.ensures) (ap (with_free c.self.inside.domain) (take-set_at c.self.inside.places c.self.inside.free c.unwrap-place.result false));
    }
