-- A change in one room of a keg is a change of one place.
use Rattle.std.proofs.Common.{◌≡◌, ◌≢◌, ◌↔◌, ℕ, ◌+◌, ◌*◌, ◌/◌, ◌%◌, ◌<◌, Bool, true, false, List, map, length, set, get_or, Option, Some, None, option_map, refl, sym, ap, subst, ◌∙◌}
use Rattle.std.specs.List.{slice_get}
use Rattle.std.proofs.Math.Nat.{mod-lt}
use Rattle.std.proofs.lemmas.Nat.{div-add-mod'}
use Rattle.std.proofs.lemmas.List.{map-set, length-set, get_or_default}
use Rattle.std.proofs.lemmas.List.Elements.{All-set}
use Rattle.uma_slabs.specs.declared.places.Places.TheInside.{Inside}
use Rattle.uma_slabs.specs.Places.{KegPlaces, Slab, slab_count, free_count, IsSound, IsOut, Gives, CountsOneOut}
use Rattle.uma_slabs.specs.Kept.{keg_of, places_of, IsKept}
use Rattle.uma_slabs.specs.Room.{RoomState, room_at, slab_in}
use Rattle.uma_slabs.proofs.Changes.{outs_given, IsSound-given}
use Rattle.uma_slabs.proofs.KeptRooms.{room_within}
use Rattle.uma_slabs.proofs.Puts.{slab_put, put, IsPlace, place_at-put, KeepsOthers-put, KeepsSlabs-put, CountsOneOut-give}
use Rattle.uma_slabs.proofs.RoomTests.{slab_at-room}
use Rattle.uma_slabs.proofs.Slabs.{slab_of}

-- r is the room of index i, and s the slab in it
pub record HoldsSlab (a : Inside) (i : ℕ) (r : RoomState) (s : Slab) : Type 0 where
  pub within : i < length a.rooms
  pub room : r ≡ get_or a.rooms i r
  pub slab : slab_in r ≡ Some s

free_of : (d : Option ℕ) (free : List Bool) (s : Slab) → slab_in (record { domain = d; free = free }) ≡ Some s → s.free ≡ free
free_of None free s e = cc
free_of (Some d) free s e = ap (λ (o : Option Slab). free_or free o) (sym e)
  where
    free_or : List Bool → Option Slab → List Bool
    free_or free None = free
    free_or free (Some s) = s.free

-- the slab's places are the room's
pub free_of-slab : (r : RoomState) (s : Slab) → slab_in r ≡ Some s → s.free ≡ r.free
free_of-slab r s e = free_of r.domain r.free s e

put_in : (d : Option ℕ) (free : List Bool) (q : ℕ) (b : Bool) → option_map (λ s. slab_put s q b) (slab_in (record { domain = d; free = free })) ≡ slab_in (record { domain = d; free = set free q b })
put_in None free q b = refl
put_in (Some d) free q b = refl

slab_in-put : (r : RoomState) (s : Slab) (q : ℕ) (b : Bool) → slab_in r ≡ Some s → slab_in (record r { free = set r.free q b }) ≡ Some (slab_put s q b)
slab_in-put r s q b e = sym (put_in r.domain r.free q b) ∙ ap (λ (o : Option Slab). option_map (λ s. slab_put s q b) o) e

-- the keg with the room's place changed
pub keg_of-set : (a : Inside) (i q : ℕ) (r r' : RoomState) (s : Slab) (b : Bool) → slab_in r ≡ Some s → r' ≡ record r { free = set r.free q b } → keg_of a.per_slab a.cap a.made (set a.rooms i r') ≡ put (places_of a) i q s b
keg_of-set a i q r r' s b e changed =
    let slab : slab_in r' ≡ Some (slab_put s q b) = rw changed (slab_in-put r s q b e) in
    let slabs = map-set slab_in a.rooms i r' ∙ ap (set (map slab_in a.rooms) i) slab in
    ap (λ (xs : List (Option Slab)). record { per_slab = a.per_slab; cap = a.cap; made = a.made; slabs = xs }) slabs

-- the room has as many places as a slab
pub places_of-room : (a : Inside) → IsKept a → (i : ℕ) (r : RoomState) → i < length a.rooms → r ≡ get_or a.rooms i r → length r.free ≡ a.per_slab
places_of-room a kept i r within room = rw room (kept.places i r within)

pub IsPlace-room : (a : Inside) → IsKept a → (i q : ℕ) (r : RoomState) (s : Slab) → HoldsSlab a i r s → q < a.per_slab → IsPlace (places_of a) i q s
IsPlace-room a kept i q r s holds below = record {
  in_keg = slab_at-room a.per_slab a.cap a.made a.rooms i r holds.within holds.room ∙ holds.slab;
  within = below;
  places = ap length (free_of-slab r s holds.slab) ∙ places_of-room a kept i r holds.within holds.room;
}

-- what is kept stays so where one room changes
pub IsKept-set : (a : Inside) → IsKept a → (i : ℕ) (r' : RoomState) → length r'.free ≡ a.per_slab → (free : ℕ)
    → a.slabs ≡ slab_count (keg_of a.per_slab a.cap a.made (set a.rooms i r'))
    → free ≡ free_count (keg_of a.per_slab a.cap a.made (set a.rooms i r'))
    → IsSound (keg_of a.per_slab a.cap a.made (set a.rooms i r'))
    → IsKept (record a { rooms = set a.rooms i r'; free = free })
IsKept-set a kept i r' len free slabs counted sound = record {
  rooms = length-set a.rooms i r' ∙ kept.rooms;
  places = All-set (λ room. length room.free ≡ a.per_slab) a.rooms i r' len kept.places;
  slabs = slabs;
  free = counted;
  sound = sound;
}

-- what a give makes of a keg
pub record GivesBack (old : KegPlaces) (n : ℕ) (new : KegPlaces) : Type 0 where
  pub gives : Gives old n new
  pub counts : CountsOneOut new old
  pub outs : (other : ℕ) → IsOut new other ↔ (IsOut old other × (other ≢ n))
  pub sound : IsSound new

gives_put : (k : KegPlaces) (i q : ℕ) (s : Slab) → IsSound k → IsPlace k i q s → slice_get s.free q ≡ Some false → IsOut k (i * k.per_slab + q) → GivesBack k (i * k.per_slab + q) (put k i q s true)
gives_put k i q s sound here used out =
    let n = i * k.per_slab + q in
    let free = place_at-put k i q s true here in
    let others = KeepsOthers-put k i q s true here in
    let slabs = KeepsSlabs-put k i q s true here in
    let counts = CountsOneOut-give k i q s here used in
    record {
      gives = record { out = out; free = free; others = others; slabs = slabs };
      counts = counts;
      outs = outs_given k (put k i q s true) n free others;
      sound = IsSound-given k (put k i q s true) n sound slabs others (rw out refl) (rw free refl) counts;
    }

-- the slab of a number that is out
pub record IsOutIn (a : Inside) (n : ℕ) (r : RoomState) : Type 0 where
  pub slab : Slab
  pub holds : HoldsSlab a (n / a.per_slab) r slab
  pub below : n % a.per_slab < a.per_slab
  pub used : slice_get slab.free (n % a.per_slab) ≡ Some false
  pub used_room : slice_get r.free (n % a.per_slab) ≡ Some false

pub IsOutIn-room : (a : Inside) → IsKept a → (n : ℕ) (r : RoomState) → IsOut (places_of a) n → r ≡ get_or a.rooms (n / a.per_slab) r → IsOutIn a n r
IsOutIn-room a kept n r out room =
    let has = slab_of (places_of a) n false out in
    let within = room_within a kept n (rw out refl) in
    let in_room = sym (slab_at-room a.per_slab a.cap a.made a.rooms (n / a.per_slab) r within room) ∙ has.in_keg in
    record {
      slab = has.slab;
      holds = record { within = within; room = room; slab = in_room };
      below = mod-lt n kept.sound.some_place;
      used = has.value;
      used_room = rw (← free_of-slab r has.slab in_room) has.value;
    }

-- the room of a number that is out
pub record IsOutRoom (a : Inside) (n : ℕ) : Type 0 where
  pub within : n / a.per_slab < length a.rooms
  pub room : room_at a.rooms (n / a.per_slab) ≡ get_or a.rooms (n / a.per_slab) (room_at a.rooms (n / a.per_slab))
  pub used : slice_get (room_at a.rooms (n / a.per_slab)).free (n % a.per_slab) ≡ Some false

pub out_room : (a : Inside) → IsKept a → (n : ℕ) → IsOut (places_of a) n → IsOutRoom a n
out_room a kept n out =
    let within = room_within a kept n (rw out refl) in
    let r = room_at a.rooms (n / a.per_slab) in
    let room : r ≡ get_or a.rooms (n / a.per_slab) r = get_or_default a.rooms (n / a.per_slab) _ r within in
    record { within = within; room = room; used = (IsOutIn-room a kept n r out room).used_room }

pub gives_back : (a : Inside) → IsKept a → (n : ℕ) (r r' : RoomState) → IsOut (places_of a) n → r ≡ get_or a.rooms (n / a.per_slab) r
    → r' ≡ record r { free = set r.free (n % a.per_slab) true }
    → GivesBack (places_of a) n (keg_of a.per_slab a.cap a.made (set a.rooms (n / a.per_slab) r'))
gives_back a kept n r r' out room changed =
    let here = IsOutIn-room a kept n r out room in
    let number : n / a.per_slab * a.per_slab + n % a.per_slab ≡ n = div-add-mod' n a.per_slab in
    let place = IsPlace-room a kept (n / a.per_slab) (n % a.per_slab) r here.slab here.holds here.below in
    let done = gives_put (places_of a) (n / a.per_slab) (n % a.per_slab) here.slab kept.sound place here.used (rw number out) in
    let Back : ℕ → Type 0 = λ m. GivesBack (places_of a) m (put (places_of a) (n / a.per_slab) (n % a.per_slab) here.slab true) in
    rw (keg_of-set a (n / a.per_slab) (n % a.per_slab) r r' here.slab true here.holds.slab changed) (subst Back number done)

pub IsKept-given : (a : Inside) (kept : IsKept a) (n : ℕ) (r r' : RoomState) → IsOut (places_of a) n → r ≡ get_or a.rooms (n / a.per_slab) r
    → r' ≡ record r { free = set r.free (n % a.per_slab) true }
    → IsKept (record a { rooms = set a.rooms (n / a.per_slab) r'; free = a.free + 1 })
IsKept-given a kept n r r' out room changed =
    let back = gives_back a kept n r r' out room changed in
    let within = room_within a kept n (rw out refl) in
    let len = ap (λ (x : RoomState). length x.free) changed ∙ length-set r.free (n % a.per_slab) true ∙ places_of-room a kept (n / a.per_slab) r within room in
    IsKept-set a kept (n / a.per_slab) r' len (a.free + 1) (kept.slabs ∙ back.counts.slabs) (ap (λ x. x + 1) kept.free ∙ back.counts.free) back.sound
