-- A take from a room of a keg, as the taking rule has it.
use Rattle.std.proofs.Common.{◌≡◌, ◌↔◌, ◌⊎◌, ℕ, ◌+◌, ◌-◌, ◌*◌, ◌/◌, ◌%◌, ◌^◌, ◌<◌, ◌≤◌, Bool, true, false, List, map, length, set, get_or, Option, Some, None, count_by, sum_by, arith, refl, sym, ap, subst, inl, inr, ◌∙◌}
use Rattle.std.specs.List.{All, slice_get, position_or_len}
use Rattle.std.proofs.Math.Nat.{mul-le-mul}
use Rattle.std.proofs.lemmas.List.Elements.{All-map}
use Rattle.std.proofs.lemmas.List.{length-set, length-map, get_or_default}
use Rattle.std.proofs.lemmas.List.Sums.{get_or-le-sum_by, sum_by-le}
use Rattle.std.proofs.lemmas.Option.{slice_get_within, get_or_from_slice_get}
use Rattle.uma_slabs.specs.declared.places.Places.TheInside.{Inside}
use Rattle.uma_slabs.specs.Places.{KegPlaces, Slab, slab_at, place_at, places_by, free_count, IsSound, IsOut, IsFree, CountsOneOut}
use Rattle.uma_slabs.specs.Kept.{keg_of, places_of, IsKept}
use Rattle.uma_slabs.specs.Room.{RoomState, room_at, slab_in, can_take, is_partly_used, NonePassFrom}
use Rattle.uma_slabs.specs.Standing.{IsChosen}
use Rattle.uma_slabs.specs.Taking.{IsPartlyUsed, TakesPlaces}
use Rattle.uma_slabs.proofs.Changes.{outs_taken, IsSound-taken}
use Rattle.uma_slabs.proofs.Marks.{some_free, some_used, free_and_used, free_counts, used_counts}
use Rattle.uma_slabs.proofs.Puts.{put, IsPlace, place_at-put, KeepsOthers-put, KeepsSlabs-put, CountsOneOut-take}
use Rattle.uma_slabs.proofs.RoomPuts.{HoldsSlab, free_of-slab, keg_of-set, places_of-room, IsPlace-room, IsKept-set}
use Rattle.uma_slabs.proofs.RoomTests.{slab_at-room, can_take-counts, can_take-partly, partly_used-counts, partly_used-slab, slab_of-can_take, places_by-cannot_take}
use Rattle.uma_slabs.proofs.Slabs.{slab_of, slab_at-within, place_at-in, place_at-number, slab_of-number, lower_place}

-- a free place is counted
pub free_count-positive : (k : KegPlaces) (n : ℕ) → IsFree k n → 0 < free_count k
unfolding free_count
free_count-positive k n free =
    let has = slab_of k n true free in
    let within = slab_at-within k (n / k.per_slab) has.slab has.in_keg in
    let counted = get_or-le-sum_by (places_by (λ b. b)) k.slabs (n / k.per_slab) None within in
    let here = free_counts has.slab.free (n % k.per_slab) has.value in
    let all : count_by (λ b. b) has.slab.free ≤ sum_by (places_by (λ b. b)) k.slabs = rw has.in_keg at counted in
    omega arith

-- a number that is made of an index and a place has this slab
numbered : (k : KegPlaces) (i q : ℕ) (s : Slab) (b : Bool) → slab_at k i ≡ Some s → q < k.per_slab → slice_get s.free q ≡ Some b → (n : ℕ) × (n / k.per_slab ≡ i) × (place_at k n ≡ Some b)
numbered k i q s b in_keg below is = (i * k.per_slab + q, slab_of-number k.per_slab i q below, place_at-number k i q s in_keg below ∙ is)

-- a slab is partly used where its room is
pub IsPartlyUsed-room : (a : Inside) → IsKept a → (i : ℕ) (r : RoomState) (s : Slab) → HoldsSlab a i r s → is_partly_used r ≡ true → IsPartlyUsed (places_of a) i
IsPartlyUsed-room a kept i r s holds partly =
    let in_keg : slab_at (places_of a) i ≡ Some s = slab_at-room a.per_slab a.cap a.made a.rooms i r holds.within holds.room ∙ holds.slab in
    let len = places_of-room a kept i r holds.within holds.room in
    let same = free_of-slab r s holds.slab in
    let less = partly_used-counts r partly in
    let all = free_and_used r.free in
    let used = some_used r.free (omega arith) in
    let q = position_or_len (λ b. b) r.free in
    let free = some_free r.free (can_take-counts r (can_take-partly r partly)) in
    let used_in : slice_get s.free used.0 ≡ Some false = rw same used.1 in
    let free_in_slab : slice_get s.free q ≡ Some true = rw same free in
    record {
      used = numbered (places_of a) i used.0 s false in_keg (omega (arith, slice_get_within r.free used.0 false used.1)) used_in;
      free = numbered (places_of a) i q s true in_keg (omega (arith, slice_get_within r.free q true free)) free_in_slab;
    }

same_slab : {s t : Slab} → Some s ≡ Some t → s ≡ t
same_slab e = cc

-- the room of a slab that is partly used is so
partly_used-both : (a : Inside) → IsKept a → (i n m : ℕ) (d : RoomState) → n / a.per_slab ≡ i → IsOut (places_of a) n → m / a.per_slab ≡ i → IsFree (places_of a) m → (i < length a.rooms) × (is_partly_used (get_or a.rooms i d) ≡ true)
partly_used-both a kept i n m d n_in out m_in free =
    let used = slab_of (places_of a) n false out in
    let other = slab_of (places_of a) m true free in
    let in_keg : slab_at (places_of a) i ≡ Some used.slab = rw n_in at used.in_keg in
    let other_in : slab_at (places_of a) i ≡ Some other.slab = rw m_in at other.in_keg in
    let same : other.slab ≡ used.slab = same_slab (sym other_in ∙ in_keg) in
    let within : i < length a.rooms = rw length-map at (slab_at-within (places_of a) i used.slab in_keg) in
    let r = get_or a.rooms i d in
    let room : slab_in r ≡ Some used.slab = sym (slab_at-room a.per_slab a.cap a.made a.rooms i r within (get_or_default a.rooms i d r within)) ∙ in_keg in
    let places = free_of-slab r used.slab room in
    let used_place : slice_get r.free (n % a.per_slab) ≡ Some false = rw (← places) used.value in
    let free_place : slice_get r.free (m % a.per_slab) ≡ Some true = rw (← places, ← same) other.value in
    let some = free_counts r.free (m % a.per_slab) free_place in
    let less = used_counts r.free (n % a.per_slab) used_place in
    let all = free_and_used r.free in
    (within, partly_used-slab r used.slab room some (omega arith))

-- where no room is partly used, no slab is
pub none_partly_used : (a : Inside) → IsKept a → (d : RoomState) → ((k : ℕ) → k < length a.rooms → is_partly_used (get_or a.rooms k d) ≡ false) → (i : ℕ) → IsPartlyUsed (places_of a) i → ⊥
none_partly_used a kept d none i partly =
    let room = partly_used-both a kept i partly.used.0 partly.free.0 d partly.used.1 partly.used.2 partly.free.1 partly.free.2 in
    cc (none i room.0, room.1)

-- what a take makes of a keg
pub record TakesOut (old : KegPlaces) (n : ℕ) (new : KegPlaces) : Type 0 where
  pub takes : TakesPlaces old n new
  pub counts : CountsOneOut old new
  pub outs : (other : ℕ) → IsOut new other ↔ (IsOut old other ⊎ (other ≡ n))
  pub within : n < new.cap * new.per_slab
  pub sound : IsSound new

not_free : (free : List Bool) (place : ℕ) → get_or free place false ≡ false → slice_get free place ≡ Some true → ⊥
not_free free place used is = cc (used, get_or_from_slice_get free place true false is)

takes_put : (k : KegPlaces) (i q : ℕ) (s : Slab) → IsSound k → IsPlace k i q s → slice_get s.free q ≡ Some true
    → ((lower : ℕ) → lower < q → get_or s.free lower false ≡ false) → (IsPartlyUsed k i ⊎ ((j : ℕ) → IsPartlyUsed k j → ⊥))
    → TakesOut k (i * k.per_slab + q) (put k i q s false)
takes_put k i q s sound here free least preferred =
    let n = i * k.per_slab + q in
    let new = put k i q s false in
    let slab : n / k.per_slab ≡ i = slab_of-number k.per_slab i q here.within in
    let was : IsFree k n = place_at-number k i q s here.in_keg here.within ∙ free in
    let out = place_at-put k i q s false here in
    let others = KeepsOthers-put k i q s false here in
    let slabs = KeepsSlabs-put k i q s false here in
    let counts = CountsOneOut-take k i q s here free in
    let Preferred : ℕ → Type 0 = λ j. IsPartlyUsed k j ⊎ ((index : ℕ) → IsPartlyUsed k index → ⊥) in
    record {
      takes = record {
        free = was;
        least = λ lower below same is.
            let lower_in : lower / k.per_slab ≡ i = same ∙ slab in
            let in_slab : slab_at k (lower / k.per_slab) ≡ Some s = rw lower_in here.in_keg in
            not_free s.free (lower % k.per_slab) (least (lower % k.per_slab) (lower_place k.per_slab i q lower below lower_in)) (sym (place_at-in k lower s in_slab) ∙ is);
        preferred = subst Preferred (sym slab) preferred;
        out = out;
        others = others;
        slabs = slabs;
      };
      counts = counts;
      outs = outs_taken k new n out others;
      within = sound.numbers n (rw was refl);
      sound = IsSound-taken k new n sound slabs others (rw was refl) (rw out refl) counts;
    }

-- a room of a keg, a free place of it that is the least, and why it is taken from
pub record IsTakenFrom (a : Inside) (i q : ℕ) (r r' : RoomState) : Type 0 where
  pub slab : Slab
  pub holds : HoldsSlab a i r slab
  pub free : slice_get r.free q ≡ Some true
  pub least : (lower : ℕ) → lower < q → get_or r.free lower false ≡ false
  pub preferred : IsPartlyUsed (places_of a) i ⊎ ((j : ℕ) → IsPartlyUsed (places_of a) j → ⊥)
  pub changed : r' ≡ record r { free = set r.free q false }

pub place_below : (a : Inside) → IsKept a → (i q : ℕ) (r r' : RoomState) → IsTakenFrom a i q r r' → q < a.per_slab
place_below a kept i q r r' from =
    let len = places_of-room a kept i r from.holds.within from.holds.room in
    let within = slice_get_within r.free q true from.free in
    omega arith

pub takes_out : (a : Inside) → IsKept a → (i q : ℕ) (r r' : RoomState) → IsTakenFrom a i q r r'
    → TakesOut (places_of a) (i * a.per_slab + q) (keg_of a.per_slab a.cap a.made (set a.rooms i r'))
takes_out a kept i q r r' from =
    let place = IsPlace-room a kept i q r from.slab from.holds (place_below a kept i q r r' from) in
    let same = free_of-slab r from.slab from.holds.slab in
    let free : slice_get from.slab.free q ≡ Some true = rw same from.free in
    let least : (lower : ℕ) → lower < q → get_or from.slab.free lower false ≡ false = λ lower below. rw same (from.least lower below) in
    rw (keg_of-set a i q r r' from.slab false from.holds.slab from.changed)
    (takes_put (places_of a) i q from.slab kept.sound place free least from.preferred)

pub IsKept-taken : (a : Inside) (kept : IsKept a) (i q : ℕ) (r r' : RoomState) → IsTakenFrom a i q r r' → IsKept (record a { rooms = set a.rooms i r'; free = a.free - 1 })
IsKept-taken a kept i q r r' from =
    let out = takes_out a kept i q r r' from in
    let counted = out.counts.free in
    let free = kept.free in
    let len = ap (λ (x : RoomState). length x.free) from.changed ∙ length-set r.free q false ∙ places_of-room a kept i r from.holds.within from.holds.room in
    IsKept-set a kept i r' len (a.free - 1) (kept.slabs ∙ sym out.counts.slabs) (omega arith) out.sound

-- the room that was chosen, with its least free place, is taken from by the rule
pub can_take-chosen : (a : Inside) (i : ℕ) (r : RoomState) → IsChosen a.rooms i → r ≡ get_or a.rooms i r → can_take r ≡ true
can_take-chosen a i r is room = rw room (is.can r)

pub taken_from : (a : Inside) → IsKept a → (i q : ℕ) (r r' : RoomState) → IsChosen a.rooms i
    → r ≡ get_or a.rooms i r → slice_get r.free q ≡ Some true → ((lower : ℕ) → lower < q → get_or r.free lower false ≡ false) → r' ≡ record r { free = set r.free q false }
    → IsTakenFrom a i q r r'
taken_from a kept i q r r' is room free least changed =
    let slab = slab_of-can_take r (can_take-chosen a i r is room) in
    let holds : HoldsSlab a i r slab.0 = record { within = is.within; room = room; slab = slab.1 } in
    record {
      slab = slab.0;
      holds = holds;
      free = free;
      least = least;
      preferred = elim is.preferred [
        | inl partly ↦ (let this : is_partly_used r ≡ true = rw room (partly r) in inl (IsPartlyUsed-room a kept i r slab.0 holds this))
        | inr none ↦ inr (none_partly_used a kept r (λ k within. none k r (omega arith) within))
      ];
      changed = changed;
    }

-- the same by the room's index
abbrev pub with_used : RoomState → ℕ → RoomState
with_used r q = record r { free = set r.free q false }

pub taken_at : (a : Inside) → IsKept a → (i q : ℕ) → IsChosen a.rooms i → slice_get (room_at a.rooms i).free q ≡ Some true → ((lower : ℕ) → lower < q → get_or (room_at a.rooms i).free lower false ≡ false)
    → IsTakenFrom a i q (room_at a.rooms i) (with_used (room_at a.rooms i) q)
taken_at a kept i q is free least =
    let r = room_at a.rooms i in
    taken_from a kept i q r (with_used r q) is (get_or_default a.rooms i _ r is.within) free least refl

-- where no room was chosen, no place is free
at_most_zero : (n : ℕ) → n ≡ 0 → n ≤ 0
at_most_zero n e = omega arith

pub free_count-none : (a : Inside) → NonePassFrom can_take a.rooms 0 → free_count (places_of a) ≡ 0
unfolding free_count
free_count-none a is =
    let rooms = a.rooms in
    let each : All (λ room. places_by (λ b. b) (slab_in room) ≤ 0) rooms =
    λ k d within. at_most_zero (places_by (λ b. b) (slab_in (get_or rooms k d))) (places_by-cannot_take (get_or rooms k d) (is k d (omega arith) within)) in
    let slabs = All-map (λ (o : Option Slab). places_by (λ b. b) o ≤ 0) slab_in rooms each in
    let bound = sum_by-le (places_by (λ b. b)) 0 (map slab_in rooms) slabs in
    omega arith

pub free_count-no_place : (k : KegPlaces) → free_count k ≡ 0 → (n : ℕ) → IsFree k n → ⊥
free_count-no_place k none n free =
    let some = free_count-positive k n free in
    absurd (omega arith)

-- a number of a keg fits 32 bits
pub number_fits : (a : Inside) → IsKept a → (i q : ℕ) (r r' : RoomState) → IsTakenFrom a i q r r' → i * a.per_slab + q < 2 ^ 32
number_fits a kept i q r r' from =
    let out = takes_out a kept i q r r' from in
    let within = out.within in
    let sound = kept.sound in
    let most : a.cap * a.per_slab ≤ 1024 * 256 = mul-le-mul sound.few_slabs sound.few_places in
    omega arith
