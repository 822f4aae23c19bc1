-- Names find their zones, where the names of the zones differ.
use Rattle.std.proofs.Common.{◌≡◌, ◌≢◌, ℕ, ◌<◌, Bool, true, false, ltb, List, [], ◌∷◌, ◌++◌, length, get_or, Option, Some, None, refl, sym, ap, subst, ◌∙◌, arith}
use Rattle.std.specs.Prelude.{◌&&◌, not, is_some, AllPairs, position, slice_get}
use Rattle.std.specs.List.{position_or_len}
use Rattle.std.specs.Option.{option_map_or}
use Rattle.std.specs.Str.{bytes_eq}
use Rattle.std.proofs.lemmas.Bool.{lt-ltb, le-ltb, and_from, false_from_ne_true}
use Rattle.std.proofs.lemmas.List.{length-append, length-map, map-append, get_or-map, get_or_append_left, get_or_at}
use Rattle.std.proofs.lemmas.List.Sums.{position_or_len_is}
use Rattle.std.proofs.lemmas.Option.{slice_get-get_or, slice_get_within, get_or_from_slice_get}
use Rattle.std.proofs.lemmas.Slice.Eq.{bytes_eq-Decides}
use Rattle.trace_text.specs.declared.trace.Head.{Head}
use Rattle.trace_text.specs.declared.trace.NamesHead.{NamesHead}
use Rattle.trace_text.specs.declared.trace.ZoneHead.{ZoneHead}
use Rattle.trace_text.specs.declared.trace.ZoneKind.TheVariants.{Plain}
use Rattle.trace_text.specs.NamedZones.{zone_name}
use Rattle.trace_text.specs.Grammar.{zone_named, primary_named}
use Rattle.trace_text.specs.Valid.{zone_names}
use Rattle.trace_text.proofs.HeadZones.{called, slice_get_front}

-- no two of the names are the same
abbrev pub Differ : List (List ℕ) → Type 0
Differ names = AllPairs (λ a b. a ≢ b) names

-- the first place that passes, and none
first_place : {X : Type 0} (p : X → Bool) (xs : List X) (i : ℕ) (d : X) → i < length xs → ((k : ℕ) → k < i → p (get_or xs k d) ≡ false) → p (get_or xs i d) ≡ true → position p xs ≡ Some i
first_place p xs i d inside before here =
    let at : position_or_len p xs ≡ i = position_or_len_is p xs i d (omega arith) before (λ lt. here) in
    rw (at, lt-ltb i (length xs) inside) refl

no_place : {X : Type 0} (p : X → Bool) (xs : List X) (d : X) → ((k : ℕ) → k < length xs → p (get_or xs k d) ≡ false) → position p xs ≡ None
no_place p xs d none =
    let at : position_or_len p xs ≡ length xs = position_or_len_is p xs (length xs) d (omega arith) none (λ lt. absurd (omega arith)) in
    let past : ltb (length xs) (length xs) ≡ false = le-ltb (length xs) (length xs) (omega arith) in
    rw (at, past) refl

-- names that differ, cut in two
pub front_differs : (front more : List (List ℕ)) → Differ (front ++ more) → Differ front
front_differs front more differ i j d lt inside e =
    let whole : j < length (front ++ more) = omega (arith, length-append front more) in
    let first : get_or (front ++ more) i d ≡ get_or front i d = get_or_append_left front more d i (omega arith) in
    let second : get_or (front ++ more) j d ≡ get_or front j d = get_or_append_left front more d j inside in
    differ i j d lt whole (first ∙ (e ∙ sym second))

-- a name behind the front is none of the front
behind_differs : (front : List (List ℕ)) (name : List ℕ) (more : List (List ℕ)) → Differ (front ++ name ∷ more) → (k : ℕ) (d : List ℕ) → k < length front → get_or front k d ≢ name
behind_differs front name more differ k d lt e =
    let inside : length front < length (front ++ name ∷ more) = omega (arith, length-append front (name ∷ more)) in
    let first : get_or (front ++ name ∷ more) k d ≡ get_or front k d = get_or_append_left front (name ∷ more) d k lt in
    let second : get_or (front ++ name ∷ more) (length front) d ≡ name = get_or_at front name more d (length front) refl in
    differ k (length front) d lt inside (first ∙ (e ∙ sym second))

-- texts that differ aren't equal as bytes, and those that don't are
not_same : (a b : List ℕ) → a ≢ b → bytes_eq a b ≡ false
not_same a b differ = false_from_ne_true (bytes_eq a b) (λ e. differ ((bytes_eq-Decides a b).0 e))

same_bytes : (a b : List ℕ) → a ≡ b → bytes_eq a b ≡ true
same_bytes a b e = (bytes_eq-Decides a b).1 e

-- the name of the zone at a place
pub zone_name_at : (zones : List ZoneHead) (z : ℕ) (d : ZoneHead) → z < length zones → zone_name zones z ≡ (get_or zones z d).name
zone_name_at zones z d lt = rw (slice_get-get_or zones z d lt) refl

-- the name at a place among the names
name_at_place : (zones : List ZoneHead) (z : ℕ) (d : ZoneHead) (e : List ℕ) → z < length zones → get_or (called zones) z e ≡ (get_or zones z d).name
name_at_place zones z d e lt = get_or-map (λ (h : ZoneHead). h.name) zones z d e lt

-- an earlier zone has another name
earlier_differs : (zones : List ZoneHead) (k z : ℕ) (d : ZoneHead) → Differ (called zones) → k < z → z < length zones → (get_or zones k d).name ≢ zone_name zones z
earlier_differs zones k z d differ lt inside e =
    let names : z < length (called zones) = omega (arith, length-map zones (λ (h : ZoneHead). h.name)) in
    let first : get_or (called zones) k [] ≡ (get_or zones k d).name = name_at_place zones k d [] (omega arith) in
    let second : get_or (called zones) z [] ≡ (get_or zones z d).name = name_at_place zones z d [] inside in
    differ k z [] lt names (first ∙ (e ∙ (zone_name_at zones z d inside ∙ sym second)))

-- what stands where no zone is
pub nowhere : ZoneHead
nowhere = record { name = []; parent = None; size = 0; slabs = 0; bucket = 0; limit = 0; reserve = 0; kind = Plain }

-- a zone's name finds it
pub zone_found : (zones : List ZoneHead) (z : ℕ) → Differ (called zones) → z < length zones → zone_named zones (zone_name zones z) ≡ Some z
zone_found zones z differ inside =
    first_place (λ (h : ZoneHead). bytes_eq h.name (zone_name zones z)) zones z nowhere inside
    (λ k lt. not_same (get_or zones k nowhere).name (zone_name zones z) (earlier_differs zones k z nowhere differ lt inside))
    (same_bytes (get_or zones z nowhere).name (zone_name zones z) (sym (zone_name_at zones z nowhere inside)))

first_fails : (a b : Bool) → a ≡ false → (a && b) ≡ false
first_fails a b e = rw e refl

-- a primary zone's name finds it among the primary zones
pub primary_found : (zones : List ZoneHead) (p : ℕ) (z : ZoneHead) → Differ (called zones) → slice_get zones p ≡ Some z → z.parent ≡ None
    → primary_named zones (zone_name zones p) ≡ Some p
primary_found zones p z differ is none =
    let inside : p < length zones = slice_get_within zones p z is in
    let at : get_or zones p nowhere ≡ z = get_or_from_slice_get zones p z nowhere is in
    let primary : (get_or zones p nowhere).parent ≡ None = ap (λ (h : ZoneHead). h.parent) at ∙ none in
    let name : List ℕ = zone_name zones p in
    first_place (λ (h : ZoneHead). bytes_eq h.name name && not (is_some h.parent)) zones p nowhere inside
    (λ k lt. first_fails (bytes_eq (get_or zones k nowhere).name name) (not (is_some (get_or zones k nowhere).parent))
    (not_same (get_or zones k nowhere).name name (earlier_differs zones k p nowhere differ lt inside)))
    (and_from (bytes_eq (get_or zones p nowhere).name name) (not (is_some (get_or zones p nowhere).parent))
    (same_bytes (get_or zones p nowhere).name name (sym (zone_name_at zones p nowhere inside)))
    (ap (λ (o : Option ℕ). not (is_some o)) primary))

-- ---- a front of the zones

-- a place in the front is the same place of the whole
pub zone_name_front : (front more : List ZoneHead) (p : ℕ) → p < length front → zone_name (front ++ more) p ≡ zone_name front p
zone_name_front front more p lt = rw (slice_get_front front more p lt) refl

-- the names of the front differ where all do
pub front_names_differ : (front more : List ZoneHead) → Differ (called (front ++ more)) → Differ (called front)
front_names_differ front more differ =
    front_differs (called front) (called more) (subst Differ (map-append (λ (z : ZoneHead). z.name) front more) differ)

-- a primary zone's name finds it among the first zones
pub primary_found_in_front : (front more : List ZoneHead) (p : ℕ) (z : ZoneHead) → Differ (called (front ++ more)) → p < length front
    → slice_get (front ++ more) p ≡ Some z → z.parent ≡ None → primary_named front (zone_name (front ++ more) p) ≡ Some p
primary_found_in_front front more p z differ lt is none =
    let here : slice_get front p ≡ Some z = sym (slice_get_front front more p lt) ∙ is in
    let name : zone_name (front ++ more) p ≡ zone_name front p = zone_name_front front more p lt in
    ap (λ (t : List ℕ). primary_named front t) name ∙ primary_found front p z (front_names_differ front more differ) here none

-- the name that follows those of the first zones finds none of them
pub not_named_yet : (front : List ZoneHead) (name : List ℕ) (more : List (List ℕ)) → Differ (called front ++ name ∷ more) → zone_named front name ≡ None
not_named_yet front name more differ =
    no_place (λ (h : ZoneHead). bytes_eq h.name name) front nowhere
    (λ k lt.
    let names : k < length (called front) = omega (arith, length-map front (λ (h : ZoneHead). h.name)) in
    not_same (get_or front k nowhere).name name
    (λ e. behind_differs (called front) name more differ k [] names (name_at_place front k nowhere [] lt ∙ e)))

-- the name of the next zone finds none of those before it
pub zone_not_named_yet : (front : List ZoneHead) (z : ZoneHead) (more : List ZoneHead) → Differ (called (front ++ z ∷ more)) → zone_named front z.name ≡ None
zone_not_named_yet front z more differ =
    not_named_yet front z.name (called more) (subst Differ (map-append (λ (h : ZoneHead). h.name) front (z ∷ more)) differ)

-- ---- the names of a header

-- the zones' names differ where those of the header do
pub zones_differ : (h : Head) → Differ (zone_names h) → Differ (called h.zones)
zones_differ h differ = front_differs (called h.zones) (option_map_or (λ (n : NamesHead). n.name ∷ []) h.names []) differ

-- the name of the names line finds no zone
pub names_not_named_yet : (h : Head) (n : NamesHead) → Differ (zone_names h) → h.names ≡ Some n → zone_named h.zones n.name ≡ None
names_not_named_yet h n differ is =
    let P : Option NamesHead → Type 0 = λ o. Differ (called h.zones ++ option_map_or (λ (m : NamesHead). m.name ∷ []) o []) in
    not_named_yet h.zones n.name [] (subst P is differ)
