-- The zones of a reading stand by their names: where a name stands among the keys is where its zone stands.
use Rattle.std.proofs.Common.{◌≡◌, ℕ, ◌+◌, ◌<◌, Bool, true, false, cond, List, [], ◌∷◌, ◌++◌, length, get_or, map, Option, Some, None, refl, sym, ap, subst, ◌∙◌, true≢false, inl, inr, arith}
use Rattle.std.specs.Prelude.{◌&&◌, not, is_some, nat_lt, position, slice_get}
use Rattle.std.specs.List.{position_or_len, IsDistinct}
use Rattle.std.specs.Map.{keys_of, values_of}
use Rattle.std.specs.Str.{bytes_eq}
use Rattle.std.proofs.lemmas.Bool.{and_parts, cases_order}
use Rattle.std.proofs.lemmas.List.{length-append, length-map, map-append, get_or-map}
use Rattle.std.proofs.lemmas.List.Quantifiers.{position-Some}
use Rattle.std.proofs.lemmas.Map.Made.{AllPairs-from_IsDistinct}
use Rattle.std.specs.Option.{option_map}
use Rattle.std.proofs.lemmas.Option.{get_or_from_slice_get, slice_get-map}
use Rattle.std.proofs.lemmas.Slice.Eq.{bytes_eq-Decides}
use Rattle.indexmap.specs.IndexMap.{insert_entry}
use Rattle.indexmap.proofs.MapLemmas.{Missing, Missing-position, insert_entry-absent}
use Rattle.trace_text.specs.declared.trace.ZoneHead.{ZoneHead}
use Rattle.trace_text.specs.declared.trace_reading.parsed_line.SecondHead.{SecondHead}
use Rattle.trace_text.specs.Grammar.{zone_named, primary_named, second_zone, second_over}
use Rattle.trace_text.specs.NamedZones.{AreByName}
use Rattle.trace_text.proofs.HeadZones.{not_named}
use Rattle.trace_text.proofs.HeadZones.{called}
use Rattle.trace_text.proofs.RowZones.{nowhere, Differ, zone_name_at, primary_found}

-- ---- the place of the first item that passes a test

-- among the images, as among the items themselves
position_or_len-map : {X Y : Type 0} (p : Y → Bool) (f : X → Y) (xs : List X) → position_or_len p (map f xs) ≡ position_or_len (λ x. p (f x)) xs
position_or_len-map p f [] = refl
position_or_len-map p f (x ∷ xs) = ap (λ n. cond (not (p (f x))) (1 + n) 0) (position_or_len-map p f xs)

position-map : {X Y : Type 0} (p : Y → Bool) (f : X → Y) (xs : List X) → position p (map f xs) ≡ position (λ x. p (f x)) xs
position-map p f xs = λ i. cond (nat_lt (position_or_len-map p f xs i) (length-map xs f i)) (Some (position_or_len-map p f xs i)) None

bytes_eq-swap : (a b : List ℕ) → bytes_eq a b ≡ bytes_eq b a
bytes_eq-swap a b = by (bytes_eq a b) (bytes_eq b a) refl refl
  where
    by : (x y : Bool) → bytes_eq a b ≡ x → bytes_eq b a ≡ y → x ≡ y
    by true true e f = refl
    by false false e f = refl
    by true false e f = sym ((bytes_eq-Decides b a).1 (sym ((bytes_eq-Decides a b).0 e))) ∙ f
    by false true e f = sym e ∙ (bytes_eq-Decides a b).1 (sym ((bytes_eq-Decides b a).0 f))

-- ---- found by name

-- where the name stands among the keys, its zone stands among the zones
pub named_at : (entries : List (List ℕ × ZoneHead)) (name : List ℕ) → AreByName entries → position (bytes_eq name) (keys_of entries) ≡ zone_named (values_of entries) name
named_at entries name by_name =
    ap (position (bytes_eq name)) by_name.named
    ∙ (position-map (bytes_eq name) (λ (z : ZoneHead). z.name) (values_of entries)
    ∙ (λ i. position (λ (z : ZoneHead). bytes_eq-swap name z.name i) (values_of entries)))

-- where the test of a name is passed, the zone has the name
has_name : (zones : List ZoneHead) (name : List ℕ) (place : ℕ) (d : ZoneHead) → zone_named zones name ≡ Some place → (place < length zones) × ((get_or zones place d).name ≡ name)
has_name zones name place d found =
    let there = position-Some (λ (z : ZoneHead). bytes_eq z.name name) zones place d found in
    (there.0, (bytes_eq-Decides (get_or zones place d).name name).0 there.1)

-- the names of the zones differ
pub zones_differ : (entries : List (List ℕ × ZoneHead)) → AreByName entries → Differ (called (values_of entries))
zones_differ entries by_name = subst Differ by_name.named by_name.differ

-- ---- the primary zone of a name

-- the zone of this name, where it is primary
pub primary_there : (zones : List ZoneHead) (name : List ℕ) (place : ℕ) (zone : ZoneHead) → Differ (called zones) → zone_named zones name ≡ Some place → slice_get zones place ≡ Some zone → zone.parent ≡ None
    → primary_named zones name ≡ Some place
primary_there zones name place zone differ found is none =
    let there = has_name zones name place zone found in
    subst (λ (t : List ℕ). primary_named zones t ≡ Some place) (zone_name_at zones place zone there.0 ∙ there.1) (primary_found zones place zone differ is none)

-- what a primary zone of this name is
record PrimaryNamed (zones : List ZoneHead) (name : List ℕ) (place : ℕ) (d : ZoneHead) : Type 0 where
  inside : place < length zones
  named : (get_or zones place d).name ≡ name
  primary : not (is_some (get_or zones place d).parent) ≡ true

primary_is : (zones : List ZoneHead) (name : List ℕ) (place : ℕ) (d : ZoneHead) → primary_named zones name ≡ Some place → PrimaryNamed zones name place d
primary_is zones name place d found =
    let there = position-Some (λ (z : ZoneHead). bytes_eq z.name name && not (is_some z.parent)) zones place d found in
    let both = and_parts (bytes_eq (get_or zones place d).name name) (not (is_some (get_or zones place d).parent)) there.1 in
    record { inside = there.0; named = (bytes_eq-Decides (get_or zones place d).name name).0 both.0; primary = both.1 }

-- a name has one zone
one_place : (zones : List ZoneHead) (i j : ℕ) (d : ZoneHead) → Differ (called zones) → i < length zones → j < length zones → (get_or zones i d).name ≡ (get_or zones j d).name → i ≡ j
one_place zones i j d differ inside_i inside_j same =
    let f : ZoneHead → List ℕ = λ z. z.name in
    let long : length (called zones) ≡ length zones = length-map zones f in
    let at_i : get_or (called zones) i [] ≡ (get_or zones i d).name = get_or-map f zones i d [] inside_i in
    let at_j : get_or (called zones) j [] ≡ (get_or zones j d).name = get_or-map f zones j d [] inside_j in
    elim (cases_order i j) [
      | inl e ↦ e
      | inr way ↦ elim way [
        | inl before ↦ absurd (differ i j [] before (omega arith) (at_i ∙ (same ∙ sym at_j)))
        | inr behind ↦ absurd (differ j i [] behind (omega arith) (at_j ∙ (sym same ∙ sym at_i)))
      ]
    ]

none_named : (zones : List ZoneHead) (name : List ℕ) (found : Option ℕ) → primary_named zones name ≡ found → ((place : ℕ) → primary_named zones name ≡ Some place → ⊥) → primary_named zones name ≡ None
none_named zones name None e never = e
none_named zones name (Some place) e never = absurd (never place e)

-- where the zone of this name is a secondary one, no primary zone has it
pub primary_secondary : (zones : List ZoneHead) (name : List ℕ) (place : ℕ) (zone : ZoneHead) (parent : ℕ) → Differ (called zones) → zone_named zones name ≡ Some place → slice_get zones place ≡ Some zone → zone.parent ≡ Some parent
    → primary_named zones name ≡ None
primary_secondary zones name place zone parent differ found is over =
    none_named zones name (primary_named zones name) refl (λ other at.
    let there = has_name zones name place zone found in
    let alone = primary_is zones name other zone at in
    let same : other ≡ place = one_place zones other place zone differ alone.inside there.0 (alone.named ∙ sym there.1) in
    let has_none : not (is_some (get_or zones place zone).parent) ≡ true = subst (λ (k : ℕ). not (is_some (get_or zones k zone).parent) ≡ true) same alone.primary in
    let here : get_or zones place zone ≡ zone = get_or_from_slice_get zones place zone zone is in
    true≢false (sym (sym (ap (λ (z : ZoneHead). not (is_some z.parent)) here ∙ ap (λ (o : Option ℕ). not (is_some o)) over) ∙ has_none)))

-- where no zone has this name, no primary one has
pub primary_absent : (zones : List ZoneHead) (name : List ℕ) → zone_named zones name ≡ None → primary_named zones name ≡ None
primary_absent zones name none =
    none_named zones name (primary_named zones name) refl (λ other at.
    let alone = primary_is zones name other nowhere at in
    let f : ZoneHead → List ℕ = λ z. z.name in
    let long : length (called zones) ≡ length zones = length-map zones f in
    let inside : other < length zones = alone.inside in
    not_named zones name (ap is_some none) other [] (omega arith) (get_or-map f zones other nowhere [] inside ∙ alone.named))

-- ---- a new zone

-- a zone whose name is new goes last
pub joined : (entries : List (List ℕ × ZoneHead)) (zone : ZoneHead) → AreByName entries → zone_named (values_of entries) zone.name ≡ None
    → insert_entry bytes_eq entries zone.name zone ≡ entries ++ (zone.name, zone) ∷ []
joined entries zone by_name new =
    let missing : Missing (bytes_eq zone.name) entries = Missing-position (bytes_eq zone.name) entries (named_at entries zone.name by_name ∙ new) in
    insert_entry-absent bytes_eq zone.name zone entries missing.absent

pub joined_values : (entries : List (List ℕ × ZoneHead)) (zone : ZoneHead) → AreByName entries → zone_named (values_of entries) zone.name ≡ None
    → values_of (insert_entry bytes_eq entries zone.name zone) ≡ values_of entries ++ zone ∷ []
joined_values entries zone by_name new =
    ap (λ (es : List (List ℕ × ZoneHead)). values_of es) (joined entries zone by_name new)
    ∙ map-append (λ (e : List ℕ × ZoneHead). e.1) entries ((zone.name, zone) ∷ [])

-- and is found by its name, as the others are
pub joined_by_name : (entries added : List (List ℕ × ZoneHead)) (zone : ZoneHead) → AreByName entries → length entries < 16 → zone_named (values_of entries) zone.name ≡ None
    → added ≡ insert_entry bytes_eq entries zone.name zone → IsDistinct bytes_eq (keys_of added) → AreByName added
joined_by_name entries added zone by_name room new is distinct =
    let whole : added ≡ entries ++ (zone.name, zone) ∷ [] = is ∙ joined entries zone by_name new in
    let f : ZoneHead → List ℕ = λ z. z.name in
    let key : List ℕ × ZoneHead → List ℕ = λ e. e.0 in
    let value : List ℕ × ZoneHead → ZoneHead = λ e. e.1 in
    let one : List (List ℕ × ZoneHead) = (zone.name, zone) ∷ [] in
    let keys : keys_of (entries ++ one) ≡ keys_of entries ++ zone.name ∷ [] = map-append key entries one in
    let values : values_of (entries ++ one) ≡ values_of entries ++ zone ∷ [] = map-append value entries one in
    let names : called (values_of entries ++ zone ∷ []) ≡ called (values_of entries) ++ zone.name ∷ [] = map-append f (values_of entries) (zone ∷ []) in
    let named : keys_of (entries ++ one) ≡ called (values_of (entries ++ one)) =
    keys ∙ (ap (λ (ks : List (List ℕ)). ks ++ zone.name ∷ []) by_name.named ∙ (sym names ∙ sym (ap called values))) in
    record {
      named = subst (λ (es : List (List ℕ × ZoneHead)). keys_of es ≡ called (values_of es)) (sym whole) named;
      differ = AllPairs-from_IsDistinct bytes_eq-Decides (keys_of added) distinct;
      few = let less : length entries < 16 = room in omega (arith, ap length whole, length-append entries one);
    }

-- ---- what the calls answer, where the zones are those of the entries

module _ (entries : List (List ℕ × ZoneHead)) (zones : List ZoneHead) (by_name : AreByName entries) (are : values_of entries ≡ zones) where
  -- the place of the zone of a name
  pub named_in : (name : List ℕ) → position (bytes_eq name) (keys_of entries) ≡ zone_named zones name
  named_in name = named_at entries name by_name ∙ ap (λ (zs : List ZoneHead). zone_named zs name) are

  names_differ_in : Differ (called zones)
  names_differ_in = subst (λ (zs : List ZoneHead). Differ (called zs)) are (zones_differ entries by_name)

  -- the zone of an entry
  zone_in : (place : ℕ) (key : List ℕ) (zone : ZoneHead) → slice_get entries place ≡ Some (key, zone) → slice_get zones place ≡ Some zone
  zone_in place key zone is =
      ap (λ (zs : List ZoneHead). slice_get zs place) (sym are)
      ∙ (slice_get-map (λ (e : List ℕ × ZoneHead). e.1) entries place ∙ ap (option_map (λ (e : List ℕ × ZoneHead). e.1)) is)

  -- the primary zone of a name
  pub primary_in : (name : List ℕ) (place : ℕ) (key : List ℕ) (zone : ZoneHead) → position (bytes_eq name) (keys_of entries) ≡ Some place → slice_get entries place ≡ Some (key, zone) → zone.parent ≡ None
      → primary_named zones name ≡ Some place
  primary_in name place key zone found is none =
      primary_there zones name place zone names_differ_in (sym (named_in name) ∙ found) (zone_in place key zone is) none

  pub secondary_in : (name : List ℕ) (place : ℕ) (key : List ℕ) (zone : ZoneHead) (parent : ℕ) → position (bytes_eq name) (keys_of entries) ≡ Some place → slice_get entries place ≡ Some (key, zone) → zone.parent ≡ Some parent
      → primary_named zones name ≡ None
  secondary_in name place key zone parent found is over =
      primary_secondary zones name place zone parent names_differ_in (sym (named_in name) ∙ found) (zone_in place key zone is) over

  pub absent_in : (name : List ℕ) → position (bytes_eq name) (keys_of entries) ≡ None → primary_named zones name ≡ None
  absent_in name none = primary_absent zones name (sym (named_in name) ∙ none)

  -- what a secondary zone over one of them is
  pub second_in : (second : SecondHead) (place : ℕ) (key : List ℕ) (primary : ZoneHead) → primary_named zones second.of ≡ Some place → slice_get entries place ≡ Some (key, primary)
      → second_zone (primary_named zones second.of) zones second ≡ second_over place (Some primary) second
  second_in second place key primary found is =
      ap (λ (o : Option ℕ). second_zone o zones second) found
      ∙ ap (λ (o : Option ZoneHead). second_over place o second) (zone_in place key primary is)

  module _ (added : List (List ℕ × ZoneHead)) (zone : ZoneHead) (key : List ℕ) (new : zone_named zones zone.name ≡ None) (same : key ≡ zone.name)
      (is : added ≡ insert_entry bytes_eq entries key zone) where
    new_in : zone_named (values_of entries) zone.name ≡ None
    new_in = ap (λ (zs : List ZoneHead). zone_named zs zone.name) are ∙ new

    added_is : added ≡ insert_entry bytes_eq entries zone.name zone
    added_is = is ∙ ap (λ (k : List ℕ). insert_entry bytes_eq entries k zone) same

    -- a new zone goes last
    pub joins_values : values_of added ≡ zones ++ zone ∷ []
    joins_values =
        ap (λ (es : List (List ℕ × ZoneHead)). values_of es) added_is
        ∙ (joined_values entries zone by_name new_in ∙ ap (λ (zs : List ZoneHead). zs ++ zone ∷ []) are)

    -- and is found by its name
    pub joins_by_name : length zones < 16 → IsDistinct bytes_eq (keys_of added) → AreByName added
    joins_by_name room distinct =
        let less : length zones < 16 = room in
        let long : length (values_of entries) ≡ length entries = length-map entries (λ (e : List ℕ × ZoneHead). e.1) in
        let whole : length (values_of entries) ≡ length zones = ap (λ (zs : List ZoneHead). length zs) are in
        joined_by_name entries added zone by_name (omega arith) new_in added_is distinct
