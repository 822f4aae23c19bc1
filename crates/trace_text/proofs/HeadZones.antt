-- What holds of the zones of a header: each stands, their names differ, and there are not too many, of all and of a keg.
use Rattle.std.proofs.Common.{◌≡◌, ◌≢◌, ℕ, zero, suc, ◌+◌, ◌<◌, ◌≤◌, Bool, true, false, cond, eqb, leb, not, ◌&&◌, List, [], ◌∷◌, ◌++◌, map, length, get_or, AllPairs, Option, Some, None, IfSome, IsSome, is_some, slice_get, position, refl, sym, ap, subst, ◌∙◌, arith, append-nil}
use Rattle.std.specs.List.{position_or_len}
use Rattle.std.specs.Option.{option_map_or}
use Rattle.std.specs.Str.{bytes_eq}
use Rattle.std.proofs.lemmas.Bool.{ltb-false, leb-false, eqb-true, and_parts, not-true, true≢false}
use Rattle.std.proofs.lemmas.List.{length_push, map_push}
use Rattle.std.proofs.lemmas.List.Quantifiers.{all_pairs_push, position-Some}
use Rattle.std.proofs.lemmas.List.Sums.{prefix_len_passes, sum_by_push}
use Rattle.std.proofs.lemmas.Option.{slice_get_within, get_or_from_slice_get}
use Rattle.std.proofs.lemmas.Slice.Eq.{bytes_eq-Decides}
use Rattle.zone_stats.specs.Name.{IsName}
use Rattle.trace_text.specs.declared.trace.ClockHead.{ClockHead}
use Rattle.trace_text.specs.declared.trace.ZoneHead.{ZoneHead}
use Rattle.trace_text.specs.declared.trace.ZoneKind.{ZoneKind}
use Rattle.trace_text.specs.declared.trace.ZoneKind.TheVariants.{Plain, Smr}
use Rattle.trace_text.specs.declared.trace_reading.parsed_line.SecondHead.{SecondHead}
use Rattle.trace_text.specs.Grammar.{zone_named, primary_named, second_over, second_zone, is_smr, fills_keg}
use Rattle.trace_text.specs.Limits.{IsWithin}
use Rattle.trace_text.specs.Valid.{KegFits, KindFits, sharer_count}
use Rattle.trace_text.proofs.HeadLines.{ZoneIsRead, SecondIsRead}

-- ---- lists

-- a list with more behind it has the same elements at its own places
pub slice_get_front : {X : Type 0} (xs ys : List X) (k : ℕ) → k < length xs → slice_get (xs ++ ys) k ≡ slice_get xs k
slice_get_front [] ys k lt = absurd (omega arith)
slice_get_front (x ∷ xs) ys zero lt = refl
slice_get_front (x ∷ xs) ys (suc k) lt = slice_get_front xs ys k (omega arith)

-- what holds of each element at its place
each_kept : {X : Type 0} (P Q : ℕ → X → Type 0) (xs : List X) → ((k : ℕ) (x : X) → k < length xs → P k x → Q k x) → ((k : ℕ) → IfSome (slice_get xs k) (P k)) → (k : ℕ) → IfSome (slice_get xs k) (Q k)
each_kept P Q [] f h k = tt
each_kept P Q (x ∷ xs) f h zero = f 0 x (omega arith) (h 0)
each_kept P Q (x ∷ xs) f h (suc k) = each_kept (λ j. P (suc j)) (λ j. Q (suc j)) xs (λ j y lt. f (suc j) y (omega arith)) (λ j. h (suc j)) k

-- the same of one element more, at the last place
each_push : {X : Type 0} (P : ℕ → X → Type 0) (xs : List X) (y : X) → ((k : ℕ) → IfSome (slice_get xs k) (P k)) → P (length xs) y → (k : ℕ) → IfSome (slice_get (xs ++ y ∷ []) k) (P k)
each_push P [] y h p zero = p
each_push P [] y h p (suc k) = tt
each_push P (x ∷ xs) y h p zero = h 0
each_push P (x ∷ xs) y h p (suc k) = each_push (λ j. P (suc j)) xs y (λ j. h (suc j)) p k

some_if : {X : Type 0} (b : Bool) (x : X) → is_some (cond b (Some x) None) ≡ b
some_if true x = refl
some_if false x = refl

-- where no position is found, no element passes the test
nowhere : {X : Type 0} (p : X → Bool) (xs : List X) → is_some (position p xs) ≡ false → (k : ℕ) (d : X) → k < length xs → p (get_or xs k d) ≡ false
nowhere p xs none k d lt =
    let late : length xs ≤ position_or_len p xs = ltb-false (position_or_len p xs) (length xs) (sym (some_if _ _) ∙ none) in
    not-true (p (get_or xs k d)) (prefix_len_passes (λ x. not (p x)) xs k d (omega arith))

-- ---- the zones of a header

-- the names of the zones
abbrev pub called : List ZoneHead → List (List ℕ)
called zones = map (λ (z : ZoneHead). z.name) zones

-- a zone at a place among these, where this is the clock
pub record StandsIn (clock : Option ClockHead) (zones : List ZoneHead) (place : ℕ) (z : ZoneHead) : Type 0 where
  pub name : IsName z.name
  pub keg : KegFits zones place z.parent z
  pub bucket : IsWithin 4 64 z.bucket
  pub limit : z.limit ≤ 1000000
  pub kind : KindFits clock z.kind

-- what holds of all zones of a header
pub record AreRight (clock : Option ClockHead) (zones : List ZoneHead) : Type 0 where
  pub stand : (place : ℕ) → IfSome (slice_get zones place) (StandsIn clock zones place)
  pub differ : AllPairs (λ (a b : List ℕ). a ≢ b) (called zones)
  pub few : length zones ≤ 16
  pub shared : (place : ℕ) → sharer_count zones place < 8

-- a zone that may be named next, behind these
pub record MayJoin (clock : Option ClockHead) (zones : List ZoneHead) (z : ZoneHead) : Type 0 where
  pub stands : StandsIn clock zones (length zones) z
  pub differs : (k : ℕ) (d : List ℕ) → k < length (called zones) → get_or (called zones) k d ≢ z.name
  pub few : length zones < 16
  pub shared : (place : ℕ) → option_map_or (λ parent. eqb parent place) z.parent false ≡ true → sharer_count zones place < 7

-- at most one zone, which may be named next
abbrev pub Join : Option ClockHead → List ZoneHead → List ZoneHead → Type 0
Join clock zones [] = Unit {0}
Join clock zones (z ∷ []) = MayJoin clock zones z
Join clock zones (z ∷ next ∷ more) = ⊥

pub none_are_right : (clock : Option ClockHead) → AreRight clock []
none_are_right clock = record {
  stand = λ place. tt;
  differ = λ i j d lt within. absurd (omega arith);
  few = omega arith;
  shared = λ place. omega arith;
}

-- ---- a clock more, and a zone more

kind_kept : (kind : ZoneKind) (clock next : Option ClockHead) → (IsSome clock → IsSome next) → KindFits clock kind → KindFits next kind
kind_kept Plain clock next grows k = tt
kind_kept Smr clock next grows k = grows k

pub with_clock : (clock next : Option ClockHead) (zones : List ZoneHead) → (IsSome clock → IsSome next) → AreRight clock zones → AreRight next zones
with_clock clock next zones grows right = record {
  stand = each_kept (StandsIn clock zones) (StandsIn next zones) zones
      (λ place z lt s. record { name = s.name; keg = s.keg; bucket = s.bucket; limit = s.limit; kind = kind_kept z.kind clock next grows s.kind })
      right.stand;
  differ = right.differ;
  few = right.few;
  shared = right.shared;
}

keg_kept : (zones more : List ZoneHead) (place : ℕ) (parent : Option ℕ) (z : ZoneHead) → place ≤ length zones → KegFits zones place parent z → KegFits (zones ++ more) place parent z
keg_kept zones more place None z le k = k
keg_kept zones more place (Some parent) z le k =
    let earlier : parent < place = k.earlier in
    let within : parent < length zones = omega arith in
    record { earlier = earlier; shares = rw (slice_get_front zones more parent within) k.shares }

stands_kept : (clock : Option ClockHead) (zones more : List ZoneHead) (place : ℕ) (z : ZoneHead) → place ≤ length zones → StandsIn clock zones place z → StandsIn clock (zones ++ more) place z
stands_kept clock zones more place z le s = record { name = s.name; keg = keg_kept zones more place z.parent z le s.keg; bucket = s.bucket; limit = s.limit; kind = s.kind }

one_more : (b : Bool) (n : ℕ) → n < 8 → (b ≡ true → n < 7) → n + cond b 1 0 < 8
one_more true n below room = let less : n < 7 = room refl in omega arith
one_more false n below room = omega arith

push_right : (clock : Option ClockHead) (zones : List ZoneHead) (z : ZoneHead) → AreRight clock zones → MayJoin clock zones z → AreRight clock (zones ++ z ∷ [])
push_right clock zones z right joins = record {
  stand = each_push (StandsIn clock (zones ++ z ∷ [])) zones z
      (each_kept (StandsIn clock zones) (StandsIn clock (zones ++ z ∷ [])) zones (λ place y lt s. stands_kept clock zones (z ∷ []) place y (omega arith) s) right.stand)
      (stands_kept clock zones (z ∷ []) (length zones) z (omega arith) joins.stands);
  differ = subst (AllPairs (λ (a b : List ℕ). a ≢ b)) (sym (map_push (λ (y : ZoneHead). y.name) zones z)) (all_pairs_push (λ (a b : List ℕ). a ≢ b) (called zones) z.name right.differ joins.differs);
  few = let room : length zones < 16 = joins.few in omega (arith, length_push zones z);
  shared = λ place.
      let f : ZoneHead → ℕ = λ y. cond (option_map_or (λ parent. eqb parent place) y.parent false) 1 0 in
      let more : sharer_count (zones ++ z ∷ []) place ≡ sharer_count zones place + f z = sum_by_push f zones z in
      let below : sharer_count zones place + f z < 8 = one_more (option_map_or (λ parent. eqb parent place) z.parent false) (sharer_count zones place) (right.shared place) (joins.shared place) in
      subst (λ (n : ℕ). n < 8) (sym more) below;
}

pub join_right : (clock : Option ClockHead) (zones added : List ZoneHead) → AreRight clock zones → Join clock zones added → AreRight clock (zones ++ added)
join_right clock zones [] right joins = subst (AreRight clock) (sym (append-nil zones)) right
join_right clock zones (z ∷ []) right joins = push_right clock zones z right joins
join_right clock zones (z ∷ next ∷ more) right joins = absurd joins

-- ---- the tests of a zone by the earlier ones

-- a name that no zone before has
pub names_differ : (zones : List ZoneHead) (name : List ℕ) → ((k : ℕ) (d : ZoneHead) → k < length zones → bytes_eq (get_or zones k d).name name ≡ false) → (k : ℕ) (d : List ℕ) → k < length (called zones) → get_or (called zones) k d ≢ name
names_differ [] name h k d lt = absurd (omega arith)
names_differ (z ∷ zones) name h zero d lt = λ same. true≢false (sym ((bytes_eq-Decides z.name name).1 same) ∙ h 0 z (omega arith))
names_differ (z ∷ zones) name h (suc k) d lt = names_differ zones name (λ j y within. h (suc j) y (omega arith)) k d (omega arith)

pub not_named : (zones : List ZoneHead) (name : List ℕ) → is_some (zone_named zones name) ≡ false → (k : ℕ) (d : List ℕ) → k < length (called zones) → get_or (called zones) k d ≢ name
not_named zones name none = names_differ zones name (nowhere (λ (z : ZoneHead). bytes_eq z.name name) zones none)

-- an SMR zone that passes the test has a clock
kind_fits : (kind : ZoneKind) (clock : Option ClockHead) → (is_smr kind && not (is_some clock)) ≡ false → KindFits clock kind
kind_fits Plain clock e = tt
kind_fits Smr (Some c) e = refl
kind_fits Smr None e = absurd (true≢false e)

-- a primary zone that passes the tests may be named next
pub zone_joins : (clock : Option ClockHead) (zones : List ZoneHead) (z : ZoneHead) → ZoneIsRead z → (is_smr z.kind && not (is_some clock)) ≡ false → is_some (zone_named zones z.name) ≡ false → leb 16 (length zones) ≡ false → MayJoin clock zones z
zone_joins clock zones z read clocked named most = record {
  stands = record {
    name = read.name;
    keg = subst (λ (parent : Option ℕ). KegFits zones (length zones) parent z) (sym read.alone) read.primary;
    bucket = read.bucket;
    limit = read.limit;
    kind = kind_fits z.kind clock clocked;
  };
  differs = not_named zones z.name named;
  few = leb-false 16 (length zones) most;
  shared = λ place is. absurd (true≢false (sym is ∙ ap (λ (parent : Option ℕ). option_map_or (λ (p : ℕ). eqb p place) parent false) read.alone));
}

no_parent : (parent : Option ℕ) → is_some parent ≡ false → parent ≡ None
no_parent None e = refl
no_parent (Some p) e = absurd (true≢false e)

-- the zone of a secondary line over this primary one
abbrev second_of : ℕ → ZoneHead → SecondHead → ZoneHead
second_of place primary second =
    record { name = second.name; parent = Some place; size = primary.size; slabs = primary.slabs; bucket = second.bucket; limit = second.limit; reserve = primary.reserve; kind = second.kind }

-- so may a secondary zone over the primary zone that its line names
second_at : (clock : Option ClockHead) (zones : List ZoneHead) (second : SecondHead) (place : ℕ) (primary : ZoneHead)
    → primary_named zones second.of ≡ Some place → slice_get zones place ≡ Some primary
    → SecondIsRead second → (is_smr second.kind && not (is_some clock)) ≡ false → is_some (zone_named zones second.name) ≡ false → leb 16 (length zones) ≡ false → leb 7 (sharer_count zones place) ≡ false
    → MayJoin clock zones (second_of place primary second)
second_at clock zones second place primary found is read clocked named most full =
    let within : place < length zones = slice_get_within zones place primary is in
    let same : get_or zones place primary ≡ primary = get_or_from_slice_get zones place primary primary is in
    let tested : (bytes_eq (get_or zones place primary).name second.of && not (is_some (get_or zones place primary).parent)) ≡ true =
    (position-Some (λ (z : ZoneHead). bytes_eq z.name second.of && not (is_some z.parent)) zones place primary found).1 in
    let passes : (bytes_eq primary.name second.of && not (is_some primary.parent)) ≡ true =
    subst (λ (z : ZoneHead). (bytes_eq z.name second.of && not (is_some z.parent)) ≡ true) same tested in
    let alone : primary.parent ≡ None = no_parent primary.parent (not-true (is_some primary.parent) (and_parts (bytes_eq primary.name second.of) (not (is_some primary.parent)) passes).1) in
    let room : sharer_count zones place < 7 = leb-false 7 (sharer_count zones place) full in
    record {
      stands = record {
        name = read.name;
        keg = record { earlier = within; shares = rw is (alone, refl, refl, refl) };
        bucket = read.bucket;
        limit = read.limit;
        kind = kind_fits second.kind clock clocked;
      };
      differs = not_named zones second.name named;
      few = leb-false 16 (length zones) most;
      shared = λ other here. subst (λ (p : ℕ). sharer_count zones p < 7) (eqb-true place other here) room;
    }

second_over_joins : (clock : Option ClockHead) (zones : List ZoneHead) (second : SecondHead) (place : ℕ) (o : Option ZoneHead)
    → primary_named zones second.of ≡ Some place → slice_get zones place ≡ o
    → SecondIsRead second → (is_smr second.kind && not (is_some clock)) ≡ false → is_some (zone_named zones second.name) ≡ false → leb 16 (length zones) ≡ false → leb 7 (sharer_count zones place) ≡ false
    → Join clock zones (second_over place o second)
second_over_joins clock zones second place None found is read clocked named most full = tt
second_over_joins clock zones second place (Some primary) found is read clocked named most full = second_at clock zones second place primary found is read clocked named most full

pub second_joins : (clock : Option ClockHead) (zones : List ZoneHead) (second : SecondHead) (o : Option ℕ)
    → primary_named zones second.of ≡ o
    → SecondIsRead second → (is_smr second.kind && not (is_some clock)) ≡ false → is_some (zone_named zones second.name) ≡ false → leb 16 (length zones) ≡ false → fills_keg zones o ≡ false
    → Join clock zones (second_zone o zones second)
second_joins clock zones second None found read clocked named most full = tt
second_joins clock zones second (Some place) found read clocked named most full = second_over_joins clock zones second place (slice_get zones place) found refl read clocked named most full
