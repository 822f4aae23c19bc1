-- The canonical text of a trace is the text of its rows, and those of a valid trace are right.
use Rattle.std.proofs.Common.{◌≡◌, ℕ, zero, suc, ◌+◌, ◌%◌, ◌^◌, ◌<◌, ◌≤◌, Bool, true, false, cond, not, eqb, leb, List, [], ◌∷◌, ◌++◌, length, get_or, map, Option, Some, None, refl, sym, ap, subst, ◌∙◌, length-append, append-nil, arith}
use Rattle.std.specs.Prelude.{All, ◌&&◌, ◌||◌, IfSome, IsSome, codes, slice_get}
use Rattle.std.specs.Char.{is_ascii_alphanumeric}
use Rattle.std.specs.Fmt.{decimal}
use Rattle.std.specs.Int.{IsInRange, is_in_range}
use Rattle.std.specs.List.{flat_map, list_all, AllByRecursion}
use Rattle.std.specs.Option.{option_map_or}
use Rattle.std.proofs.lemmas.Bool.{leb-true, eqb-true, eqb-false, not-true, and_parts}
use Rattle.std.proofs.lemmas.Fmt.{decimal_by_steps}
use Rattle.std.proofs.lemmas.List.Concat.{flat_map-append}
use Rattle.std.proofs.lemmas.List.Elements.{All-cons, All-nil, All-head, All-tail, All-map, All-push, All-from_recursion, recursion_from_All}
use Rattle.std.proofs.lemmas.List.Sums.{AllPass-from_list_all}
use Rattle.std.proofs.lemmas.Option.{slice_get-get_or}
use Rattle.zone_stats.specs.Name.{IsName, is_name_character}
use Rattle.trace_text.specs.declared.trace.Between.{Between}
use Rattle.trace_text.specs.declared.trace.Between.TheVariants.{Give, SetMax}
use Rattle.trace_text.specs.declared.trace.ClockHead.{ClockHead}
use Rattle.trace_text.specs.declared.trace.Head.{Head}
use Rattle.trace_text.specs.declared.trace.NamesHead.{NamesHead}
use Rattle.trace_text.specs.declared.trace.ZoneHead.{ZoneHead}
use Rattle.trace_text.specs.declared.trace.ZoneKind.{ZoneKind}
use Rattle.trace_text.specs.declared.trace.ZoneKind.TheVariants.{Plain, Smr}
use Rattle.trace_text.specs.declared.trace.Op.{Op}
use Rattle.trace_text.specs.declared.trace.Op.TheVariants.{Alloc, Free, Enter, Exit, Bind, Unbind, Look, Trim, Drain, DrainSeat, Prealloc, Away, Back}
use Rattle.trace_text.specs.declared.trace.Round.{Round}
use Rattle.trace_text.specs.declared.trace.Trace.{Trace}
use Rattle.trace_text.specs.declared.trace.Version.{Version}
use Rattle.trace_text.specs.declared.trace.Version.TheVariants as versions
use Rattle.trace_lines.specs.CanonicalLine.{line}
use Rattle.trace_print.specs.CanonicalText.{kind_word, zone_fields, zone_line, clock_text, detail_text, names_text, first_line, version_word, head_text, arg_fields, reserve_fields, op_fields, op_line, ops_text, between_fields, between_line, rounds_text, canonical_text}
use Rattle.trace_text.specs.NamedZones.{zone_name}
use Rattle.trace_text.specs.Valid.{BetweenFits, ClockFits, HeadFits, IsValid, KegFits, NamesFits, OpFits, RoundFits, ZoneFits}
use Rattle.trace_print.proofs.CanonicalRows.{clock_rows, detail_rows, names_rows, head_rows, ops_rows, rounds_rows, first_row, trace_rows}
use Rattle.trace_print.proofs.RowText.{IsRow, IsWord}

-- ---- the text of the rows

joined : (xs ys : List (List (List ℕ))) (a b : List ℕ) → a ≡ flat_map line xs → b ≡ flat_map line ys → a ++ b ≡ flat_map line (xs ++ ys)
joined xs ys a b e f = ap (λ (t : List ℕ). t ++ b) e ∙ ap (λ (t : List ℕ). flat_map line xs ++ t) f ∙ sym (flat_map-append line xs ys)

one_row : (row : List (List ℕ)) → line row ≡ flat_map line (row ∷ [])
one_row row = sym (append-nil (line row))

each_row : {X : Type 0} (text : X → List ℕ) (row : X → List (List ℕ)) → ((x : X) → text x ≡ line (row x)) → (xs : List X) → flat_map text xs ≡ flat_map line (map row xs)
each_row text row same [] = refl
each_row text row same (x ∷ xs) = ap (λ (t : List ℕ). t ++ flat_map text xs) (same x) ∙ ap (λ (t : List ℕ). line (row x) ++ t) (each_row text row same xs)

clock_text_is : (clock : Option ClockHead) → clock_text clock ≡ flat_map line (clock_rows clock)
clock_text_is None = refl
clock_text_is (Some c) = one_row (codes "clock" ∷ decimal c.start ∷ decimal c.window ∷ [])

detail_text_is : (detail : Bool) → detail_text detail ≡ flat_map line (detail_rows detail)
detail_text_is false = refl
detail_text_is true = one_row (codes "detail" ∷ [])

names_text_is : (names : Option NamesHead) → names_text names ≡ flat_map line (names_rows names)
names_text_is None = refl
names_text_is (Some n) = one_row (codes "names" ∷ n.name ∷ decimal n.rows ∷ decimal n.slabs ∷ decimal n.bucket ∷ [])

zones_text_is : (zones heads : List ZoneHead) → flat_map (zone_line zones) heads ≡ flat_map line (map (λ (z : ZoneHead). zone_fields zones z.parent z) heads)
zones_text_is zones heads = each_row (zone_line zones) (λ (z : ZoneHead). zone_fields zones z.parent z) (λ z. refl) heads

behind_domains : (h : Head) → clock_text h.clock ++ (detail_text h.detail ++ (flat_map (zone_line h.zones) h.zones ++ names_text h.names))
    ≡ flat_map line (clock_rows h.clock ++ (detail_rows h.detail ++ (map (λ (z : ZoneHead). zone_fields h.zones z.parent z) h.zones ++ names_rows h.names)))
behind_domains h =
    let zones : List (List (List ℕ)) = map (λ (z : ZoneHead). zone_fields h.zones z.parent z) h.zones in
    joined (clock_rows h.clock) (detail_rows h.detail ++ (zones ++ names_rows h.names)) _ _ (clock_text_is h.clock)
    (joined (detail_rows h.detail) (zones ++ names_rows h.names) _ _ (detail_text_is h.detail)
    (joined zones (names_rows h.names) _ _ (zones_text_is h.zones h.zones) (names_text_is h.names)))

head_text_is : (h : Head) → head_text h ≡ flat_map line (head_rows h)
head_text_is h =
    ap (λ (t : List ℕ). line (codes "workers" ∷ decimal h.workers ∷ []) ++ (line (codes "domains" ∷ decimal h.domains ∷ []) ++ t)) (behind_domains h)

ops_text_is : (zones : List ZoneHead) (w : ℕ) (lists : List (List Op)) → ops_text zones w lists ≡ flat_map line (ops_rows zones w lists)
ops_text_is zones w [] = refl
ops_text_is zones w (ops ∷ lists) =
    joined (map (op_fields zones w) ops) (ops_rows zones (w + 1) lists) _ _ (each_row (op_line zones w) (op_fields zones w) (λ op. refl) ops) (ops_text_is zones (w + 1) lists)

rounds_text_is : (zones : List ZoneHead) (rounds : List Round) → rounds_text zones rounds ≡ flat_map line (rounds_rows zones rounds)
rounds_text_is zones [] = refl
rounds_text_is zones (r ∷ []) = ops_text_is zones 0 r.ops
rounds_text_is zones (r ∷ next ∷ rounds) =
    joined (ops_rows zones 0 r.ops) ((codes "round" ∷ []) ∷ (map (between_fields zones) r.between ++ rounds_rows zones (next ∷ rounds))) _ _ (ops_text_is zones 0 r.ops)
    (ap (λ (t : List ℕ). line (codes "round" ∷ []) ++ t)
    (joined (map (between_fields zones) r.between) (rounds_rows zones (next ∷ rounds)) _ _ (each_row (between_line zones) (between_fields zones) (λ between. refl) r.between) (rounds_text_is zones (next ∷ rounds))))

pub text_is : (t : Trace) → canonical_text t ≡ flat_map line (trace_rows t)
text_is t =
    ap (λ (more : List ℕ). first_line t.version ++ more)
    (joined (head_rows t.head) (rounds_rows t.head.zones t.rounds ++ (codes "end" ∷ []) ∷ []) _ _ (head_text_is t.head)
    (joined (rounds_rows t.head.zones t.rounds) ((codes "end" ∷ []) ∷ []) _ _ (rounds_text_is t.head.zones t.rounds) (one_row (codes "end" ∷ []))))

-- ---- words

in_range : (low high n : ℕ) → is_in_range low high n ≡ true → IsInRange low high n
in_range low high n e = let both = and_parts (leb low n) (leb n high) e in (leb-true low n both.0, leb-true n high both.1)

-- of a word that is written out
abbrev is_word : List ℕ → Bool
is_word word = leb 1 (length word) && list_all (is_in_range 33 126) word

IsWord-from_is_word : (word : List ℕ) → is_word word ≡ true → IsWord word
IsWord-from_is_word word e =
    let both = and_parts (leb 1 (length word)) (list_all (is_in_range 33 126) word) e in
    let pass = AllPass-from_list_all (is_in_range 33 126) word both.1 in
    record { nonempty = leb-true 1 (length word) both.0; shown = λ k d lt. in_range 33 126 (get_or word k d) (pass k d lt) }

number_word : (n : ℕ) → n < 2 ^ 64 → IsWord (decimal n)
number_word n fits = decimal_by_steps (λ _ ds. IsWord ds) one more n fits where
  one : (n : ℕ) → n < 10 → IsWord ((48 + n) ∷ [])
  one n lt = record { nonempty = omega arith; shown = All-cons (IsInRange 33 126) (48 + n) [] (omega arith) (All-nil (IsInRange 33 126)) }

  more : (n : ℕ) (ds : List ℕ) → 10 ≤ n → IsWord ds → IsWord (ds ++ ((48 + n % 10) ∷ []))
  more n ds le is = record { nonempty = omega (arith, length-append ds ((48 + n % 10) ∷ [])); shown = All-push (IsInRange 33 126) ds (48 + n % 10) is.shown (omega arith) }

either : (x y : Bool) (A : Type 0) → (x || y) ≡ true → (x ≡ true → A) → (y ≡ true → A) → A
either true y A e f g = f refl
either false y A e f g = g e

alphanumeric_shown : (c : ℕ) → is_ascii_alphanumeric c ≡ true → IsInRange 33 126 c
alphanumeric_shown c e =
    either (is_in_range 48 57 c || is_in_range 65 90 c) (is_in_range 97 122 c) (IsInRange 33 126 c) e
    (λ f. either (is_in_range 48 57 c) (is_in_range 65 90 c) (IsInRange 33 126 c) f (λ g. omega (arith, in_range 48 57 c g)) (λ g. omega (arith, in_range 65 90 c g)))
    (λ f. omega (arith, in_range 97 122 c f))

character_shown : (c : ℕ) → is_name_character c ≡ true → IsInRange 33 126 c
character_shown c e =
    either (is_ascii_alphanumeric c || eqb c 95) (eqb c 45) (IsInRange 33 126 c) e
    (λ f. either (is_ascii_alphanumeric c) (eqb c 95) (IsInRange 33 126 c) f (alphanumeric_shown c) (λ g. omega (arith, eqb-true c 95 g)))
    (λ f. omega (arith, eqb-true c 45 f))

name_word : (name : List ℕ) → IsName name → IsWord name
name_word name is = record { nonempty = is.nonempty; shown = λ k d lt. character_shown (get_or name k d) (is.characters k d lt) }

kind_is_word : (kind : ZoneKind) → IsWord (kind_word kind)
kind_is_word Plain = IsWord-from_is_word (codes "plain") refl
kind_is_word Smr = IsWord-from_is_word (codes "smr") refl

-- ---- rows that begin with a word that is written out

abbrev is_first_word : List ℕ → Bool
is_first_word word = is_word word && not (eqb (get_or word 0 0) 35)

row_of : (word : List ℕ) (fields : List (List ℕ)) → is_first_word word ≡ true → AllByRecursion IsWord fields → IsRow (word ∷ fields)
row_of word fields e words =
    let both = and_parts (is_word word) (not (eqb (get_or word 0 0) 35)) e in
    record {
      nonempty = omega arith;
      words = All-cons IsWord word fields (IsWord-from_is_word word both.0) (All-from_recursion IsWord fields words);
      no_comment = eqb-false (get_or word 0 0) 35 (not-true _ both.1);
    }

appended : {X : Type 0} (P : X → Type 0) (xs ys : List X) → AllByRecursion P xs → AllByRecursion P ys → AllByRecursion P (xs ++ ys)
appended P [] ys left right = right
appended P (x ∷ xs) ys left right = (left.0, appended P xs ys left.1 right)

mapped : {X : Type 0} (row : X → List (List ℕ)) (xs : List X) → All (λ (x : X). IsRow (row x)) xs → AllByRecursion IsRow (map row xs)
mapped row xs each = recursion_from_All IsRow (map row xs) (All-map IsRow row xs each)

-- ---- rows of the head

clock_right : (clock : Option ClockHead) → IfSome clock ClockFits → AllByRecursion IsRow (clock_rows clock)
clock_right None fits = tt
clock_right (Some c) fits =
    (row_of (codes "clock") (decimal c.start ∷ decimal c.window ∷ []) refl (number_word c.start (omega (arith, fits.start)), (number_word c.window (omega (arith, fits.window)), tt)), tt)

detail_right : (detail : Bool) → AllByRecursion IsRow (detail_rows detail)
detail_right false = tt
detail_right true = (row_of (codes "detail") [] refl tt, tt)

names_right : (h : Head) (names : Option NamesHead) → IfSome names (NamesFits h) → AllByRecursion IsRow (names_rows names)
names_right h None fits = tt
names_right h (Some n) fits =
    let numbers : AllByRecursion IsWord (decimal n.rows ∷ decimal n.slabs ∷ decimal n.bucket ∷ []) =
    (number_word n.rows (omega (arith, fits.rows)), (number_word n.slabs (omega (arith, fits.slabs)), (number_word n.bucket (omega (arith, fits.bucket)), tt))) in
    (row_of (codes "names") (n.name ∷ decimal n.rows ∷ decimal n.slabs ∷ decimal n.bucket ∷ []) refl (name_word n.name fits.name, numbers), tt)

-- the names of zones that are there
abbrev AreNamed : List ZoneHead → Type 0
AreNamed zones = (z : ℕ) → z < length zones → IsWord (zone_name zones z)

fits_at : (h : Head) → HeadFits h → (place : ℕ) (d : ZoneHead) → place < length h.zones → ZoneFits h place (get_or h.zones place d)
fits_at h fits place d lt =
    let P : Option ZoneHead → Type 0 = λ o. IfSome o (ZoneFits h place) in
    subst P (slice_get-get_or h.zones place d lt) (fits.zones place)

is_there : {X : Type 0} (xs : List X) (i : ℕ) → i < length xs → IsSome (slice_get xs i)
is_there [] i lt = absurd (omega arith)
is_there (x ∷ xs) zero lt = refl
is_there (x ∷ xs) (suc i) lt = is_there xs i (omega arith)

named : (h : Head) (place : ℕ) (o : Option ZoneHead) → IsSome o → IfSome o (ZoneFits h place) → IsWord (option_map_or (λ (z : ZoneHead). z.name) o [])
named h place None some fits = absurd cc
named h place (Some z) some fits = name_word z.name fits.name

are_named : (h : Head) → HeadFits h → AreNamed h.zones
are_named h fits place lt = named h place (slice_get h.zones place) (is_there h.zones place lt) (fits.zones place)

zone_right : (h : Head) (place : ℕ) (z : ZoneHead) (parent : Option ℕ) → AreNamed h.zones → place < length h.zones → ZoneFits h place z → KegFits h.zones place parent z → IsRow (zone_fields h.zones parent z)
zone_right h place z None names lt fits keg =
    let last : AllByRecursion IsWord (decimal z.limit ∷ decimal z.reserve ∷ kind_word z.kind ∷ []) =
    (number_word z.limit (omega (arith, fits.limit)), (number_word z.reserve (omega (arith, keg.reserve)), (kind_is_word z.kind, tt))) in
    let numbers : AllByRecursion IsWord (decimal z.size ∷ decimal z.slabs ∷ decimal z.bucket ∷ decimal z.limit ∷ decimal z.reserve ∷ kind_word z.kind ∷ []) =
    (number_word z.size (omega (arith, keg.size)), (number_word z.slabs (omega (arith, keg.slabs)), (number_word z.bucket (omega (arith, fits.bucket)), last))) in
    row_of (codes "zone") (z.name ∷ decimal z.size ∷ decimal z.slabs ∷ decimal z.bucket ∷ decimal z.limit ∷ decimal z.reserve ∷ kind_word z.kind ∷ []) refl (name_word z.name fits.name, numbers)
zone_right h place z (Some primary) names lt fits keg =
    row_of (codes "second") (z.name ∷ zone_name h.zones primary ∷ decimal z.bucket ∷ decimal z.limit ∷ kind_word z.kind ∷ []) refl
    (name_word z.name fits.name, (names primary (omega (arith, keg.earlier)), (number_word z.bucket (omega (arith, fits.bucket)), (number_word z.limit (omega (arith, fits.limit)), (kind_is_word z.kind, tt)))))

zones_right : (h : Head) → HeadFits h → AllByRecursion IsRow (map (λ (z : ZoneHead). zone_fields h.zones z.parent z) h.zones)
zones_right h fits = mapped (λ (z : ZoneHead). zone_fields h.zones z.parent z) h.zones each where
  each : All (λ (z : ZoneHead). IsRow (zone_fields h.zones z.parent z)) h.zones
  each k d lt =
      let z : ZoneHead = get_or h.zones k d in
      let at : ZoneFits h k z = fits_at h fits k d lt in
      zone_right h k z z.parent (are_named h fits) lt at at.keg

head_right : (h : Head) → HeadFits h → AllByRecursion IsRow (head_rows h)
head_right h fits =
    let zones : List (List (List ℕ)) = map (λ (z : ZoneHead). zone_fields h.zones z.parent z) h.zones in
    let workers : IsRow (codes "workers" ∷ decimal h.workers ∷ []) = row_of (codes "workers") (decimal h.workers ∷ []) refl (number_word h.workers (omega (arith, fits.workers)), tt) in
    let domains : IsRow (codes "domains" ∷ decimal h.domains ∷ []) = row_of (codes "domains") (decimal h.domains ∷ []) refl (number_word h.domains (omega (arith, fits.domains)), tt) in
    let others : AllByRecursion IsRow (clock_rows h.clock ++ (detail_rows h.detail ++ (zones ++ names_rows h.names))) =
    appended IsRow (clock_rows h.clock) (detail_rows h.detail ++ (zones ++ names_rows h.names)) (clock_right h.clock fits.clock)
    (appended IsRow (detail_rows h.detail) (zones ++ names_rows h.names) (detail_right h.detail)
    (appended IsRow zones (names_rows h.names) (zones_right h fits) (names_right h h.names fits.names))) in (workers, (domains, others))

version_is_word : (version : Version) → IsWord (version_word version)
version_is_word versions.One = IsWord-from_is_word (codes "1") refl
version_is_word versions.Two = IsWord-from_is_word (codes "2") refl
version_is_word versions.Three = IsWord-from_is_word (codes "3") refl

first_right : (version : Version) → IsRow (first_row version)
first_right version = row_of (codes "uma") (version_word version ∷ []) refl (version_is_word version, tt)

-- ---- rows of the rounds

arg_words : (arg : ℕ) → arg ≤ 254 → AllByRecursion IsWord (arg_fields arg)
arg_words arg le = by_test (eqb arg 0) where
  by_test : (none : Bool) → AllByRecursion IsWord (cond none [] (codes "arg" ∷ decimal arg ∷ []))
  by_test true = tt
  by_test false = (IsWord-from_is_word (codes "arg") refl, (number_word arg (omega arith), tt))

reserve_words : (reserve : Bool) → AllByRecursion IsWord (reserve_fields reserve)
reserve_words true = (IsWord-from_is_word (codes "reserve") refl, tt)
reserve_words false = tt

op_right : (h : Head) (w : ℕ) → AreNamed h.zones → w < 2 ^ 64 → (op : Op) → OpFits h op → IsRow (op_fields h.zones w op)
op_right h w names lt (Alloc zone slot arg reserve) fits =
    row_of (codes "alloc") (decimal w ∷ zone_name h.zones zone ∷ decimal slot ∷ (arg_fields arg ++ reserve_fields reserve)) refl
    (number_word w lt, (names zone fits.0, (number_word slot (omega (arith, fits.1)), appended IsWord (arg_fields arg) (reserve_fields reserve) (arg_words arg fits.2) (reserve_words reserve))))
op_right h w names lt (Free slot) fits = row_of (codes "free") (decimal w ∷ decimal slot ∷ []) refl (number_word w lt, (number_word slot (omega (arith, fits)), tt))
op_right h w names lt Enter fits = row_of (codes "enter") (decimal w ∷ []) refl (number_word w lt, tt)
op_right h w names lt Exit fits = row_of (codes "exit") (decimal w ∷ []) refl (number_word w lt, tt)
op_right h w names lt Away fits = row_of (codes "away") (decimal w ∷ []) refl (number_word w lt, tt)
op_right h w names lt Back fits = row_of (codes "back") (decimal w ∷ []) refl (number_word w lt, tt)
op_right h w names lt (Bind key value) fits = row_of (codes "bind") (decimal w ∷ decimal key ∷ decimal value ∷ []) refl (number_word w lt, (number_word key fits.1, (number_word value fits.2, tt)))
op_right h w names lt (Unbind key) fits = row_of (codes "unbind") (decimal w ∷ decimal key ∷ []) refl (number_word w lt, (number_word key fits.1, tt))
op_right h w names lt (Look key) fits = row_of (codes "look") (decimal w ∷ decimal key ∷ []) refl (number_word w lt, (number_word key fits.1, tt))
op_right h w names lt (Trim zone) fits = row_of (codes "trim") (decimal w ∷ zone_name h.zones zone ∷ []) refl (number_word w lt, (names zone fits, tt))
op_right h w names lt (Drain zone) fits = row_of (codes "drain") (decimal w ∷ zone_name h.zones zone ∷ []) refl (number_word w lt, (names zone fits, tt))
op_right h w names lt (DrainSeat zone) fits = row_of (codes "drainseat") (decimal w ∷ zone_name h.zones zone ∷ []) refl (number_word w lt, (names zone fits, tt))
op_right h w names lt (Prealloc zone items) fits =
    row_of (codes "prealloc") (decimal w ∷ zone_name h.zones zone ∷ decimal items ∷ []) refl (number_word w lt, (names zone fits.0, (number_word items (omega (arith, fits.1)), tt)))

ops_right : (h : Head) (w : ℕ) (lists : List (List Op)) → AreNamed h.zones → w + length lists ≤ 16 → All (All (OpFits h)) lists → AllByRecursion IsRow (ops_rows h.zones w lists)
ops_right h w [] names le fits = tt
ops_right h w (ops ∷ lists) names le fits =
    let each : All (OpFits h) ops = All-head (All (OpFits h)) ops lists fits in
    appended IsRow (map (op_fields h.zones w) ops) (ops_rows h.zones (w + 1) lists)
    (mapped (op_fields h.zones w) ops (λ k d lt. op_right h w names (omega arith) (get_or ops k d) (each k d lt)))
    (ops_right h (w + 1) lists names (omega arith) (All-tail (All (OpFits h)) ops lists fits))

between_right : (h : Head) → AreNamed h.zones → h.workers ≤ 16 → (between : Between) → BetweenFits h between → IsRow (between_fields h.zones between)
between_right h names le (SetMax zone limit) fits =
    row_of (codes "setmax") (zone_name h.zones zone ∷ decimal limit ∷ []) refl (names zone fits.0, (number_word limit (omega (arith, fits.1)), tt))
between_right h names le (Give giver slot taker slot2) fits =
    row_of (codes "give") (decimal giver ∷ decimal slot ∷ decimal taker ∷ decimal slot2 ∷ []) refl
    (number_word giver (omega (arith, fits.0)), (number_word slot (omega (arith, fits.1)), (number_word taker (omega (arith, fits.2)), (number_word slot2 (omega (arith, fits.3)), tt))))

round_right : (h : Head) (r : Round) → AreNamed h.zones → h.workers ≤ 16 → RoundFits h r → AllByRecursion IsRow (ops_rows h.zones 0 r.ops)
round_right h r names le fits = ops_right h 0 r.ops names (omega (arith, fits.workers)) fits.ops

rounds_right : (h : Head) (rounds : List Round) → AreNamed h.zones → h.workers ≤ 16 → All (RoundFits h) rounds → AllByRecursion IsRow (rounds_rows h.zones rounds)
rounds_right h [] names le fits = tt
rounds_right h (r ∷ []) names le fits = round_right h r names le (All-head (RoundFits h) r [] fits)
rounds_right h (r ∷ next ∷ rounds) names le fits =
    let here : RoundFits h r = All-head (RoundFits h) r (next ∷ rounds) fits in
    let moves : AllByRecursion IsRow (map (between_fields h.zones) r.between) = mapped (between_fields h.zones) r.between (λ k d lt. between_right h names le (get_or r.between k d) (here.between k d lt)) in
    let later : AllByRecursion IsRow (map (between_fields h.zones) r.between ++ rounds_rows h.zones (next ∷ rounds)) =
    appended IsRow (map (between_fields h.zones) r.between) (rounds_rows h.zones (next ∷ rounds)) moves (rounds_right h (next ∷ rounds) names le (All-tail (RoundFits h) r (next ∷ rounds) fits)) in
    appended IsRow (ops_rows h.zones 0 r.ops) ((codes "round" ∷ []) ∷ (map (between_fields h.zones) r.between ++ rounds_rows h.zones (next ∷ rounds))) (round_right h r names le here) (row_of (codes "round") [] refl tt, later)

pub rows_right : (t : Trace) → IsValid t → All IsRow (trace_rows t)
rows_right t valid =
    let rounds = rounds_right t.head t.rounds (are_named t.head valid.head) (omega (arith, valid.head.workers)) valid.rounds in
    All-from_recursion IsRow (trace_rows t) (
      first_right t.version,
      appended IsRow (head_rows t.head) (rounds_rows t.head.zones t.rounds ++ (codes "end" ∷ []) ∷ []) (head_right t.head valid.head)
          (appended IsRow (rounds_rows t.head.zones t.rounds) ((codes "end" ∷ []) ∷ []) rounds (row_of (codes "end") [] refl tt, tt)),
    )
