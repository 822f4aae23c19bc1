-- The parts of the lines so far, with one line more at a time, and the rounds of all of them.
use Rattle.std.proofs.Common.{◌≡◌, ℕ, List, [], ◌∷◌, ◌++◌, map, Bool, true, false, Vec, refl, sym, ap, subst, ◌∙◌}
use Rattle.std.specs.List.{flat_map, slice_split, onto_first, range_with_len}
use Rattle.std.proofs.lemmas.List.{append-nil, map-append, same_from_push}
use Rattle.std.proofs.lemmas.List.Concat.{flat_map-append}
use Rattle.std.proofs.lemmas.List.Splits.{slice_split-cons_no, slice_split-cons_yes}
use Rattle.std.specs.declared.alloc.Global.{Global}
use Rattle.std.specs.declared.snapshot.Snapshot.{Snapshot}
use Rattle.trace_text.specs.declared.trace.Between.{Between}
use Rattle.trace_text.specs.declared.trace.Op.{Op}
use Rattle.trace_text.specs.declared.trace.Round.{Round}
use Rattle.trace_text.specs.declared.trace_reading.fields.Entry.{Entry}
use Rattle.trace_text.specs.declared.trace_reading.rounds.PartSoFar.{PartSoFar}
use Rattle.trace_text.specs.Grammar.{is_round, op_by, between_in, ops_in, rounds_in}
use Rattle.trace_text.specs.Parts.{ArePartsOf, StaysSame, TakesLine, front_of, list_at, lists_for, ops_at, rounds_by, rounds_from, shown}
use Rattle.trace_text.proofs.TraceRounds.{round_with}

-- ---- the parts of a list with one element more

record Splits {X : Type 0} (p : X → Bool) (xs : List X) (x : X) : Type 0 where
  before : List (List X)
  last : List X
  whole : slice_split p xs ≡ before ++ last ∷ []
  goes_on : p x ≡ false → slice_split p (xs ++ x ∷ []) ≡ before ++ (last ++ x ∷ []) ∷ []
  ends : p x ≡ true → slice_split p (xs ++ x ∷ []) ≡ (before ++ last ∷ []) ++ [] ∷ []

module _ {X : Type 0} (p : X → Bool) (x : X) where
  -- the element before the list belongs to its first part
  joins_first : (y : X) (ys : List X) → p y ≡ false → (before : List (List X)) (last : List X) → slice_split p ys ≡ before ++ last ∷ []
      → (p x ≡ false → slice_split p (ys ++ x ∷ []) ≡ before ++ (last ++ x ∷ []) ∷ []) → (p x ≡ true → slice_split p (ys ++ x ∷ []) ≡ (before ++ last ∷ []) ++ [] ∷ [])
      → Splits p (y ∷ ys) x
  joins_first y ys inside [] last whole goes_on ends = record {
    before = [];
    last = y ∷ last;
    whole = slice_split-cons_no p y ys inside ∙ ap (onto_first y) whole;
    goes_on = λ e. slice_split-cons_no p y (ys ++ x ∷ []) inside ∙ ap (onto_first y) (goes_on e);
    ends = λ e. slice_split-cons_no p y (ys ++ x ∷ []) inside ∙ ap (onto_first y) (ends e);
  }
  joins_first y ys inside (part ∷ before) last whole goes_on ends = record {
    before = (y ∷ part) ∷ before;
    last = last;
    whole = slice_split-cons_no p y ys inside ∙ ap (onto_first y) whole;
    goes_on = λ e. slice_split-cons_no p y (ys ++ x ∷ []) inside ∙ ap (onto_first y) (goes_on e);
    ends = λ e. slice_split-cons_no p y (ys ++ x ∷ []) inside ∙ ap (onto_first y) (ends e);
  }

  one_before : (y : X) (ys : List X) (b : Bool) → p y ≡ b → Splits p ys x → Splits p (y ∷ ys) x
  one_before y ys true cut s = record {
    before = [] ∷ s.before;
    last = s.last;
    whole = slice_split-cons_yes p y ys cut ∙ ap (λ (l : List (List X)). [] ∷ l) s.whole;
    goes_on = λ e. slice_split-cons_yes p y (ys ++ x ∷ []) cut ∙ ap (λ (l : List (List X)). [] ∷ l) (s.goes_on e);
    ends = λ e. slice_split-cons_yes p y (ys ++ x ∷ []) cut ∙ ap (λ (l : List (List X)). [] ∷ l) (s.ends e);
  }
  one_before y ys false inside s = joins_first y ys inside s.before s.last s.whole s.goes_on s.ends

  splits : (xs : List X) → Splits p xs x
  splits [] = record {
    before = [];
    last = [];
    whole = refl;
    goes_on = λ e. slice_split-cons_no p x [] e;
    ends = λ e. slice_split-cons_yes p x [] e;
  }
  splits (y ∷ ys) = one_before y ys (p y) refl (splits ys)

-- ---- one line more, in one respect: each line gives something of it, and a part has what its lines gave

module _ {A P : Type 0} (of_line : Entry → List A) (of_part : P → List A) where
  abbrev Agree : List Entry → List P → Type 0
  Agree lines parts = map of_part parts ≡ map (flat_map of_line) (slice_split is_round lines)

  agree_same : (lines : List Entry) (ended : List P) (part same : P) → Agree lines (ended ++ part ∷ []) → of_part same ≡ of_part part → Agree lines (ended ++ same ∷ [])
  agree_same lines ended part same agree e =
      map-append of_part ended (same ∷ []) ∙ ap (λ (l : List A). map of_part ended ++ l ∷ []) e ∙ sym (map-append of_part ended (part ∷ [])) ∙ agree

  agree_more : (lines : List Entry) (line : Entry) (ended : List P) (part more : P) → is_round line ≡ false → Agree lines (ended ++ part ∷ [])
      → of_part more ≡ of_part part ++ of_line line → Agree (lines ++ line ∷ []) (ended ++ more ∷ [])
  agree_more lines line ended part more inside agree e =
      let s = splits is_round line lines in
      let all : List Entry → List A = flat_map of_line in
      let parted : map of_part ended ++ of_part part ∷ [] ≡ map all s.before ++ all s.last ∷ [] =
      sym (map-append of_part ended (part ∷ [])) ∙ agree ∙ ap (map all) s.whole ∙ map-append all s.before (s.last ∷ []) in
      let same = same_from_push (map of_part ended) (map all s.before) (of_part part) (all s.last) parted in
      let last : of_part more ≡ all (s.last ++ line ∷ []) =
      e ∙ ap (λ (l : List A). l ++ of_line line) same.1 ∙ ap (λ (l : List A). all s.last ++ l) (sym (append-nil (of_line line))) ∙ sym (flat_map-append of_line s.last (line ∷ [])) in
      map-append of_part ended (more ∷ [])
      ∙ ap (λ (l : List (List A)). l ++ of_part more ∷ []) same.0
      ∙ ap (λ (l : List A). map all s.before ++ l ∷ []) last
      ∙ sym (map-append all s.before ((s.last ++ line ∷ []) ∷ []))
      ∙ ap (map all) (sym (s.goes_on inside))

  agree_next : (lines : List Entry) (line : Entry) (parts : List P) (next : P) → is_round line ≡ true → Agree lines parts → of_part next ≡ [] → Agree (lines ++ line ∷ []) (parts ++ next ∷ [])
  agree_next lines line parts next cut agree e =
      let s = splits is_round line lines in
      let all : List Entry → List A = flat_map of_line in
      map-append of_part parts (next ∷ [])
      ∙ ap (λ (l : List A). map of_part parts ++ l ∷ []) e
      ∙ ap (λ (l : List (List A)). l ++ [] ∷ []) (agree ∙ ap (map all) s.whole)
      ∙ sym (map-append all (s.before ++ s.last ∷ []) ([] ∷ []))
      ∙ ap (map all) (sym (s.ends cut))

-- ---- one line more

pub parts_same : (lines : List Entry) (ended : List PartSoFar) (part same : PartSoFar) → ArePartsOf (slice_split is_round lines) (ended ++ part ∷ []) → StaysSame part same
    → ArePartsOf (slice_split is_round lines) (ended ++ same ∷ [])
parts_same lines ended part same are stays = record {
  ops = λ worker. agree_same (op_by worker) (ops_at worker) lines ended part same (are.ops worker) (stays.ops worker);
  between = agree_same between_in front_of lines ended part same are.between stays.between;
}

parts_more : (lines : List Entry) (line : Entry) (ended : List PartSoFar) (part more : PartSoFar) → is_round line ≡ false → ArePartsOf (slice_split is_round lines) (ended ++ part ∷ [])
    → TakesLine line part more → ArePartsOf (slice_split is_round (lines ++ line ∷ [])) (ended ++ more ∷ [])
parts_more lines line ended part more inside are takes = record {
  ops = λ worker. agree_more (op_by worker) (ops_at worker) lines line ended part more inside (are.ops worker) (takes.ops worker);
  between = agree_more between_in front_of lines line ended part more inside are.between takes.between;
}

parts_next : (lines : List Entry) (line : Entry) (parts : List PartSoFar) (next : PartSoFar) → is_round line ≡ true → ArePartsOf (slice_split is_round lines) parts
    → next.ops.items ≡ [] → next.between.items ≡ [] → ArePartsOf (slice_split is_round (lines ++ line ∷ [])) (parts ++ next ∷ [])
parts_next lines line parts next cut are ops between = record {
  ops = λ worker. agree_next (op_by worker) (ops_at worker) lines line parts next cut (are.ops worker) (ap (λ (lists : List (Vec Op Global)). list_at lists worker) ops);
  between = agree_next between_in front_of lines line parts next cut are.between between;
}

-- ---- what was taken in

-- nothing
pub no_lines : (lines : List (Snapshot Entry)) (ended : List PartSoFar) (part : PartSoFar) → lines ≡ [] → ended ≡ [] → part.ops.items ≡ [] → part.between.items ≡ []
    → ArePartsOf (slice_split is_round (map shown lines)) (ended ++ part ∷ [])
no_lines lines ended part none first ops between =
    let P : List Entry → List PartSoFar → Type 0 = λ all parts. ArePartsOf (slice_split is_round all) (parts ++ part ∷ []) in
    let Q : List PartSoFar → Type 0 = λ parts. P (map shown lines) parts in
    let R : List (Snapshot Entry) → Type 0 = λ all. P (map shown all) [] in
    let empty : ArePartsOf ([] ∷ []) (part ∷ []) = record {
      ops = λ worker. ap (λ (lists : List (Vec Op Global)). list_at lists worker ∷ []) ops;
      between = ap (λ (betweens : List Between). betweens ∷ []) between;
    } in
    subst Q (sym first) (subst R (sym none) empty)

shows_more : (lines taken : List (Snapshot Entry)) (one : Snapshot Entry) (line : Entry) → taken ≡ lines ++ one ∷ [] → one.value ≡ line → map shown taken ≡ map shown lines ++ line ∷ []
shows_more lines taken one line all is = ap (map shown) all ∙ map-append shown lines (one ∷ []) ∙ ap (λ (e : Entry). map shown lines ++ e ∷ []) is

-- what contracts see of it
pub sees_more : (lines taken : List (Snapshot Entry)) (one : Snapshot Entry) (line : Entry) (seen : List Entry) → taken ≡ lines ++ one ∷ [] → one.value ≡ line → map shown lines ≡ seen
    → map shown taken ≡ seen ++ line ∷ []
sees_more lines taken one line seen all is view = shows_more lines taken one line all is ∙ ap (λ (before : List Entry). before ++ line ∷ []) view

-- a line more in the part that is being read
pub takes_line : (lines taken : List (Snapshot Entry)) (one : Snapshot Entry) (line : Entry) (ended : List PartSoFar) (part more : PartSoFar) → taken ≡ lines ++ one ∷ [] → one.value ≡ line → is_round line ≡ false
    → ArePartsOf (slice_split is_round (map shown lines)) (ended ++ part ∷ []) → TakesLine line part more → ArePartsOf (slice_split is_round (map shown taken)) (ended ++ more ∷ [])
takes_line lines taken one line ended part more all is inside are takes =
    let P : List Entry → Type 0 = λ lines. ArePartsOf (slice_split is_round lines) (ended ++ more ∷ []) in
    subst P (sym (shows_more lines taken one line all is)) (parts_more (map shown lines) line ended part more inside are takes)

-- a `round` line
pub takes_round : (lines taken : List (Snapshot Entry)) (one : Snapshot Entry) (line : Entry) (ended parts : List PartSoFar) (part next : PartSoFar) → taken ≡ lines ++ one ∷ [] → one.value ≡ line → is_round line ≡ true
    → ArePartsOf (slice_split is_round (map shown lines)) (ended ++ part ∷ []) → parts ≡ ended ++ part ∷ [] → next.ops.items ≡ [] → next.between.items ≡ []
    → ArePartsOf (slice_split is_round (map shown taken)) (parts ++ next ∷ [])
takes_round lines taken one line ended parts part next all is cut are whole ops between =
    let P : List Entry → List PartSoFar → Type 0 = λ lines parts. ArePartsOf (slice_split is_round lines) (parts ++ next ∷ []) in
    let Q : List Entry → Type 0 = λ lines. P lines parts in
    let R : List PartSoFar → Type 0 = λ parts. P (map shown lines ++ line ∷ []) parts in
    subst Q (sym (shows_more lines taken one line all is)) (subst R (sym whole) (parts_next (map shown lines) line (ended ++ part ∷ []) next cut are ops between))

-- a `round` line that memory was wanting for
pub keeps_parts : (lines : List Entry) (ended kept : List PartSoFar) (part same : PartSoFar) → ArePartsOf (slice_split is_round lines) (ended ++ part ∷ []) → kept ≡ ended → same ≡ part
    → ArePartsOf (slice_split is_round lines) (kept ++ same ∷ [])
keeps_parts lines ended kept part same are all one =
    let P : List PartSoFar → PartSoFar → Type 0 = λ parts last. ArePartsOf (slice_split is_round lines) (parts ++ last ∷ []) in
    let Q : List PartSoFar → Type 0 = λ parts. P parts same in
    let R : PartSoFar → Type 0 = λ last. P ended last in
    subst Q (sym all) (subst R (sym one) are)

-- ---- all lines

map_same : {X Y : Type 0} (f g : X → Y) → ((x : X) → f x ≡ g x) → (xs : List X) → map f xs ≡ map g xs
map_same f g same [] = refl
map_same f g same (x ∷ xs) = ap (λ y. y ∷ map f xs) (same x) ∙ ap (λ ys. g x ∷ ys) (map_same f g same xs)

parts_behind : (part : PartSoFar) (parts : List PartSoFar) (line : List Entry) (lines : List (List Entry)) → ArePartsOf (line ∷ lines) (part ∷ parts) → ArePartsOf lines parts
parts_behind part parts line lines are = record {
  ops = λ worker. let e = are.ops worker in cc;
  between = let e = are.between in cc;
}

first_lists : (workers : ℕ) (part : PartSoFar) (parts : List PartSoFar) (line : List Entry) (lines : List (List Entry)) → ArePartsOf (line ∷ lines) (part ∷ parts)
    → lists_for workers part.ops.items ≡ ops_in workers line
first_lists workers part parts line lines are =
    map_same (λ worker. ops_at worker part) (λ worker. flat_map (op_by worker) line)
    (λ worker. let e = are.ops worker in cc)
    (range_with_len 0 workers)

rounds_from_first : (workers : ℕ) (part : PartSoFar) (parts : List PartSoFar) (line : List Entry) (lines : List (List Entry)) → ArePartsOf (line ∷ lines) (part ∷ parts)
    → rounds_from workers part.ops.items parts ≡ rounds_in workers (line ∷ lines)
rounds_from_first workers part [] line [] are = ap (λ (ops : List (List Op)). round_with ops [] ∷ []) (first_lists workers part [] line [] are)
rounds_from_first workers part (next ∷ parts) line (later ∷ lines) are =
    let behind = parts_behind part (next ∷ parts) line (later ∷ lines) are in
    let rest = rounds_from workers next.ops.items parts in
    let between : front_of next ≡ flat_map between_in later = let e = behind.between in cc in
    ap (λ (ops : List (List Op)). round_with ops (front_of next) ∷ rest) (first_lists workers part (next ∷ parts) line (later ∷ lines) are)
    ∙ ap (λ (b : List Between). round_with (ops_in workers line) b ∷ rest) between
    ∙ ap (λ (rounds : List Round). round_with (ops_in workers line) (flat_map between_in later) ∷ rounds) (rounds_from_first workers next parts later lines behind)
rounds_from_first workers part [] line (later ∷ lines) are = absurd (let e = are.between in cc)
rounds_from_first workers part (next ∷ parts) line [] are = absurd (let e = are.between in cc)

pub rounds_by_parts : (workers : ℕ) (parts : List PartSoFar) (lines : List (List Entry)) → ArePartsOf lines parts → rounds_by workers parts ≡ rounds_in workers lines
rounds_by_parts workers [] [] are = refl
rounds_by_parts workers (part ∷ parts) (line ∷ lines) are = rounds_from_first workers part parts line lines are
rounds_by_parts workers [] (line ∷ lines) are = absurd (let e = are.between in cc)
rounds_by_parts workers (part ∷ parts) [] are = absurd (let e = are.between in cc)
