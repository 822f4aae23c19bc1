-- A standing's set holds the indices of the rooms that pass its test, and stays so where one room changes.
use Rattle.std.proofs.Common.{◌≡◌, ℕ, suc, ◌+◌, ◌-◌, ◌<◌, ◌≤◌, ◌==◌, ◌++◌, Bool, true, false, List, map, length, set, get_or, replicate, Option, Some, None, is_some, nat_lt, append_assoc, arith, sym, ap, subst, inl, inr, ◌∙◌}
use Rattle.std.specs.List.{All}
use Rattle.std.specs.Option.{IfSome, IfNone}
use Rattle.std.proofs.lemmas.Bool.{cases_lt, cases_Bool, lt-ltb, eqb-true, eq-eqb, and_from}
use Rattle.std.proofs.lemmas.List.{get_or-map, get_or_append_left, get_or-append_right, length-map, length-replicate, length-set, map-set, set-append_left, set_at, replicate-append-replicate}
use Rattle.std.proofs.lemmas.List.Elements.{All-set, All-replicate}
use Rattle.slab_bits.specs.Members.{HasNoneFrom, IsLeastFrom, IsGreatest}
use Rattle.uma_slabs.specs.Room.{RoomState, empty_room, free_in, is_absent, can_take, is_partly_used, is_wholly_free, IsFirstThat, IsLastThat, NonePassFrom}
use Rattle.uma_slabs.specs.Standing.{standing, AreStandings, IsChosen}
use Rattle.uma_slabs.proofs.EmptyKeg.{map-replicate}
use Rattle.uma_slabs.proofs.Marks.{free_and_used}
use Rattle.uma_slabs.proofs.RoomBits.{replicate_false}
use Rattle.uma_slabs.proofs.RoomTests.{and_left, and_right}

true_false : (b : Bool) → b ≡ true → b ≡ false → ⊥
true_false b is isnt = cc

-- an index is a member where its room passes, and no number past the rooms is one
standing_at : (test : RoomState → Bool) (rooms : List RoomState) (k : ℕ) (d : RoomState) → k < length rooms → get_or (standing test rooms) k false ≡ test (get_or rooms k d)
standing_at test rooms k d within =
    let len = length-map rooms test in
    get_or_append_left (map test rooms) (replicate (1024 - length rooms) false) false k (omega (arith, len, within)) ∙ get_or-map test rooms k d false within

standing_past : (test : RoomState → Bool) (rooms : List RoomState) (k : ℕ) → length rooms ≤ k → get_or (standing test rooms) k false ≡ false
standing_past test rooms k past =
    get_or-append_right (map test rooms) (replicate (1024 - length rooms) false) (length rooms) k false (length-map rooms test) past
    ∙ replicate_false (1024 - length rooms) (k - length rooms)

member_within : (test : RoomState → Bool) (rooms : List RoomState) (k : ℕ) → get_or (standing test rooms) k false ≡ true → k < length rooms
member_within test rooms k member =
    elim (cases_lt k (length rooms)) [
      | inl below ↦ below
      | inr past ↦ absurd (true_false (get_or (standing test rooms) k false) member (standing_past test rooms k past))
    ]

-- the least member is the first room that passes, the greatest the last, and where there is no member none passes
first_of : (test : RoomState → Bool) (rooms : List RoomState) (i : ℕ) → IsLeastFrom (standing test rooms) 0 i → IsFirstThat test rooms i
first_of test rooms i is =
    let within = member_within test rooms i is.member in
    record {
      within = within;
      passes = λ d. sym (standing_at test rooms i d within) ∙ is.member;
      earlier = λ k d below. sym (standing_at test rooms k d (omega (arith, within, below))) ∙ is.least k (omega arith) below;
    }

last_of : (test : RoomState → Bool) (rooms : List RoomState) (i : ℕ) → IsGreatest (standing test rooms) i → IsLastThat test rooms i
last_of test rooms i is =
    let within = member_within test rooms i is.member in
    record {
      within = within;
      passes = λ d. sym (standing_at test rooms i d within) ∙ is.member;
      later = λ k d above inside. sym (standing_at test rooms k d inside) ∙ is.greatest k (omega arith);
    }

none_of : (test : RoomState → Bool) (rooms : List RoomState) → HasNoneFrom (standing test rooms) 0 → NonePassFrom test rooms 0
none_of test rooms none k d _ within = sym (standing_at test rooms k d within) ∙ none k (omega arith)

if_some : (o : Option ℕ) (P Q : ℕ → Type 0) → ((i : ℕ) → P i → Q i) → IfSome o P → IfSome o Q
if_some None P Q to is = is
if_some (Some i) P Q to is = to i is

if_none : (o : Option ℕ) (P Q : Type 0) → (P → Q) → IfNone o P → IfNone o Q
if_none None P Q to is = to is
if_none (Some i) P Q to is = is

pub first_found : (test : RoomState → Bool) (rooms : List RoomState) (set : List Bool) (o : Option ℕ) → set ≡ standing test rooms → IfSome o (IsLeastFrom set 0) → IfSome o (IsFirstThat test rooms)
first_found test rooms set o same =
    if_some o (IsLeastFrom set 0) (IsFirstThat test rooms) (λ i is. let At : List Bool → Type 0 = λ s. IsLeastFrom s 0 i in first_of test rooms i (subst At same is))

pub last_found : (test : RoomState → Bool) (rooms : List RoomState) (set : List Bool) (o : Option ℕ) → set ≡ standing test rooms → IfSome o (IsGreatest set) → IfSome o (IsLastThat test rooms)
last_found test rooms set o same =
    if_some o (IsGreatest set) (IsLastThat test rooms) (λ i is. let At : List Bool → Type 0 = λ s. IsGreatest s i in last_of test rooms i (subst At same is))

none_same : (test : RoomState → Bool) (rooms : List RoomState) (set : List Bool) → set ≡ standing test rooms → HasNoneFrom set 0 → NonePassFrom test rooms 0
none_same test rooms set same none = let None : List Bool → Type 0 = λ s. HasNoneFrom s 0 in none_of test rooms (subst None same none)

pub none_found : (test : RoomState → Bool) (rooms : List RoomState) (set : List Bool) (o : Option ℕ) → set ≡ standing test rooms → IfNone o (HasNoneFrom set 0) → IfNone o (NonePassFrom test rooms 0)
none_found test rooms set o same = if_none o (HasNoneFrom set 0) (NonePassFrom test rooms 0) (none_same test rooms set same)

-- a wholly free room with a place can be taken from, and one that is neither so nor partly used can't be
can_take-whole : (r : RoomState) → is_wholly_free r ≡ true → 1 ≤ length r.free → can_take r ≡ true
can_take-whole r whole some =
    let all = eqb-true (free_in r) (length r.free) (and_right (is_some r.domain) (free_in r == length r.free) whole) in
    and_from (is_some r.domain) (nat_lt 0 (free_in r)) (and_left (is_some r.domain) (free_in r == length r.free) whole) (lt-ltb 0 (free_in r) (omega (arith, all, some)))

cannot_take : (r : RoomState) → is_partly_used r ≡ false → is_wholly_free r ≡ false → can_take r ≡ false
cannot_take r partly whole =
    elim (cases_Bool (can_take r)) [
      | inl can ↦
          let counted = free_and_used r.free in
          absurd (elim (cases_lt (free_in r) (length r.free)) [
            | inl less ↦ true_false (is_partly_used r) (and_from (can_take r) (nat_lt (free_in r) (length r.free)) can (lt-ltb (free_in r) (length r.free) less)) partly
            | inr all ↦ true_false (is_wholly_free r)
                (and_from (is_some r.domain) (free_in r == length r.free) (and_left (is_some r.domain) (nat_lt 0 (free_in r)) can) (eq-eqb (free_in r) (length r.free) (omega (arith, counted, all))))
                whole
          ])
      | inr cannot ↦ cannot
    ]

pub chosen_whole : (rooms : List RoomState) (wholly_free : List Bool) (o : Option ℕ) → All (λ room. 1 ≤ length room.free) rooms → NonePassFrom is_partly_used rooms 0 → wholly_free ≡ standing is_wholly_free rooms
    → IfSome o (IsLeastFrom wholly_free 0) → IfSome o (IsChosen rooms)
chosen_whole rooms wholly_free o places none same is =
    if_some o (IsFirstThat is_wholly_free rooms) (IsChosen rooms)
    (λ i first. record { within = first.within; can = λ d. can_take-whole (get_or rooms i d) (first.passes d) (places i d first.within); preferred = inr none })
    (first_found is_wholly_free rooms wholly_free o same is)

pub none_chosen : (rooms : List RoomState) (wholly_free : List Bool) (o : Option ℕ) → NonePassFrom is_partly_used rooms 0 → wholly_free ≡ standing is_wholly_free rooms
    → IfNone o (HasNoneFrom wholly_free 0) → IfNone o (NonePassFrom can_take rooms 0)
none_chosen rooms wholly_free o none same is =
    if_none o (NonePassFrom is_wholly_free rooms 0) (NonePassFrom can_take rooms 0)
    (λ whole k d from within. cannot_take (get_or rooms k d) (none k d from within) (whole k d from within))
    (none_found is_wholly_free rooms wholly_free o same is)

pub none_partly : (rooms : List RoomState) (partly_used : List Bool) (o : Option ℕ) → o ≡ None → partly_used ≡ standing is_partly_used rooms → IfNone o (HasNoneFrom partly_used 0) → NonePassFrom is_partly_used rooms 0
none_partly rooms partly_used o gone same is =
    let At : Option ℕ → Type 0 = λ x. IfNone x (NonePassFrom is_partly_used rooms 0) in
    subst At gone (none_found is_partly_used rooms partly_used o same is)

-- one room changed, and its index put where it stands
standing-set : (test : RoomState → Bool) (rooms : List RoomState) (i : ℕ) (r : RoomState) → i < length rooms → standing test (set rooms i r) ≡ set (standing test rooms) i (test r)
standing-set test rooms i r within =
    let len = length-map rooms test in
    let inside : i < length (map test rooms) = omega (arith, len, within) in
    ap (λ (n : ℕ). map test (set rooms i r) ++ replicate (1024 - n) false) (length-set rooms i r)
    ∙ ap (λ (xs : List Bool). xs ++ replicate (1024 - length rooms) false) (map-set test rooms i r)
    ∙ sym (set-append_left (map test rooms) (replicate (1024 - length rooms) false) i (test r) inside)

kept_standing : (test : RoomState → Bool) (rooms : List RoomState) (marks marks' : List Bool) (i : ℕ) (r : RoomState) → i < length rooms → marks ≡ standing test rooms → marks' ≡ set marks i (test r) → marks' ≡ standing test (set rooms i r)
kept_standing test rooms marks marks' i r within same changed = changed ∙ ap (λ (xs : List Bool). set xs i (test r)) same ∙ sym (standing-set test rooms i r within)

pub some_place : (rooms : List RoomState) (i : ℕ) (r : RoomState) → All (λ room. 1 ≤ length room.free) rooms → i < length rooms → r ≡ get_or rooms i r → 1 ≤ length r.free
some_place rooms i r places within room = rw room (places i r within)

pub AreStandings-set : (rooms : List RoomState) (p p' w w' a a' : List Bool) (i : ℕ) (r : RoomState) → AreStandings rooms p w a → i < length rooms → 1 ≤ length r.free
    → p' ≡ set p i (is_partly_used r) → w' ≡ set w i (is_wholly_free r) → a' ≡ set a i (is_absent r) → AreStandings (set rooms i r) p' w' a'
AreStandings-set rooms p p' w w' a a' i r are within some partly whole absent = record {
  few = rw (length-set rooms i r) are.few;
  places = All-set (λ (room : RoomState). 1 ≤ length room.free) rooms i r some are.places;
  partly_used = kept_standing is_partly_used rooms p p' i r within are.partly_used partly;
  wholly_free = kept_standing is_wholly_free rooms w w' i r within are.wholly_free whole;
  absent = kept_standing is_absent rooms a a' i r within are.absent absent;
}

-- rooms with no slab
standing-empty : (test : RoomState → Bool) (n places : ℕ) → standing test (replicate n (empty_room places)) ≡ replicate n (test (empty_room places)) ++ replicate (1024 - n) false
standing-empty test n places =
    ap (λ (xs : List Bool). xs ++ replicate (1024 - length (replicate n (empty_room places))) false) (map-replicate test n (empty_room places))
    ∙ ap (λ (m : ℕ). replicate n (test (empty_room places)) ++ replicate (1024 - m) false) (length-replicate n (empty_room places))

none_stand : (n : ℕ) → n ≤ 1024 → replicate 1024 false ≡ replicate n false ++ replicate (1024 - n) false
none_stand n few = let all : n + (1024 - n) ≡ 1024 = omega arith in sym (replicate-append-replicate n (1024 - n) false ∙ ap (λ (m : ℕ). replicate m false) all)

pub AreStandings-empty : (n places : ℕ) (absent : List Bool) → n ≤ 1024 → 1 ≤ places → absent ≡ replicate n true ++ replicate (1024 - n) false
    → AreStandings (replicate n (empty_room places)) (replicate 1024 false) (replicate 1024 false) absent
AreStandings-empty n places absent few some is = record {
  few = rw (length-replicate n (empty_room places)) few;
  places = All-replicate (λ (room : RoomState). 1 ≤ length room.free) n (empty_room places) (rw (length-replicate places false) some);
  partly_used = none_stand n few ∙ sym (standing-empty is_partly_used n places);
  wholly_free = none_stand n few ∙ sym (standing-empty is_wholly_free n places);
  absent = is ∙ sym (standing-empty is_absent n places);
}

-- the numbers below one more
pub numbers_more : (n : ℕ) → n < 1024 → set (replicate n true ++ replicate (1024 - n) false) n true ≡ replicate (n + 1) true ++ replicate (1024 - (n + 1)) false
numbers_more n below =
    let rest = replicate (1024 - (n + 1)) false in
    let next : 1024 - n ≡ suc (1024 - (n + 1)) = omega arith in
    ap (λ (m : ℕ). set (replicate n true ++ replicate m false) n true) next
    ∙ set_at (replicate n true) false rest true n (length-replicate n true)
    ∙ sym (append_assoc (replicate n true) (replicate 1 true) rest)
    ∙ ap (λ (xs : List Bool). xs ++ rest) (replicate-append-replicate n 1 true)
