-- The slots that the reading of a trace's lines fills: each request of a zone fills one, and each counted free empties one.
use Rattle.std.proofs.Common.{◌≡◌, ◌≢◌, ℕ, ◌+◌, ◌<◌, inl, inr, ◌⊎◌, List, [], ◌∷◌, Bool, true, false, cond, Option, None, Some, refl, sym, ap, ◌∙◌, subst, arith, eq-eqb}
use Rattle.std.proofs.lemmas.Bool.{cases_eq, ne_eqb, and_left, and_right, and_from, cond-true, cond-false, false≢true}
use Rattle.std.specs.Prelude.{◌==◌, ◌&&◌, IsSome}
use Rattle.std.specs.Option.{option_map_or}
use Rattle.trace_text.specs.declared.trace.Op.{Op}
use Rattle.trace_text.specs.declared.trace.Op.TheVariants.{Alloc, Free, Enter, Exit, Bind, Unbind, Look, Trim, Drain, DrainSeat, Prealloc, Away, Back}
use Rattle.trace_text.specs.declared.trace.Between.TheVariants.{Give, SetMax}
use Rattle.trace_text.specs.Lines.{Line, Does, Moves}
use Rattle.trace_text.specs.Reading.{held, held_after}
use Rattle.trace_text.specs.Valid.{LineFits}
use Rattle.uma_replay.specs.Counting.{frees_of, free_count}
use Rattle.uma_replay.proofs.Upto.{over, over-point, over-same, over-zero}

-- ---- what is counted

-- 1 for a slot with an item of the zone at place `z`
abbrev pub unit_of : ℕ → Option ℕ → ℕ
unit_of z slot = option_map_or (λ zone. cond (zone == z) 1 0) slot 0

abbrev pub filled_at : ℕ → List Line → ℕ → ℕ → ℕ
filled_at z lines w slot = unit_of z (held lines w slot)

-- how many slots, of so many workers and so many of each, the reading fills with items of the zone
abbrev pub filled_slots : ℕ → ℕ → ℕ → List Line → ℕ
filled_slots workers size z lines = over (filled_at z lines) workers size

abbrev pub asks_of : ℕ → Line → Bool
asks_of z (Does w (Alloc zone slot arg reserve)) = zone == z
asks_of z line = false

unfoldable pub ask_count : ℕ → List Line → ℕ
ask_count z [] = 0
ask_count z (line ∷ earlier) = ask_count z earlier + cond (asks_of z line) 1 0

unfoldable pub emptied_count : ℕ → List Line → ℕ
emptied_count z [] = 0
emptied_count z (line ∷ earlier) = emptied_count z earlier + cond (frees_of z earlier line) 1 0

-- the workers and slots that a line names are below these counts
abbrev pub NamesBelow : ℕ → ℕ → Line → Type 0
NamesBelow workers size (Does w (Alloc zone slot arg reserve)) = (w < workers) × (slot < size)
NamesBelow workers size (Does w (Free slot)) = (w < workers) × (slot < size)
NamesBelow workers size (Does w op) = Unit {0}
NamesBelow workers size (Moves (Give giver from taker to)) = (giver < workers) × (from < size) × (taker < workers) × (to < size)
NamesBelow workers size (Moves (SetMax zone limit)) = Unit {0}

-- ---- one line more

others : (lines : List Line) (v w slot : ℕ) (op : Op) → v ≢ w → held (Does v op ∷ lines) w slot ≡ held lines w slot
others lines v w slot op apart = cond-false (v == w) (held_after op slot (held lines w slot)) (held lines w slot) (ne_eqb v w apart)

own : (lines : List Line) (w slot : ℕ) (op : Op) → held (Does w op ∷ lines) w slot ≡ held_after op slot (held lines w slot)
own lines w slot op = cond-true (w == w) (held_after op slot (held lines w slot)) (held lines w slot) (eq-eqb w w refl)

-- a line that leaves each slot as it was
untouched : (lines : List Line) (v w slot : ℕ) (op : Op) → ((before : Option ℕ) → held_after op slot before ≡ before) → held (Does v op ∷ lines) w slot ≡ held lines w slot
untouched lines v w slot op stays = elim (cases_eq v w) [
  | inl same ↦
      let P : ℕ → Type 0 = λ u. held (Does u op ∷ lines) w slot ≡ held lines w slot in
      subst P (sym same) (own lines w slot op ∙ stays (held lines w slot))
  | inr apart ↦ others lines v w slot op apart
]

-- an operation of worker `v` that touches the slot `at` alone
elsewhere : (lines : List Line) (v at m j : ℕ) (op : Op) → ((before : Option ℕ) (slot : ℕ) → slot ≢ at → held_after op slot before ≡ before) → (m ≢ v) ⊎ (j ≢ at)
    → held (Does v op ∷ lines) m j ≡ held lines m j
elsewhere lines v at m j op stays away = elim away [
  | inl apart ↦ others lines v m j op (λ e. apart (sym e))
  | inr apart ↦ untouched lines v m j op (λ before. stays before j apart)
]

-- what a line changes: the slots that are filled, by what it asks and frees
abbrev Steps : ℕ → ℕ → ℕ → List Line → Line → Type 0
Steps workers size z lines line =
    filled_slots workers size z (line ∷ lines) + cond (frees_of z lines line) 1 0 ≡ filled_slots workers size z lines + cond (asks_of z line) 1 0

by_alloc : (workers size z : ℕ) (lines : List Line) (w zone slot arg : ℕ) (reserve : Bool) → w < workers → slot < size → held lines w slot ≡ None
    → Steps workers size z lines (Does w (Alloc zone slot arg reserve))
by_alloc workers size z lines w zone slot arg reserve is_worker is_slot empty =
    let op : Op = Alloc zone slot arg reserve in
    let line : Line = Does w op in
    let stays : (before : Option ℕ) (other : ℕ) → other ≢ slot → held_after op other before ≡ before =
    λ before other apart. cond-false (slot == other) (Some zone) before (ne_eqb slot other (λ e. apart (sym e))) in
    let filled : held (line ∷ lines) w slot ≡ Some zone = own lines w slot op ∙ cond-true (slot == slot) (Some zone) (held lines w slot) (eq-eqb slot slot refl) in
    let is : filled_at z (line ∷ lines) w slot ≡ cond (zone == z) 1 0 = ap (unit_of z) filled in
    let was : filled_at z lines w slot ≡ 0 = ap (unit_of z) empty in
    let point : filled_slots workers size z (line ∷ lines) + filled_at z lines w slot ≡ filled_slots workers size z lines + filled_at z (line ∷ lines) w slot =
    over-point (filled_at z (line ∷ lines)) (filled_at z lines) workers size w slot is_worker is_slot (λ m j away. ap (unit_of z) (elsewhere lines w slot m j op stays away)) in
    omega (arith, point, is, was)

by_free : (workers size z : ℕ) (lines : List Line) (w slot zone : ℕ) → w < workers → slot < size → held lines w slot ≡ Some zone → Steps workers size z lines (Does w (Free slot))
by_free workers size z lines w slot zone is_worker is_slot holds =
    let op : Op = Free slot in
    let line : Line = Does w op in
    let stays : (before : Option ℕ) (other : ℕ) → other ≢ slot → held_after op other before ≡ before =
    λ before other apart. cond-false (slot == other) None before (ne_eqb slot other (λ e. apart (sym e))) in
    let emptied : held (line ∷ lines) w slot ≡ None = own lines w slot op ∙ cond-true (slot == slot) None (held lines w slot) (eq-eqb slot slot refl) in
    let is : filled_at z (line ∷ lines) w slot ≡ 0 = ap (unit_of z) emptied in
    let was : filled_at z lines w slot ≡ cond (zone == z) 1 0 = ap (unit_of z) holds in
    let unit : Bool → ℕ = λ b. cond b 1 0 in
    let frees : cond (frees_of z lines line) 1 0 ≡ cond (zone == z) 1 0 = ap (λ o. unit (option_map_or (λ k. k == z) o false)) holds in
    let point : filled_slots workers size z (line ∷ lines) + filled_at z lines w slot ≡ filled_slots workers size z lines + filled_at z (line ∷ lines) w slot =
    over-point (filled_at z (line ∷ lines)) (filled_at z lines) workers size w slot is_worker is_slot (λ m j away. ap (unit_of z) (elsewhere lines w slot m j op stays away)) in
    omega (arith, point, is, was, frees)

by_other : (workers size z : ℕ) (lines : List Line) (w : ℕ) (op : Op) → ((before : Option ℕ) (slot : ℕ) → held_after op slot before ≡ before)
    → filled_slots workers size z (Does w op ∷ lines) ≡ filled_slots workers size z lines
by_other workers size z lines w op stays =
    over-same (filled_at z (Does w op ∷ lines)) (filled_at z lines) workers size (λ m j. ap (unit_of z) (untouched lines w m j op (λ before. stays before j)))

-- ---- a line that moves

-- the slots with one of them empty
abbrev but : ℕ → ℕ → ℕ → List Line → ℕ → ℕ → ℕ
but z giver from lines m j = cond ((giver == m) && (from == j)) 0 (filled_at z lines m j)

differ : (a b m j : ℕ) → (m ≢ a) ⊎ (j ≢ b) → ((a == m) && (b == j)) ≡ false
differ a b m j away = elim away [
  | inl apart ↦ and_left (a == m) (b == j) (ne_eqb a m (λ e. apart (sym e)))
  | inr apart ↦ and_right (a == m) (b == j) (ne_eqb b j (λ e. apart (sym e)))
]

here : (a b : ℕ) → ((a == a) && (b == b)) ≡ true
here a b = and_from (a == a) (b == b) (eq-eqb a a refl) (eq-eqb b b refl)

but_cond : (z : ℕ) (b : Bool) (slot : Option ℕ) → unit_of z (cond b None slot) ≡ cond b 0 (unit_of z slot)
but_cond z true slot = refl
but_cond z false slot = refl

by_give : (workers size z : ℕ) (lines : List Line) (giver from taker to zone : ℕ) → giver < workers → from < size → taker < workers → to < size
    → held lines giver from ≡ Some zone → held lines taker to ≡ None → filled_slots workers size z (Moves (Give giver from taker to) ∷ lines) ≡ filled_slots workers size z lines
by_give workers size z lines giver from taker to zone is_giver is_from is_taker is_to holds empty =
    let line : Line = Moves (Give giver from taker to) in
    let gone = but z giver from lines in
    let unit : ℕ = cond (zone == z) 1 0 in
    let was : filled_at z lines giver from ≡ unit = ap (unit_of z) holds in
    let gone_giver : gone giver from ≡ 0 = cond-true ((giver == giver) && (from == from)) 0 (filled_at z lines giver from) (here giver from) in
    let away : (taker ≢ giver) ⊎ (to ≢ from) = elim (cases_eq taker giver) [
      | inl same ↦ inr (λ e.
          let P : ℕ → Type 0 = λ i. held lines i to ≡ None in
          let Q : ℕ → Type 0 = λ i. held lines giver i ≡ None in
          let never : None ≡ Some zone = sym (subst Q e (subst P same empty)) ∙ holds in
          absurd (cc))
      | inr apart ↦ inl apart
    ] in
    let gone_taker : gone taker to ≡ 0 =
    cond-false ((giver == taker) && (from == to)) 0 (filled_at z lines taker to) (differ giver from taker to away) ∙ ap (unit_of z) empty in
    let is : filled_at z (line ∷ lines) taker to ≡ unit =
    ap (unit_of z) (cond-true ((taker == taker) && (to == to)) (held lines giver from) (cond ((giver == taker) && (from == to)) None (held lines taker to)) (here taker to)) ∙ was in
    let first : over gone workers size + filled_at z lines giver from ≡ filled_slots workers size z lines + gone giver from =
    over-point gone (filled_at z lines) workers size giver from is_giver is_from
    (λ m j other. cond-false ((giver == m) && (from == j)) 0 (filled_at z lines m j) (differ giver from m j other)) in
    let second : filled_slots workers size z (line ∷ lines) + gone taker to ≡ over gone workers size + filled_at z (line ∷ lines) taker to =
    over-point (filled_at z (line ∷ lines)) gone workers size taker to is_taker is_to
    (λ m j other. ap (unit_of z) (cond-false ((taker == m) && (to == j)) (held lines giver from) (cond ((giver == m) && (from == j)) None (held lines m j)) (differ taker to m j other))
    ∙ but_cond z ((giver == m) && (from == j)) (held lines m j)) in
    omega (arith, first, second, was, gone_giver, gone_taker, is)

by_limit : (workers size z : ℕ) (lines : List Line) (zone limit : ℕ) → filled_slots workers size z (Moves (SetMax zone limit) ∷ lines) ≡ filled_slots workers size z lines
by_limit workers size z lines zone limit = over-same (filled_at z (Moves (SetMax zone limit) ∷ lines)) (filled_at z lines) workers size (λ m j. refl)

-- ---- any line

filled_zone : (slot : Option ℕ) → IsSome slot → (zone : ℕ) × (slot ≡ Some zone)
filled_zone (Some zone) is = (zone, refl)
filled_zone None is = absurd (false≢true is)

pub filled-more : (workers size z : ℕ) (lines : List Line) (line : Line) → NamesBelow workers size line → LineFits lines line → Steps workers size z lines line
filled-more workers size z lines (Does w (Alloc zone slot arg reserve)) below fits = by_alloc workers size z lines w zone slot arg reserve below.0 below.1 fits.0
filled-more workers size z lines (Does w (Free slot)) below fits =
    let found = filled_zone (held lines w slot) fits.0 in by_free workers size z lines w slot found.0 below.0 below.1 found.1
filled-more workers size z lines (Does w Enter) below fits = omega (arith, by_other workers size z lines w Enter (λ before slot. refl))
filled-more workers size z lines (Does w Exit) below fits = omega (arith, by_other workers size z lines w Exit (λ before slot. refl))
filled-more workers size z lines (Does w (Bind key value)) below fits = omega (arith, by_other workers size z lines w (Bind key value) (λ before slot. refl))
filled-more workers size z lines (Does w (Unbind key)) below fits = omega (arith, by_other workers size z lines w (Unbind key) (λ before slot. refl))
filled-more workers size z lines (Does w (Look key)) below fits = omega (arith, by_other workers size z lines w (Look key) (λ before slot. refl))
filled-more workers size z lines (Does w (Trim zone)) below fits = omega (arith, by_other workers size z lines w (Trim zone) (λ before slot. refl))
filled-more workers size z lines (Does w (Drain zone)) below fits = omega (arith, by_other workers size z lines w (Drain zone) (λ before slot. refl))
filled-more workers size z lines (Does w (DrainSeat zone)) below fits = omega (arith, by_other workers size z lines w (DrainSeat zone) (λ before slot. refl))
filled-more workers size z lines (Does w (Prealloc zone items)) below fits = omega (arith, by_other workers size z lines w (Prealloc zone items) (λ before slot. refl))
filled-more workers size z lines (Does w Away) below fits = omega (arith, by_other workers size z lines w Away (λ before slot. refl))
filled-more workers size z lines (Does w Back) below fits = omega (arith, by_other workers size z lines w Back (λ before slot. refl))
filled-more workers size z lines (Moves (Give giver from taker to)) below fits =
    let found = filled_zone (held lines giver from) fits.0 in
    omega (arith, by_give workers size z lines giver from taker to found.0 below.0 below.1 below.2 below.3 found.1 fits.1)
filled-more workers size z lines (Moves (SetMax zone limit)) below fits = omega (arith, by_limit workers size z lines zone limit)

-- ---- all lines

-- the slots that are filled, and the frees, are the requests
abbrev pub AddsUp : ℕ → ℕ → ℕ → List Line → Type 0
AddsUp workers size z lines = filled_slots workers size z lines + emptied_count z lines ≡ ask_count z lines

pub ask-more : (z : ℕ) (line : Line) (lines : List Line) → ask_count z (line ∷ lines) ≡ ask_count z lines + cond (asks_of z line) 1 0
unfolding ask_count
ask-more z line lines = refl

free-more : (z : ℕ) (line : Line) (lines : List Line) → emptied_count z (line ∷ lines) ≡ emptied_count z lines + cond (frees_of z lines line) 1 0
unfolding emptied_count
free-more z line lines = refl

pub adds-more : (workers size z : ℕ) (lines : List Line) (line : Line) → NamesBelow workers size line → LineFits lines line → AddsUp workers size z lines → AddsUp workers size z (line ∷ lines)
adds-more workers size z lines line below fits before =
    omega (arith, filled-more workers size z lines line below fits, before, ask-more z line lines, free-more z line lines)

pub ask-none : (z : ℕ) → ask_count z [] ≡ 0
unfolding ask_count
ask-none z = refl

emptied-none : (z : ℕ) → emptied_count z [] ≡ 0
unfolding emptied_count
emptied-none z = refl

-- before the first line
pub AddsUp-none : (workers size z : ℕ) → AddsUp workers size z []
AddsUp-none workers size z =
    let none : filled_slots workers size z [] ≡ 0 = over-zero (filled_at z []) workers size (λ m j. refl) in
    omega (arith, none, ask-none z, emptied-none z)

-- it counts the frees as the report does
pub emptied-is : (z : ℕ) (lines : List Line) → emptied_count z lines ≡ free_count z lines
unfolding emptied_count
emptied-is z [] = refl
emptied-is z (line ∷ lines) = ap (λ n. n + cond (frees_of z lines line) 1 0) (emptied-is z lines)
