-- The slots that the generator keeps are those that are filled in the reading of its lines, and no worker is away.
use Rattle.std.proofs.Common.{◌≡◌, ◌<◌, ◌≤◌, ◌≢◌, ℕ, Bool, true, false, cond, List, [], ◌∷◌, Some, get_or, set, length, replicate, refl, sym, ap, subst, ◌∙◌, inl, inr, eq-eqb, ne_eqb, arith}
use Rattle.std.specs.Prelude.{is_some, ◌==◌, ◌&&◌}
use Rattle.std.proofs.lemmas.Bool.{cases_eq, cases_lt}
use Rattle.std.proofs.lemmas.List.{get_or-set_same, get_or-set_other, set-get_or, get_or-replicate, get_or_past, length-set, length-replicate}
use Rattle.trace_text.specs.declared.trace.Between.TheVariants.{Give}
use Rattle.trace_text.specs.declared.trace.Op.{Op}
use Rattle.trace_text.specs.declared.trace.Op.TheVariants.{Alloc, Free, Enter, Exit, Bind, Unbind, Look, Trim, Drain, DrainSeat, Prealloc, Away, Back}
use Rattle.trace_text.specs.declared.trace_reading.fields.Entry.TheVariants as entries
use Rattle.trace_text.specs.Lines.{Line, Does, Moves}
use Rattle.trace_text.specs.Reading.{held, is_away, away_after}
use Rattle.trace_text.specs.TraceShown.{filled_by}
use Rattle.trace_text.proofs.TraceSlots.{filled_next}
use Rattle.trace_gen.specs.Generator.{slots_after, slots_given}
use Rattle.trace_gen.proofs.DrawnOps.{MayDo, MayGive}

abbrev pub row : List (List Bool) → ℕ → List Bool
row slots w = get_or slots w []

-- whether a worker's slot is filled
abbrev pub mark : List (List Bool) → ℕ → ℕ → Bool
mark slots w slot = get_or (row slots w) slot false

pub record Knows (workers : ℕ) (slots : List (List Bool)) (before : List Line) : Type 0 where
  pub whole : length slots ≡ workers
  pub few : (w : ℕ) → length (row slots w) ≤ 256
  pub same : (w slot : ℕ) → mark slots w slot ≡ is_some (held before w slot)
  pub there : (w : ℕ) → is_away before w ≡ false

-- ---- one mark is set

row_set : (slots : List (List Bool)) (w : ℕ) (new : List Bool) (v : ℕ) → w < length slots → row (set slots w new) v ≡ cond (w == v) new (row slots v)
row_set slots w new v there = elim (cases_eq v w) [
  | inl e ↦ rw (e, eq-eqb w w refl, get_or-set_same slots w new [] there) refl
  | inr ne ↦ rw (ne_eqb w v (λ e. ne (sym e)), get_or-set_other slots w v new [] ne) refl
]

mark_in_row : (marks : List Bool) (slot : ℕ) (to : Bool) (t : ℕ) → slot < length marks → get_or (set marks slot to) t false ≡ cond (slot == t) to (get_or marks t false)
mark_in_row marks slot to t there = elim (cases_eq t slot) [
  | inl e ↦ rw (e, eq-eqb slot slot refl, get_or-set_same marks slot to false there) refl
  | inr ne ↦ rw (ne_eqb slot t (λ e. ne (sym e)), get_or-set_other marks slot t to false ne) refl
]

-- of a choice of two rows, the mark is that of the one or of the other
mark_of_either : (b : Bool) (x y : List Bool) (t : ℕ) → get_or (cond b x y) t false ≡ cond b (get_or x t false) (get_or y t false)
mark_of_either true x y t = refl
mark_of_either false x y t = refl

-- where the tested numbers are equal, one may stand for the other
in_test : (w v : ℕ) (f : ℕ → Bool) (z : Bool) → cond (w == v) (f w) z ≡ cond (w == v) (f v) z
in_test w v f z = elim (cases_eq w v) [
  | inl e ↦ ap (λ (u : ℕ). cond (w == v) (f u) z) e
  | inr ne ↦ rw (ne_eqb w v ne) refl
]

pub mark_set : (slots : List (List Bool)) (w slot : ℕ) (to : Bool) (v t : ℕ) → w < length slots → slot < length (row slots w)
    → mark (set slots w (set (row slots w) slot to)) v t ≡ cond (w == v) (cond (slot == t) to (mark slots v t)) (mark slots v t)
mark_set slots w slot to v t there within =
    ap (λ (r : List Bool). get_or r t false) (row_set slots w (set (row slots w) slot to) v there)
    ∙ (mark_of_either (w == v) (set (row slots w) slot to) (row slots v) t
    ∙ (ap (λ (m : Bool). cond (w == v) m (mark slots v t)) (mark_in_row (row slots w) slot to t within)
    ∙ in_test w v (λ u. cond (slot == t) to (mark slots u t)) (mark slots v t)))

either_few : (b : Bool) (x y : List Bool) → length x ≤ 256 → length y ≤ 256 → length (cond b x y) ≤ 256
either_few true x y few few2 = few
either_few false x y few few2 = few2

pub few_set : (slots : List (List Bool)) (w : ℕ) (new : List Bool) → w < length slots → ((v : ℕ) → length (row slots v) ≤ 256) → length new ≤ 256
    → (v : ℕ) → length (row (set slots w new) v) ≤ 256
few_set slots w new there few fits v = subst (λ (r : List Bool). length r ≤ 256) (sym (row_set slots w new v there)) (either_few (w == v) new (row slots v) fits (few v))

-- ---- after an operation

same_next : (op : Op) (before : List Line) (w v t : ℕ) → is_some (held (Does w op ∷ before) v t) ≡ cond (w == v) (filled_by op t (is_some (held before v t))) (is_some (held before v t))
same_next op before w v t = filled_next (entries.Does w op) before v t

either_there : (b x y : Bool) → x ≡ false → y ≡ false → cond b x y ≡ false
either_there true x y e f = e
either_there false x y e f = f

-- nobody leaves by such an operation
still_there : (op : Op) (before : List Line) (w v : ℕ) → ((b : Bool) → away_after op b ≡ b) → is_away before v ≡ false → is_away (Does w op ∷ before) v ≡ false
still_there op before w v keeps there = either_there (w == v) (away_after op (is_away before v)) (is_away before v) (keeps (is_away before v) ∙ there) there

marked : (op : Op) (workers : ℕ) (slots : List (List Bool)) (before : List Line) (w slot : ℕ) (to : Bool) → Knows workers slots before → w < workers → slot < length (row slots w)
    → ((t : ℕ) (b : Bool) → filled_by op t b ≡ cond (slot == t) to b) → ((b : Bool) → away_after op b ≡ b)
    → Knows workers (set slots w (set (row slots w) slot to)) (Does w op ∷ before)
marked op workers slots before w slot to knows lt within fills stays =
    let there : w < length slots = let e = knows.whole in omega arith in
    record {
      whole = length-set slots w (set (row slots w) slot to) ∙ knows.whole;
      few = few_set slots w (set (row slots w) slot to) there knows.few (let e = length-set (row slots w) slot to in let le = knows.few w in omega arith);
      same = λ v t.
          mark_set slots w slot to v t there within
          ∙ (ap (λ (m : Bool). cond (w == v) (cond (slot == t) to m) m) (knows.same v t)
          ∙ (ap (λ (m : Bool). cond (w == v) m (is_some (held before v t))) (sym (fills t (is_some (held before v t))))
          ∙ sym (same_next op before w v t)));
      there = λ v. still_there op before w v stays (knows.there v);
    }

either_way : (b : Bool) (x : Bool) → x ≡ cond b x x
either_way true x = refl
either_way false x = refl

unmarked : (op : Op) (workers : ℕ) (slots : List (List Bool)) (before : List Line) (w : ℕ) → Knows workers slots before
    → ((t : ℕ) (b : Bool) → filled_by op t b ≡ b) → ((b : Bool) → away_after op b ≡ b)
    → Knows workers (set slots w (row slots w)) (Does w op ∷ before)
unmarked op workers slots before w knows keeps stays =
    subst (λ (s : List (List Bool)). Knows workers s (Does w op ∷ before)) (sym (set-get_or slots w []))
    (record {
      whole = knows.whole;
      few = knows.few;
      same = λ v t.
          knows.same v t
          ∙ (either_way (w == v) (is_some (held before v t))
          ∙ (ap (λ (m : Bool). cond (w == v) m (is_some (held before v t))) (sym (keeps t (is_some (held before v t))))
          ∙ sym (same_next op before w v t)));
      there = λ v. still_there op before w v stays (knows.there v);
    })

pub knows_did : (op : Op) (workers : ℕ) (slots : List (List Bool)) (before : List Line) (w : ℕ) → Knows workers slots before → w < workers → MayDo (row slots w) op
    → Knows workers (set slots w (slots_after op (row slots w))) (Does w op ∷ before)
knows_did (Alloc zone slot arg reserve) workers slots before w knows lt may = marked (Alloc zone slot arg reserve) workers slots before w slot true knows lt may.1.there (λ t b. refl) (λ b. refl)
knows_did (Free slot) workers slots before w knows lt may = marked (Free slot) workers slots before w slot false knows lt may.there (λ t b. refl) (λ b. refl)
knows_did (Bind key value) workers slots before w knows lt may = unmarked (Bind key value) workers slots before w knows (λ t b. refl) (λ b. refl)
knows_did (Unbind key) workers slots before w knows lt may = unmarked (Unbind key) workers slots before w knows (λ t b. refl) (λ b. refl)
knows_did (Look key) workers slots before w knows lt may = unmarked (Look key) workers slots before w knows (λ t b. refl) (λ b. refl)
knows_did Enter workers slots before w knows lt may = absurd may
knows_did Exit workers slots before w knows lt may = absurd may
knows_did (Trim zone) workers slots before w knows lt may = absurd may
knows_did (Drain zone) workers slots before w knows lt may = absurd may
knows_did (DrainSeat zone) workers slots before w knows lt may = absurd may
knows_did (Prealloc zone items) workers slots before w knows lt may = absurd may
knows_did Away workers slots before w knows lt may = absurd may
knows_did Back workers slots before w knows lt may = absurd may

-- ---- after a `give` line

-- a test within a test
both_tests : (p q : Bool) (x y : Bool) → cond p (cond q x y) y ≡ cond (p && q) x y
both_tests true q x y = refl
both_tests false q x y = refl

-- the row of a worker who gives nothing
other_row : (slots : List (List Bool)) (giver : ℕ) (new : List Bool) (taker : ℕ) → giver < length slots → giver ≢ taker → row (set slots giver new) taker ≡ row slots taker
other_row slots giver new taker there ne = get_or-set_other slots giver taker new [] (λ e. ne (sym e))

pub knows_gave : (workers : ℕ) (slots : List (List Bool)) (before : List Line) (giver from taker to : ℕ) → Knows workers slots before
    → MayGive workers slots (Some (Give giver from taker to))
    → Knows workers (slots_given (Some (Give giver from taker to)) slots) (Moves (Give giver from taker to) ∷ before)
knows_gave workers slots before giver from taker to knows may =
    let there : giver < length slots = let e = knows.whole in let lt = may.0 in omega arith in
    let left : List (List Bool) = set slots giver (set (row slots giver) from false) in
    let left_whole : length left ≡ workers = length-set slots giver (set (row slots giver) from false) ∙ knows.whole in
    let there2 : taker < length left = let lt = may.1 in omega arith in
    let left_few : (v : ℕ) → length (row left v) ≤ 256 =
    few_set slots giver (set (row slots giver) from false) there knows.few (let e = length-set (row slots giver) from false in let le = knows.few giver in omega arith)
    in
    let within : to < length (row left taker) =
    subst (λ (r : List Bool). to < length r) (sym (other_row slots giver (set (row slots giver) from false) taker there may.2)) may.4.there
    in
    let given : is_some (held before giver from) ≡ true = sym (knows.same giver from) ∙ may.3.full in
    record {
      whole = length-set left taker (set (row left taker) to true) ∙ left_whole;
      few = few_set left taker (set (row left taker) to true) there2 left_few (let e = length-set (row left taker) to true in let le = left_few taker in omega arith);
      same = λ v t.
          let old : Bool = is_some (held before v t) in
          let left_is : mark left v t ≡ cond ((giver == v) && (from == t)) false old =
          mark_set slots giver from false v t there may.3.there
          ∙ (both_tests (giver == v) (from == t) false (mark slots v t)
          ∙ ap (λ (m : Bool). cond ((giver == v) && (from == t)) false m) (knows.same v t))
          in
          mark_set left taker to true v t there2 within
          ∙ (both_tests (taker == v) (to == t) true (mark left v t)
          ∙ (ap (λ (m : Bool). cond ((taker == v) && (to == t)) true m) left_is
          ∙ (ap (λ (m : Bool). cond ((taker == v) && (to == t)) m (cond ((giver == v) && (from == t)) false old)) (sym given)
          ∙ sym (filled_next (entries.Moves (Give giver from taker to)) before v t))));
      there = knows.there;
    }

-- ---- before the first line

begun_row : (workers w : ℕ) (slot : ℕ) → mark (replicate workers (replicate 256 false)) w slot ≡ false
begun_row workers w slot = elim (cases_lt w workers) [
  | inl lt ↦ rw (get_or-replicate workers w (replicate 256 false) [] lt) (elim (cases_lt slot 256) [
    | inl within ↦ get_or-replicate 256 slot false false within
    | inr past ↦ get_or_past (replicate 256 false) slot false (let e = length-replicate 256 false in omega arith)
  ])
  | inr past ↦ rw (get_or_past (replicate workers (replicate 256 false)) w [] (let e = length-replicate workers (replicate 256 false) in omega arith)) refl
]

begun_few : (workers w : ℕ) → length (row (replicate workers (replicate 256 false)) w) ≤ 256
begun_few workers w = elim (cases_lt w workers) [
  | inl lt ↦ rw (get_or-replicate workers w (replicate 256 false) [] lt, length-replicate 256 false) (omega arith)
  | inr past ↦ rw (get_or_past (replicate workers (replicate 256 false)) w [] (let e = length-replicate workers (replicate 256 false) in omega arith)) (omega arith)
]

pub knows_none : (workers : ℕ) → Knows workers (replicate workers (replicate 256 false)) []
knows_none workers = record { whole = length-replicate workers (replicate 256 false); few = begun_few workers; same = begun_row workers; there = λ w. refl }
