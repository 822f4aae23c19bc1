-- Where the names begin.
use Rattle.std.proofs.Common.{◌≡◌, ℕ, zero, suc, ◌+◌, ◌-◌, ◌*◌, ◌/◌, ◌^◌, ◌<◌, ◌≤◌, ◌⊎◌, List, [], ◌∷◌, ◌++◌, length, replicate, get_or, nat_lt, Bool, true, false, slice_index, refl, sym, ap, ◌∙◌, subst, ⊎_elim, inl, inr, arith, Option, Some, None}
use Rattle.std.proofs.lemmas.List.{length-append, length-replicate, get_or-append-add, get_or-replicate, get_or_append_left, get_or_past}
use Rattle.std.specs.Prelude.{slice_index_or}
use mathlib.Core.Option.{some-injective, some-ne-none}
use Rattle.std.proofs.lemmas.Nat.{div-mul-add}
use Rattle.smr_core.specs.ClockState.{place_after_seats, opening_words}
use Rattle.smr_clock.specs.declared.clock.Setup.{Setup}
use Rattle.smr_clock.specs.Views.{first_view}
use Rattle.smr_clock.specs.Making.{first_words, Opens}
use Rattle.smr_clock.proofs.HostClocked.{opening-long, opens_clocked}
use Rattle.name_rows.specs.declared.names.Record.{Record}
use Rattle.name_rows.specs.declared.names.RowView.{RowView}
use Rattle.name_rows.specs.declared.entry.Owned.{Owned}
use Rattle.name_rows.specs.declared.names.Part.{Part}
use Rattle.name_rows.specs.Records.{In, row_place, key_place, row_word, fresh_entry, fresh_row, rows_from, entries_below, first_part, Has, IsRow, OwnsIt, HoldsIt, KnowsIt}
use Rattle.name_rows.specs.NamesLaw.{IsPlan, RowFitsAt, Named}
use Rattle.name_rows.specs.Laws.{none_is_some}
use Rattle.name_rows.specs.Moving.{row_no, entry_no, found, without, without_first, first_of}
use Rattle.name_rows.specs.RootStates.{is_loose_at}
use Rattle.name_rows.proofs.Seats.{decide}
use Rattle.name_rows.proofs.RootLemmas.{without_far, found_here, found_far}

-- ---- the rows and the entries of the first part

pub row_there : (first count n : ℕ) → first ≤ n → n < first + count → In (fresh_row n) (rows_from first count)
unfolding rows_from
row_there first zero n low high = absurd (omega arith)
row_there first (suc count) n low high =
    ⊎_elim
    (λ e. inl (ap fresh_row (sym e)))
    (λ h. inr (row_there (first + 1) count n (omega arith) (omega arith)))
    (decide first n)

pub row_is : (first count : ℕ) (v : RowView) → In v (rows_from first count) → (v ≡ fresh_row v.number) × (v.number < first + count)
unfolding rows_from
row_is first zero v h = absurd h
row_is first (suc count) v h =
    ⊎_elim
    (λ e.
    let same : first ≡ v.number = ap (λ (y : RowView). y.number) e in
    (sym e ∙ ap fresh_row same, omega arith))
    (λ t. let k = row_is (first + 1) count v t in let high = k.1 in (k.0, omega arith))
    h

pub entry_there : (count n : ℕ) → n < count → In (fresh_entry n) (entries_below count)
unfolding entries_below
entry_there zero n high = absurd (omega arith)
entry_there (suc count) n high =
    ⊎_elim
    (λ e. inl (ap fresh_entry (sym e)))
    (λ h. inr (entry_there count n (omega arith)))
    (decide count n)

pub entry_is : (count : ℕ) (o : Owned) → In o (entries_below count) → (o ≡ fresh_entry o.entry) × (o.entry < count)
unfolding entries_below
entry_is zero o h = absurd h
entry_is (suc count) o h =
    ⊎_elim
    (λ e.
    let same : count ≡ o.entry = ap (λ (y : Owned). y.entry) e in
    (sym e ∙ ap fresh_entry same, omega arith))
    (λ t. let k = entry_is count o t in let high = k.1 in (k.0, omega arith))
    h

-- the rows behind a number are without it
pub rest_from : (first n count : ℕ) → n < first → without row_no n (rows_from first count) ≡ rows_from first count
unfolding rows_from
rest_from first n zero low = refl
rest_from first n (suc count) low = without_far row_no n (fresh_row first) (rows_from (first + 1) count) (λ e. omega arith) ∙ ap (λ (l : List RowView). fresh_row first ∷ l) (rest_from (first + 1) n count (omega arith))

pub rows_next : (first count : ℕ) → rows_from first (suc count) ≡ fresh_row first ∷ rows_from (first + 1) count
unfolding rows_from
rows_next first count = refl

-- ---- the words

module _ (a : Setup) (version : ℕ) where
  -- the rows' words, and two zeros an entry
  abbrev pub names_words : List ℕ
  names_words = replicate a.plan.0 (version * 2 ^ 20) ++ replicate (2 * a.plan.1) 0

  abbrev clock_words : List ℕ
  clock_words = opening_words a.config

  clock_long : length clock_words ≡ place_after_seats a.config
  clock_long = opening-long a.config

  at_name : (k : ℕ) → slice_index (first_words a names_words) (place_after_seats a.config + k) ≡ get_or names_words k 0
  at_name k =
      ap (λ (n : ℕ). get_or (first_words a names_words) (n + k) 0) (sym clock_long)
      ∙ get_or-append-add clock_words names_words k 0

  row_stands : (k : ℕ) → k < a.plan.0 → slice_index (first_words a names_words) (row_place a k) ≡ version * 2 ^ 20
  row_stands k below =
      let long : length (replicate a.plan.0 (version * 2 ^ 20)) ≡ a.plan.0 = length-replicate a.plan.0 (version * 2 ^ 20) in
      at_name k ∙ get_or_append_left (replicate a.plan.0 (version * 2 ^ 20)) (replicate (2 * a.plan.1) 0) 0 k (omega arith) ∙ get_or-replicate a.plan.0 k (version * 2 ^ 20) 0 below

  entry_stands : (k : ℕ) → k < 2 * a.plan.1 → slice_index (first_words a names_words) (place_after_seats a.config + (a.plan.0 + k)) ≡ 0
  entry_stands k below =
      let long : length (replicate a.plan.0 (version * 2 ^ 20)) ≡ a.plan.0 = length-replicate a.plan.0 (version * 2 ^ 20) in
      at_name (a.plan.0 + k)
      ∙ ap (λ (n : ℕ). get_or names_words (n + k) 0) (sym long)
      ∙ get_or-append-add (replicate a.plan.0 (version * 2 ^ 20)) (replicate (2 * a.plan.1) 0) k 0
      ∙ get_or-replicate (2 * a.plan.1) k 0 0 below

  words_long : length (first_words a names_words) ≡ key_place a a.plan.1
  words_long =
      let all : length (first_words a (replicate a.plan.0 (version * 2 ^ 20) ++ replicate (2 * a.plan.1) 0)) ≡ length clock_words + length (replicate a.plan.0 (version * 2 ^ 20) ++ replicate (2 * a.plan.1) 0) = length-append clock_words names_words in
      let both : length (replicate a.plan.0 (version * 2 ^ 20) ++ replicate (2 * a.plan.1) 0) ≡ length (replicate a.plan.0 (version * 2 ^ 20)) + length (replicate {A = ℕ} (2 * a.plan.1) 0) = length-append (replicate a.plan.0 (version * 2 ^ 20)) (replicate (2 * a.plan.1) 0) in
      let rows : length (replicate a.plan.0 (version * 2 ^ 20)) ≡ a.plan.0 = length-replicate a.plan.0 (version * 2 ^ 20) in
      let entries : length (replicate {A = ℕ} (2 * a.plan.1) 0) ≡ 2 * a.plan.1 = length-replicate (2 * a.plan.1) 0 in
      let clock : length clock_words ≡ place_after_seats a.config = clock_long in
      sums _ _ _ _ _ _ _ all both rows entries _ clock
    where
      sums : (x y z w s p e : ℕ) → x ≡ y + z → z ≡ w + s → w ≡ p → s ≡ e → (t : ℕ) → y ≡ t → x ≡ t + (p + e)
      sums x y z w s p e f g h i t j = omega arith

  -- ---- the law

  alone : (F : Part → Type 0) (at : ℕ) → Has (first_part a ∷ []) at F → (at ≡ 0) × F (first_part a)
  alone F zero h = (refl, subst F (sym (some-injective (first_part a) h.0 h.1)) h.2)
  alone F (suc at) h = absurd (some-ne-none h.0 (sym h.1))

  its : (F : Part → Type 0) → F (first_part a) → Has (first_part a ∷ []) 0 F
  its F f = (first_part a, refl, f)

  row_of_first : (at : ℕ) (v : RowView) → Has (first_part a ∷ []) at (IsRow v) → (v ≡ fresh_row v.number) × (v.number < a.plan.0)
  row_of_first at v h = let k = row_is 0 a.plan.0 v (alone (IsRow v) at h).1 in let high = k.1 in (k.0, omega arith)

  entry_of_first : (at : ℕ) (o : Owned) → Has (first_part a ∷ []) at (OwnsIt o) → (o ≡ fresh_entry o.entry) × (o.entry < a.plan.1)
  entry_of_first at o h = entry_is a.plan.1 o (alone (OwnsIt o) at h).1

  fresh_fits : (at n : ℕ) → version < 2 ^ 44 → n < a.plan.0 → RowFitsAt a (version * 2 ^ 20) (first_part a ∷ []) at (fresh_row n)
  fresh_fits at n low below =
      let is : (version * 2 ^ 20) / 2 ^ 20 ≡ version = ap (λ (m : ℕ). m / 2 ^ 20) (plus_zero (version * 2 ^ 20)) ∙ div-mul-add version (2 ^ 20) 0 (omega arith) in
      record {
        number = below;
        word = ap (λ (m : ℕ). m * 2 ^ 20) (sym is) ∙ plus_zero ((version * 2 ^ 20) / 2 ^ 20 * 2 ^ 20);
        low = subst (λ (m : ℕ). m < 2 ^ 44) (sym is) low;
        chained = tt;
        listed = λ r h. ⊎_elim (λ e. (ap (λ (y : Record). y.row) (sym e), let same : (version * 2 ^ 20) / 2 ^ 20 ≡ r.version = ap (λ (y : Record). y.version) e in omega arith)) (λ t. absurd t) h;
        linked = λ b e. absurd (none_is_some b e);
        busy = λ o has clean. refl;
      }
    where
      plus_zero : (m : ℕ) → m ≡ m + 0
      plus_zero m = omega arith

  -- a clock that is made so has a word for each row, and two for each entry
  pub words_fit : (more : List ℕ) (b : Setup) (words : ℕ) → more ≡ names_words → b ≡ a → words ≡ place_after_seats a.config + length more → key_place b b.plan.1 ≤ words
  words_fit more b words is same many =
      let long : length more ≡ length names_words = ap length is in
      let both : length (replicate a.plan.0 (version * 2 ^ 20) ++ replicate (2 * a.plan.1) 0) ≡ length (replicate a.plan.0 (version * 2 ^ 20)) + length (replicate {A = ℕ} (2 * a.plan.1) 0) = length-append (replicate a.plan.0 (version * 2 ^ 20)) (replicate (2 * a.plan.1) 0) in
      let rows : length (replicate a.plan.0 (version * 2 ^ 20)) ≡ a.plan.0 = length-replicate a.plan.0 (version * 2 ^ 20) in
      let entries : length (replicate {A = ℕ} (2 * a.plan.1) 0) ≡ 2 * a.plan.1 = length-replicate (2 * a.plan.1) 0 in
      let room : key_place a a.plan.1 ≤ words = omega arith in
      subst (λ (s : Setup). key_place s s.plan.1 ≤ words) (sym same) room

  pub names_opens : version < 2 ^ 44 → IsPlan a.plan.0 a.plan.1 → (more : List ℕ) → more ≡ names_words → Opens Named a (first_part a) more
  names_opens low plan more is range =
      subst (λ (m : List ℕ). Named a (first_words a m) (first_view a (first_part a) ∷ [])) (sym is)
      (record {
        clock = opens_clocked a (first_part a) names_words range;
        names = record {
          planned = plan;
          room = let long = words_long in omega arith;
          rows = λ at v has.
              let k = row_of_first at v has in
              subst (λ (y : RowView). RowFitsAt a (row_word a (first_words a names_words) y) (first_part a ∷ []) at y) (sym k.0)
              (subst (λ (m : ℕ). RowFitsAt a m (first_part a ∷ []) at (fresh_row v.number)) (sym (row_stands v.number k.1)) (fresh_fits at v.number low k.1));
          one_row = λ at other v w p q e.
              ((alone (IsRow v) at p).0 ∙ sym (alone (IsRow w) other q).0, (row_of_first at v p).0 ∙ ap fresh_row e ∙ sym (row_of_first other w q).0);
          all_rows = λ n below. (0, fresh_row n, its (IsRow (fresh_row n)) (row_there 0 a.plan.0 n (omega arith) (omega arith)), refl);
          owners = λ at o has.
              let k = entry_of_first at o has in
              let below = k.1 in
              record {
                number = below;
                key = entry_stands (2 * o.entry) (omega arith) ∙ ap (λ (y : Owned). y.key) (sym k.0);
                value = ap (λ (m : ℕ). slice_index (first_words a names_words) (place_after_seats a.config + m)) (assoc a.plan.0 (2 * o.entry))
                    ∙ entry_stands (2 * o.entry + 1) (omega arith) ∙ ap (λ (y : Owned). y.value) (sym k.0);
              };
          one_owner = λ at other o x p q e.
              ((alone (OwnsIt o) at p).0 ∙ sym (alone (OwnsIt x) other q).0, (entry_of_first at o p).0 ∙ ap fresh_entry e ∙ sym (entry_of_first other x q).0);
          all_owned = λ n below. (0, fresh_entry n, its (OwnsIt (fresh_entry n)) (entry_there a.plan.1 n below), refl);
          holds = λ at h has. absurd (none_is_some h (alone (HoldsIt h) at has).1);
          knows = λ at r has. absurd (alone (KnowsIt r) at has).1;
        };
      })
    where
      assoc : (m n : ℕ) → m + n + 1 ≡ m + (n + 1)
      assoc m n = omega arith

-- ---- the rows are split off in order

pub rows_left : (n plan : ℕ) → n < plan → rows_from n (plan - n) ≡ fresh_row n ∷ rows_from (n + 1) (plan - (n + 1))
rows_left n plan below =
    let one : plan - n ≡ suc (plan - (n + 1)) = omega arith in
    ap (λ (k : ℕ). rows_from n k) one ∙ rows_next n (plan - (n + 1))

pub rows_fresh : (n count : ℕ) (rows : List RowView) → rows ≡ rows_from n count → (v : RowView) → In v rows → v.records ≡ []
rows_fresh n count rows e v h = ap (λ (y : RowView). y.records) (row_is n count v (subst (λ (l : List RowView). In v l) e h)).0

pub rows_out : (n plan : ℕ) (rows : List RowView) → n < plan → rows ≡ rows_from n (plan - n) → first_of rows ≡ fresh_row n ∷ []
rows_out n plan rows below e = ap first_of (e ∙ rows_left n plan below)

pub rows_rest : (n plan : ℕ) (rows : List RowView) → n < plan → rows ≡ rows_from n (plan - n) → without_first rows ≡ rows_from (n + 1) (plan - (n + 1))
rows_rest n plan rows below e = ap without_first (e ∙ rows_left n plan below) ∙ rest_from (n + 1) n (plan - (n + 1)) (omega arith)

pub rows_done : (n plan : ℕ) → plan ≤ n → rows_from n (plan - n) ≡ []
unfolding rows_from
rows_done n plan high = let none : plan - n ≡ 0 = omega arith in ap (λ (k : ℕ). rows_from n k) none

-- ---- the root's table of fresh entries

found_below : (count n : ℕ) → n < count → found entry_no n (entries_below count) ≡ Some (fresh_entry n)
unfolding entries_below
found_below zero n low = absurd (omega arith)
found_below (suc count) n low =
    ⊎_elim
    (λ e. found_here entry_no n (fresh_entry count) (entries_below count) (sym e) ∙ ap (λ (m : ℕ). Some (fresh_entry m)) (sym e))
    (λ h. found_far entry_no n (fresh_entry count) (entries_below count) (λ e. h (sym e)) ∙ found_below count n (omega arith))
    (decide count n)

found_past : (count n : ℕ) → count ≤ n → found entry_no n (entries_below count) ≡ None
unfolding entries_below
found_past zero n high = refl
found_past (suc count) n high = found_far entry_no n (fresh_entry count) (entries_below count) (λ e. omega arith) ∙ found_past count n (omega arith)

found_loose : (count n : ℕ) → is_loose_at (found entry_no n (entries_below count)) ≡ true
unfolding entries_below
found_loose zero n = refl
found_loose (suc count) n =
    ⊎_elim
    (λ e. ap is_loose_at (found_here entry_no n (fresh_entry count) (entries_below count) (sym e)))
    (λ h. ap is_loose_at (found_far entry_no n (fresh_entry count) (entries_below count) (λ e. h (sym e))) ∙ found_loose count n)
    (decide count n)

module _ (count : ℕ) (kept : List (Option Owned)) (long : length kept ≡ count) (fresh : (n : ℕ) → n < count → slice_index_or kept n None ≡ Some (fresh_entry n)) where
  pub table_owns : (n : ℕ) → found entry_no n (entries_below count) ≡ slice_index_or kept n None
  table_owns n =
      ⊎_elim
      (λ low. found_below count n low ∙ sym (fresh n low))
      (λ high. found_past count n high ∙ sym (get_or_past kept n None (omega arith)))
      (below_or n count)
    where
      below_or : (m k : ℕ) → (m < k) ⊎ (k ≤ m)
      below_or m k = by_test (nat_lt m k) refl
        where
          by_test : (b : Bool) → nat_lt m k ≡ b → (m < k) ⊎ (k ≤ m)
          by_test true e = inl (grind arith)
          by_test false e = inr (grind arith)

  pub table_loose : (n : ℕ) → is_loose_at (slice_index_or kept n None) ≡ true
  table_loose n = ap is_loose_at (sym (table_owns n)) ∙ found_loose count n
