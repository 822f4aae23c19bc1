-- Where a clock of objects begins.
use Rattle.std.proofs.Common.{◌≡◌, ℕ, zero, suc, ◌+◌, ◌-◌, ◌*◌, ◌<◌, ◌≤◌, List, [], ◌∷◌, ◌++◌, length, replicate, get_or, slice_index, refl, sym, ap, ◌∙◌, subst, ⊎_elim, inl, inr, arith}
use Rattle.std.proofs.lemmas.List.{length-append, length-replicate, get_or-append-add, get_or-replicate}
use mathlib.Core.Option.{some, some-injective, some-ne-none}
use lib.ListN.{get_elem?}
use Rattle.smr_core.specs.ClockState.{place_after_seats, opening_words}
use Rattle.smr_core.proofs.PlaceLemmas.{at_push}
use Rattle.smr_clock.specs.declared.clock.Setup.{Setup}
use Rattle.smr_clock.specs.declared.clock.Clock.{Clock}
use Rattle.smr_clock.specs.Views.{first_view}
use Rattle.smr_clock.specs.Making.{first_words, Opens}
use Rattle.smr_clock.proofs.HostClocked.{opening-long, opens_clocked}
use Rattle.smr_objects.specs.declared.objects.Objects.{Objects}
use Rattle.smr_objects.specs.declared.cell.CellView.{CellView}
use Rattle.smr_objects.specs.declared.cell.SlotView.{SlotView}
use Rattle.smr_objects.specs.declared.objects.Part.{Part}
use Rattle.smr_objects.specs.declared.cell.Cell.{Cell}
use Rattle.smr_objects.specs.Cells.{In, fresh_slot, slot_at, fresh_cell, cells_from, first_part, cell_holds, all_holds, Has, IsCell, KnowsIt, LookedIt, HoldsIt}
use Rattle.smr_objects.specs.ObjectsLaw.{IsPlan, SlotFits, CellFits, Objected}
use Rattle.smr_objects.specs.CellViews.{IsCellOf, cell_knows}
use Rattle.smr_objects.specs.Opening.{AreOpenCells}
use Rattle.smr_objects.specs.Moving.{without, without_first, first_of}
use Rattle.smr_objects.proofs.Seats.{decide}
use Rattle.smr_objects.proofs.Moves.{without_far}

-- ---- the cells of the first part

pub cell_there : (first count n : ℕ) → first ≤ n → n < first + count → In (fresh_cell n) (cells_from first count)
unfolding cells_from
cell_there first zero n low high = absurd (omega arith)
cell_there first (suc count) n low high =
    ⊎_elim
    (λ e. inl (ap fresh_cell (sym e)))
    (λ h. inr (cell_there (first + 1) count n (omega arith) (omega arith)))
    (decide first n)

pub cell_is : (first count : ℕ) (v : CellView) → In v (cells_from first count) → (v ≡ fresh_cell v.number) × (v.number < first + count)
unfolding cells_from
cell_is first zero v h = absurd h
cell_is first (suc count) v h =
    ⊎_elim
    (λ e.
    let same : first ≡ v.number = ap (λ (y : CellView). y.number) e in
    (sym e ∙ ap fresh_cell same, omega arith))
    (λ t. let k = cell_is (first + 1) count v t in let high = k.1 in (k.0, omega arith))
    h

-- the cells behind a number are without it
rest_from : (first n count : ℕ) → n < first → without n (cells_from first count) ≡ cells_from first count
unfolding cells_from
rest_from first n zero low = refl
rest_from first n (suc count) low = without_far n (fresh_cell first) (cells_from (first + 1) count) (λ e. omega arith) ∙ ap (λ (l : List CellView). fresh_cell first ∷ l) (rest_from (first + 1) n count (omega arith))

cells_next : (first count : ℕ) → cells_from first (suc count) ≡ fresh_cell first ∷ cells_from (first + 1) count
unfolding cells_from
cells_next first count = refl

cells_left : (n plan : ℕ) → n < plan → cells_from n (plan - n) ≡ fresh_cell n ∷ cells_from (n + 1) (plan - (n + 1))
cells_left n plan below =
    let one : plan - n ≡ suc (plan - (n + 1)) = omega arith in
    ap (λ (k : ℕ). cells_from n k) one ∙ cells_next n (plan - (n + 1))

pub cells_out : (n plan : ℕ) (cells : List CellView) → n < plan → cells ≡ cells_from n (plan - n) → first_of cells ≡ fresh_cell n ∷ []
cells_out n plan cells below e = ap first_of (e ∙ cells_left n plan below)

pub cells_rest : (n plan : ℕ) (cells : List CellView) → n < plan → cells ≡ cells_from n (plan - n) → without_first cells ≡ cells_from (n + 1) (plan - (n + 1))
cells_rest n plan cells below e = ap without_first (e ∙ cells_left n plan below) ∙ rest_from (n + 1) n (plan - (n + 1)) (omega arith)

-- ---- the law where the clock begins

module _ (a : Setup) where
  clock_long : length (opening_words a.config) ≡ place_after_seats a.config
  clock_long = opening-long a.config

  zero_there : (k : ℕ) → k < 48 * a.plan.0 → slice_index (first_words a (replicate (48 * a.plan.0) 0)) (place_after_seats a.config + k) ≡ 0
  zero_there k below =
      ap (λ (n : ℕ). get_or (first_words a (replicate (48 * a.plan.0) 0)) (n + k) 0) (sym clock_long)
      ∙ get_or-append-add (opening_words a.config) (replicate (48 * a.plan.0) 0) k 0
      ∙ get_or-replicate (48 * a.plan.0) k 0 0 below

  words_long : length (first_words a (replicate (48 * a.plan.0) 0)) ≡ place_after_seats a.config + 48 * a.plan.0
  words_long =
      let all : length (first_words a (replicate (48 * a.plan.0) 0)) ≡ length (opening_words a.config) + length (replicate {A = ℕ} (48 * a.plan.0) 0) = length-append (opening_words a.config) (replicate (48 * a.plan.0) 0) in
      let more : length (replicate {A = ℕ} (48 * a.plan.0) 0) ≡ 48 * a.plan.0 = length-replicate (48 * a.plan.0) 0 in
      let clock = clock_long in
      sums _ _ _ _ _ all clock more
    where
      sums : (x y z p m : ℕ) → x ≡ y + z → y ≡ p → z ≡ m → x ≡ p + m
      sums x y z p m e f g = omega arith

  alone : (F : Part → Type 0) (at : ℕ) → Has (first_part a ∷ []) at F → (at ≡ 0) × F (first_part a)
  alone F zero h = (refl, subst F (sym (some-injective (first_part a) h.0 h.1)) h.2)
  alone F (suc at) h = absurd (some-ne-none h.0 (sym h.1))

  alone_part : (at : ℕ) (p : Part) → get_elem? (first_part a ∷ []) at ≡ some p → first_part a ≡ p
  alone_part zero p e = some-injective (first_part a) p e
  alone_part (suc at) p e = absurd (some-ne-none p (sym e))

  its : (F : Part → Type 0) → F (first_part a) → Has (first_part a ∷ []) 0 F
  its F f = (first_part a, refl, f)

  cell_of_first : (at : ℕ) (v : CellView) → Has (first_part a ∷ []) at (IsCell v) → (v ≡ fresh_cell v.number) × (v.number < a.plan.0)
  cell_of_first at v h = let k = cell_is 0 a.plan.0 v (alone (IsCell v) at h).1 in let high = k.1 in (k.0, omega arith)

  fresh_there : (slot : ℕ) → slot < 16 → fresh_slot ≡ slot_at (replicate 16 fresh_slot) slot
  fresh_there slot few = sym (get_or-replicate 16 slot fresh_slot fresh_slot few)

  fresh_slot_fits : (n slot : ℕ) → n < a.plan.0 → slot < 16 → SlotFits a (first_words a (replicate (48 * a.plan.0) 0)) (all_holds (first_part a ∷ []) n slot) n slot fresh_slot
  fresh_slot_fits n slot below few =
      record {
        value = zero_there (48 * n + (16 + slot)) (omega arith);
        word = (zero_there (48 * n + (32 + slot)) (omega arith), refl);
      }

  fresh_fits : (n : ℕ) → n < a.plan.0 → CellFits a (first_words a (replicate (48 * a.plan.0) 0)) (all_holds (first_part a ∷ [])) (fresh_cell n)
  fresh_fits n below =
      record {
        number = below;
        sixteen = length-replicate 16 fresh_slot;
        word = zero_there (48 * n) (omega arith);
        low = omega arith;
        numbered = tt;
        of_cell = λ r h. absurd h;
        current = tt;
        slots = λ slot few.
            subst (λ (x : SlotView). SlotFits a (first_words a (replicate (48 * a.plan.0) 0)) (all_holds (first_part a ∷ []) n slot) n slot x) (fresh_there slot few) (fresh_slot_fits n slot below few);
      }

  pub objects_opens : IsPlan a.plan.0 a.plan.1 → (more : List ℕ) → more ≡ replicate (48 * a.plan.0) 0 → Opens Objected a (first_part a) more
  objects_opens plan more is range =
      subst (λ (m : List ℕ). Objected a (first_words a m) (first_view a (first_part a) ∷ [])) (sym is)
      (record {
        clock = opens_clocked a (first_part a) (replicate (48 * a.plan.0) 0) range;
        objects = record {
          planned = plan;
          room = let long = words_long in omega arith;
          cells = λ at v has.
              let k = cell_of_first at v has in
              subst (λ (y : CellView). CellFits a (first_words a (replicate (48 * a.plan.0) 0)) (all_holds (first_part a ∷ [])) y) (sym k.0) (fresh_fits v.number k.1);
          one_cell = λ at other v w p q e.
              ((alone (IsCell v) at p).0 ∙ sym (alone (IsCell w) other q).0, (cell_of_first at v p).0 ∙ ap fresh_cell e ∙ sym (cell_of_first other w q).0);
          all_cells = λ n below. (0, fresh_cell n, its (IsCell (fresh_cell n)) (cell_there 0 a.plan.0 n (omega arith) (omega arith)), refl);
          single = λ at cell p e. subst (λ (y : Part). cell_holds cell y.holds ≤ 1) (alone_part at p e) (omega arith);
          seated = λ at r has. absurd (alone (HoldsIt r) at has).1;
          holds = λ at r has. absurd (alone (HoldsIt r) at has).1;
          looks = λ at l has. absurd (alone (LookedIt l) at has).1;
          knows = λ at r has. absurd (alone (KnowsIt r) at has).1;
        };
      })

-- ---- the cells of a making, one by one

pub one_cell_more : (clock : Clock Objects Part) (count : ℕ) (cells cells' : List Cell) (cell : Cell) → AreOpenCells clock cells → cells' ≡ cells ++ cell ∷ [] → length cells ≡ count
    → IsCellOf clock cell → cell_knows cell ≡ fresh_cell count → AreOpenCells clock cells'
one_cell_more clock count cells cells' cell before is long here fresh =
    subst (λ (l : List Cell). AreOpenCells clock l) (sym is)
    (λ n c there.
    ⊎_elim
    (λ t. before n c t)
    (λ t. subst (λ (y : Cell). IsCellOf clock y × (cell_knows y ≡ fresh_cell n)) t.1 (here, fresh ∙ ap fresh_cell (sym long ∙ sym t.0)))
    (at_push cells cell c n there))

pub one_longer : (cells cells' : List Cell) (cell : Cell) (count : ℕ) → cells' ≡ cells ++ cell ∷ [] → length cells ≡ count → length cells' ≡ count + 1
one_longer cells cells' cell count is long =
    let all : length (cells ++ cell ∷ []) ≡ length cells + 1 = length-append cells (cell ∷ []) in
    let same : length cells' ≡ length (cells ++ cell ∷ []) = ap length is in
    omega arith
