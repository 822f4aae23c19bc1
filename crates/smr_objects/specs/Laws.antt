-- Each step of the clock keeps the law of objects: what the host owes the clock.
use Rattle.std.specs.Prelude.{◌≡◌, ℕ, zero, suc, ◌+◌, ◌≤◌, ◌⊎◌, List, [], ◌∷◌, ◌++◌, length, slice_index, slice_set as set, sum_by, Bool, IsTrue, false, true, Option, Some, None}
use Rattle.std.proofs.Common.{refl, sym, ap, subst, ◌∙◌, ◌≢◌, inl, inr, ⊎_elim, le_trans, le-add_right}
use Rattle.std.proofs.lemmas.List.Sums.{sum_by-cons}
use mathlib.Core.Option.{some, some-injective, some-ne-none}
use lib.ListN.{get_elem?}
use Rattle.smr_core.specs.ClockState.{place_after_seats, write_hand, read_hand}
use Rattle.smr_core.proofs.PlaceLemmas.{at_set, at_push, at_longer, at_map, set_else}
use Rattle.smr_clock.specs.declared.clock.Setup.{Setup}
use Rattle.smr_clock.specs.declared.view.View.{View}
use Rattle.smr_clock.specs.Views.{hosts_of, seats_in}
use Rattle.smr_clock.specs.HostLaws.{Includes, FrameLaw, SplitLaw, JoinLaw}
use Rattle.smr_objects.specs.declared.cell.Record.{Record}
use Rattle.smr_objects.specs.declared.cell.SlotView.{SlotView}
use Rattle.smr_objects.specs.declared.cell.CellView.{CellView}
use Rattle.smr_objects.specs.declared.cell.Looked.{Looked}
use Rattle.smr_objects.specs.declared.objects.Part.{Part}
use Rattle.smr_objects.specs.Cells.{In, cell_place, value_place, hold_place, slot_at, HoldWordFits, cell_holds, slot_holds, all_holds, Has, IsCell, KnowsIt, LookedIt, HoldsIt, blank_part, told, learned, has_none, may_note}
use Rattle.smr_objects.specs.ObjectsLaw.{SlotFits, CellFits, TheCell, MayRead, LookFits, HasValue, HoldFits, IsRecord, Kept, Objected}

-- ---- lists

module _ {A : Type 0} where
  pub in_either : (l m : List A) (a : A) → In a (l ++ m) → In a l ⊎ In a m
  in_either [] m a h = inr h
  in_either (x ∷ xs) m a h = ⊎_elim (λ e. inl (inl e)) (λ t. ⊎_elim (λ u. inl (inr u)) (λ u. inr u) (in_either xs m a t)) h

  -- a sum doesn't change where an element is written for which it counts as much
  pub sum_same : (f : A → ℕ) (l : List A) (i : ℕ) (a b : A) → get_elem? l i ≡ some a → f b ≡ f a → sum_by f (set l i b) ≡ sum_by f l
  sum_same f [] i a b e same = refl
  sum_same f (x ∷ xs) zero a b e same =
      sum_by-cons f b xs ∙ ap (λ (n : ℕ). n + sum_by f xs) (same ∙ ap f (sym (some-injective x a e))) ∙ sym (sum_by-cons f x xs)
  sum_same f (x ∷ xs) (suc i) a b e same =
      sum_by-cons f x (set xs i b) ∙ ap (λ (n : ℕ). f x + n) (sum_same f xs i a b e same) ∙ sym (sum_by-cons f x xs)

  -- nor where one is pushed that counts for nothing
  pub sum_push : (f : A → ℕ) (l : List A) (b : A) → f b ≡ 0 → sum_by f (l ++ b ∷ []) ≡ sum_by f l
  sum_push f [] b none = sum_by-cons f b [] ∙ ap (λ (n : ℕ). n + sum_by f []) none
  sum_push f (x ∷ xs) b none = sum_by-cons f x (xs ++ b ∷ []) ∙ ap (λ (n : ℕ). f x + n) (sum_push f xs b none) ∙ sym (sum_by-cons f x xs)

pub none_is_some : {A : Type 0} (a : A) → None ≡ Some a → ⊥
none_is_some {A} a e = subst IsNone e tt
  where
    IsNone : Option A → Type 0
    IsNone None = Unit {0}
    IsNone (Some b) = ⊥

module _ (F : Part → Type 0) where
  -- what is so of the old part of a seat, and then of its new one, stays so of the seat; of the other seats it stays so
  pub has_kept : (l : List Part) (i j : ℕ) (x p : Part) → get_elem? l i ≡ some p → (F p → F x) → Has l j F → Has (set l i x) j F
  has_kept [] i j x p e f h = absurd (some-ne-none p (sym e))
  has_kept (y ∷ ys) zero zero x p e f h = (x, refl, f (subst F (sym (some-injective y h.0 h.1) ∙ some-injective y p e) h.2))
  has_kept (y ∷ ys) zero (suc j) x p e f h = h
  has_kept (y ∷ ys) (suc i) zero x p e f h = h
  has_kept (y ∷ ys) (suc i) (suc j) x p e f h = has_kept ys i j x p e f h

  -- what is so of a seat after one part was written: it is that part, or it was so of another seat
  pub has_set : (l : List Part) (i j : ℕ) (x : Part) → Has (set l i x) j F → ((j ≡ i) × F x) ⊎ ((j ≢ i) × Has l j F)
  has_set l i j x h = ⊎_elim (λ t. inl (t.0, subst F (sym t.1) h.2)) (λ t. inr (t.0, (h.0, t.1, h.2))) (at_set l i j x h.0 h.1)

  pub has_push : (l : List Part) (j : ℕ) (x : Part) → Has (l ++ x ∷ []) j F → Has l j F ⊎ ((j ≡ length l) × F x)
  has_push l j x h = ⊎_elim (λ t. inl (h.0, t, h.2)) (λ t. inr (t.0, subst F (sym t.1) h.2)) (at_push l x h.0 j h.1)

  pub has_longer : (l m : List Part) (j : ℕ) → Has l j F → Has (l ++ m) j F
  has_longer l m j h = (h.0, at_longer l m j h.0 h.1, h.2)

-- ---- steps after which some seat has each cell, as it was, and each hold, and the words of the objects are as they were

pub record Alike (ps ps' : List Part) : Type 0 where
  pub cells_back : (at : ℕ) (v : CellView) → Has ps' at (IsCell v) → (other : ℕ) × Has ps other (IsCell v)
  pub cells_on : (at : ℕ) (v : CellView) → Has ps at (IsCell v) → (other : ℕ) × Has ps' other (IsCell v)
  pub one_cell : (at other : ℕ) (v w : CellView) → Has ps' at (IsCell v) → Has ps' other (IsCell w) → v.number ≡ w.number → (at ≡ other) × (v ≡ w)
  pub count : (cell slot : ℕ) → all_holds ps' cell slot ≡ all_holds ps cell slot

-- no hand is lower, and the words behind the seats' words are the same
pub record Quiet (a : Setup) (ws ws' : List ℕ) : Type 0 where
  pub write_not_lower : write_hand ws ≤ write_hand ws'
  pub read_not_lower : read_hand ws ≤ read_hand ws'
  pub as_many : length ws' ≡ length ws
  pub host_words : (i : ℕ) → place_after_seats a.config ≤ i → slice_index ws' i ≡ slice_index ws i

-- what each seat holds, has looked at and knows after the step fits what was before it
pub record SeatsFit (ws : List ℕ) (seats : List (Option ℕ)) (ps ps' : List Part) : Type 0 where
  pub single : (at cell : ℕ) (p : Part) → get_elem? ps' at ≡ some p → cell_holds cell p.holds ≤ 1
  pub seated : (at : ℕ) (r : Record) → Has ps' at (HoldsIt r) → (seat : ℕ) × (get_elem? seats at ≡ some (Some seat))
  pub holds : (at : ℕ) (r : Record) → Has ps' at (HoldsIt r) → HoldFits ps r
  pub looks : (at : ℕ) (l : Looked) → Has ps' at (LookedIt l) → LookFits ws ps l
  pub knows : (at : ℕ) (r : Record) → Has ps' at (KnowsIt r) → IsRecord ps r

module _ (a : Setup) (ws ws' : List ℕ) (seats seats' : List (Option ℕ)) (ps ps' : List Part) (kept : Kept a ws seats ps) (quiet : Quiet a ws ws') (alike : Alike ps ps') where
  slot_same : (n m cell slot : ℕ) (x : SlotView) → m ≡ n → SlotFits a ws n cell slot x → SlotFits a ws' m cell slot x
  slot_same n m cell slot x e fits =
      record {
        value = quiet.host_words (value_place a cell slot) (le-add_right (place_after_seats a.config) _) ∙ fits.value;
        word = subst (λ (k : ℕ). HoldWordFits x.state k (slice_index ws' (hold_place a cell slot))) (sym e)
            (subst (λ (w : ℕ). HoldWordFits x.state n w) (sym (quiet.host_words (hold_place a cell slot) (le-add_right (place_after_seats a.config) _))) fits.word);
      }

  cell_same : (v : CellView) → CellFits a ws (all_holds ps) v → CellFits a ws' (all_holds ps') v
  cell_same v fits =
      record {
        number = fits.number;
        sixteen = fits.sixteen;
        word = quiet.host_words (cell_place a v.number) (le-add_right (place_after_seats a.config) _) ∙ fits.word;
        low = fits.low;
        numbered = fits.numbered;
        of_cell = fits.of_cell;
        current = fits.current;
        slots = λ slot below. slot_same (all_holds ps v.number slot) (all_holds ps' v.number slot) v.number slot (slot_at v.slots slot) (alike.count v.number slot) (fits.slots slot below);
      }

  pub the_cell_on : (F : CellView → Type 0) (cell : ℕ) → TheCell ps cell F → TheCell ps' cell F
  the_cell_on F cell it = let on = alike.cells_on it.0 it.1 it.2 in (on.0, it.1, on.1, it.3, it.4)

  look_same : (l : Looked) → LookFits ws ps l → LookFits ws' ps' l
  look_same l fits =
      record {
        past = le_trans fits.past quiet.write_not_lower;
        slot = fits.slot;
        kept = λ low. the_cell_on (MayRead l) l.loaded.cell (fits.kept (le_trans quiet.read_not_lower low));
      }

  pub same_kept : SeatsFit ws seats' ps ps' → Kept a ws' seats' ps'
  same_kept fit =
      record {
        planned = kept.planned;
        room = subst (λ (n : ℕ). cell_place a a.plan.0 ≤ n) (sym quiet.as_many) kept.room;
        cells = λ at v has. let back = alike.cells_back at v has in cell_same v (kept.cells back.0 v back.1);
        one_cell = alike.one_cell;
        all_cells = λ n below. let k = kept.all_cells n below in let on = alike.cells_on k.0 k.1 k.2 in (on.0, k.1, on.1, k.3);
        single = fit.single;
        seated = fit.seated;
        holds = λ at r has. let h = fit.holds at r has in (h.0, the_cell_on (HasValue r) r.cell h.1);
        looks = λ at l has. look_same l (fit.looks at l has);
        knows = λ at r has. the_cell_on (λ (v : CellView). In r v.records) r.cell (fit.knows at r has);
      }

-- ---- the laws of a host

pub objects_include : Includes Objected
objects_include a ws vs held = held.clock

-- the same parts
same_parts : (a : Setup) (ws : List ℕ) (seats : List (Option ℕ)) (ps : List Part) → Kept a ws seats ps → Alike ps ps
same_parts a ws seats ps kept = record { cells_back = λ at v has. (at, has); cells_on = λ at v has. (at, has); one_cell = kept.one_cell; count = λ cell slot. refl }

same_seats : (a : Setup) (ws : List ℕ) (seats : List (Option ℕ)) (ps : List Part) → Kept a ws seats ps → SeatsFit ws seats ps ps
same_seats a ws seats ps kept = record { single = kept.single; seated = kept.seated; holds = kept.holds; looks = kept.looks; knows = kept.knows }

pub objects_frame : FrameLaw Objected
objects_frame a ws vs ws' vs' held moved seats hosts =
    record {
      clock = moved.after;
      objects =
          subst (λ (ss : List (Option ℕ)). Kept a ws' ss (hosts_of vs')) (sym seats)
          (subst (λ (ps : List Part). Kept a ws' (seats_in vs) ps) (sym hosts)
          (same_kept a ws ws' (seats_in vs) (seats_in vs) (hosts_of vs) (hosts_of vs) held.objects
          (record { write_not_lower = moved.write_not_lower; read_not_lower = moved.read_not_lower; as_many = moved.as_many; host_words = moved.host_words })
          (same_parts a ws (seats_in vs) (hosts_of vs) held.objects)
          (same_seats a ws (seats_in vs) (hosts_of vs) held.objects)));
    }

-- a seat more, which was told what the other knows
module _ (a : Setup) (ws : List ℕ) (seats : List (Option ℕ)) (seat : Option ℕ) (ps : List Part) (kept : Kept a ws seats ps) (id : ℕ) (p : Part) (there : get_elem? ps id ≡ some p) where
  told_back : (at : ℕ) (v : CellView) → Has (ps ++ told p ∷ []) at (IsCell v) → Has ps at (IsCell v)
  told_back at v has = ⊎_elim (λ t. t) (λ t. absurd t.1) (has_push (IsCell v) ps at (told p) has)

  told_holds : (at : ℕ) (r : Record) → Has (ps ++ told p ∷ []) at (HoldsIt r) → Has ps at (HoldsIt r)
  told_holds at r has = ⊎_elim (λ t. t) (λ t. absurd t.1) (has_push (HoldsIt r) ps at (told p) has)

  told_alike : Alike ps (ps ++ told p ∷ [])
  told_alike =
      record {
        cells_back = λ at v has. (at, told_back at v has);
        cells_on = λ at v has. (at, has_longer (IsCell v) ps (told p ∷ []) at has);
        one_cell = λ at other v w h k e. kept.one_cell at other v w (told_back at v h) (told_back other w k) e;
        count = λ cell slot. sum_push (λ (x : Part). slot_holds cell slot x.holds) ps (told p) refl;
      }

  told_fit : SeatsFit ws (seats ++ seat ∷ []) ps (ps ++ told p ∷ [])
  told_fit =
      record {
        single = λ at cell x h.
            ⊎_elim
            (λ t. kept.single at cell x t)
            (λ t. subst (λ (y : Part). cell_holds cell y.holds ≤ 1) t.1 (le-add_right 0 1))
            (at_push ps (told p) x at h);
        seated = λ at r has. let k = kept.seated at r (told_holds at r has) in (k.0, at_longer seats (seat ∷ []) at (Some k.0) k.1);
        holds = λ at r has. kept.holds at r (told_holds at r has);
        looks = λ at l has. kept.looks at l (⊎_elim (λ t. t) (λ t. absurd t.1) (has_push (LookedIt l) ps at (told p) has));
        knows = λ at r has. ⊎_elim (λ t. kept.knows at r t) (λ t. kept.knows id r (p, there, t.1)) (has_push (KnowsIt r) ps at (told p) has);
      }

pub objects_split : SplitLaw Objected told
objects_split a ws vs ws' vs' id v seat held moved there seats hosts =
    record {
      clock = moved.after;
      objects =
          subst (λ (ss : List (Option ℕ)). Kept a ws' ss (hosts_of vs')) (sym seats)
          (subst (λ (ps : List Part). Kept a ws' (seats_in vs ++ seat ∷ []) ps) (sym hosts)
          (same_kept a ws ws' (seats_in vs) (seats_in vs ++ seat ∷ []) (hosts_of vs) (hosts_of vs ++ told v.host ∷ []) held.objects
          (record { write_not_lower = moved.write_not_lower; read_not_lower = moved.read_not_lower; as_many = moved.as_many; host_words = moved.host_words })
          (told_alike a ws (seats_in vs) seat (hosts_of vs) held.objects id v.host at_host)
          (told_fit a ws (seats_in vs) seat (hosts_of vs) held.objects id v.host at_host)));
    }
  where
    at_host : get_elem? (hosts_of vs) id ≡ some v.host
    at_host = at_map (λ (x : View Part). x.host) vs id v there

false_is_true : false ≡ true → ⊥
false_is_true e = subst IsFalse e tt
  where
    IsFalse : Bool → Type 0
    IsFalse true = ⊥
    IsFalse false = Unit {0}

pub has_nothing : (cells : List CellView) (holds : List Record) → IsTrue (has_none cells holds) → (cells ≡ []) × (holds ≡ [])
has_nothing [] [] t = (refl, refl)
has_nothing [] (r ∷ rs) t = absurd (false_is_true t)
has_nothing (v ∷ vs) rs t = absurd (false_is_true t)

-- a seat takes in a note
module _ (a : Setup) (ws : List ℕ) (seats : List (Option ℕ)) (ps : List Part) (kept : Kept a ws seats ps) (id at : ℕ) (p q : Part) (here : get_elem? ps id ≡ some p) (there : get_elem? ps at ≡ some q) (apart : at ≡ id → ⊥) (may : IsTrue (may_note q)) where
  nothing : (q.cells ≡ []) × (q.holds ≡ [])
  nothing = has_nothing q.cells q.holds may

  abbrev after : List Part
  after = set (set ps id (learned p q)) at blank_part

  -- what is so of a seat after it, and not of the blank part, was so before, but for what it learned
  back : (F : Part → Type 0) (else : ℕ) → (F blank_part → ⊥) → (F (learned p q) → F p) → Has (set (set ps id (learned p q)) at blank_part) else F → Has ps else F
  back F else none same has =
      ⊎_elim
      (λ t. absurd (none t.1))
      (λ t. ⊎_elim (λ u. (p, ap (λ (n : ℕ). get_elem? ps n) u.0 ∙ here, same u.1)) (λ u. u.1) (has_set F ps id else (learned p q) t.1))
      (has_set F (set ps id (learned p q)) at else blank_part has)

  -- what is so of a seat, and not of the note, stays so
  on : (F : Part → Type 0) (else : ℕ) → (F q → ⊥) → (F p → F (learned p q)) → Has ps else F → Has (set (set ps id (learned p q)) at blank_part) else F
  on F else none same has =
      has_kept F (set ps id (learned p q)) at else blank_part q (set_else ps id at (learned p q) apart ∙ there) (λ t. absurd (none t))
      (has_kept F ps id else (learned p q) p here same has)

  cells_before : (else : ℕ) (v : CellView) → Has (set (set ps id (learned p q)) at blank_part) else (IsCell v) → Has ps else (IsCell v)
  cells_before else v has = back (IsCell v) else (λ t. t) (λ t. t) has

  count_same : (cell slot : ℕ) → all_holds (set (set ps id (learned p q)) at blank_part) cell slot ≡ all_holds ps cell slot
  count_same cell slot =
      let f = λ (x : Part). slot_holds cell slot x.holds in
      sum_same f (set ps id (learned p q)) at q blank_part (set_else ps id at (learned p q) apart ∙ there) (ap (λ (l : List Record). slot_holds cell slot l) (sym nothing.1))
      ∙ sum_same f ps id p (learned p q) here refl

  pub learned_alike : Alike ps (set (set ps id (learned p q)) at blank_part)
  learned_alike =
      record {
        cells_back = λ else v has. (else, cells_before else v has);
        cells_on = λ else v has. (else, on (IsCell v) else (λ t. subst (λ (l : List CellView). In v l) nothing.0 t) (λ t. t) has);
        one_cell = λ here other v w h k e. kept.one_cell here other v w (cells_before here v h) (cells_before other w k) e;
        count = count_same;
      }

  holds_before : (else : ℕ) (r : Record) → Has (set (set ps id (learned p q)) at blank_part) else (HoldsIt r) → Has ps else (HoldsIt r)
  holds_before else r has = back (HoldsIt r) else (λ t. t) (λ t. t) has

  single_after : (else cell : ℕ) (x : Part) → get_elem? (set (set ps id (learned p q)) at blank_part) else ≡ some x → cell_holds cell x.holds ≤ 1
  single_after else cell x h =
      ⊎_elim
      (λ t. subst (λ (y : Part). cell_holds cell y.holds ≤ 1) t.1 (le-add_right 0 1))
      (λ t. ⊎_elim
      (λ u. subst (λ (y : Part). cell_holds cell y.holds ≤ 1) u.1 (kept.single id cell p here))
      (λ u. kept.single else cell x u.1)
      (at_set ps id else (learned p q) x t.1))
      (at_set (set ps id (learned p q)) at else blank_part x h)

  pub learned_fit : SeatsFit ws seats ps (set (set ps id (learned p q)) at blank_part)
  learned_fit =
      record {
        single = single_after;
        seated = λ else r has. kept.seated else r (holds_before else r has);
        holds = λ else r has. kept.holds else r (holds_before else r has);
        looks = λ else l has. kept.looks else l (back (LookedIt l) else (λ t. t) (λ t. t) has);
        knows = λ else r has.
            ⊎_elim
            (λ t. absurd t.1)
            (λ t.
            ⊎_elim
            (λ u. ⊎_elim (λ k. kept.knows id r (p, here, k)) (λ k. kept.knows at r (q, there, k)) (in_either p.known q.known r u.1))
            (λ u. kept.knows else r u.1)
            (has_set (KnowsIt r) ps id else (learned p q) t.1))
            (has_set (KnowsIt r) (set ps id (learned p q)) at else blank_part has);
      }

pub objects_join : JoinLaw Objected may_note learned blank_part
objects_join a ws vs ws' vs' id at v note held moved here there apart may seats hosts =
    record {
      clock = moved.after;
      objects =
          subst (λ (ss : List (Option ℕ)). Kept a ws' ss (hosts_of vs')) (sym seats)
          (subst (λ (ps : List Part). Kept a ws' (seats_in vs) ps) (sym hosts)
          (same_kept a ws ws' (seats_in vs) (seats_in vs) (hosts_of vs) (set (set (hosts_of vs) id (learned v.host note.host)) at blank_part) held.objects
          (record { write_not_lower = moved.write_not_lower; read_not_lower = moved.read_not_lower; as_many = moved.as_many; host_words = moved.host_words })
          (learned_alike a ws (seats_in vs) (hosts_of vs) held.objects id at v.host note.host p q apart may)
          (learned_fit a ws (seats_in vs) (hosts_of vs) held.objects id at v.host note.host p q apart may)));
    }
  where
    p : get_elem? (hosts_of vs) id ≡ some v.host
    p = at_map (λ (x : View Part). x.host) vs id v here

    q : get_elem? (hosts_of vs) at ≡ some note.host
    q = at_map (λ (x : View Part). x.host) vs at note there
