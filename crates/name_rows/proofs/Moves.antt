-- The law of names after rows and entries went from one seat to another.
use Rattle.std.proofs.Common.{◌≡◌, ℕ, ◌≢◌, ◌⊎◌, List, [], ◌∷◌, ◌++◌, length, set, refl, sym, ap, ◌∙◌, subst, ⊎_elim, inl, inr, Some, None, length-set}
use mathlib.Core.Option.{some}
use lib.ListN.{get_elem?}
use Rattle.smr_core.proofs.PlaceLemmas.{set_here, set_else, at_longer, at_end}
use Rattle.smr_clock.specs.declared.clock.Setup.{Setup}
use Rattle.name_rows.specs.declared.names.Bound.{Bound}
use Rattle.name_rows.specs.declared.names.Record.{Record}
use Rattle.name_rows.specs.declared.names.RowView.{RowView}
use Rattle.name_rows.specs.declared.names.Hold.{Hold}
use Rattle.name_rows.specs.declared.entry.EntryState.TheVariants.{Clean, Linked}
use Rattle.name_rows.specs.declared.entry.Owned.{Owned}
use Rattle.name_rows.specs.declared.names.Part.{Part}
use Rattle.name_rows.specs.Records.{In, row_word, last_in, last_record, owned_as, Has, IsRow, OwnsIt, HoldsIt, KnowsIt, blank_part}
use Rattle.name_rows.specs.NamesLaw.{RowFitsAt, HoldFits, IsRecord, Held}
use Rattle.name_rows.specs.Laws.{none_is_some, has_set, has_push}
use Rattle.name_rows.proofs.Seats.{decide, at_here}

-- rows and entries are with some seat before and after, each with one, and a linked entry goes with its row
pub record Rehoused (ps ps' : List Part) : Type 0 where
  pub rows_back : (j : ℕ) (v : RowView) → Has ps' j (IsRow v) → (i : ℕ) × Has ps i (IsRow v)
  pub rows_on : (i : ℕ) (v : RowView) → Has ps i (IsRow v) → (j : ℕ) × Has ps' j (IsRow v)
  pub rows_alone : (i j : ℕ) (v : RowView) → Has ps' i (IsRow v) → Has ps' j (IsRow v) → i ≡ j
  pub owned_back : (j : ℕ) (o : Owned) → Has ps' j (OwnsIt o) → (i : ℕ) × Has ps i (OwnsIt o)
  pub owned_on : (i : ℕ) (o : Owned) → Has ps i (OwnsIt o) → (j : ℕ) × Has ps' j (OwnsIt o)
  pub owned_alone : (i j : ℕ) (o : Owned) → Has ps' i (OwnsIt o) → Has ps' j (OwnsIt o) → i ≡ j
  pub together : (i j : ℕ) (v : RowView) (o : Owned) (row version : ℕ) → Has ps i (IsRow v) → Has ps i (OwnsIt o) → o.state ≡ Linked row version → (v.records ≡ [] → ⊥) → Has ps' j (IsRow v) → Has ps' j (OwnsIt o)
  pub busy : (j : ℕ) (v : RowView) (o : Owned) → Has ps' j (IsRow v) → Has ps' j (OwnsIt o) → o.state ≡ Clean → v.records ≡ []

-- a row whose last record names an entry has records
pub has_records : (row found : ℕ) (records : List Record) (b : Bound) → (last_in row found records).content ≡ Some b → records ≡ [] → ⊥
has_records row found records b e none = none_is_some b (subst (λ (l : List Record). (last_in row found l).content ≡ Some b) none e)

module _ (a : Setup) (ws : List ℕ) (ps ps' : List Part) (held : Held a ws ps) (moved : Rehoused ps ps') where
  row_fits : (j : ℕ) (v : RowView) → Has ps' j (IsRow v) → RowFitsAt a (row_word a ws v) ps' j v
  row_fits j v has =
      let back = moved.rows_back j v has in
      let fits = held.rows back.0 v back.1 in
      record {
        number = fits.number;
        word = fits.word;
        low = fits.low;
        chained = fits.chained;
        listed = fits.listed;
        linked = λ b e.
            let l = fits.linked b e in
            let last = last_record (row_word a ws v) v in
            (l.0, moved.together back.0 j v (owned_as b (Linked last.row last.version)) last.row last.version back.1 l.1 refl (has_records v.number (row_word a ws v) v.records b e) has);
        busy = λ o mine clean. moved.busy j v o has mine clean;
      }

  hold_fits : (h : Hold) → HoldFits ws ps h → HoldFits ws ps' h
  hold_fits h fits =
      record {
        past = fits.past;
        kept = λ b e low.
            let k = fits.kept b e low in
            let on = moved.owned_on k.0 (owned_as b k.1) k.2 in
            (on.0, k.1, on.1, k.3);
      }

  record_is : (r : Record) → IsRecord a ws ps r → IsRecord a ws ps' r
  record_is r is =
      let on = moved.rows_on is.at is.row is.there in
      record { at = on.0; row = is.row; there = on.1; listed = is.listed }

  pub elsewhere_held : ((at : ℕ) (h : Hold) → Has ps' at (HoldsIt h) → HoldFits ws ps h) → ((at : ℕ) (r : Record) → Has ps' at (KnowsIt r) → IsRecord a ws ps r) → Held a ws ps'
  elsewhere_held holds knows =
      record {
        planned = held.planned;
        room = held.room;
        rows = row_fits;
        one_row = λ at other v w q r e.
            let bq = moved.rows_back at v q in
            let br = moved.rows_back other w r in
            let same = (held.one_row bq.0 br.0 v w bq.1 br.1 e).1 in
            (moved.rows_alone at other v q (subst (λ (y : RowView). Has ps' other (IsRow y)) (sym same) r), same);
        all_rows = λ n below. let k = held.all_rows n below in let on = moved.rows_on k.0 k.1 k.2 in (on.0, k.1, on.1, k.3);
        owners = λ at o has. let back = moved.owned_back at o has in held.owners back.0 o back.1;
        one_owner = λ at other o q ho hq e.
            let bo = moved.owned_back at o ho in
            let bq = moved.owned_back other q hq in
            let same = (held.one_owner bo.0 bq.0 o q bo.1 bq.1 e).1 in
            (moved.owned_alone at other o ho (subst (λ (y : Owned). Has ps' other (OwnsIt y)) (sym same) hq), same);
        all_owned = λ n below. let k = held.all_owned n below in let on = moved.owned_on k.0 k.1 k.2 in (on.0, k.1, on.1, k.3);
        holds = λ at h has. hold_fits h (holds at h has);
        knows = λ at r has. record_is r (knows at r has);
      }

-- ---- a split

module _ (ps : List Part) (id : ℕ) (p l r : Part) (here : get_elem? ps id ≡ some p) where
  split_at : length (set ps id l) ≡ length ps
  split_at = length-set ps id l

  module _ (F : Part → Type 0) where
    -- of which seat it is so after a split
    origin : (j : ℕ) → Has (set ps id l ++ r ∷ []) j F → ((j ≡ id) × F l) ⊎ (((j ≡ length ps) × F r) ⊎ ((j ≢ id) × Has ps j F))
    origin j has =
        ⊎_elim
        (λ t. ⊎_elim (λ u. inl u) (λ u. inr (inr u)) (has_set F ps id j l t))
        (λ t. inr (inl (t.0 ∙ split_at, t.1)))
        (has_push F (set ps id l) j r has)

    left_has : F l → Has (set ps id l ++ r ∷ []) id F
    left_has f = (l, at_longer (set ps id l) (r ∷ []) id l (set_here ps id l p here), f)

    right_has : F r → Has (set ps id l ++ r ∷ []) (length ps) F
    right_has f = (r, ap (λ (n : ℕ). get_elem? (set ps id l ++ r ∷ []) n) (sym split_at) ∙ at_end (set ps id l) r, f)

    other_has : (j : ℕ) → j ≢ id → Has ps j F → Has (set ps id l ++ r ∷ []) j F
    other_has j n has = (has.0, at_longer (set ps id l) (r ∷ []) j has.0 (set_else ps id j l n ∙ has.1), has.2)

    split_back : (F l → F p) → (F r → F p) → (j : ℕ) → Has (set ps id l ++ r ∷ []) j F → (i : ℕ) × Has ps i F
    split_back left right j has =
        ⊎_elim (λ t. (id, (p, here, left t.1))) (λ t. ⊎_elim (λ u. (id, (p, here, right u.1))) (λ u. (j, u.1)) t) (origin j has)

    split_on : (F p → F l ⊎ F r) → (i : ℕ) → Has ps i F → (j : ℕ) × Has (set ps id l ++ r ∷ []) j F
    split_on shares i has =
        ⊎_elim
        (λ e. ⊎_elim (λ f. (id, left_has f)) (λ f. (length ps, right_has f)) (shares (at_here ps id p p here F i e has)))
        (λ n. (i, other_has i n has))
        (decide id i)

    split_alone : (F l → F p) → (F r → F p) → (F l → F r → ⊥) → ((i j : ℕ) → Has ps i F → Has ps j F → i ≡ j) → (i j : ℕ) → Has (set ps id l ++ r ∷ []) i F → Has (set ps id l ++ r ∷ []) j F → i ≡ j
    split_alone left right apart one i j hi hj =
        ⊎_elim
        (λ t. ⊎_elim
        (λ u. t.0 ∙ sym u.0)
        (λ u. ⊎_elim (λ w. absurd (apart t.1 w.1)) (λ w. absurd (w.0 (one j id w.1 (p, here, left t.1)))) u)
        (origin j hj))
        (λ t. ⊎_elim
        (λ u. ⊎_elim
        (λ w. absurd (apart w.1 u.1))
        (λ w. ⊎_elim (λ y. u.0 ∙ sym y.0) (λ y. absurd (y.0 (one j id y.1 (p, here, right u.1)))) w)
        (origin j hj))
        (λ u. ⊎_elim
        (λ w. absurd (u.0 (one i id u.1 (p, here, left w.1))))
        (λ w. ⊎_elim (λ y. absurd (u.0 (one i id u.1 (p, here, right y.1)))) (λ y. one i j u.1 y.1) w)
        (origin j hj))
        t)
        (origin i hi)

-- what the one seat had is shared out between the two
pub record Shares (p l r : Part) : Type 0 where
  pub rows : (v : RowView) → In v p.rows → In v l.rows ⊎ In v r.rows
  pub rows_left : (v : RowView) → In v l.rows → In v p.rows
  pub rows_right : (v : RowView) → In v r.rows → In v p.rows
  pub rows_apart : (v : RowView) → In v l.rows → In v r.rows → ⊥
  pub owned : (o : Owned) → In o p.owned → In o l.owned ⊎ In o r.owned
  pub owned_left : (o : Owned) → In o l.owned → In o p.owned
  pub owned_right : (o : Owned) → In o r.owned → In o p.owned
  pub owned_apart : (o : Owned) → In o l.owned → In o r.owned → ⊥
  pub together : (v : RowView) (o : Owned) (row version : ℕ) → In v p.rows → In o p.owned → o.state ≡ Linked row version → (v.records ≡ [] → ⊥) → (In v l.rows × In o l.owned) ⊎ (In v r.rows × In o r.owned)
  pub hold : l.hold ≡ p.hold
  pub known : l.known ≡ p.known
  pub no_hold : r.hold ≡ None
  pub none_known : r.known ≡ []

module _ (a : Setup) (ws : List ℕ) (ps : List Part) (id : ℕ) (p l r : Part) (held : Held a ws ps) (here : get_elem? ps id ≡ some p) (s : Shares p l r) where
  one_seat : (v : RowView) (i j : ℕ) → Has ps i (IsRow v) → Has ps j (IsRow v) → i ≡ j
  one_seat v i j hi hj = (held.one_row i j v v hi hj refl).0

  one_holder : (o : Owned) (i j : ℕ) → Has ps i (OwnsIt o) → Has ps j (OwnsIt o) → i ≡ j
  one_holder o i j hi hj = (held.one_owner i j o o hi hj refl).0

  shared_rows_alone : (i j : ℕ) (v : RowView) → Has (set ps id l ++ r ∷ []) i (IsRow v) → Has (set ps id l ++ r ∷ []) j (IsRow v) → i ≡ j
  shared_rows_alone i j v = split_alone ps id p l r here (IsRow v) (s.rows_left v) (s.rows_right v) (s.rows_apart v) (one_seat v) i j

  shared_together : (i j : ℕ) (v : RowView) (o : Owned) (row version : ℕ) → Has ps i (IsRow v) → Has ps i (OwnsIt o) → o.state ≡ Linked row version → (v.records ≡ [] → ⊥)
      → Has (set ps id l ++ r ∷ []) j (IsRow v) → Has (set ps id l ++ r ∷ []) j (OwnsIt o)
  shared_together i j v o row version hv ho linked some_record hj =
      let has : Has ps i (λ y. IsRow v y × OwnsIt o y) = (hv.0, hv.1, (hv.2, at_here ps i hv.0 hv.0 hv.1 (OwnsIt o) i refl ho)) in
      let on = split_on ps id p l r here (λ y. IsRow v y × OwnsIt o y) (λ t. s.together v o row version t.0 t.1 linked some_record) i has in
      let same : on.0 ≡ j = shared_rows_alone on.0 j v (on.1.0, on.1.1, on.1.2.0) hj in
      subst (λ (n : ℕ). Has (set ps id l ++ r ∷ []) n (OwnsIt o)) same (on.1.0, on.1.1, on.1.2.1)

  shared_busy : (j : ℕ) (v : RowView) (o : Owned) → Has (set ps id l ++ r ∷ []) j (IsRow v) → Has (set ps id l ++ r ∷ []) j (OwnsIt o) → o.state ≡ Clean → v.records ≡ []
  shared_busy j v o hv ho clean =
      let has : Has (set ps id l ++ r ∷ []) j (λ y. IsRow v y × OwnsIt o y) = (hv.0, hv.1, (hv.2, at_here (set ps id l ++ r ∷ []) j hv.0 hv.0 hv.1 (OwnsIt o) j refl ho)) in
      let back = split_back ps id p l r here (λ y. IsRow v y × OwnsIt o y) (λ t. (s.rows_left v t.0, s.owned_left o t.1)) (λ t. (s.rows_right v t.0, s.owned_right o t.1)) j has in
      (held.rows back.0 v (back.1.0, back.1.1, back.1.2.0)).busy o (back.1.0, back.1.1, back.1.2.1) clean

  pub split_held : Held a ws (set ps id l ++ r ∷ [])
  split_held =
      elsewhere_held a ws ps (set ps id l ++ r ∷ []) held
      (record {
        rows_back = λ j v has. split_back ps id p l r here (IsRow v) (s.rows_left v) (s.rows_right v) j has;
        rows_on = λ i v has. split_on ps id p l r here (IsRow v) (s.rows v) i has;
        rows_alone = shared_rows_alone;
        owned_back = λ j o has. split_back ps id p l r here (OwnsIt o) (s.owned_left o) (s.owned_right o) j has;
        owned_on = λ i o has. split_on ps id p l r here (OwnsIt o) (s.owned o) i has;
        owned_alone = λ i j o hi hj. split_alone ps id p l r here (OwnsIt o) (s.owned_left o) (s.owned_right o) (s.owned_apart o) (one_holder o) i j hi hj;
        together = shared_together;
        busy = shared_busy;
      })
      (λ j h has.
      let back = split_back ps id p l r here (HoldsIt h) (λ t. sym s.hold ∙ t) (λ t. absurd (none_is_some h (sym s.no_hold ∙ t))) j has in
      held.holds back.0 h back.1)
      (λ j q has.
      let back = split_back ps id p l r here (KnowsIt q) (λ t. subst (λ (m : List Record). In q m) s.known t) (λ t. absurd (subst (λ (m : List Record). In q m) s.none_known t)) j has in
      held.knows back.0 q back.1)

-- ---- a join

module _ (ps : List Part) (id at : ℕ) (p q x : Part) (here : get_elem? ps id ≡ some p) (there : get_elem? ps at ≡ some q) (apart : at ≡ id → ⊥) where
  module _ (F : Part → Type 0) (none : F blank_part → ⊥) where
    joint : (j : ℕ) → Has (set (set ps id x) at blank_part) j F → ((j ≡ id) × F x) ⊎ ((j ≢ id) × (j ≢ at) × Has ps j F)
    joint j has =
        ⊎_elim
        (λ t. absurd (none t.1))
        (λ t. ⊎_elim (λ u. inl u) (λ u. inr (u.0, t.0, u.1)) (has_set F ps id j x t.1))
        (has_set F (set ps id x) at j blank_part has)

    joint_has : F x → Has (set (set ps id x) at blank_part) id F
    joint_has f = (x, set_else (set ps id x) at id blank_part (λ e. apart (sym e)) ∙ set_here ps id x p here, f)

    else_has : (j : ℕ) → j ≢ id → j ≢ at → Has ps j F → Has (set (set ps id x) at blank_part) j F
    else_has j n m has = (has.0, set_else (set ps id x) at j blank_part m ∙ (set_else ps id j x n ∙ has.1), has.2)

    join_back : (F x → F p ⊎ F q) → (j : ℕ) → Has (set (set ps id x) at blank_part) j F → (i : ℕ) × Has ps i F
    join_back shares j has =
        ⊎_elim (λ t. ⊎_elim (λ f. (id, (p, here, f))) (λ f. (at, (q, there, f))) (shares t.1)) (λ t. (j, t.2)) (joint j has)

    join_on : (F p → F x) → (F q → F x) → (i : ℕ) → Has ps i F → (j : ℕ) × Has (set (set ps id x) at blank_part) j F
    join_on mine theirs i has =
        ⊎_elim
        (λ e. (id, joint_has (theirs (at_here ps at q q there F i e has))))
        (λ m. ⊎_elim (λ e. (id, joint_has (mine (at_here ps id p p here F i e has)))) (λ n. (i, else_has i n m has)) (decide id i))
        (decide at i)

    join_alone : (F x → F p ⊎ F q) → ((i j : ℕ) → Has ps i F → Has ps j F → i ≡ j) → (i j : ℕ) → Has (set (set ps id x) at blank_part) i F → Has (set (set ps id x) at blank_part) j F → i ≡ j
    join_alone shares one i j hi hj =
        ⊎_elim
        (λ t. ⊎_elim
        (λ u. t.0 ∙ sym u.0)
        (λ u. absurd (⊎_elim (λ f. u.0 (one j id u.2 (p, here, f))) (λ f. u.1 (one j at u.2 (q, there, f))) (shares t.1)))
        (joint j hj))
        (λ t. ⊎_elim
        (λ u. absurd (⊎_elim (λ f. t.0 (one i id t.2 (p, here, f))) (λ f. t.1 (one i at t.2 (q, there, f))) (shares u.1)))
        (λ u. one i j t.2 u.2)
        (joint j hj))
        (joint i hi)

-- The one seat has after the join what both had. The other has no row.
pub record Joined (p q x : Part) : Type 0 where
  pub no_rows : q.rows ≡ []
  pub rows : x.rows ≡ p.rows
  pub owned : (o : Owned) → In o x.owned → In o p.owned ⊎ In o q.owned
  pub mine : (o : Owned) → In o p.owned → In o x.owned
  pub theirs : (o : Owned) → In o q.owned → In o x.owned
  pub busy : (v : RowView) (o : Owned) → In v p.rows → In o q.owned → o.state ≡ Clean → v.records ≡ []
  pub hold : x.hold ≡ p.hold
  pub known : x.known ≡ p.known

module _ (a : Setup) (ws : List ℕ) (ps : List Part) (id at : ℕ) (p q x : Part) (held : Held a ws ps)
    (here : get_elem? ps id ≡ some p) (there : get_elem? ps at ≡ some q) (apart : at ≡ id → ⊥) (s : Joined p q x) where
  rows_shared : (v : RowView) → In v x.rows → In v p.rows ⊎ In v q.rows
  rows_shared v h = inl (subst (λ (l : List RowView). In v l) s.rows h)

  rows_mine : (v : RowView) → In v p.rows → In v x.rows
  rows_mine v h = subst (λ (l : List RowView). In v l) (sym s.rows) h

  no_row : (v : RowView) → In v q.rows → ⊥
  no_row v h = subst (λ (l : List RowView). In v l) s.no_rows h

  joined_rows_alone : (i j : ℕ) (v : RowView) → Has (set (set ps id x) at blank_part) i (IsRow v) → Has (set (set ps id x) at blank_part) j (IsRow v) → i ≡ j
  joined_rows_alone i j v =
      join_alone ps id at p q x here there apart (IsRow v) (λ t. t) (rows_shared v) (λ n m hi hj. (held.one_row n m v v hi hj refl).0) i j

  joined_together : (i j : ℕ) (v : RowView) (o : Owned) (row version : ℕ) → Has ps i (IsRow v) → Has ps i (OwnsIt o) → o.state ≡ Linked row version → (v.records ≡ [] → ⊥)
      → Has (set (set ps id x) at blank_part) j (IsRow v) → Has (set (set ps id x) at blank_part) j (OwnsIt o)
  joined_together i j v o row version hv ho linked some_record hj =
      let has : Has ps i (λ y. IsRow v y × OwnsIt o y) = (hv.0, hv.1, (hv.2, at_here ps i hv.0 hv.0 hv.1 (OwnsIt o) i refl ho)) in
      let on = join_on ps id at p q x here there apart (λ y. IsRow v y × OwnsIt o y) (λ t. t.0) (λ t. (rows_mine v t.0, s.mine o t.1)) (λ t. absurd (no_row v t.0)) i has in
      let same : on.0 ≡ j = joined_rows_alone on.0 j v (on.1.0, on.1.1, on.1.2.0) hj in
      subst (λ (n : ℕ). Has (set (set ps id x) at blank_part) n (OwnsIt o)) same (on.1.0, on.1.1, on.1.2.1)

  joined_busy : (j : ℕ) (v : RowView) (o : Owned) → Has (set (set ps id x) at blank_part) j (IsRow v) → Has (set (set ps id x) at blank_part) j (OwnsIt o) → o.state ≡ Clean → v.records ≡ []
  joined_busy j v o hv ho clean =
      let has : Has (set (set ps id x) at blank_part) j (λ y. IsRow v y × OwnsIt o y) =
      (hv.0, hv.1, (hv.2, at_here (set (set ps id x) at blank_part) j hv.0 hv.0 hv.1 (OwnsIt o) j refl ho)) in
      ⊎_elim
      (λ t.
      let row : In v p.rows = subst (λ (l : List RowView). In v l) s.rows t.1.0 in
      ⊎_elim (λ f. (held.rows id v (p, here, row)).busy o (p, here, f) clean) (λ f. s.busy v o row f clean) (s.owned o t.1.1))
      (λ t. (held.rows j v (t.2.0, t.2.1, t.2.2.0)).busy o (t.2.0, t.2.1, t.2.2.1) clean)
      (joint ps id at p q x here there apart (λ y. IsRow v y × OwnsIt o y) (λ t. t.0) j has)

  pub join_held : Held a ws (set (set ps id x) at blank_part)
  join_held =
      elsewhere_held a ws ps (set (set ps id x) at blank_part) held
      (record {
        rows_back = λ j v has. join_back ps id at p q x here there apart (IsRow v) (λ t. t) (rows_shared v) j has;
        rows_on = λ i v has. join_on ps id at p q x here there apart (IsRow v) (λ t. t) (rows_mine v) (λ t. absurd (no_row v t)) i has;
        rows_alone = joined_rows_alone;
        owned_back = λ j o has. join_back ps id at p q x here there apart (OwnsIt o) (λ t. t) (s.owned o) j has;
        owned_on = λ i o has. join_on ps id at p q x here there apart (OwnsIt o) (λ t. t) (s.mine o) (s.theirs o) i has;
        owned_alone = λ i j o hi hj. join_alone ps id at p q x here there apart (OwnsIt o) (λ t. t) (s.owned o) (λ n m gi gj. (held.one_owner n m o o gi gj refl).0) i j hi hj;
        together = joined_together;
        busy = joined_busy;
      })
      (λ j h has.
      ⊎_elim
      (λ t. held.holds id h (p, here, sym s.hold ∙ t.1))
      (λ t. held.holds j h t.2)
      (joint ps id at p q x here there apart (HoldsIt h) (λ t. none_is_some h t) j has))
      (λ j r has.
      ⊎_elim
      (λ t. held.knows id r (p, here, subst (λ (l : List Record). In r l) s.known t.1))
      (λ t. held.knows j r t.2)
      (joint ps id at p q x here there apart (KnowsIt r) (λ t. t) j has))
