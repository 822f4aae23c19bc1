-- The law of names after a step of the seat that owns one row: the row goes on to another view, and the seat's entries to other states.
use Rattle.std.proofs.Common.{◌≡◌, ℕ, ◌<◌, ◌≤◌, ◌≢◌, ◌⊎◌, List, [], ◌∷◌, map, length, set, slice_index, refl, sym, ap, ◌∙◌, subst, ⊎_elim, inl, inr, arith}
use mathlib.Core.Option.{some}
use lib.ListN.{get_elem?}
use Rattle.smr_core.specs.ClockState.{place_after_seats, write_hand, read_hand}
use Rattle.smr_core.proofs.PlaceLemmas.{set_here, set_else}
use Rattle.smr_clock.specs.declared.clock.Setup.{Setup}
use Rattle.name_rows.specs.declared.names.Record.{Record}
use Rattle.name_rows.specs.declared.names.RowView.{RowView}
use Rattle.name_rows.specs.declared.names.Hold.{Hold}
use Rattle.name_rows.specs.declared.entry.EntryState.{EntryState}
use Rattle.name_rows.specs.declared.entry.Owned.{Owned}
use Rattle.name_rows.specs.declared.names.Part.{Part}
use Rattle.name_rows.specs.Records.{In, row_place, key_place, value_place, row_word, records_of, owned_as, Has, IsRow, OwnsIt, HoldsIt, KnowsIt}
use Rattle.name_rows.specs.NamesLaw.{RowFitsAt, OwnedFits, StillHeld, HoldFits, IsRecord, Held}
use Rattle.name_rows.specs.Laws.{has_kept, has_set}
use Rattle.name_rows.specs.Linking.{restated}
use Rattle.name_rows.proofs.Seats.{decide, at_here, has_back}

module _ {A B : Type 0} (f : A → B) where
  pub in_map : (l : List A) (x : A) → In x l → In (f x) (map f l)
  in_map [] x h = absurd h
  in_map (y ∷ ys) x h = ⊎_elim (λ e. inl (ap f e)) (λ t. inr (in_map ys x t)) h

  pub from_map : (l : List A) (y : B) → In y (map f l) → (x : A) × In x l × (f x ≡ y)
  from_map [] y h = absurd h
  from_map (x ∷ xs) y h = ⊎_elim (λ e. (x, inl refl, e)) (λ t. let k = from_map xs y t in (k.0, inr k.1, k.2)) h

-- The seat has the row v before and the row w after, and its entries are in other states. The step changes no word but the row's.
pub record GoesOn (a : Setup) (ws ws' : List ℕ) (p x : Part) (v w : RowView) (f : EntryState → EntryState) : Type 0 where
  pub rows : p.rows ≡ v ∷ []
  pub new_rows : x.rows ≡ w ∷ []
  pub number : w.number ≡ v.number
  pub owned : x.owned ≡ map (restated f) p.owned
  pub known : x.known ≡ p.known
  pub hold : x.hold ≡ p.hold
  -- who may still read an entry may go on to
  pub still : (h : Hold) (s : EntryState) → StillHeld h s → StillHeld h (f s)
  pub write_hand_same : write_hand ws' ≡ write_hand ws
  pub read_hand_same : read_hand ws' ≡ read_hand ws
  pub as_many : length ws' ≡ length ws
  pub others : (i : ℕ) → place_after_seats a.config ≤ i → i ≢ row_place a v.number → slice_index ws' i ≡ slice_index ws i
  -- the records stay
  pub listed : (r : Record) → In r (records_of (row_word a ws v) v) → In r (records_of (row_word a ws' w) w)

module _ (a : Setup) (ws ws' : List ℕ) (ps : List Part) (id : ℕ) (p x : Part) (v w : RowView) (f : EntryState → EntryState)
    (held : Held a ws ps) (here : get_elem? ps id ≡ some p) (s : GoesOn a ws ws' p x v w f) where
  has_row : Has ps id (IsRow v)
  has_row = (p, here, subst (λ (l : List RowView). In v l) (sym s.rows) (inl refl))

  in_new : In w x.rows
  in_new = subst (λ (l : List RowView). In w l) (sym s.new_rows) (inl refl)

  old_is : (u : RowView) → In u p.rows → v ≡ u
  old_is u h = ⊎_elim (λ e. e) (λ t. absurd t) (subst (λ (l : List RowView). In u l) s.rows h)

  new_is : (u : RowView) → In u x.rows → w ≡ u
  new_is u h = ⊎_elim (λ e. e) (λ t. absurd t) (subst (λ (l : List RowView). In u l) s.new_rows h)

  below : v.number < a.plan.0
  below = (held.rows id v has_row).number

  -- ---- the entries

  entry_on : (o : Owned) → In o p.owned → In (restated f o) x.owned
  entry_on o h = subst (λ (l : List Owned). In (restated f o) l) (sym s.owned) (in_map (restated f) p.owned o h)

  entry_back : (q : Owned) → In q x.owned → (o : Owned) × In o p.owned × (restated f o ≡ q)
  entry_back q h = from_map (restated f) p.owned q (subst (λ (l : List Owned). In q l) s.owned h)

  -- an owner of after: the seat with an entry in its new state, or another as before
  owned_back : (at : ℕ) (q : Owned) → Has (set ps id x) at (OwnsIt q) → (o : Owned) × Has ps at (OwnsIt o) × (((at ≡ id) × (restated f o ≡ q)) ⊎ ((at ≢ id) × (o ≡ q)))
  owned_back at q has =
      ⊎_elim
      (λ t. let k = entry_back q t.1 in (k.0, (p, ap (λ (n : ℕ). get_elem? ps n) t.0 ∙ here, k.1), inl (t.0, k.2)))
      (λ t. (q, t.1, inr (t.0, refl)))
      (has_set (OwnsIt q) ps id at x has)

  same_entry : (at : ℕ) (o q : Owned) → ((at ≡ id) × (restated f o ≡ q)) ⊎ ((at ≢ id) × (o ≡ q)) → (o.entry ≡ q.entry) × (o.key ≡ q.key) × (o.value ≡ q.value)
  same_entry at o q c =
      ⊎_elim
      (λ t. (ap (λ (y : Owned). y.entry) t.1, ap (λ (y : Owned). y.key) t.1, ap (λ (y : Owned). y.value) t.1))
      (λ t. (ap (λ (y : Owned). y.entry) t.1, ap (λ (y : Owned). y.key) t.1, ap (λ (y : Owned). y.value) t.1))
      c

  owners_fit : (at : ℕ) (q : Owned) → Has (set ps id x) at (OwnsIt q) → OwnedFits a ws' q
  owners_fit at q has =
      let k = owned_back at q has in
      let fits = held.owners at k.0 k.1 in
      let same = same_entry at k.0 q k.2 in
      let entry = same.0 in
      let low = fits.number in
      let row = below in
      record {
        number = omega arith;
        key = s.others (key_place a q.entry) (omega arith) (λ e. omega arith) ∙ ap (λ (n : ℕ). slice_index ws (key_place a n)) (sym entry) ∙ fits.key ∙ same.1;
        value = s.others (value_place a q.entry) (omega arith) (λ e. omega arith) ∙ ap (λ (n : ℕ). slice_index ws (value_place a n)) (sym entry) ∙ fits.value ∙ same.2;
      }

  one_owner : (at other : ℕ) (q r : Owned) → Has (set ps id x) at (OwnsIt q) → Has (set ps id x) other (OwnsIt r) → q.entry ≡ r.entry → (at ≡ other) × (q ≡ r)
  one_owner at other q r hq hr e =
      let k = owned_back at q hq in
      let m = owned_back other r hr in
      let one = held.one_owner at other k.0 m.0 k.1 m.1 ((same_entry at k.0 q k.2).0 ∙ e ∙ sym (same_entry other m.0 r m.2).0) in (
        one.0,
        ⊎_elim
            (λ t. ⊎_elim
            (λ u. sym t.1 ∙ ap (restated f) one.1 ∙ u.1)
            (λ u. absurd (u.0 (sym one.0 ∙ t.0)))
            m.2)
            (λ t. ⊎_elim
            (λ u. absurd (t.0 (one.0 ∙ u.0)))
            (λ u. sym t.1 ∙ one.1 ∙ u.1)
            m.2)
            k.2,
      )

  all_owned : (n : ℕ) → n < a.plan.1 → (at : ℕ) × (q : Owned) × Has (set ps id x) at (OwnsIt q) × (q.entry ≡ n)
  all_owned n low =
      let k = held.all_owned n low in
      let there = has_kept (λ y. (q : Owned) × OwnsIt q y × (q.entry ≡ n)) ps id k.0 x p here (λ t. (restated f t.0, entry_on t.0 t.1, t.2)) (k.2.0, k.2.1, (k.1, k.2.2, k.3)) in
      (k.0, there.2.0, (there.0, there.1, there.2.1), there.2.2)

  -- ---- the rows

  row_back : (at : ℕ) (u : RowView) → Has (set ps id x) at (IsRow u) → ((at ≡ id) × (w ≡ u)) ⊎ ((at ≢ id) × Has ps at (IsRow u))
  row_back at u has = ⊎_elim (λ t. inl (t.0, new_is u t.1)) (λ t. inr (t.0, t.1)) (has_set (IsRow u) ps id at x has)

  other_number : (at : ℕ) (u : RowView) → at ≢ id → Has ps at (IsRow u) → u.number ≡ v.number → ⊥
  other_number at u n has e = n (held.one_row at id u v has has_row e).0

  other_word : (u : RowView) → (u.number ≡ v.number → ⊥) → row_word a ws' u ≡ row_word a ws u
  other_word u n = s.others (row_place a u.number) (omega arith) (λ e. n (omega arith))

  other_row : (at : ℕ) (u : RowView) → at ≢ id → Has ps at (IsRow u) → RowFitsAt a (row_word a ws u) ps at u → RowFitsAt a (row_word a ws' u) (set ps id x) at u
  other_row at u n has fits =
      subst (λ (m : ℕ). RowFitsAt a m (set ps id x) at u) (sym (other_word u (other_number at u n has)))
      (record {
        number = fits.number;
        word = fits.word;
        low = fits.low;
        chained = fits.chained;
        listed = fits.listed;
        linked = λ b e. let l = fits.linked b e in (l.0, (l.1.0, set_else ps id at x n ∙ l.1.1, l.1.2));
        busy = λ o mine clean. ⊎_elim (λ t. absurd (n t.0)) (λ t. fits.busy o t.1 clean) (has_set (OwnsIt o) ps id at x mine);
      })

  one_row : (at other : ℕ) (t u : RowView) → Has (set ps id x) at (IsRow t) → Has (set ps id x) other (IsRow u) → t.number ≡ u.number → (at ≡ other) × (t ≡ u)
  one_row at other t u ht hu e =
      ⊎_elim
      (λ k. ⊎_elim
      (λ m. (k.0 ∙ sym m.0, sym k.1 ∙ m.1))
      (λ m. absurd (other_number other u m.0 m.1 (sym e ∙ ap (λ (y : RowView). y.number) (sym k.1) ∙ s.number)))
      (row_back other u hu))
      (λ k. ⊎_elim
      (λ m. absurd (other_number at t k.0 k.1 (e ∙ ap (λ (y : RowView). y.number) (sym m.1) ∙ s.number)))
      (λ m. held.one_row at other t u k.1 m.1 e)
      (row_back other u hu))
      (row_back at t ht)

  all_rows : (n : ℕ) → n < a.plan.0 → (at : ℕ) × (u : RowView) × Has (set ps id x) at (IsRow u) × (u.number ≡ n)
  all_rows n low =
      let k = held.all_rows n low in
      let there = has_kept (λ y. (u : RowView) × IsRow u y × (u.number ≡ n)) ps id k.0 x p here
      (λ t. (w, in_new, s.number ∙ ap (λ (y : RowView). y.number) (old_is t.0 t.1) ∙ t.2)) (k.2.0, k.2.1, (k.1, k.2.2, k.3)) in
      (k.0, there.2.0, (there.0, there.1, there.2.1), there.2.2)

  -- ---- what passes hold and know

  hold_fits : (h : Hold) → HoldFits ws ps h → HoldFits ws' (set ps id x) h
  hold_fits h fits =
      record {
        past = subst (λ (n : ℕ). h.mark ≤ n) (sym s.write_hand_same) fits.past;
        kept = λ b e low.
            let k = fits.kept b e (subst (λ (n : ℕ). n ≤ h.mark) s.read_hand_same low) in
            let there = has_kept (λ y. (t : EntryState) × OwnsIt (owned_as b t) y × StillHeld h t) ps id k.0 x p here
            (λ t. (f t.0, entry_on (owned_as b t.0) t.1, s.still h t.0 t.2)) (k.2.0, k.2.1, (k.1, k.2.2, k.3)) in
            (k.0, there.2.0, (there.0, there.1, there.2.1), there.2.2);
      }

  record_is : (r : Record) → IsRecord a ws ps r → IsRecord a ws' (set ps id x) r
  record_is r is =
      ⊎_elim
      (λ e.
      let own : v ≡ is.row = old_is is.row (at_here ps id p p here (IsRow is.row) is.at e is.there) in
      record {
        at = id;
        row = w;
        there = (x, set_here ps id x p here, in_new);
        listed = s.listed r (subst (λ (y : RowView). In r (records_of (row_word a ws y) y)) (sym own) is.listed);
      })
      (λ n.
      record {
        at = is.at;
        row = is.row;
        there = (is.there.0, set_else ps id is.at x n ∙ is.there.1, is.there.2);
        listed = subst (λ (m : ℕ). In r (records_of m is.row)) (sym (other_word is.row (other_number is.at is.row n is.there))) is.listed;
      })
      (decide id is.at)

  -- where the row's new view fits
  pub row_held : RowFitsAt a (row_word a ws' w) (set ps id x) id w → Held a ws' (set ps id x)
  row_held fits =
      record {
        planned = held.planned;
        room = let long = held.room in let same = s.as_many in omega arith;
        rows = λ at u has.
            ⊎_elim
            (λ t. subst (λ (y : RowView). RowFitsAt a (row_word a ws' y) (set ps id x) at y) t.1 (subst (λ (n : ℕ). RowFitsAt a (row_word a ws' w) (set ps id x) n w) (sym t.0) fits))
            (λ t. other_row at u t.0 t.1 (held.rows at u t.1))
            (row_back at u has);
        one_row = one_row;
        all_rows = all_rows;
        owners = owners_fit;
        one_owner = one_owner;
        all_owned = all_owned;
        holds = λ at h has. hold_fits h (held.holds at h (has_back ps id x p here (HoldsIt h) at (λ t. sym s.hold ∙ t) has));
        knows = λ at r has. record_is r (held.knows at r (has_back ps id x p here (KnowsIt r) at (λ t. subst (λ (l : List Record). In r l) s.known t) has));
      }
