-- The law of names after a step of the seat that owns one entry and no row: on the entry's words, or on its state.
use Rattle.std.proofs.Common.{◌≡◌, ℕ, ◌<◌, ◌≤◌, ◌≢◌, ◌⊎◌, List, [], ◌∷◌, length, set, slice_index, refl, sym, ap, ◌∙◌, subst, ⊎_elim, inl, inr, arith}
use mathlib.Core.Option.{some}
use lib.ListN.{get_elem?}
use Rattle.smr_core.specs.ClockState.{place_after_seats, write_hand, read_hand}
use Rattle.smr_clock.specs.declared.clock.Setup.{Setup}
use Rattle.name_rows.specs.declared.names.Bound.{Bound}
use Rattle.name_rows.specs.declared.names.Record.{Record}
use Rattle.name_rows.specs.declared.names.RowView.{RowView}
use Rattle.name_rows.specs.declared.names.Hold.{Hold}
use Rattle.name_rows.specs.declared.entry.EntryState.{EntryState}
use Rattle.name_rows.specs.declared.entry.EntryState.TheVariants.{Linked}
use Rattle.name_rows.specs.declared.entry.Owned.{Owned}
use Rattle.name_rows.specs.declared.names.Part.{Part}
use Rattle.name_rows.specs.Records.{In, row_place, key_place, value_place, row_word, records_of, last_record, owned_as, Has, IsRow, OwnsIt, HoldsIt, KnowsIt}
use Rattle.name_rows.specs.NamesLaw.{RowFitsAt, OwnedFits, StillHeld, HoldFits, IsRecord, Held}
use Rattle.name_rows.specs.Laws.{has_kept, has_set}
use Rattle.name_rows.proofs.Seats.{at_here, has_back}

-- The seat owns the entry, and no row. The step changes no word but the entry's.
pub record Rewrites (a : Setup) (ws ws' : List ℕ) (p x : Part) (o new : Owned) : Type 0 where
  pub rows : p.rows ≡ []
  pub same_rows : x.rows ≡ []
  pub known : x.known ≡ p.known
  pub hold : x.hold ≡ p.hold
  pub owns : p.owned ≡ o ∷ []
  pub owns_new : x.owned ≡ new ∷ []
  pub entry : new.entry ≡ o.entry
  pub write_not_lower : write_hand ws ≤ write_hand ws'
  pub read_not_lower : read_hand ws ≤ read_hand ws'
  pub as_many : length ws' ≡ length ws
  pub others : (i : ℕ) → place_after_seats a.config ≤ i → i ≢ key_place a o.entry → i ≢ value_place a o.entry → slice_index ws' i ≡ slice_index ws i
  pub key : slice_index ws' (key_place a o.entry) ≡ new.key
  pub value : slice_index ws' (value_place a o.entry) ≡ new.value
  -- who may still read the entry may go on to
  pub keeps : (h : Hold) → StillHeld h o.state → h.mark ≤ write_hand ws → read_hand ws' ≤ h.mark → (new.key ≡ o.key) × (new.value ≡ o.value) × StillHeld h new.state

module _ (a : Setup) (ws ws' : List ℕ) (ps : List Part) (id : ℕ) (p x : Part) (o new : Owned)
    (held : Held a ws ps) (here : get_elem? ps id ≡ some p) (s : Rewrites a ws ws' p x o new) where
  -- ---- what the seat owns

  old_is : (q : Owned) → In q p.owned → o ≡ q
  old_is q h = ⊎_elim (λ e. e) (λ t. absurd t) (subst (λ (l : List Owned). In q l) s.owns h)

  new_is : (q : Owned) → In q x.owned → new ≡ q
  new_is q h = ⊎_elim (λ e. e) (λ t. absurd t) (subst (λ (l : List Owned). In q l) s.owns_new h)

  has_old : Has ps id (OwnsIt o)
  has_old = (p, here, subst (λ (l : List Owned). In o l) (sym s.owns) (inl refl))

  in_new : In new x.owned
  in_new = subst (λ (l : List Owned). In new l) (sym s.owns_new) (inl refl)

  no_row : (v : RowView) → In v p.rows → ⊥
  no_row v h = subst (λ (l : List RowView). In v l) s.rows h

  no_row_here : (at : ℕ) (v : RowView) → at ≡ id → Has ps at (IsRow v) → ⊥
  no_row_here at v e has = no_row v (at_here ps id x p here (IsRow v) at e has)

  -- ---- the rows

  row_back : (at : ℕ) (v : RowView) → Has (set ps id x) at (IsRow v) → Has ps at (IsRow v)
  row_back at v has = has_back ps id x p here (IsRow v) at (λ t. absurd (subst (λ (l : List RowView). In v l) s.same_rows t)) has

  row_on : (at : ℕ) (v : RowView) → Has ps at (IsRow v) → Has (set ps id x) at (IsRow v)
  row_on at v has = has_kept (IsRow v) ps id at x p here (λ t. absurd (no_row v t)) has

  row_word_same : (v : RowView) → v.number < a.plan.0 → row_word a ws' v ≡ row_word a ws v
  row_word_same v below = s.others (row_place a v.number) (omega arith) (λ e. omega arith) (λ e. omega arith)

  rows_fit : (at : ℕ) (v : RowView) → Has ps at (IsRow v) → RowFitsAt a (row_word a ws v) ps at v → RowFitsAt a (row_word a ws' v) (set ps id x) at v
  rows_fit at v has fits =
      subst (λ (n : ℕ). RowFitsAt a n (set ps id x) at v) (sym (row_word_same v fits.number))
      (record {
        number = fits.number;
        word = fits.word;
        low = fits.low;
        chained = fits.chained;
        listed = fits.listed;
        linked = λ b e.
            let l = fits.linked b e in
            let it = owned_as b (Linked (last_record (row_word a ws v) v).row (last_record (row_word a ws v) v).version) in (
              l.0,
              has_kept (OwnsIt it) ps id at x p here
                  (λ t. absurd (no_row_here at v (held.one_owner at id it o l.1 has_old (ap (λ (q : Owned). q.entry) (sym (old_is it t)))).0 has)) l.1,
            );
        busy = λ q mine clean.
            ⊎_elim
            (λ t. absurd (no_row_here at v t.0 has))
            (λ t. fits.busy q t.1 clean)
            (has_set (OwnsIt q) ps id at x mine);
      })

  -- ---- the entries

  other_entry : (q : Owned) → OwnedFits a ws q → (q.entry ≡ o.entry → ⊥) → OwnedFits a ws' q
  other_entry q fits apart =
      record {
        number = fits.number;
        key = s.others (key_place a q.entry) (omega arith) (λ e. apart (omega arith)) (λ e. omega arith) ∙ fits.key;
        value = s.others (value_place a q.entry) (omega arith) (λ e. omega arith) (λ e. apart (omega arith)) ∙ fits.value;
      }

  new_fits : OwnedFits a ws' new
  new_fits =
      record {
        number = let h = (held.owners id o has_old).number in let e = s.entry in omega arith;
        key = ap (λ (n : ℕ). slice_index ws' (key_place a n)) s.entry ∙ s.key;
        value = ap (λ (n : ℕ). slice_index ws' (value_place a n)) s.entry ∙ s.value;
      }

  -- an owner of after: the seat with the new one, or another with one of before, which isn't this entry
  owned_back : (at : ℕ) (q : Owned) → Has (set ps id x) at (OwnsIt q) → ((at ≡ id) × (new ≡ q)) ⊎ ((at ≢ id) × Has ps at (OwnsIt q))
  owned_back at q has = ⊎_elim (λ t. inl (t.0, new_is q t.1)) (λ t. inr (t.0, t.1)) (has_set (OwnsIt q) ps id at x has)

  apart_entry : (at : ℕ) (q : Owned) → at ≢ id → Has ps at (OwnsIt q) → q.entry ≡ o.entry → ⊥
  apart_entry at q n has e = n (held.one_owner at id q o has has_old e).0

  owners_fit : (at : ℕ) (q : Owned) → Has (set ps id x) at (OwnsIt q) → OwnedFits a ws' q
  owners_fit at q has =
      ⊎_elim
      (λ t. subst (λ (y : Owned). OwnedFits a ws' y) t.1 new_fits)
      (λ t. other_entry q (held.owners at q t.1) (apart_entry at q t.0 t.1))
      (owned_back at q has)

  one_owner : (at other : ℕ) (q r : Owned) → Has (set ps id x) at (OwnsIt q) → Has (set ps id x) other (OwnsIt r) → q.entry ≡ r.entry → (at ≡ other) × (q ≡ r)
  one_owner at other q r hq hr e =
      ⊎_elim
      (λ t. ⊎_elim
      (λ u. (t.0 ∙ sym u.0, sym t.1 ∙ u.1))
      (λ u. absurd (apart_entry other r u.0 u.1 (sym e ∙ ap (λ (y : Owned). y.entry) (sym t.1) ∙ s.entry)))
      (owned_back other r hr))
      (λ t. ⊎_elim
      (λ u. absurd (apart_entry at q t.0 t.1 (e ∙ ap (λ (y : Owned). y.entry) (sym u.1) ∙ s.entry)))
      (λ u. held.one_owner at other q r t.1 u.1 e)
      (owned_back other r hr))
      (owned_back at q hq)

  all_owned : (n : ℕ) → n < a.plan.1 → (at : ℕ) × (q : Owned) × Has (set ps id x) at (OwnsIt q) × (q.entry ≡ n)
  all_owned n below =
      let k = held.all_owned n below in
      let there = has_kept (λ y. (q : Owned) × OwnsIt q y × (q.entry ≡ n)) ps id k.0 x p here
      (λ t. (new, in_new, s.entry ∙ ap (λ (y : Owned). y.entry) (old_is t.0 t.1) ∙ t.2)) (k.2.0, k.2.1, (k.1, k.2.2, k.3)) in
      (k.0, there.2.0, (there.0, there.1, there.2.1), there.2.2)

  -- ---- what passes hold and know

  rebound : (b : Bound) (t : EntryState) → o ≡ owned_as b t → new.key ≡ o.key → new.value ≡ o.value → new ≡ owned_as b new.state
  rebound b t e key value = λ k.
      record {
        entry = (s.entry ∙ ap (λ (y : Owned). y.entry) e) k;
        key = (key ∙ ap (λ (y : Owned). y.key) e) k;
        value = (value ∙ ap (λ (y : Owned). y.value) e) k;
        state = new.state;
      }

  hold_fits : (h : Hold) → HoldFits ws ps h → HoldFits ws' (set ps id x) h
  hold_fits h fits =
      record {
        past = let before = fits.past in let up = s.write_not_lower in omega arith;
        kept = λ b e low.
            let up = s.read_not_lower in
            let k = fits.kept b e (omega arith) in
            let there = has_kept (λ y. (t : EntryState) × OwnsIt (owned_as b t) y × StillHeld h t) ps id k.0 x p here
            (λ t.
            let is = old_is (owned_as b t.0) t.1 in
            let still = s.keeps h (subst (λ (y : Owned). StillHeld h y.state) (sym is) t.2) fits.past low in
            (new.state, subst (λ (y : Owned). In y x.owned) (rebound b t.0 is still.0 still.1) in_new, still.2))
            (k.2.0, k.2.1, (k.1, k.2.2, k.3)) in
            (k.0, there.2.0, (there.0, there.1, there.2.1), there.2.2);
      }

  record_is : (r : Record) → IsRecord a ws ps r → IsRecord a ws' (set ps id x) r
  record_is r is =
      record {
        at = is.at;
        row = is.row;
        there = row_on is.at is.row is.there;
        listed = subst (λ (n : ℕ). In r (records_of n is.row)) (sym (row_word_same is.row (held.rows is.at is.row is.there).number)) is.listed;
      }

  pub entry_held : Held a ws' (set ps id x)
  entry_held =
      record {
        planned = held.planned;
        room = let long = held.room in let same = s.as_many in omega arith;
        rows = λ at v has. rows_fit at v (row_back at v has) (held.rows at v (row_back at v has));
        one_row = λ at other v w q r e. held.one_row at other v w (row_back at v q) (row_back other w r) e;
        all_rows = λ n below. let k = held.all_rows n below in (k.0, k.1, row_on k.0 k.1 k.2, k.3);
        owners = owners_fit;
        one_owner = one_owner;
        all_owned = all_owned;
        holds = λ at h has. hold_fits h (held.holds at h (has_back ps id x p here (HoldsIt h) at (λ t. sym s.hold ∙ t) has));
        knows = λ at r has. record_is r (held.knows at r (has_back ps id x p here (KnowsIt r) at (λ t. subst (λ (l : List Record). In r l) s.known t) has));
      }
