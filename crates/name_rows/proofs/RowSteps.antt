-- The steps of a row's seat keep the law of names.
use Rattle.std.proofs.Common.{◌≡◌, ℕ, ◌+◌, ◌*◌, ◌%◌, ◌^◌, ◌<◌, List, [], ◌∷◌, map, length, set, slice_index, refl, sym, ap, ◌∙◌, subst, ⊎_elim, inl, inr, arith, Option, Some, None, length-set, get_or-set_same, get_or-set_other}
use mathlib.Core.Option.{some}
use Rattle.smr_core.specs.ClockState.{write_place, read_place}
use lib.ListN.{get_elem?}
use Rattle.smr_core.proofs.PlaceLemmas.{set_here}
use Rattle.smr_clock.specs.declared.clock.Setup.{Setup}
use Rattle.smr_clock.specs.declared.view.View.{View}
use Rattle.smr_clock.specs.declared.host.HostAct.TheVariants.{Load, Store}
use Rattle.smr_clock.specs.Views.{hosts_of}
use Rattle.smr_clock.specs.HostSteps.{SeatKeeps, with_host, looked}
use Rattle.name_rows.specs.declared.names.Bound.{Bound}
use Rattle.name_rows.specs.declared.names.Record.{Record}
use Rattle.name_rows.specs.declared.names.RowView.{RowView}
use Rattle.name_rows.specs.declared.names.Hold.{Hold}
use Rattle.name_rows.specs.declared.entry.EntryState.{EntryState}
use Rattle.name_rows.specs.declared.entry.EntryState.TheVariants.{Clean, Written, Linked, Unlinked, Stamped}
use Rattle.name_rows.specs.declared.entry.Owned.{Owned}
use Rattle.name_rows.specs.declared.names.Part.{Part}
use Rattle.name_rows.specs.Records.{In, row_place, row_word, opening, fresh_row, spelled, owned_as, Has, IsRow, OwnsIt}
use Rattle.name_rows.specs.NamesLaw.{RowFitsAt, StillHeld, Held, Named}
use Rattle.name_rows.specs.Linking.{bound_by, if_written, written_in, relinked, unlinked, restated, next_version, next_record, with_record, goes_on, links, unlinks, opened, opens, first_version, last_version}
use Rattle.name_rows.proofs.Seats.{host_there, word_again, at_here}
use Rattle.name_rows.proofs.EntrySteps.{seat_clocked, named_after}
use Rattle.name_rows.proofs.Loads.{some_same}
use Rattle.name_rows.proofs.RowHeld.{in_map, from_map, row_held}

relink_still : (row version : ℕ) (h : Hold) (s : EntryState) → StillHeld h s → StillHeld h (relinked row version s)
relink_still row version h Clean still = still
relink_still row version h Written still = absurd still
relink_still row version h (Linked old before) still = tt
relink_still row version h Unlinked still = still
relink_still row version h (Stamped goal) still = still

unlink_still : (row version : ℕ) (h : Hold) (s : EntryState) → StillHeld h s → StillHeld h (unlinked row version s)
unlink_still row version h Clean still = still
unlink_still row version h Written still = still
unlink_still row version h (Linked old before) still = tt
unlink_still row version h Unlinked still = still
unlink_still row version h (Stamped goal) still = still

-- the first written entry is in the list
written_there : (l : List Owned) (b : Bound) → written_in l ≡ Some b → In (owned_as b Written) l
written_there [] b e = absurd (let f : None ≡ Some b = e in cc)
written_there (o ∷ os) b e = by_state o.state o os b (λ t. written_there os b t) refl e
  where
    by_state : (s : EntryState) (o : Owned) (os : List Owned) (b : Bound) → (written_in os ≡ Some b → In (owned_as b Written) os) → o.state ≡ s
        → if_written s (Some (bound_by o)) (written_in os) ≡ Some b → In (owned_as b Written) (o ∷ os)
    by_state Clean o os b rest own e = inr (rest e)
    by_state Written o os b rest own e =
        let is : bound_by o ≡ b = let f : Some (bound_by o) ≡ Some b = e in cc in
        inl (λ k. record { entry = ap (λ (y : Bound). y.entry) is k; key = ap (λ (y : Bound). y.key) is k; value = ap (λ (y : Bound). y.value) is k; state = own k })
    by_state (Linked row version) o os b rest own e = inr (rest e)
    by_state Unlinked o os b rest own e = inr (rest e)
    by_state (Stamped goal) o os b rest own e = inr (rest e)

relink_clean : (row version : ℕ) (s : EntryState) → relinked row version s ≡ Clean → s ≡ Clean
relink_clean row version Clean e = refl
relink_clean row version Written e = absurd (let f : Linked row version ≡ Clean = e in cc)
relink_clean row version (Linked old before) e = absurd (let f : Unlinked ≡ Clean = e in cc)
relink_clean row version Unlinked e = absurd (let f : Unlinked ≡ Clean = e in cc)
relink_clean row version (Stamped goal) e = absurd (let f : Stamped goal ≡ Clean = e in cc)

unlink_clean : (row version : ℕ) (s : EntryState) → unlinked row version s ≡ Clean → s ≡ Clean
unlink_clean row version Clean e = refl
unlink_clean row version Written e = absurd (let f : Written ≡ Clean = e in cc)
unlink_clean row version (Linked old before) e = absurd (let f : Unlinked ≡ Clean = e in cc)
unlink_clean row version Unlinked e = absurd (let f : Unlinked ≡ Clean = e in cc)
unlink_clean row version (Stamped goal) e = absurd (let f : Stamped goal ≡ Clean = e in cc)

-- a row with records
abbrev pub row_of : ℕ → Record → List Record → RowView
row_of n r rest = record { number = n; records = r ∷ rest }

no_records : (r : Record) (rest : List Record) → (r ∷ rest) ≡ [] → ⊥
no_records r rest e = cc

module _ (a : Setup) (id : ℕ) (v : View Part) (own : v.setup ≡ a) (n : ℕ) (r : Record) (rest : List Record) (one_row : v.host.rows ≡ row_of n r rest ∷ []) where
  -- the part after the row's store
  abbrev after : (ℕ → ℕ → EntryState → EntryState) → Option Bound → Part
  after f content = record v.host { rows = with_record 0 content (row_of n r rest) ∷ []; owned = map (restated (f n (r.version + 1))) v.host.owned }

  goes : (f : ℕ → ℕ → EntryState → EntryState) (found : ℕ) (content : Option Bound) → after f content ≡ goes_on f found content v.host v.host.rows
  goes f found content = sym (ap (λ (l : List RowView). goes_on f found content v.host l) one_row)

  module _ (f : ℕ → ℕ → EntryState → EntryState) (content : Option Bound) (word value : ℕ) (ws : List ℕ) (vs : List (View Part)) (named : Named a ws vs) (at : get_elem? vs id ≡ some v)
      (place : word ≡ row_place a n) (spells : value ≡ spelled (next_record 0 content (row_of n r rest))) (low : r.version + 1 < 2 ^ 44)
      (still : (h : Hold) (s : EntryState) → StillHeld h s → StillHeld h (f n (r.version + 1) s))
      (clean_before : (s : EntryState) → f n (r.version + 1) s ≡ Clean → s ≡ Clean)
      (linked : (b : Bound) → content ≡ Some b → (b.key % a.plan.0 ≡ n) × In (owned_as b (Linked n (r.version + 1))) (map (restated (f n (r.version + 1))) v.host.owned)) where
    there : get_elem? (hosts_of vs) id ≡ some v.host
    there = host_there vs id v at

    has_row : Has (hosts_of vs) id (IsRow (row_of n r rest))
    has_row = (v.host, there, subst (λ (l : List RowView). In (row_of n r rest) l) (sym one_row) (inl refl))

    fits : RowFitsAt a (row_word a ws (row_of n r rest)) (hosts_of vs) id (row_of n r rest)
    fits = named.names.rows id (row_of n r rest) has_row

    within : word < length ws
    within = let room = named.names.room in let below = fits.number in omega arith

    stands : slice_index (set ws word value) (row_place a n) ≡ spelled (next_record 0 content (row_of n r rest))
    stands = subst (λ (m : ℕ). slice_index (set ws word value) m ≡ value) place (get_or-set_same ws word value 0 within) ∙ spells

    new_fits : RowFitsAt a (row_word a (set ws word value) (with_record 0 content (row_of n r rest))) (set (hosts_of vs) id (after f content)) id (with_record 0 content (row_of n r rest))
    new_fits =
        record {
          number = fits.number;
          word = stands;
          low = low;
          chained = (record { version = refl; took = refl }, fits.chained);
          listed = λ q h.
              ⊎_elim
              (λ e. (ap (λ (y : Record). y.row) (sym e), let same : next_version 0 (row_of n r rest) ≡ q.version = ap (λ (y : Record). y.version) e in omega arith))
              (λ t. let k = fits.listed q t in let before = k.1 in (k.0, omega arith))
              h;
          linked = λ b e. let l = linked b e in (l.0, (after f content, set_here (hosts_of vs) id (after f content) v.host there, l.1));
          busy = λ o mine clean.
              let k = from_map (restated (f n (r.version + 1))) v.host.owned o
              (at_here (set (hosts_of vs) id (after f content)) id v.host (after f content) (set_here (hosts_of vs) id (after f content) v.host there) (OwnsIt o) id refl mine) in
              absurd (no_records r rest (fits.busy k.0 (v.host, there, k.1) (clean_before k.0.state (ap (λ (y : Owned). y.state) k.2 ∙ clean))));
        }

    stores : Named a (set ws word value) (set vs id (with_host (looked v word (slice_index ws word)) (after f content)))
    stores =
        named_after a (set ws word value) vs id (looked v word (slice_index ws word)) (after f content)
        (seat_clocked a ws vs id v named.clock at own word value (after f content) (omega arith))
        (row_held a ws (set ws word value) (hosts_of vs) id v.host (after f content) (row_of n r rest) (with_record 0 content (row_of n r rest)) (f n (r.version + 1)) named.names there
        (record {
          rows = one_row;
          new_rows = refl;
          number = refl;
          owned = refl;
          known = refl;
          hold = refl;
          still = still;
          write_hand_same = get_or-set_other ws word write_place value 0 (λ e. omega arith);
          read_hand_same = get_or-set_other ws word read_place value 0 (λ e. omega arith);
          as_many = length-set ws word value;
          others = λ i high apart. get_or-set_other ws word i value 0 (λ e. apart (e ∙ place));
          listed = λ q h. inr h;
        })
        new_fits)

  pub link-keeps : (word value : ℕ) (b : Bound) → word ≡ row_place a n → written_in v.host.owned ≡ Some b → value ≡ (r.version + 1) * 2 ^ 20 + (b.entry + 1) → r.version + 1 < 2 ^ 44 → b.key % a.plan.0 ≡ n
      → SeatKeeps Named a id v word (Store value) links
  link-keeps word value b place written is low key ws vs named at small = (
    after relinked (Some b),
    goes relinked (slice_index ws word) (Some b) ∙ ap (λ (o : Option Bound). goes_on relinked (slice_index ws word) o v.host v.host.rows) (sym written),
    stores relinked (Some b) word value ws vs named at place is low (relink_still n (r.version + 1)) (relink_clean n (r.version + 1))
        (λ c e.
        let same : b ≡ c = let t : Some b ≡ Some c = e in cc in
        subst (λ (y : Bound). (y.key % a.plan.0 ≡ n) × In (owned_as y (Linked n (r.version + 1))) (map (restated (relinked n (r.version + 1))) v.host.owned)) same
        (key, in_map (restated (relinked n (r.version + 1))) v.host.owned (owned_as b Written) (written_there v.host.owned b written))),
  )

  pub unlink-keeps : (word value : ℕ) → word ≡ row_place a n → value ≡ (r.version + 1) * 2 ^ 20 → r.version + 1 < 2 ^ 44 → SeatKeeps Named a id v word (Store value) unlinks
  unlink-keeps word value place is low ws vs named at small = (
    after unlinked None,
    goes unlinked (slice_index ws word) None,
    stores unlinked None word value ws vs named at place (omega arith) low (unlink_still n (r.version + 1)) (unlink_clean n (r.version + 1))
        (λ c e. absurd (let t : None ≡ Some c = e in cc)),
  )

-- ---- the first load of a row's word

pub open_keeps : (a : Setup) (id : ℕ) (v : View Part) (own : v.setup ≡ a) (n : ℕ) → v.host.rows ≡ fresh_row n ∷ [] → v.host.owned ≡ [] → (word : ℕ) → word ≡ row_place a n → SeatKeeps Named a id v word Load opens
open_keeps a id v own n one_row none word place ws vs named at small =
    let there = host_there vs id v at in
    let fits = named.names.rows id (fresh_row n) (v.host, there, subst (λ (l : List RowView). In (fresh_row n) l) (sym one_row) (inl refl)) in
    let stands : slice_index ws word ≡ slice_index ws (row_place a n) = ap (λ (m : ℕ). slice_index ws m) place in (
      record v.host { rows = record { number = n; records = opening n (slice_index ws word) ∷ [] } ∷ [] },
      ap (λ (l : List RowView). record v.host { rows = l }) (sym (ap (λ (l : List RowView). opened (slice_index ws word) l) one_row)),
      named_after a (set ws word (slice_index ws word)) vs id (looked v word (slice_index ws word)) (record v.host { rows = record { number = n; records = opening n (slice_index ws word) ∷ [] } ∷ [] })
          (seat_clocked a ws vs id v named.clock at own word (slice_index ws word) (record v.host { rows = record { number = n; records = opening n (slice_index ws word) ∷ [] } ∷ [] }) (omega arith))
          (subst (λ (l : List ℕ). Held a l (set (hosts_of vs) id (record v.host { rows = record { number = n; records = opening n (slice_index ws word) ∷ [] } ∷ [] }))) (sym (word_again ws word))
          (row_held a ws ws (hosts_of vs) id v.host (record v.host { rows = record { number = n; records = opening n (slice_index ws word) ∷ [] } ∷ [] }) (fresh_row n)
          (record { number = n; records = opening n (slice_index ws word) ∷ [] }) (λ s. s) named.names there
          (record {
            rows = one_row;
            new_rows = refl;
            number = refl;
            owned = none ∙ sym (ap (λ (l : List Owned). map (restated (λ s. s)) l) none);
            known = refl;
            hold = refl;
            still = λ h s t. t;
            write_hand_same = refl;
            read_hand_same = refl;
            as_many = refl;
            others = λ i high apart. refl;
            listed = λ q h. subst (λ (m : ℕ). In q (opening n m ∷ [])) (sym stands) h;
          })
          (subst (λ (m : ℕ). RowFitsAt a (slice_index ws (row_place a n)) (set (hosts_of vs) id (record v.host { rows = record { number = n; records = opening n m ∷ [] } ∷ [] })) id (record { number = n; records = opening n m ∷ [] })) (sym stands)
          (record {
            number = fits.number;
            word = fits.word;
            low = fits.low;
            chained = (tt, tt);
            listed = fits.listed;
            linked = λ b e. absurd (let t : None ≡ Some b = e in cc);
            busy = λ o mine clean.
                absurd (subst (λ (l : List Owned). In o l) none
                (at_here (set (hosts_of vs) id (record v.host { rows = record { number = n; records = opening n (slice_index ws (row_place a n)) ∷ [] } ∷ [] })) id v.host
                (record v.host { rows = record { number = n; records = opening n (slice_index ws (row_place a n)) ∷ [] } ∷ [] })
                (set_here (hosts_of vs) id (record v.host { rows = record { number = n; records = opening n (slice_index ws (row_place a n)) ∷ [] } ∷ [] }) v.host there) (OwnsIt o) id refl mine));
          })))),
    )

-- ---- what the calls know of a row

-- the seat's one row has records, and its last has this version
pub row_form : (rows : List RowView) (n version : ℕ) → last_version rows ≡ Some (n, version)
    → (r : Record) × (rest : List Record) × (rows ≡ row_of n r rest ∷ []) × (r.version ≡ version)
row_form [] n version e = absurd (let f : None ≡ Some (n, version) = e in cc)
row_form (v ∷ []) n version e = first v v.records refl e
  where
    first : (v : RowView) (records : List Record) → v.records ≡ records → first_version v.number records ≡ Some (n, version)
        → (r : Record) × (rest : List Record) × ((v ∷ []) ≡ row_of n r rest ∷ []) × (r.version ≡ version)
    first v [] own e = absurd (let f : None ≡ Some (n, version) = e in cc)
    first v (r ∷ rest) own e =
        let f : Some (v.number, r.version) ≡ Some (n, version) = e in
        let p : (v.number, r.version) ≡ (n, version) = some_same _ _ f in
        (r, rest, (λ k. record { number = (ap (λ (t : ℕ × ℕ). t.0) p) k; records = own k } ∷ []), ap (λ (t : ℕ × ℕ). t.1) p)
row_form (v ∷ w ∷ more) n version e = absurd (let f : None ≡ Some (n, version) = e in cc)

module _ (a : Setup) (id : ℕ) (v : View Part) (own : v.setup ≡ a) (n version : ℕ) (seen : last_version v.host.rows ≡ Some (n, version)) (low : version + 1 < 2 ^ 44) where
  pub store_link-keeps : (word value : ℕ) (b : Bound) → word ≡ row_place a n → written_in v.host.owned ≡ Some b → value ≡ (version + 1) * 2 ^ 20 + (b.entry + 1) → b.key % a.plan.0 ≡ n
      → SeatKeeps Named a id v word (Store value) links
  store_link-keeps word value b place written is key =
      let k = row_form v.host.rows n version seen in
      link-keeps a id v own n k.0 k.1 k.2 word value b place written (is ∙ ap (λ (m : ℕ). (m + 1) * 2 ^ 20 + (b.entry + 1)) (sym k.3)) (subst (λ (m : ℕ). m + 1 < 2 ^ 44) (sym k.3) low) key

  pub store_unlink-keeps : (word value : ℕ) → word ≡ row_place a n → value ≡ (version + 1) * 2 ^ 20 → SeatKeeps Named a id v word (Store value) unlinks
  store_unlink-keeps word value place is =
      let k = row_form v.host.rows n version seen in
      unlink-keeps a id v own n k.0 k.1 k.2 word value place (is ∙ ap (λ (m : ℕ). (m + 1) * 2 ^ 20) (sym k.3)) (subst (λ (m : ℕ). m + 1 < 2 ^ 44) (sym k.3) low)
