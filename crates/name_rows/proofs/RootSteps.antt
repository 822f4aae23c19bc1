-- The root's steps keep the law of names.
use Rattle.std.proofs.Common.{◌≡◌, ℕ, ◌⊎◌, List, [], ◌∷◌, ◌++◌, set, slice_index, refl, sym, ap, ◌∙◌, subst, ⊎_elim, inl, inr, arith, Option, Some, None}
use Rattle.std.specs.Prelude.{option_to_list}
use mathlib.Core.Option.{some}
use lib.ListN.{get_elem?}
use Rattle.smr_clock.specs.declared.clock.Setup.{Setup}
use Rattle.smr_clock.specs.declared.view.View.{View}
use Rattle.smr_clock.specs.declared.host.HostAct.TheVariants.{Load}
use Rattle.smr_clock.specs.Views.{hosts_of}
use Rattle.smr_clock.specs.HostSteps.{SeatKeeps, looked}
use Rattle.name_rows.specs.declared.names.RowView.{RowView}
use Rattle.name_rows.specs.declared.entry.Owned.{Owned}
use Rattle.name_rows.specs.declared.names.Part.{Part}
use Rattle.name_rows.specs.Records.{In, key_place, HoldsIt, KnowsIt}
use Rattle.name_rows.specs.NamesLaw.{Held, Named}
use Rattle.name_rows.specs.Laws.{in_either, in_left, in_right, same_held}
use Rattle.name_rows.specs.Moving.{found, without, entry_no, row_no, without_next, at_next, rest_of_entries, next_entry, without_first, first_of, rest_of_rows, first_row, taken}
use Rattle.name_rows.specs.RootStates.{names_next}
use Rattle.name_rows.proofs.Seats.{host_there, quiet_again, alike_written, has_back}
use Rattle.name_rows.proofs.EntrySteps.{seat_clocked, named_after}
use Rattle.name_rows.proofs.Moves.{Shares, Joined}
use Rattle.name_rows.proofs.RootLemmas.{found_is, in_without, in_either_part}

pub name_keeps : (a : Setup) (id : ℕ) (v : View Part) (n word : ℕ) → v.setup ≡ a → word ≡ key_place a n → SeatKeeps Named a id v word Load names_next
name_keeps a id v n word own place ws vs named at small =
    let here = host_there vs id v at in
    let held = named.names in (
      record v.host { next = Some n },
      (n, place ∙ ap (λ (s : Setup). key_place s n) (sym own), refl),
      named_after a (set ws word (slice_index ws word)) vs id (looked v word (slice_index ws word)) (record v.host { next = Some n })
          (seat_clocked a ws vs id v named.clock at own word (slice_index ws word) (record v.host { next = Some n }) (omega arith))
          (same_held a ws (set ws word (slice_index ws word)) (hosts_of vs) (set (hosts_of vs) id (record v.host { next = Some n })) held (quiet_again a ws word)
          (alike_written (hosts_of vs) id (record v.host { next = Some n }) v.host here refl refl)
          (λ j h has. held.holds j h (has_back (hosts_of vs) id (record v.host { next = Some n }) v.host here (HoldsIt h) j (λ t. t) has))
          (λ j r has. held.knows j r (has_back (hosts_of vs) id (record v.host { next = Some n }) v.host here (KnowsIt r) j (λ t. t) has))),
    )

in_one : {A : Type 0} (o : Option A) (x : A) → o ≡ Some x → In x (option_to_list o)
in_one o x e = subst (λ (y : Option _). In x (option_to_list y)) (sym e) (inl refl)

one_in : {A : Type 0} (o : Option A) (x : A) → In x (option_to_list o) → o ≡ Some x
one_in None x h = absurd h
one_in (Some y) x h = ⊎_elim (λ e. ap (λ z. Some z) e) (λ t. absurd t) h

-- ---- the entry that was named is split off

pub splits_entry : (a : Setup) (ws : List ℕ) (ps : List Part) (id : ℕ) (p : Part) (n : ℕ) → Held a ws ps → get_elem? ps id ≡ some p → p.rows ≡ [] → p.next ≡ Some n → Shares p (rest_of_entries p) (next_entry p)
splits_entry a ws ps id p n held here no_rows named =
    let rest : (rest_of_entries p).owned ≡ without entry_no n p.owned = ap (λ (o : Option ℕ). without_next o p.owned) named in
    let next : (next_entry p).owned ≡ option_to_list (found entry_no n p.owned) = ap (λ (o : Option ℕ). at_next o p.owned) named in
    record {
      rows = λ v h. inl h;
      rows_left = λ v h. h;
      rows_right = λ v h. absurd h;
      rows_apart = λ v h k. k;
      owned = λ o h.
          ⊎_elim
          (λ t. inl (subst (λ (l : List Owned). In o l) (sym rest) t))
          (λ t.
          let y = found_is entry_no n p.owned t.1.0 t.1.1 in
          let same : o ≡ t.1.0 = (held.one_owner id id o t.1.0 (p, here, h) (p, here, y.1) (t.0 ∙ sym y.0)).1 in
          inr (subst (λ (l : List Owned). In o l) (sym next) (in_one (found entry_no n p.owned) o (t.1.1 ∙ ap (λ (q : Owned). Some q) (sym same)))))
          (in_either_part entry_no n p.owned o h);
      owned_left = λ o h. (in_without entry_no n p.owned o (subst (λ (l : List Owned). In o l) rest h)).0;
      owned_right = λ o h. (found_is entry_no n p.owned o (one_in (found entry_no n p.owned) o (subst (λ (l : List Owned). In o l) next h))).1;
      owned_apart = λ o h k.
          (in_without entry_no n p.owned o (subst (λ (l : List Owned). In o l) rest h)).1
          (found_is entry_no n p.owned o (one_in (found entry_no n p.owned) o (subst (λ (l : List Owned). In o l) next k))).0;
      together = λ v o row version hv ho linked some_record. absurd (subst (λ (l : List RowView). In v l) no_rows hv);
      hold = refl;
      known = refl;
      no_hold = refl;
      none_known = refl;
    }

-- ---- the first row is split off

pub splits_row : (a : Setup) (ws : List ℕ) (ps : List Part) (id : ℕ) (p : Part) → Held a ws ps → get_elem? ps id ≡ some p → ((v : RowView) → In v p.rows → v.records ≡ []) → Shares p (rest_of_rows p) (first_row p)
splits_row a ws ps id p held here fresh =
    record {
      rows = λ v h. shared p.rows (λ u k. k) v h;
      rows_left = λ v h. back p.rows v h;
      rows_right = λ v h. first p.rows v h;
      rows_apart = λ v h k. apart p.rows v h k;
      owned = λ o h. inl h;
      owned_left = λ o h. h;
      owned_right = λ o h. absurd h;
      owned_apart = λ o h k. k;
      together = λ v o row version hv ho linked some_record. absurd (some_record (fresh v hv));
      hold = refl;
      known = refl;
      no_hold = refl;
      none_known = refl;
    }
  where
    shared : (l : List RowView) → ((u : RowView) → In u l → In u p.rows) → (v : RowView) → In v l → In v (without_first l) ⊎ In v (first_of l)
    shared [] mine v h = absurd h
    shared (w ∷ more) mine v h =
        ⊎_elim
        (λ e. inr (inl e))
        (λ t.
        ⊎_elim
        (λ u. inl u)
        (λ u. inr (inl (sym (held.one_row id id v w (p, here, mine v h) (p, here, mine w (inl refl)) u.0).1)))
        (in_either_part row_no w.number more v t))
        h

    back : (l : List RowView) (v : RowView) → In v (without_first l) → In v l
    back [] v h = h
    back (w ∷ more) v h = inr (in_without row_no w.number more v h).0

    first : (l : List RowView) (v : RowView) → In v (first_of l) → In v l
    first [] v h = h
    first (w ∷ more) v h = ⊎_elim (λ e. inl e) (λ t. absurd t) h

    apart : (l : List RowView) (v : RowView) → In v (without_first l) → In v (first_of l) → ⊥
    apart [] v h k = h
    apart (w ∷ more) v h k = ⊎_elim (λ e. (in_without row_no w.number more v h).1 (ap row_no (sym e))) (λ t. t) k

-- ---- an entry is taken back

pub takes_back : (p q : Part) → p.rows ≡ [] → q.rows ≡ [] → Joined p q (taken p q)
takes_back p q mine theirs =
    record {
      no_rows = theirs;
      rows = ap (λ (l : List RowView). l ++ p.rows) theirs;
      owned = λ x h. ⊎_elim (λ t. inr t) (λ t. inl t) (in_either q.owned p.owned x h);
      mine = λ x h. in_right q.owned p.owned x h;
      theirs = λ x h. in_left q.owned p.owned x h;
      busy = λ v x row h clean. absurd (subst (λ (l : List RowView). In v l) mine row);
      hold = refl;
      known = refl;
    }
