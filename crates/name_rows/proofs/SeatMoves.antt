-- Splits and joins of the names' seats keep the law of names.
use Rattle.std.proofs.Common.{◌≡◌, ℕ, ◌⊎◌, List, [], ◌∷◌, ◌++◌, set, refl, sym, ap, ◌∙◌, subst, ⊎_elim, inl, inr}
use Rattle.std.proofs.lemmas.List.{map-append}
use mathlib.Core.Option.{some}
use lib.ListN.{get_elem?}
use Rattle.smr_core.specs.declared.holder.Phase.TheVariants as phase
use Rattle.smr_core.proofs.PlaceLemmas.{map_set}
use Rattle.smr_clock.specs.declared.clock.Setup.{Setup}
use Rattle.smr_clock.specs.declared.view.View.{View}
use Rattle.smr_clock.specs.Views.{hosts_of}
use Rattle.smr_clock.specs.Steps.{write_looking, note_view}
use Rattle.smr_clock.specs.HostSteps.{SplitKeeps, JoinKeeps, with_host}
use Rattle.smr_clock.proofs.HostClocked.{split_clocked}
use Rattle.smr_clock.proofs.Splits.{join_clocked, hosts_joined}
use Rattle.name_rows.specs.declared.names.RowView.{RowView}
use Rattle.name_rows.specs.declared.entry.EntryState.{EntryState}
use Rattle.name_rows.specs.declared.entry.EntryState.TheVariants.{Clean, Written, Linked, Unlinked, Stamped}
use Rattle.name_rows.specs.declared.entry.Owned.{Owned}
use Rattle.name_rows.specs.declared.names.Part.{Part}
use Rattle.name_rows.specs.Records.{In, blank_part}
use Rattle.name_rows.specs.NamesLaw.{Held, Named}
use Rattle.name_rows.specs.Laws.{in_either, in_left, in_right}
use Rattle.name_rows.specs.Moving.{taken, if_unlinked, but_unlinked, unlinked_in, linked_rest, unlinked_entry}
use Rattle.name_rows.proofs.Seats.{host_there}
use Rattle.name_rows.proofs.Moves.{Shares, split_held, Joined, join_held}

-- the parts after a split
hosts_split : (vs : List (View Part)) (id : ℕ) (v : View Part) (left : Part) (right : Part → Part)
    → hosts_of (set vs id (with_host v left) ++ note_view right v ∷ []) ≡ set (hosts_of vs) id left ++ right v.host ∷ []
hosts_split vs id v left right =
    map-append (λ (x : View Part). x.host) (set vs id (with_host v left)) (note_view right v ∷ [])
    ∙ ap (λ (l : List Part). l ++ right v.host ∷ []) (map_set (λ (x : View Part). x.host) vs id (with_host v left))

pub split_keeps : (a : Setup) (id : ℕ) (v : View Part) (left right : Part → Part) → v.setup ≡ a
    → ((ws : List ℕ) (ps : List Part) → Held a ws ps → get_elem? ps id ≡ some v.host → Shares v.host (left v.host) (right v.host))
    → SplitKeeps Named a id v left right
split_keeps a id v left right own shares found is ws vs named at =
    let here : get_elem? (hosts_of vs) id ≡ some v.host = host_there vs id (write_looking v found) at in
    record {
      clock = split_clocked ws vs id (write_looking v found) a named.clock at own (left v.host) right;
      names = subst (λ (l : List Part). Held a ws l) (sym (hosts_split vs id (write_looking v found) (left v.host) right))
          (split_held a ws (hosts_of vs) id v.host (left v.host) (right v.host) named.names here (shares ws (hosts_of vs) named.names here));
    }

pub join_keeps : (a : Setup) (id : ℕ) (v : View Part) (at : ℕ) (other : View Part) (both : Part → Part → Part) → v.setup ≡ a → other.holder.phase ≡ phase.Note
    → Joined v.host other.host (both v.host other.host) → JoinKeeps Named a id v at other both blank_part
join_keeps a id v at other both own is_note joined ws vs named here there apart =
    record {
      clock = join_clocked both blank_part vs id at v other a ws named.clock here there apart own is_note;
      names = subst (λ (l : List Part). Held a ws l) (sym (hosts_joined both blank_part vs id at v other))
          (join_held a ws (hosts_of vs) id at v.host other.host (both v.host other.host) named.names (host_there vs id v here) (host_there vs at other there) apart joined);
    }

-- ---- a row takes in a written entry

pub takes_in : (p q : Part) (o : Owned) → q.rows ≡ [] → q.owned ≡ o ∷ [] → (o.state ≡ Clean → ⊥) → Joined p q (taken p q)
takes_in p q o no_rows owns unclean =
    record {
      no_rows = no_rows;
      rows = ap (λ (l : List RowView). l ++ p.rows) no_rows;
      owned = λ x h. ⊎_elim (λ t. inr t) (λ t. inl t) (in_either q.owned p.owned x h);
      mine = λ x h. in_right q.owned p.owned x h;
      theirs = λ x h. in_left q.owned p.owned x h;
      busy = λ v x row h clean.
          let is : o ≡ x = ⊎_elim (λ e. e) (λ t. absurd t) (subst (λ (l : List Owned). In x l) owns h) in
          absurd (unclean (ap (λ (y : Owned). y.state) is ∙ clean));
      hold = refl;
      known = refl;
    }

-- ---- a row gives an unlinked entry out

either_way : (s : EntryState) (o x : Owned) (one other : List Owned) → In x (if_unlinked s one other) → In x one ⊎ In x other
either_way Clean o x one other h = inr h
either_way Written o x one other h = inr h
either_way (Linked row version) o x one other h = inr h
either_way Unlinked o x one other h = inl h
either_way (Stamped goal) o x one other h = inr h

in_but : (l : List Owned) (x : Owned) → In x (but_unlinked l) → In x l
in_but [] x h = h
in_but (o ∷ os) x h =
    ⊎_elim
    (λ t. inr (in_but os x t))
    (λ t. ⊎_elim (λ e. inl e) (λ u. inr (in_but os x u)) t)
    (either_way o.state o x (but_unlinked os) (o ∷ but_unlinked os) h)

in_unlinked : (l : List Owned) (x : Owned) → In x (unlinked_in l) → In x l
in_unlinked [] x h = h
in_unlinked (o ∷ os) x h =
    ⊎_elim
    (λ t. ⊎_elim (λ e. inl e) (λ u. inr (in_unlinked os x u)) t)
    (λ t. inr (in_unlinked os x t))
    (either_way o.state o x (o ∷ unlinked_in os) (unlinked_in os) h)

is_unlinked : (l : List Owned) (x : Owned) → In x (unlinked_in l) → x.state ≡ Unlinked
is_unlinked [] x h = absurd h
is_unlinked (o ∷ os) x h = by_state (λ t. is_unlinked os x t) o.state refl h
  where
    by_state : (In x (unlinked_in os) → x.state ≡ Unlinked) → (s : EntryState) → o.state ≡ s → In x (if_unlinked s (o ∷ unlinked_in os) (unlinked_in os)) → x.state ≡ Unlinked
    by_state rest Clean own h = rest h
    by_state rest Written own h = rest h
    by_state rest (Linked row version) own h = rest h
    by_state rest Unlinked own h = ⊎_elim (λ e. ap (λ (y : Owned). y.state) (sym e) ∙ own) (λ t. rest t) h
    by_state rest (Stamped goal) own h = rest h

not_unlinked : (l : List Owned) (x : Owned) → In x (but_unlinked l) → x.state ≡ Unlinked → ⊥
not_unlinked [] x h e = h
not_unlinked (o ∷ os) x h e = by_state (λ t. not_unlinked os x t e) o.state refl h
  where
    other : (In x (but_unlinked os) → ⊥) → (s : EntryState) → o.state ≡ s → (s ≡ Unlinked → ⊥) → (o ≡ x) ⊎ In x (but_unlinked os) → ⊥
    other rest s own n h = ⊎_elim (λ f. n (sym own ∙ ap (λ (y : Owned). y.state) f ∙ e)) rest h

    by_state : (In x (but_unlinked os) → ⊥) → (s : EntryState) → o.state ≡ s → In x (if_unlinked s (but_unlinked os) (o ∷ but_unlinked os)) → ⊥
    by_state rest Clean own h = other rest Clean own (λ f. let g : Clean ≡ Unlinked = f in cc) h
    by_state rest Written own h = other rest Written own (λ f. let g : Written ≡ Unlinked = f in cc) h
    by_state rest (Linked row version) own h = other rest (Linked row version) own (λ f. let g : Linked row version ≡ Unlinked = f in cc) h
    by_state rest Unlinked own h = rest h
    by_state rest (Stamped goal) own h = other rest (Stamped goal) own (λ f. let g : Stamped goal ≡ Unlinked = f in cc) h

in_parts : (l : List Owned) (x : Owned) → In x l → In x (but_unlinked l) ⊎ In x (unlinked_in l)
in_parts [] x h = absurd h
in_parts (o ∷ os) x h =
    by_state o.state
    (⊎_elim (λ e. inl (inl e)) (λ t. ⊎_elim (λ u. inl (inr u)) (λ u. inr u) (in_parts os x t)) h)
    (⊎_elim (λ e. inr (inl e)) (λ t. ⊎_elim (λ u. inl u) (λ u. inr (inr u)) (in_parts os x t)) h)
  where
    by_state : (s : EntryState) → In x (o ∷ but_unlinked os) ⊎ In x (unlinked_in os) → In x (but_unlinked os) ⊎ In x (o ∷ unlinked_in os)
        → In x (if_unlinked s (but_unlinked os) (o ∷ but_unlinked os)) ⊎ In x (if_unlinked s (o ∷ unlinked_in os) (unlinked_in os))
    by_state Clean ahead behind = ahead
    by_state Written ahead behind = ahead
    by_state (Linked row version) ahead behind = ahead
    by_state Unlinked ahead behind = behind
    by_state (Stamped goal) ahead behind = ahead

pub gives_out : (p : Part) → Shares p (linked_rest p) (unlinked_entry p)
gives_out p =
    record {
      rows = λ v h. inl h;
      rows_left = λ v h. h;
      rows_right = λ v h. absurd h;
      rows_apart = λ v h k. k;
      owned = in_parts p.owned;
      owned_left = in_but p.owned;
      owned_right = in_unlinked p.owned;
      owned_apart = λ o h k. not_unlinked p.owned o h (is_unlinked p.owned o k);
      together = λ v o row version hv ho linked some_record.
          inl (hv, ⊎_elim (λ t. t) (λ t. absurd (let e : Linked row version ≡ Unlinked = sym linked ∙ is_unlinked p.owned o t in cc)) (in_parts p.owned o ho));
      hold = refl;
      known = refl;
      no_hold = refl;
      none_known = refl;
    }
