-- The steps by which a row and a pass tell each other what they know keep the law of names.
use Rattle.std.proofs.Common.{◌≡◌, ℕ, ◌≤◌, List, [], ◌∷◌, ◌++◌, set, slice_index, refl, sym, ap, ◌∙◌, subst, ⊎_elim, inl, arith, Option, Some, IsTrue}
use Rattle.std.proofs.lemmas.List.{map-append}
use mathlib.Core.Option.{some}
use lib.ListN.{get_elem?}
use Rattle.smr_core.specs.declared.holder.Phase.TheVariants as phase
use Rattle.smr_core.proofs.PlaceLemmas.{set_again, map_set}
use Rattle.smr_clock.specs.declared.clock.Setup.{Setup}
use Rattle.smr_clock.specs.declared.view.View.{View}
use Rattle.smr_clock.specs.declared.host.HostAct.TheVariants.{Load}
use Rattle.smr_clock.specs.Views.{hosts_of}
use Rattle.smr_clock.specs.Steps.{write_looking, note_view, joined_view}
use Rattle.smr_clock.specs.HostSteps.{SeatKeeps, SplitKeeps, JoinKeeps, with_host, looked}
use Rattle.smr_clock.proofs.HostClocked.{split_clocked}
use Rattle.smr_clock.proofs.Splits.{join_clocked, hosts_joined}
use Rattle.name_rows.specs.declared.names.Bound.{Bound}
use Rattle.name_rows.specs.declared.names.Record.{Record}
use Rattle.name_rows.specs.declared.names.RowView.{RowView}
use Rattle.name_rows.specs.declared.names.Part.{Part}
use Rattle.name_rows.specs.Records.{In, row_place, row_word, records_in, records_of, Has, IsRow, OwnsIt, HoldsIt, KnowsIt, blank_part, learned, may_note}
use Rattle.name_rows.specs.NamesLaw.{Held, Named}
use Rattle.name_rows.specs.Laws.{in_right, none_is_some, has_push, has_longer, same_held, learned_alike, learned_holds, learned_knows}
use Rattle.name_rows.specs.Linking.{IsNewestSeen, last_seen, first_told, last_told, telling, meets}
use Rattle.name_rows.proofs.Seats.{host_there, quiet_again, quiet_same, alike_written, has_back}
use Rattle.name_rows.proofs.Loads.{row_spells}
use Rattle.name_rows.proofs.EntrySteps.{seat_clocked, named_after}
use Rattle.name_rows.proofs.RowSteps.{row_of}
use Rattle.name_rows.proofs.RowCalls.{seen_form}

pub learn_keeps : (a : Setup) (id : ℕ) (v : View Part) (at : ℕ) (other : View Part) → v.setup ≡ a → other.holder.phase ≡ phase.Note → IsTrue (may_note other.host)
    → JoinKeeps Named a id v at other learned blank_part
learn_keeps a id v at other own is_note may ws vs named here there apart =
    let p = host_there vs id v here in
    let q = host_there vs at other there in
    record {
      clock = join_clocked learned blank_part vs id at v other a ws named.clock here there apart own is_note;
      names = subst (λ (l : List Part). Held a ws l) (sym (hosts_joined learned blank_part vs id at v other))
          (same_held a ws ws (hosts_of vs) (set (set (hosts_of vs) id (learned v.host other.host)) at blank_part) named.names (quiet_same a ws)
          (learned_alike (hosts_of vs) id at v.host other.host p q apart may)
          (λ else h has. named.names.holds else h (learned_holds (hosts_of vs) id at v.host other.host p q apart may else h has))
          (λ else r has. let k = learned_knows (hosts_of vs) id at v.host other.host p q apart may else r has in named.names.knows k.0 r k.1));
    }

-- what a row tells is one of its records
told_listed : (word : ℕ) (rows : List RowView) (r : Record) → In r (last_told rows) → (v : RowView) × In v rows × ((found : ℕ) → In r (records_of found v))
told_listed word [] r h = absurd h
told_listed word (v ∷ vs) r h = (v, inl refl, λ found. first v.records found h)
  where
    first : (records : List Record) (found : ℕ) → In r (first_told records) → In r (records_in v.number found records)
    first [] found h = absurd h
    first (q ∷ rest) found h = ⊎_elim (λ e. inl e) (λ t. absurd t) h

pub tell_keeps : (a : Setup) (id : ℕ) (v : View Part) → v.setup ≡ a → SplitKeeps Named a id v (λ part. part) telling
tell_keeps a id v own found is ws vs named at =
    let here : get_elem? (hosts_of vs) id ≡ some v.host = host_there vs id (write_looking v found) at in
    record {
      clock = split_clocked ws vs id (write_looking v found) a named.clock at own v.host telling;
      names = subst (λ (l : List Part). Held a ws l) (sym (after here)) (told_held here (named.names));
    }
  where
    after : get_elem? (hosts_of vs) id ≡ some v.host → hosts_of (set vs id (with_host (write_looking v found) v.host) ++ note_view telling (write_looking v found) ∷ []) ≡ hosts_of vs ++ telling v.host ∷ []
    after here =
        map-append (λ (x : View Part). x.host) (set vs id (with_host (write_looking v found) v.host)) (note_view telling (write_looking v found) ∷ [])
        ∙ ap (λ (l : List Part). l ++ telling v.host ∷ []) (map_set (λ (x : View Part). x.host) vs id (with_host (write_looking v found) v.host) ∙ set_again (hosts_of vs) id v.host here)

    told_held : get_elem? (hosts_of vs) id ≡ some v.host → Held a ws (hosts_of vs) → Held a ws (hosts_of vs ++ telling v.host ∷ [])
    told_held here held =
        same_held a ws ws (hosts_of vs) (hosts_of vs ++ telling v.host ∷ []) held (quiet_same a ws)
        (record {
          rows_back = λ j u has. ⊎_elim (λ t. t) (λ t. absurd t.1) (has_push (IsRow u) (hosts_of vs) j (telling v.host) has);
          rows_on = λ j u has. has_longer (IsRow u) (hosts_of vs) (telling v.host ∷ []) j has;
          owned_back = λ j o has. ⊎_elim (λ t. t) (λ t. absurd t.1) (has_push (OwnsIt o) (hosts_of vs) j (telling v.host) has);
          owned_on = λ j o has. has_longer (OwnsIt o) (hosts_of vs) (telling v.host ∷ []) j has;
        })
        (λ j h has. ⊎_elim (λ t. held.holds j h t) (λ t. absurd (none_is_some h t.1)) (has_push (HoldsIt h) (hosts_of vs) j (telling v.host) has))
        (λ j r has.
        ⊎_elim
        (λ t. held.knows j r t)
        (λ t.
        let k = told_listed 0 v.host.rows r t.1 in
        record { at = id; row = k.0; there = (v.host, here, k.1); listed = k.2 (row_word a ws k.0) })
        (has_push (KnowsIt r) (hosts_of vs) j (telling v.host) has))

pub meet_keeps : (a : Setup) (id : ℕ) (v : View Part) (own : v.setup ≡ a) (n version : ℕ) (content : Option Bound) → last_seen v.host.rows ≡ Some (n, version, content) → (word : ℕ) → word ≡ row_place a n
    → SeatKeeps Named a id v word Load meets
meet_keeps a id v own n version content seen word place ws vs named at small =
    let here = host_there vs id v at in
    let held = named.names in
    let k = seen_form v.host.rows n version content seen in
    let has : Has (hosts_of vs) id (IsRow (row_of n k.0 k.1)) = (v.host, here, subst (λ (l : List RowView). In (row_of n k.0 k.1) l) (sym k.2) (inl refl)) in
    let spells = row_spells a ws (hosts_of vs) held id id (row_of n k.0 k.1) v.host.known has (λ r i. held.knows id r (v.host, here, i)) in
    let newest : IsNewestSeen v.host.known (Some (n, version, content)) =
    λ r i same. subst (λ (m : ℕ). r.version ≤ m) k.3 (spells.newest r i (same ∙ sym spells.of_row)) in (
      v.host,
      (refl, subst (λ (s : Option (ℕ × ℕ × Option Bound)). IsNewestSeen v.host.known s) (sym seen) newest),
      named_after a (set ws word (slice_index ws word)) vs id (looked v word (slice_index ws word)) v.host
          (seat_clocked a ws vs id v named.clock at own word (slice_index ws word) v.host (omega arith))
          (same_held a ws (set ws word (slice_index ws word)) (hosts_of vs) (set (hosts_of vs) id v.host) held (quiet_again a ws word)
          (alike_written (hosts_of vs) id v.host v.host here refl refl)
          (λ j h has. held.holds j h (has_back (hosts_of vs) id v.host v.host here (HoldsIt h) j (λ t. t) has))
          (λ j r has. held.knows j r (has_back (hosts_of vs) id v.host v.host here (KnowsIt r) j (λ t. t) has))),
    )

-- no record that the pass knew of the row is newer than the row's last
pub newest_known : (v p note j : View Part) (n version : ℕ) (content : Option Bound) → j ≡ joined_view learned v note → note.host.known ≡ p.host.known
    → last_seen j.host.rows ≡ Some (n, version, content) → IsNewestSeen j.host.known (last_seen j.host.rows) → (r : Record) → In r p.host.known → r.row ≡ n → r.version ≤ version
newest_known v p note j n version content joined same seen newest r i e =
    subst (λ (s : Option (ℕ × ℕ × Option Bound)). IsNewestSeen j.host.known s) seen newest r
    (subst (λ (l : List Record). In r l) (sym (ap (λ (y : View Part). y.host.known) joined))
    (in_right v.host.known note.host.known r (subst (λ (l : List Record). In r l) (sym same) i)))
    e
