-- A reader's loads keep the law of names, and tell what they should.
use Rattle.std.proofs.Common.{◌≡◌, ℕ, ◌<◌, ◌≤◌, List, [], ◌∷◌, set, slice_index, refl, sym, ap, ◌∙◌, subst, ⊎_elim, inl, arith, Some}
use mathlib.Core.Option.{some}
use lib.ListN.{get_elem?}
use Rattle.smr_core.specs.ClockState.{place_after_seats, write_hand, read_hand}
use Rattle.smr_core.specs.declared.holder.Phase.TheVariants as phase
use Rattle.smr_core.proofs.KindLemmas.{marks_above_read}
use Rattle.smr_clock.specs.declared.clock.Setup.{Setup}
use Rattle.smr_clock.specs.declared.view.View.{View}
use Rattle.smr_clock.specs.declared.host.HostAct.TheVariants.{Load}
use Rattle.smr_clock.specs.Views.{holders_of, hosts_of}
use Rattle.smr_clock.specs.Clocked.{Clocked}
use Rattle.smr_clock.specs.HostSteps.{HostKeeps}
use Rattle.smr_clock.proofs.Kept.{holder_there}
use Rattle.smr_clock.proofs.HostClocked.{step_clocked}
use Rattle.smr_core.proofs.KindLemmas.{in_phase}
use Rattle.name_rows.specs.declared.names.Bound.{Bound}
use Rattle.name_rows.specs.declared.names.Record.{Record}
use Rattle.name_rows.specs.declared.names.RowView.{RowView}
use Rattle.name_rows.specs.declared.names.Hold.{Hold}
use Rattle.name_rows.specs.declared.entry.EntryState.TheVariants.{Linked}
use Rattle.name_rows.specs.declared.names.Part.{Part}
use Rattle.name_rows.specs.Records.{In, row_place, key_place, value_place, row_word, records_in, records_of, last_in, last_record, owned_as, Has, IsRow, HoldsIt, KnowsIt}
use Rattle.name_rows.specs.NamesLaw.{HoldFits, IsRecord, Held, Named}
use Rattle.name_rows.specs.Laws.{has_set, same_held}
use Rattle.name_rows.specs.Reading.{holding, Spells, reads_row, reads_entry}
use Rattle.name_rows.proofs.Seats.{hosts_written, host_there, quiet_again, alike_written, has_back}

-- the last record of a row is one of its records
pub last_listed : (row found : ℕ) (records : List Record) → In (last_in row found records) (records_in row found records)
last_listed row found [] = inl refl
last_listed row found (r ∷ rest) = inl refl

pub some_same : {A : Type 0} (x y : A) → Some x ≡ Some y → x ≡ y
some_same x y e = cc

module _ (a : Setup) (ws : List ℕ) (ps : List Part) (held : Held a ws ps) where
  -- what a row's word spells, to a seat that knows these records
  pub row_spells : (at other : ℕ) (v : RowView) (known : List Record) → Has ps at (IsRow v) → ((r : Record) → In r known → IsRecord a ws ps r)
      → Spells a v.number (row_word a ws v) known (last_record (row_word a ws v) v)
  row_spells at other v known has know =
      let fits = held.rows at v has in
      let last = last_record (row_word a ws v) v in
      let own : last.row ≡ v.number = (fits.listed last (last_listed v.number (row_word a ws v) v.records)).0 in
      record {
        of_row = own;
        word = fits.word;
        low = fits.low;
        bound = λ b e. let l = fits.linked b e in ((held.owners at (owned_as b (Linked last.row last.version)) l.1).number, l.0);
        newest = λ r known_one same.
            let is = know r known_one in
            let theirs = (held.rows is.at is.row is.there).listed r is.listed in
            let one = held.one_row is.at at is.row v is.there has (sym theirs.0 ∙ same ∙ own) in
            ((held.rows at v has).listed r (subst (λ (w : RowView). In r (records_of (row_word a ws w) w)) one.1 is.listed)).1;
      }

  -- a hold of the last record of a row, in a section that is open
  pub hold_fits : (at : ℕ) (v : RowView) (mark : ℕ) → Has ps at (IsRow v) → mark ≤ write_hand ws → HoldFits ws ps (record { loaded = last_record (row_word a ws v) v; mark = mark })
  hold_fits at v mark has past =
      let last = last_record (row_word a ws v) v in
      record { past = past; kept = λ b e low. (at, Linked last.row last.version, ((held.rows at v has).linked b e).1, (refl, refl)) }

  pub last_is_record : (at : ℕ) (v : RowView) → Has ps at (IsRow v) → IsRecord a ws ps (last_record (row_word a ws v) v)
  last_is_record at v has = record { at = at; row = v; there = has; listed = last_listed v.number (row_word a ws v) v.records }

-- a section's mark is at most the write sequence
pub mark_passed : (a : Setup) (ws : List ℕ) (vs : List (View Part)) (id : ℕ) (v : View Part) → Clocked a ws vs → get_elem? vs id ≡ some v → v.holder.phase ≡ phase.Inside → v.holder.mark ≤ write_hand ws
mark_passed a ws vs id v c at inside =
    let fits = c.law.holders id v.holder (holder_there a vs id v v at) in
    let own = in_phase a.config ws v.holder phase.Inside fits inside in
    let seen = fits.seen in
    let marked = own.3 in
    omega arith

module _ (a : Setup) (id : ℕ) (v : View Part) (own : v.setup ≡ a) (inside : v.holder.phase ≡ phase.Inside) where
  pub reads_row-keeps : (row word : ℕ) → row < a.plan.0 → word ≡ row_place a row → HostKeeps Named a id v word Load reads_row
  reads_row-keeps row word below place ws vs named at small =
      let held = named.names in
      let ps = hosts_of vs in
      let here : get_elem? (hosts_of vs) id ≡ some v.host = host_there vs id v at in
      let k = held.all_rows row below in
      let there = k.2 in
      let word_is : row_word a ws k.1 ≡ slice_index ws word = ap (λ (n : ℕ). slice_index ws n) (ap (λ (n : ℕ). row_place a n) k.3 ∙ sym place) in
      let last = last_record (row_word a ws k.1) k.1 in
      let known = λ (r : Record) (i : In r v.host.known). held.knows id r (v.host, here, i) in
      let spells : Spells a row (slice_index ws word) v.host.known last =
      subst (λ (n : ℕ). Spells a row n v.host.known last) word_is
      (subst (λ (n : ℕ). Spells a n (row_word a ws k.1) v.host.known last) k.3 (row_spells a ws ps held k.0 id k.1 v.host.known there known)) in (
        holding v last,
        (row, last, place ∙ ap (λ (b : Setup). row_place b row) (sym own), subst (λ (b : Setup). Spells b row (slice_index ws word) v.host.known last) (sym own) spells, refl),
        record {
          clock = step_clocked ws vs id v a named.clock at own word (slice_index ws word) (holding v last) (omega arith);
          names = subst (λ (l : List Part). Held a (set ws word (slice_index ws word)) l) (sym (hosts_written vs id v (holding v last)))
              (same_held a ws (set ws word (slice_index ws word)) ps (set ps id (holding v last)) held (quiet_again a ws word)
              (alike_written ps id (holding v last) v.host here refl refl)
              (λ j h has.
              ⊎_elim
              (λ t. subst (λ (x : Hold). HoldFits ws ps x) (some_same _ h t.1) (hold_fits a ws ps held k.0 k.1 v.holder.mark there (mark_passed a ws vs id v named.clock at inside)))
              (λ t. held.holds j h t.1)
              (has_set (HoldsIt h) ps id j (holding v last) has))
              (λ j r has.
              ⊎_elim
              (λ t. ⊎_elim (λ u. subst (λ (x : Record). IsRecord a ws ps x) u (last_is_record a ws ps held k.0 k.1 there)) (λ u. known r u) t.1)
              (λ t. held.knows j r t.1)
              (has_set (KnowsIt r) ps id j (holding v last) has)));
        },
      )

module _ (a : Setup) (id : ℕ) (v : View Part) (own : v.setup ≡ a) where
  -- what stands in the words of an entry whose record is held in an open section
  held_words : (ws : List ℕ) (vs : List (View Part)) → Named a ws vs → get_elem? vs id ≡ some v → (word : ℕ) (h : Hold) (b : Bound) → v.host.hold ≡ Some h → h.loaded.content ≡ Some b
      → v.holder.phase ≡ phase.Inside → h.mark ≡ v.holder.mark
      → (word ≡ key_place a b.entry → slice_index ws word ≡ b.key) × (word ≡ value_place a b.entry → slice_index ws word ≡ b.value)
  held_words ws vs named at word h b holds content inside mark =
      let here : get_elem? (hosts_of vs) id ≡ some v.host = host_there vs id v at in
      let above : read_hand ws ≤ v.holder.mark = marks_above_read a.config ws (holders_of vs) id v.holder v.holder named.clock.law id v.holder (holder_there a vs id v v at) inside in
      let k = (named.names.holds id h (v.host, here, holds)).kept b content (omega arith) in
      let fits = named.names.owners k.0 (owned_as b k.1) k.2 in
      ((λ e. ap (λ (n : ℕ). slice_index ws n) e ∙ fits.key), (λ e. ap (λ (n : ℕ). slice_index ws n) e ∙ fits.value))

  pub reads_entry-keeps : (word : ℕ) → place_after_seats a.config ≤ word → HostKeeps Named a id v word Load reads_entry
  reads_entry-keeps word above ws vs named at small =
      let held = named.names in
      let ps = hosts_of vs in
      let here : get_elem? (hosts_of vs) id ≡ some v.host = host_there vs id v at in (
        v.host,
        (
          refl,
          subst (λ (s : Setup). (h : Hold) (b : Bound) → v.host.hold ≡ Some h → h.loaded.content ≡ Some b → v.holder.phase ≡ phase.Inside → h.mark ≡ v.holder.mark
              → (word ≡ key_place s b.entry → slice_index ws word ≡ b.key) × (word ≡ value_place s b.entry → slice_index ws word ≡ b.value)) (sym own)
              (λ h b. held_words ws vs named at word h b),
        ),
        record {
          clock = step_clocked ws vs id v a named.clock at own word (slice_index ws word) v.host above;
          names = subst (λ (l : List Part). Held a (set ws word (slice_index ws word)) l) (sym (hosts_written vs id v v.host))
              (same_held a ws (set ws word (slice_index ws word)) ps (set ps id v.host) held (quiet_again a ws word)
              (alike_written ps id v.host v.host here refl refl)
              (λ j h has. held.holds j h (has_back ps id v.host v.host here (HoldsIt h) j (λ t. t) has))
              (λ j r has. held.knows j r (has_back ps id v.host v.host here (KnowsIt r) j (λ t. t) has)));
        },
      )
