-- The steps of an entry's seat keep the law of names.
use Rattle.std.proofs.Common.{◌≡◌, ℕ, ◌+◌, ◌<◌, ◌≤◌, ◌≢◌, List, [], ◌∷◌, map, length, set, slice_index, nat_le, cond, false, Bool, refl, sym, ap, ◌∙◌, subst, arith, length-set, get_or-set_same, get_or-set_other, inl, inr}
use mathlib.Core.Option.{some}
use lib.ListN.{get_elem?}
use Rattle.smr_core.specs.ClockState.{write_place, read_place, place_after_seats, write_hand, read_hand}
use Rattle.smr_clock.specs.declared.clock.Setup.{Setup}
use Rattle.smr_clock.specs.declared.view.View.{View}
use Rattle.smr_clock.specs.declared.host.HostAct.TheVariants.{Load, Store}
use Rattle.smr_clock.specs.Views.{hosts_of}
use Rattle.smr_clock.specs.Clocked.{Clocked}
use Rattle.smr_clock.specs.HostSteps.{IsHand, SeatKeeps, with_host, looked}
use Rattle.smr_clock.proofs.HostClocked.{step_clocked, look_clocked}
use Rattle.smr_clock.proofs.SeatSteps.{looked_else}
use Rattle.name_rows.specs.declared.names.Hold.{Hold}
use Rattle.name_rows.specs.declared.entry.EntryState.{EntryState}
use Rattle.name_rows.specs.declared.entry.EntryState.TheVariants.{Clean, Written, Linked, Unlinked, Stamped}
use Rattle.name_rows.specs.declared.entry.Owned.{Owned}
use Rattle.name_rows.specs.declared.names.Part.{Part}
use Rattle.name_rows.specs.Records.{In, key_place, value_place, Has, OwnsIt}
use Rattle.name_rows.specs.NamesLaw.{StillHeld, Held, Named}
use Rattle.name_rows.specs.Writing.{with_owned, keyed, valued, stamped, ripened, ripe_state, writes_key, writes_value, stamps, ripens}
use Rattle.name_rows.proofs.Seats.{hosts_written, host_there, word_again}
use Rattle.name_rows.proofs.EntryHeld.{entry_held}

-- the clock's law after a host's seat steps on a word of the host's
pub seat_clocked : (a : Setup) (ws : List ℕ) (vs : List (View Part)) (id : ℕ) (v : View Part) → Clocked a ws vs → get_elem? vs id ≡ some v → v.setup ≡ a → (word n : ℕ) (part : Part)
    → place_after_seats a.config ≤ word → Clocked a (set ws word n) (set vs id (with_host (looked v word (slice_index ws word)) part))
seat_clocked a ws vs id v c at own word n part above =
    subst (λ (x : View Part). Clocked a (set ws word n) (set vs id (with_host x part))) (sym (looked_else v word (slice_index ws word) (omega arith)))
    (step_clocked ws vs id v a c at own word n part above)

-- the law of names, for the host parts after a seat's step
pub named_after : (a : Setup) (ws' : List ℕ) (vs : List (View Part)) (id : ℕ) (v : View Part) (part : Part) → Clocked a ws' (set vs id (with_host v part)) → Held a ws' (set (hosts_of vs) id part)
    → Named a ws' (set vs id (with_host v part))
named_after a ws' vs id v part c held = record { clock = c; names = subst (λ (l : List Part). Held a ws' l) (sym (hosts_written vs id v part)) held }

ripe_keeps : (h : Hold) (read : ℕ) (s : EntryState) → StillHeld h s → read ≤ h.mark → StillHeld h (ripe_state read s)
ripe_keeps h read Clean still low = still
ripe_keeps h read Written still low = absurd still
ripe_keeps h read (Linked row version) still low = still
ripe_keeps h read Unlinked still low = still
ripe_keeps h read (Stamped goal) still low =
    let above : nat_le goal read ≡ false = not_come (omega arith) in
    subst (λ (b : Bool). StillHeld h (cond b Clean (Stamped goal))) (sym above) still
  where
    not_come : read < goal → nat_le goal read ≡ false
    not_come r = grind arith

module _ (a : Setup) (id : ℕ) (v : View Part) (own : v.setup ≡ a) (o : Owned) (no_rows : v.host.rows ≡ []) (owns : v.host.owned ≡ o ∷ []) where
  owns_after : (f : Owned → Owned) → map f v.host.owned ≡ f o ∷ []
  owns_after f = ap (λ (l : List Owned). map f l) owns

  has_it : (ws : List ℕ) (vs : List (View Part)) → get_elem? vs id ≡ some v → Has (hosts_of vs) id (OwnsIt o)
  has_it ws vs at = (v.host, host_there vs id v at, subst (λ (l : List Owned). In o l) (sym owns) (inl refl))

  -- a store in a word of a clean entry
  stores : (f : Owned → Owned) (word value : ℕ) (ws : List ℕ) (vs : List (View Part)) → Named a ws vs → get_elem? vs id ≡ some v → o.state ≡ Clean → (f o).entry ≡ o.entry
      → place_after_seats a.config ≤ word → word < length ws
      → ((i : ℕ) → i ≢ key_place a o.entry → i ≢ value_place a o.entry → i ≢ word)
      → slice_index (set ws word value) (key_place a o.entry) ≡ (f o).key
      → slice_index (set ws word value) (value_place a o.entry) ≡ (f o).value
      → Named a (set ws word value) (set vs id (with_host (looked v word (slice_index ws word)) (with_owned f v.host)))
  stores f word value ws vs named at clean entry above within apart key val =
      named_after a (set ws word value) vs id (looked v word (slice_index ws word)) (with_owned f v.host)
      (seat_clocked a ws vs id v named.clock at own word value (with_owned f v.host) above)
      (entry_held a ws (set ws word value) (hosts_of vs) id v.host (with_owned f v.host) o (f o) named.names (host_there vs id v at)
      (record {
        rows = no_rows;
        same_rows = no_rows;
        known = refl;
        hold = refl;
        owns = owns;
        owns_new = owns_after f;
        entry = entry;
        write_not_lower = let e : write_hand (set ws word value) ≡ write_hand ws = get_or-set_other ws word write_place value 0 (λ e. omega arith) in omega arith;
        read_not_lower = let e : read_hand (set ws word value) ≡ read_hand ws = get_or-set_other ws word read_place value 0 (λ e. omega arith) in omega arith;
        as_many = length-set ws word value;
        others = λ i high k n. get_or-set_other ws word i value 0 (apart i k n);
        key = key;
        value = val;
        keeps = λ h still past low. absurd (subst (λ (s : EntryState). StillHeld h s) clean still);
      }))

  -- both words are within
  words_within : (ws : List ℕ) (vs : List (View Part)) → Named a ws vs → get_elem? vs id ≡ some v → value_place a o.entry < length ws
  words_within ws vs named at =
      let room = named.names.room in
      let below = (named.names.owners id o (has_it ws vs at)).number in
      omega arith

  pub key-keeps : (word value : ℕ) → word ≡ key_place a o.entry → o.state ≡ Clean → SeatKeeps Named a id v word (Store value) writes_key
  key-keeps word value place clean ws vs named at small =
      let within = words_within ws vs named at in
      let fits = named.names.owners id o (has_it ws vs at) in (
        with_owned (keyed value) v.host,
        refl,
        stores (keyed value) word value ws vs named at clean refl (omega arith) (omega arith) (λ i k n e. k (e ∙ place))
            (subst (λ (n : ℕ). slice_index (set ws word value) n ≡ value) place (get_or-set_same ws word value 0 (omega arith)))
            (get_or-set_other ws word (value_place a o.entry) value 0 (λ e. omega arith) ∙ fits.value),
      )

  pub value-keeps : (word value : ℕ) → word ≡ value_place a o.entry → o.state ≡ Clean → SeatKeeps Named a id v word (Store value) writes_value
  value-keeps word value place clean ws vs named at small =
      let within = words_within ws vs named at in
      let fits = named.names.owners id o (has_it ws vs at) in (
        with_owned (valued value) v.host,
        refl,
        stores (valued value) word value ws vs named at clean refl (omega arith) (omega arith) (λ i k n e. n (e ∙ place))
            (get_or-set_other ws word (key_place a o.entry) value 0 (λ e. omega arith) ∙ fits.key)
            (subst (λ (n : ℕ). slice_index (set ws word value) n ≡ value) place (get_or-set_same ws word value 0 (omega arith))),
      )

  -- a load of a hand, after which the entry has another state
  restates : (f : Owned → Owned) (word : ℕ) (ws : List ℕ) (vs : List (View Part)) → Named a ws vs → get_elem? vs id ≡ some v → IsHand word → (f o).entry ≡ o.entry → (f o).key ≡ o.key → (f o).value ≡ o.value
      → ((h : Hold) → StillHeld h o.state → h.mark ≤ write_hand ws → read_hand ws ≤ h.mark → StillHeld h (f o).state)
      → Named a (set ws word (slice_index ws word)) (set vs id (with_host (looked v word (slice_index ws word)) (with_owned f v.host)))
  restates f word ws vs named at hand entry key value keeps =
      let fits = named.names.owners id o (has_it ws vs at) in
      named_after a (set ws word (slice_index ws word)) vs id (looked v word (slice_index ws word)) (with_owned f v.host)
      (look_clocked ws vs id v a named.clock at own word (with_owned f v.host) hand)
      (subst (λ (l : List ℕ). Held a l (set (hosts_of vs) id (with_owned f v.host))) (sym (word_again ws word))
      (entry_held a ws ws (hosts_of vs) id v.host (with_owned f v.host) o (f o) named.names (host_there vs id v at)
      (record {
        rows = no_rows;
        same_rows = no_rows;
        known = refl;
        hold = refl;
        owns = owns;
        owns_new = owns_after f;
        entry = entry;
        write_not_lower = omega arith;
        read_not_lower = omega arith;
        as_many = refl;
        others = λ i high k n. refl;
        key = fits.key ∙ sym key;
        value = fits.value ∙ sym value;
        keeps = λ h still past low. (key, value, keeps h still past low);
      })))

  pub stamp-keeps : o.state ≡ Unlinked → SeatKeeps Named a id v write_place Load stamps
  stamp-keeps unlinked ws vs named at small = (
    with_owned (stamped (write_hand ws + 2)) v.host,
    refl,
    restates (stamped (write_hand ws + 2)) write_place ws vs named at (inl refl) refl refl refl (λ h still past low. omega arith),
  )

  pub ripe-keeps : SeatKeeps Named a id v read_place Load ripens
  ripe-keeps ws vs named at small = (
    with_owned (ripened (read_hand ws)) v.host,
    refl,
    restates (ripened (read_hand ws)) read_place ws vs named at (inr refl) refl refl refl (λ h still past low. ripe_keeps h (read_hand ws) o.state still low),
  )
