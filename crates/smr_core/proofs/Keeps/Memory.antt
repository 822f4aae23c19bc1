-- For each kind of step: it keeps the law of what views remember.
use Rattle.std.proofs.Common.{◌≡◌, ℕ, zero, suc, List, [], ◌∷◌, ◌++◌, set, sym, refl, ap, ◌∙◌, subst, subst₂, arith, ⊎_elim, Bool, true, false, cond, None, slice_index}
use Rattle.std.specs.Prelude.{Contains}
use Rattle.std.proofs.lemmas.List.{map-append}
use Rattle.std.proofs.lemmas.List.Elements.{Contains-append_left, Contains-append_right, Contains-append_cases}
use Rattle.std.proofs.lemmas.List.Sums.{fold-append}
use mathlib.Core.Option.{some-injective, some-ne-none}
use Rattle.smr_core.specs.declared.clock_core.ClockConfig.{ClockConfig}
use Rattle.smr_core.specs.declared.turns.FoundWord.{FoundWord}
use Rattle.smr_core.specs.declared.holder.Holder.{Holder}
use Rattle.smr_core.specs.declared.holder.Phase.{Phase}
use Rattle.smr_core.specs.declared.holder.Phase.TheVariants as phase
use Rattle.smr_core.specs.declared.holder.Task.TheVariants as task
use Rattle.smr_core.specs.ClockState.{IsOdd, seat_place, read_place, presence_place, seats_below, spent, first_holder}
use Rattle.smr_core.specs.ClockStep as clock
use Rattle.smr_core.specs.ClockLaw.{HolderFits}
use Rattle.smr_core.specs.Remembered.{View, Remembered, StoredFits, FoundFits, RememberedFits, RememberedLaw, nothing_remembered, least_of, words_found, stored_too, none_found, found_too, poll_done}
use Rattle.smr_core.specs.RememberedMoves as moves
use Rattle.smr_core.specs.RememberedMoves.{KeepsMemory}
use Rattle.smr_core.proofs.PlaceLemmas.{at_map, set_else}
use Rattle.smr_core.proofs.PresenceLemmas.{none-below-first, one-more-below}
use Rattle.smr_core.proofs.KindLemmas.{in_phase, in_task, seat_in_phase}
use Rattle.smr_core.proofs.RememberedLemmas.{memory_moved, memory_dropped, memory_pushed, word_was_stored, words_more}

-- ---- a step that changes the holder alone

-- what has to be shown of the new holder
record Aside (h h' : Holder) (r : Remembered) : Type 0 where
  seat : h'.seat ≡ h.seat
  stored : StoredFits h.phase h r → StoredFits h'.phase h' r
  scan : h'.task ≡ task.Scanning → FoundFits h r → FoundFits h' r
  scanning : h'.task ≡ task.Scanning → h.task ≡ task.Scanning

aside : (a : ClockConfig) (id : ℕ) (v : View) (i : ℕ) (next : ℕ → Holder) → ((found : ℕ) → Aside v.0 (next found) v.1) → KeepsMemory a id v i (λ found. (next found, v.1))
aside a id v i next each ws vs law memory at =
    let f : RememberedFits a vs v = memory id v at in
    let m = each (slice_index ws i) in
    memory_moved a vs id v (next (slice_index ws i), v.1) memory at m.seat (λ entered c. c)
    (record { stored = m.stored f.stored; odd = f.odd; scan = λ e. m.scan e (f.scan (m.scanning e)); found = f.found; last = f.last; last_words = f.last_words })

-- the words of a section and of a poll stay
stored_kept : (h h' : Holder) (r r' : Remembered) (p : Phase) → h'.loaded ≡ h.loaded → r'.stored ≡ r.stored → StoredFits p h r → StoredFits p h' r'
stored_kept h h' r r' phase.Outside e s f = tt
stored_kept h h' r r' phase.Loaded e s f = tt
stored_kept h h' r r' phase.Stored e s f = subst₂ Contains (sym s) (sym e) f
stored_kept h h' r r' phase.Inside e s f = subst₂ Contains (sym s) (sym e) f
stored_kept h h' r r' phase.Late e s f = subst₂ Contains (sym s) (sym e) f
stored_kept h h' r r' phase.Vacant e s f = tt
stored_kept h h' r r' phase.Note e s f = tt
stored_kept h h' r r' phase.Absorbed e s f = tt

-- the poll of the one is that of the other
abbrev SamePoll : Holder → Holder → Type 0
SamePoll h h' = (h'.present ≡ h.present) × (h'.scanned ≡ h.scanned) × (h'.least ≡ h.least) × (h'.read ≡ h.read) × (h'.write ≡ h.write)

found_kept : (h h' : Holder) (r : Remembered) → SamePoll h h' → FoundFits h r → FoundFits h' r
found_kept h h' r e f =
    record {
      seats = f.seats ∙ (λ i. seats_below (sym e.0 i) (sym e.1 i));
      least = e.2 ∙ f.least ∙ (λ i. least_of (sym e.3 i) (sym e.4 i) (words_found r.found));
    }

-- a load alone, and a step of a section: the task stays
in_same_task : (h h' : Holder) (r : Remembered) → h'.seat ≡ h.seat → h'.task ≡ h.task → SamePoll h h'
    → (StoredFits h.phase h r → StoredFits h'.phase h' r) → Aside h h' r
in_same_task h h' r s t p k = record { seat = s; stored = k; scan = λ e f. found_kept h h' r p f; scanning = λ e. sym t ∙ e }

-- a step of an advance, or one that ends a poll or begins it: the phase stays, and no poll is at its scan
in_same_phase : (h h' : Holder) (r : Remembered) → h'.seat ≡ h.seat → h'.phase ≡ h.phase → h'.loaded ≡ h.loaded → (h'.task ≡ task.Scanning → ⊥) → Aside h h' r
in_same_phase h h' r s p e n =
    record {
      seat = s;
      stored = λ k. subst (λ (q : Phase). StoredFits q h' r) (sym p) (stored_kept h h' r r h.phase e refl k);
      scan = λ t. absurd (n t);
      scanning = λ t. absurd (n t);
    }

pub write_look-remembers : moves.WriteLookRemembers
write_look-remembers a id v =
    aside a id v _ (clock.write_loaded a v.0) (λ found. in_same_task _ _ _ refl refl (refl, refl, refl, refl, refl) (λ k. stored_kept v.0 (clock.write_loaded a v.0 found) v.1 v.1 v.0.phase refl refl k))

pub read_look-remembers : moves.ReadLookRemembers
read_look-remembers a id v =
    aside a id v _ (clock.read_loaded v.0) (λ found. in_same_task _ _ _ refl refl (refl, refl, refl, refl, refl) (λ k. stored_kept v.0 (clock.read_loaded v.0 found) v.1 v.1 v.0.phase refl refl k))

-- ---- enter and exit

pub enter_load-remembers : moves.EnterLoadRemembers
enter_load-remembers a id v = aside a id v _ (clock.enter_loaded a v.0) (λ found. in_same_task _ _ _ refl refl (refl, refl, refl, refl, refl) (λ k. tt))

late_or_inside : (b : Bool) (h : Holder) (r : Remembered) → Contains r.stored h.loaded → StoredFits (cond b phase.Late phase.Inside) h r
late_or_inside true h r k = k
late_or_inside false h r k = k

pub enter_check-remembers : moves.EnterCheckRemembers
enter_check-remembers a id v waits =
    aside a id v _ (clock.enter_checked a v.0)
    (λ found. in_same_task _ _ _ refl refl (refl, refl, refl, refl, refl)
    (λ k. late_or_inside (clock.is_overtaken a v.0.loaded found) (clock.enter_checked a v.0 found) v.1 (subst (λ (p : Phase). StoredFits p v.0 v.1) waits k)))

pub clear-remembers : moves.ClearRemembers
clear-remembers a id s v = aside a id v (seat_place s) (λ found. clock.cleared v.0) (λ found. in_same_task _ _ _ refl refl (refl, refl, refl, refl, refl) (λ k. tt))

-- ---- leave and come

pub leave-remembers : moves.LeaveRemembers
leave-remembers a id v = aside a id v (presence_place a) (λ found. clock.left v.0) (λ found. in_same_task _ _ _ refl refl (refl, refl, refl, refl, refl) (λ k. tt))

pub come-remembers : moves.ComeRemembers
come-remembers a id v = aside a id v (presence_place a) (λ found. clock.came v.0) (λ found. in_same_task _ _ _ refl refl (refl, refl, refl, refl, refl) (λ k. tt))

-- ---- an enter's store

pub enter_store-remembers : moves.EnterStoreRemembers
enter_store-remembers a id s v loads ws vs law memory at =
    let f : RememberedFits a vs v = memory id v at in
    let fits : HolderFits a ws v.0 = law.holders id v.0 (at_map (λ (x : View). x.0) vs id v at) in
    let odd : IsOdd v.0.loaded = (in_phase a ws v.0 phase.Loaded fits loads).1 in
    memory_moved a vs id v (clock.enter_stored v.0, stored_too v.1 v.0) memory at refl
    (λ entered c. Contains-append_left v.1.stored (v.0.loaded ∷ []) entered c)
    (record {
      stored = Contains-append_right v.1.stored (v.0.loaded ∷ []) v.0.loaded (0, omega arith, refl);
      odd = λ entered c.
          ⊎_elim (λ t. f.odd entered t) (λ t. subst IsOdd (only v.0.loaded entered t) odd) (Contains-append_cases v.1.stored (v.0.loaded ∷ []) entered c);
      scan = λ e. let k = f.scan e in record { seats = k.seats; least = k.least };
      found = f.found;
      last = f.last;
      last_words = f.last_words;
    })
  where
    only : (x y : ℕ) → Contains (x ∷ []) y → x ≡ y
    only x y (zero, below, e) = e
    only x y (suc k, below, e) = absurd (omega arith)

-- ---- advance

pub advance_read-remembers : moves.AdvanceReadRemembers
advance_read-remembers a id v = aside a id v _ (clock.advance_read v.0) (λ found. in_same_phase _ _ _ refl refl refl (λ e. cc))

-- whether or not the advance goes on
either_way : (b : Bool) (h k k' : Holder) (r : Remembered) → Aside h k r → Aside h k' r → Aside h (cond b k k') r
either_way true h k k' r m n = m
either_way false h k k' r m n = n

pub advance_load-remembers : moves.AdvanceLoadRemembers
advance_load-remembers a id v =
    aside a id v _ (clock.advance_loaded a v.0)
    (λ found. let ends : Aside v.0 (clock.advance_ended a v.0 found) v.1 = in_same_phase _ _ _ refl refl refl (λ e. cc) in
    either_way (clock.is_spent found) _ _ _ _ ends
    (either_way (clock.is_too_far a v.0.read found) _ _ _ _ ends (in_same_phase _ _ _ refl refl refl (λ e. cc))))

pub advance_swap-remembers : moves.AdvanceSwapRemembers
advance_swap-remembers a id v = aside a id v _ (clock.advance_swapped v.0) (λ found. in_same_phase _ _ _ refl refl refl (λ e. cc))

-- ---- poll

pub poll_read-remembers : moves.PollReadRemembers
poll_read-remembers a id v = aside a id v _ (clock.poll_read v.0) (λ found. in_same_phase _ _ _ refl refl refl (λ e. cc))

pub poll_load-remembers : moves.PollLoadRemembers
poll_load-remembers a id v = aside a id v _ (clock.poll_loaded a v.0) (λ found. in_same_phase _ _ _ refl refl refl (λ e. cc))

pub poll_present-remembers : moves.PollPresentRemembers
poll_present-remembers a id v ws vs law memory at =
    let f : RememberedFits a vs v = memory id v at in
    let p : ℕ = slice_index ws (presence_place a) in
    memory_moved a vs id v (clock.poll_present a v.0 (slice_index ws (presence_place a)), none_found v.1) memory at refl (λ entered c. c)
    (record {
      stored = stored_kept v.0 (clock.poll_present a v.0 (slice_index ws (presence_place a))) v.1 (none_found v.1) v.0.phase refl refl f.stored;
      odd = f.odd;
      scan = λ e. record { seats = sym (none-below-first a (slice_index ws (presence_place a))); least = refl };
      found = λ s in_it. absurd (let below = in_it.1 in omega arith);
      last = f.last;
      last_words = f.last_words;
    })

pub poll_scan-remembers : moves.PollScanRemembers
poll_scan-remembers a id v scanning known ws vs law memory at =
    let f : RememberedFits a vs v = memory id v at in
    let k : FoundFits v.0 v.1 = f.scan scanning in
    let t = in_task a ws v.0 task.Scanning (law.holders id v.0 (at_map (λ (x : View). x.0) vs id v at)) scanning in
    let word : ℕ = slice_index ws (seat_place v.0.scanned) in
    let new : FoundWord = record { seat = v.0.scanned; word = slice_index ws (seat_place v.0.scanned) } in
    memory_moved a vs id v (clock.poll_scanned a v.0 word, found_too v.1 v.0 word) memory at refl (λ entered c. c)
    (record {
      stored = stored_kept v.0 (clock.poll_scanned a v.0 word) v.1 (found_too v.1 v.0 word) v.0.phase refl refl f.stored;
      odd = f.odd;
      scan = λ e. record {
        seats = map-append (λ (x : FoundWord). x.seat) v.1.found (new ∷ []) ∙ ap (λ (l : List ℕ). l ++ v.0.scanned ∷ []) k.seats
            ∙ sym (one-more-below a v.0.present v.0.scanned (t.7.1 known));
        least = ap (λ (n : ℕ). clock.least_after v.0.read v.0.write n word) k.least
            ∙ sym (fold-append (clock.least_after v.0.read v.0.write) v.0.write (words_found v.1.found) (word ∷ []))
            ∙ ap (λ (l : List ℕ). least_of v.0.read v.0.write l) (sym (map-append (λ (x : FoundWord). x.word) v.1.found (new ∷ [])));
      };
      found = words_more vs v.1.found new f.found (word_was_stored a ws vs law memory v.0.scanned known);
      last = f.last;
      last_words = f.last_words;
    })

pub poll_swap-remembers : moves.PollSwapRemembers
poll_swap-remembers a id v scanning all ws vs law memory at =
    let f : RememberedFits a vs v = memory id v at in
    let k : FoundFits v.0 v.1 = f.scan scanning in
    memory_moved a vs id v (clock.poll_swapped v.0 (slice_index ws read_place), poll_done v.1 v.0 (slice_index ws read_place)) memory at refl (λ entered c. c)
    (record {
      stored = stored_kept v.0 (clock.poll_swapped v.0 (slice_index ws read_place)) v.1 (poll_done v.1 v.0 (slice_index ws read_place)) v.0.phase refl refl f.stored;
      odd = f.odd;
      scan = λ e. absurd (cc);
      found = λ s in_it. absurd (let below = in_it.1 in omega arith);
      last = λ some. record { seats = k.seats ∙ ap (seats_below v.0.present) all; least = k.least };
      last_words = f.found;
    })

-- ---- notes, workers split off, and joins

-- a view that remembers nothing, at rest
fresh : (a : ClockConfig) (vs : List View) (h : Holder) → StoredFits h.phase h nothing_remembered → (h.task ≡ task.Scanning → ⊥) → RememberedFits a vs (h, nothing_remembered)
fresh a vs h k idle =
    record {
      stored = k;
      odd = λ entered c. absurd (let below = c.1 in omega arith);
      scan = λ e. absurd (idle e);
      found = λ s in_it. absurd (let below = in_it.1 in omega arith);
      last = λ some. absurd (omega arith);
      last_words = λ s in_it. absurd (let below = in_it.1 in omega arith);
    }

pub note-remembers : moves.NoteRemembers
note-remembers a id v ws vs law memory at = memory_pushed a vs (clock.note_of v.0, nothing_remembered) memory (fresh a vs (clock.note_of v.0) tt (λ e. cc))

pub worker-remembers : moves.WorkerRemembers
worker-remembers a id s v ws vs law memory at =
    memory_pushed a vs (clock.worker_of s v.0, nothing_remembered) memory (fresh a vs (clock.worker_of s v.0) tt (λ e. cc))

pub join-remembers : moves.JoinRemembers
join-remembers a id v at other apart note ws vs law memory here there =
    let both : View = (clock.joined v.0 other.0, v.1) in
    let f : RememberedFits a vs v = memory id v here in
    let none : other.0.seat ≡ None = seat_in_phase a ws other.0 phase.Note (law.holders at other.0 (at_map (λ (x : View). x.0) vs at other there)) note in
    let first : RememberedLaw a (set vs id (clock.joined v.0 other.0, v.1)) =
    memory_moved a vs id v (clock.joined v.0 other.0, v.1) memory here refl (λ entered c. c)
    (record {
      stored = stored_kept v.0 (clock.joined v.0 other.0) v.1 v.1 v.0.phase refl refl f.stored;
      odd = f.odd;
      scan = λ e. found_kept v.0 (clock.joined v.0 other.0) v.1 (refl, refl, refl, refl, refl) (f.scan e);
      found = f.found;
      last = f.last;
      last_words = f.last_words;
    }) in
    memory_dropped a (set vs id (clock.joined v.0 other.0, v.1)) at other (spent, nothing_remembered) first
    (set_else vs id at (clock.joined v.0 other.0, v.1) apart ∙ there) none
    (fresh a (set vs id (clock.joined v.0 other.0, v.1)) spent tt (λ e. cc))

-- ---- where a clock begins

pub begins-remembering : moves.BeginsRemembering
begins-remembering a zero v there =
    subst (λ (x : View). RememberedFits a ((first_holder a, nothing_remembered) ∷ []) x) (some-injective (first_holder a, nothing_remembered) v there)
    (fresh a ((first_holder a, nothing_remembered) ∷ []) (first_holder a) tt (λ e. cc))
begins-remembering a (suc id) v there = absurd (some-ne-none v (sym there))
