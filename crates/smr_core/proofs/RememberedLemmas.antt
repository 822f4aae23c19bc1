-- What is remembered, over lists of views: a worker still remembers what it has stored where its list grows, and a word that a poll scans is 0 or one that the worker of its seat remembers.
use Rattle.std.proofs.Common.{◌≡◌, ℕ, zero, suc, ◌<◌, List, [], ◌∷◌, ◌++◌, set, sym, refl, ap, ◌∙◌, subst, arith, ◌⊎◌, inl, inr, ⊎_elim, Bool, true, false, eqb, Option, Some, None}
use Rattle.std.specs.Prelude.{Contains}
use Rattle.std.proofs.lemmas.List.Elements.{Contains-append_cases}
use borrow.Author.Tests.{eqb-true, eqb-false}
use mathlib.Core.Option.{some, some-injective, some-ne-none}
use lib.ListN.{get_elem?}
use Rattle.smr_seq.specs.Reading.{low}
use Rattle.smr_core.specs.declared.clock_core.ClockConfig.{ClockConfig}
use Rattle.smr_core.specs.declared.turns.FoundWord.{FoundWord}
use Rattle.smr_core.specs.declared.holder.Holder.{Holder}
use Rattle.smr_core.specs.declared.holder.Phase.{Phase}
use Rattle.smr_core.specs.declared.holder.Phase.TheVariants as phase
use Rattle.smr_core.specs.ClockState.{seat_word, word_of, seats_of}
use Rattle.smr_core.specs.ClockLaw.{PhaseFits, SeatFits, HolderFits, HasNoHolder, ClockLaw}
use Rattle.smr_core.specs.Remembered.{View, Remembered, StoredFits, HasStored, WordsWereStored, RememberedFits, RememberedLaw}
use Rattle.smr_core.specs.RememberedMoves.{holders_in}
use Rattle.smr_core.proofs.PlaceLemmas.{at_set, set_here, same_place, at_map, at_push, at_longer}

-- ---- places

-- what stands in a list stands there still once a place is written, or that place is its own
pub here_or_else : {A : Type 0} (l : List A) (i j : ℕ) (a b : A) → get_elem? l j ≡ some b → (j ≡ i) ⊎ (get_elem? (set l i a) j ≡ some b)
here_or_else [] i j a b e = absurd (some-ne-none b (sym e))
here_or_else (x ∷ xs) zero zero a b e = inl refl
here_or_else (x ∷ xs) zero (suc j) a b e = inr e
here_or_else (x ∷ xs) (suc i) zero a b e = inr e
here_or_else (x ∷ xs) (suc i) (suc j) a b e = ⊎_elim (λ t. inl (ap suc t)) (λ t. inr t) (here_or_else xs i j a b e)

-- ---- who has stored what

abbrev pub StillStored : List View → List View → Type 0
StillStored vs vs' = (s entered : ℕ) → HasStored vs s entered → HasStored vs' s entered

-- the view that changes keeps its seat, and forgets nothing
pub stored_still : (vs : List View) (id : ℕ) (v v' : View) → get_elem? vs id ≡ some v → v'.0.seat ≡ v.0.seat
    → ((entered : ℕ) → Contains v.1.stored entered → Contains v'.1.stored entered) → StillStored vs (set vs id v')
stored_still vs id v v' at seat more s entered h =
    ⊎_elim
    (λ here.
    let same : v ≡ h.worker = same_place vs id v h.worker at (ap (λ (n : ℕ). get_elem? vs n) (sym here) ∙ h.there) in
    record {
      id = id;
      worker = v';
      there = set_here vs id v' v at;
      seat = seat ∙ ap (λ (x : View). x.0.seat) same ∙ h.seat;
      remembers = more entered (subst (λ (x : View). Contains x.1.stored entered) (sym same) h.remembers);
    })
    (λ else. record { id = h.id; worker = h.worker; there = else; seat = h.seat; remembers = h.remembers })
    (here_or_else vs id h.id v' h.worker h.there)

-- a view without a seat may change as it likes
pub stored_without : (vs : List View) (at : ℕ) (v v' : View) → get_elem? vs at ≡ some v → v.0.seat ≡ None → StillStored vs (set vs at v')
stored_without vs at v v' there none s entered h =
    ⊎_elim
    (λ here.
    let same : v ≡ h.worker = same_place vs at v h.worker there (ap (λ (n : ℕ). get_elem? vs n) (sym here) ∙ h.there) in
    let both : None ≡ Some s = sym none ∙ ap (λ (x : View). x.0.seat) same ∙ h.seat in absurd (cc))
    (λ else. record { id = h.id; worker = h.worker; there = else; seat = h.seat; remembers = h.remembers })
    (here_or_else vs at h.id v' h.worker h.there)

pub stored_pushed : (vs : List View) (new : View) → StillStored vs (vs ++ new ∷ [])
stored_pushed vs new s entered h =
    record { id = h.id; worker = h.worker; there = at_longer vs (new ∷ []) h.id h.worker h.there; seat = h.seat; remembers = h.remembers }

words_still : (vs vs' : List View) (found : List FoundWord) → StillStored vs vs' → WordsWereStored vs found → WordsWereStored vs' found
words_still vs vs' found still w f in_it = ⊎_elim (λ t. inl t) (λ t. inr (t.0, still f.seat t.0 t.1, t.2)) (w f in_it)

pub remembers_still : (a : ClockConfig) (vs vs' : List View) (v : View) → StillStored vs vs' → RememberedFits a vs v → RememberedFits a vs' v
remembers_still a vs vs' v still f =
    record {
      stored = f.stored;
      odd = f.odd;
      scan = f.scan;
      found = words_still vs vs' v.1.found still f.found;
      last = f.last;
      last_words = words_still vs vs' v.1.last.found still f.last_words;
    }

-- ---- the lemmas for the kinds of step: it is enough that the new view fits among the old ones

module _ (a : ClockConfig) (vs : List View) where
  pub memory_moved : (id : ℕ) (v v' : View) → RememberedLaw a vs → get_elem? vs id ≡ some v → v'.0.seat ≡ v.0.seat
      → ((entered : ℕ) → Contains v.1.stored entered → Contains v'.1.stored entered) → RememberedFits a vs v' → RememberedLaw a (set vs id v')
  memory_moved id v v' law at seat more fits j w there =
      let still = stored_still vs id v v' at seat more in
      ⊎_elim
      (λ t. subst (λ (x : View). RememberedFits a (set vs id v') x) t.1 (remembers_still a vs (set vs id v') v' still fits))
      (λ t. remembers_still a vs (set vs id v') w still (law j w t.1))
      (at_set vs id j v' w there)

  pub memory_dropped : (at : ℕ) (v v' : View) → RememberedLaw a vs → get_elem? vs at ≡ some v → v.0.seat ≡ None → RememberedFits a vs v' → RememberedLaw a (set vs at v')
  memory_dropped at v v' law there none fits j w found =
      let still = stored_without vs at v v' there none in
      ⊎_elim
      (λ t. subst (λ (x : View). RememberedFits a (set vs at v') x) t.1 (remembers_still a vs (set vs at v') v' still fits))
      (λ t. remembers_still a vs (set vs at v') w still (law j w t.1))
      (at_set vs at j v' w found)

  pub memory_pushed : (new : View) → RememberedLaw a vs → RememberedFits a vs new → RememberedLaw a (vs ++ new ∷ [])
  memory_pushed new law fits j w there =
      let still = stored_pushed vs new in
      ⊎_elim
      (λ t. remembers_still a vs (vs ++ new ∷ []) w still (law j w t))
      (λ t. subst (λ (x : View). RememberedFits a (vs ++ new ∷ []) x) t.1 (remembers_still a vs (vs ++ new ∷ []) new still fits))
      (at_push vs new w j there)

-- ---- the word in front of a seat

by_test : (b : Bool) (P : Type 0) → (b ≡ true → P) → (b ≡ false → P) → P
by_test true P t f = t refl
by_test false P t f = f refl

is_seat : (o : Option ℕ) (s : ℕ) → (o ≡ Some s) ⊎ (o ≡ Some s → ⊥)
is_seat None s = inr (λ e. cc)
is_seat (Some t) s =
    by_test (eqb t s) ((Some t ≡ Some s) ⊎ (Some t ≡ Some s → ⊥)) (λ e. inl (ap (λ (n : ℕ). Some n) (eqb-true t s e)))
    (λ e. inr (λ f. eqb-false t s e (let g : t ≡ s = cc in g)))

record Worker (vs : List View) (s : ℕ) : Type 0 where
  id : ℕ
  view : View
  there : get_elem? vs id ≡ some view
  seat : view.0.seat ≡ Some s

-- a seat has a worker or a vacancy, or it has none
seek : (vs : List View) (s : ℕ) → Worker vs s ⊎ HasNoHolder (seats_of (holders_in vs)) s
seek [] s = inr (λ i e. absurd (some-ne-none (Some s) (sym e)))
seek (v ∷ vs) s =
    ⊎_elim
    (λ e. inl (record { id = 0; view = v; there = refl; seat = e }))
    (λ n. ⊎_elim
    (λ w. inl (record { id = suc w.id; view = w.view; there = w.there; seat = w.seat }))
    (λ none. inr (no_worker n none))
    (seek vs s))
    (is_seat v.0.seat s)
  where
    no_worker : (v.0.seat ≡ Some s → ⊥) → HasNoHolder (seats_of (holders_in vs)) s → HasNoHolder (seats_of (holders_in (v ∷ vs))) s
    no_worker n none zero e = n (some-injective v.0.seat (Some s) e)
    no_worker n none (suc i) e = none i e

-- while a worker's enter is stored, it remembers what its word is the low half of
in_front : (a : ClockConfig) (ws : List ℕ) (h : Holder) (r : Remembered) (s : ℕ) (p : Phase) → h.seat ≡ Some s → SeatFits h.seat p → PhaseFits a ws h p → StoredFits p h r
    → (word_of ws h.seat ≡ 0) ⊎ ((word_of ws h.seat ≡ low h.loaded) × Contains r.stored h.loaded)
in_front a ws h r s phase.Outside e k f m = inl f
in_front a ws h r s phase.Loaded e k f m = inl f.0
in_front a ws h r s phase.Stored e k f m = inr (f.0, m)
in_front a ws h r s phase.Inside e k f m = inr (f.0, m)
in_front a ws h r s phase.Late e k f m = inr (f.0, m)
in_front a ws h r s phase.Vacant e k f m = inl f.0
in_front a ws h r s phase.Note e k f m = let both : None ≡ Some s = sym k ∙ e in absurd (cc)
in_front a ws h r s phase.Absorbed e k f m = let both : None ≡ Some s = sym k ∙ e in absurd (cc)

-- A seat's word is 0, or the low half of a write sequence that the worker of that seat has stored.
pub word_was_stored : (a : ClockConfig) (ws : List ℕ) (vs : List View) → ClockLaw a ws (holders_in vs) → RememberedLaw a vs → (s : ℕ) → s < a.seats
    → (seat_word ws s ≡ 0) ⊎ ((entered : ℕ) × HasStored vs s entered × (seat_word ws s ≡ low entered))
word_was_stored a ws vs law memory s known =
    ⊎_elim
    (λ w.
    let fits : HolderFits a ws w.view.0 = law.holders w.id w.view.0 (at_map (λ (x : View). x.0) vs w.id w.view w.there) in
    let own : word_of ws w.view.0.seat ≡ seat_word ws s = ap (λ (o : Option ℕ). word_of ws o) w.seat in
    ⊎_elim
    (λ t. inl (sym own ∙ t))
    (λ t. inr (w.view.0.loaded, record { id = w.id; worker = w.view; there = w.there; seat = w.seat; remembers = t.1 }, sym own ∙ t.0))
    (in_front a ws w.view.0 w.view.1 s w.view.0.phase w.seat fits.seat fits.phase (memory w.id w.view w.there).stored))
    (λ none. inl (law.unmade s known none).0)
    (seek vs s)

-- one word more
pub words_more : (vs : List View) (found : List FoundWord) (new : FoundWord) → WordsWereStored vs found
    → (new.word ≡ 0) ⊎ ((entered : ℕ) × HasStored vs new.seat entered × (new.word ≡ low entered)) → WordsWereStored vs (found ++ new ∷ [])
words_more vs found new before now f in_it =
    ⊎_elim
    (λ t. before f t)
    (λ t. subst (λ (x : FoundWord). (x.word ≡ 0) ⊎ ((entered : ℕ) × HasStored vs x.seat entered × (x.word ≡ low entered))) (only new f t) now)
    (Contains-append_cases found (new ∷ []) f in_it)
  where
    only : (x y : FoundWord) → Contains (x ∷ []) y → x ≡ y
    only x y (zero, below, e) = e
    only x y (suc k, below, e) = absurd (omega arith)
