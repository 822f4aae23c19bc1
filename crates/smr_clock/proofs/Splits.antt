-- A seat may be split off, and a note be taken in, whoever the host is.
use Rattle.std.proofs.Common.{◌≡◌, ℕ, ◌+◌, ◌<◌, List, [], ◌∷◌, ◌++◌, length, set, sym, refl, ap, ◌∙◌, subst, ⊎_elim, arith, Bool, IsTrue, Option, Some, None, ◌⊎◌, inl, inr, length-set}
use Rattle.std.proofs.lemmas.List.{map-append}
use mathlib.Core.Option.{some}
use lib.ListN.{get_elem?}
use Rattle.atomic_table.specs.Table.{State, Splits, Joins}
use Rattle.smr_core.specs.declared.holder.Holder.{Holder}
use Rattle.smr_core.specs.declared.holder.Phase.TheVariants as phase
use Rattle.smr_core.specs.ClockState.{seats_of, spent}
use Rattle.smr_core.specs.ClockStep as clock
use Rattle.smr_core.specs.ClockLaw.{ClockLaw, HasNoHolder, Later}
use Rattle.smr_core.specs.Remembered.{RememberedLaw, nothing_remembered}
use Rattle.smr_core.specs.Remembered.{View as Plain}
use Rattle.smr_core.proofs.PlaceLemmas.{at_set, set_again, map_set, at_push, set_else, place_within}
use Rattle.smr_core.proofs.KindLemmas.{seat_in_phase}
use Rattle.smr_core.proofs.Keeps.Splits.{note-keeps, worker-keeps}
use Rattle.smr_core.proofs.Keeps.Joins.{join-keeps}
use Rattle.smr_core.proofs.Keeps.Memory.{note-remembers, worker-remembers, join-remembers}
use Rattle.smr_clock.specs.declared.clock.Setup.{Setup}
use Rattle.smr_clock.specs.declared.view.View.{View}
use Rattle.smr_clock.specs.Views.{remembered, plain, plain_views, holders_of, seats_in, hosts_of, spent_view}
use Rattle.smr_clock.specs.Steps.{note_view, count_made, one_more_made, worker_view, joined_view}
use Rattle.smr_clock.specs.Clocked.{CountsMade, Clocked}
use Rattle.smr_clock.specs.HostLaws.{Rule, Includes, SplitLaw, JoinLaw}
use Rattle.smr_clock.proofs.Kept.{law_plain, holders_set, holder_there, plain_set, plain_there, seats_kept, hosts_kept}

-- what a split changes of the seat that is split, and what it gives to the new one
pub record Parts {P : Type 0} (v left right : View P) : Type 0 where
  pub holder : left.holder ≡ v.holder
  pub memory : left.memory ≡ v.memory
  pub setup : left.setup ≡ v.setup
  pub new_setup : right.setup ≡ v.setup

module _ {P : Type 0} (vs : List (View P)) (id : ℕ) (v left right : View P) where
  holders_split : get_elem? vs id ≡ some v → left.holder ≡ v.holder → holders_of (set vs id left ++ right ∷ []) ≡ holders_of vs ++ right.holder ∷ []
  holders_split at e =
      map-append (λ (x : View P). x.holder) (set vs id left) (right ∷ [])
      ∙ ap (λ (l : List Holder). l ++ right.holder ∷ [])
      (holders_set right.setup vs id v left ∙ ap (λ (h : Holder). set (holders_of vs) id h) e
      ∙ set_again (holders_of vs) id v.holder (holder_there right.setup vs id v left at))

  plain_split : get_elem? vs id ≡ some v → plain left ≡ plain v → plain_views (set vs id left ++ right ∷ []) ≡ plain_views vs ++ plain right ∷ []
  plain_split at e =
      map-append (λ (x : View P). plain x) (set vs id left) (right ∷ [])
      ∙ ap (λ (l : List Plain). l ++ plain right ∷ [])
      (plain_set right.setup vs id v left ∙ ap (λ (x : Plain). set (plain_views vs) id x) e
      ∙ set_again (plain_views vs) id (plain v) (plain_there right.setup vs id v left at))

  seats_split : get_elem? vs id ≡ some v → left.holder ≡ v.holder → seats_in (set vs id left ++ right ∷ []) ≡ seats_in vs ++ right.holder.seat ∷ []
  seats_split at e = ap seats_of (holders_split at e) ∙ map-append (λ (h : Holder). h.seat) (holders_of vs) (right.holder ∷ [])

  pub hosts_split : get_elem? vs id ≡ some v → left.host ≡ v.host → hosts_of (set vs id left ++ right ∷ []) ≡ hosts_of vs ++ right.host ∷ []
  hosts_split at e =
      map-append (λ (x : View P). x.host) (set vs id left) (right ∷ [])
      ∙ ap (λ (l : List P). l ++ right.host ∷ []) (hosts_kept right.setup vs id v left at e)

  pub clocked_split : (a : Setup) (ws : List ℕ) → Clocked a ws vs → get_elem? vs id ≡ some v → v.setup ≡ a → Parts v left right
      → Later a.config ws ws (holders_of vs ++ right.holder ∷ []) → RememberedLaw a.config (plain_views vs ++ plain right ∷ [])
      → CountsMade (set vs id left ++ right ∷ []) → Clocked a ws (set vs id left ++ right ∷ [])
  clocked_split a ws c at own p later memory made =
      record {
        law = subst (λ (l : List Holder). ClockLaw a.config ws l) (sym (holders_split at p.holder)) later.law;
        memory = subst (λ (l : List Plain). RememberedLaw a.config l) (sym (plain_split at (λ i. (p.holder i, remembered (p.memory i))))) memory;
        setups = λ j w there alive.
            ⊎_elim
            (λ (old : get_elem? (set vs id left) j ≡ some w). ⊎_elim (λ t. subst (λ (x : View P). x.setup ≡ a) t.1 (p.setup ∙ own)) (λ t. c.setups j w t.1 alive) (at_set vs id j left w old))
            (λ new. subst (λ (x : View P). x.setup ≡ a) new.1 (p.new_setup ∙ own))
            (at_push (set vs id left) right w j there);
        makers = made;
      }

  -- the first view after the split
  first_split : get_elem? vs id ≡ some v → (w : View P) → get_elem? (set vs id left ++ right ∷ []) 0 ≡ some w → get_elem? (set vs id left) 0 ≡ some w
  first_split at w first =
      ⊎_elim (λ t. t)
      (λ t. let within : id < length vs = place_within vs id v at in let same : length (set vs id left) ≡ length vs = length-set vs id left in
      let none : 0 ≡ length (set vs id left) = t.0 in absurd (omega arith))
      (at_push (set vs id left) right w 0 first)

  -- the worker seats after the split
  seat_split : get_elem? vs id ≡ some v → left.holder ≡ v.holder → (j s : ℕ) → get_elem? (seats_in (set vs id left ++ right ∷ [])) j ≡ some (Some s)
      → (get_elem? (seats_in vs) j ≡ some (Some s)) ⊎ (right.holder.seat ≡ Some s)
  seat_split at e j s there =
      ⊎_elim (λ t. inl t) (λ t. inr t.1)
      (at_push (seats_in vs) right.holder.seat (Some s) j (subst (λ (l : List (Option ℕ)). get_elem? l j ≡ some (Some s)) (seats_split at e) there))

-- ---- a note

module _ {P : Type 0} (vs : List (View P)) (id : ℕ) (v left right : View P) where
  -- the new seat has no number
  pub note_counts : CountsMade vs → get_elem? vs id ≡ some v → left.holder ≡ v.holder → left.made ≡ v.made → right.holder.seat ≡ None → CountsMade (set vs id left ++ right ∷ [])
  note_counts c at same same_made none maker count first made j s there =
      ⊎_elim
      (λ before.
      ⊎_elim
      (λ t. c v count (ap (λ (n : ℕ). get_elem? vs n) t.0 ∙ at) (sym same_made ∙ ap (λ (x : View P). x.made) t.1 ∙ made) j s before)
      (λ t. c maker count t.1 made j s before)
      (at_set vs id 0 left maker (first_split vs id v left right at maker first)))
      (λ t. let both : None ≡ Some s = sym none ∙ t in absurd (cc))
      (seat_split vs id v left right at same j s there)

module _ {P : Type 0} (copied : P → P) (vs : List (View P)) (id : ℕ) (v : View P) where
  worker_counts : (k : ℕ) → CountsMade vs → get_elem? vs id ≡ some v → id ≡ 0 → v.made ≡ Some k → CountsMade (set vs id (one_more_made v) ++ worker_view copied v ∷ [])
  worker_counts k c at zeroth made maker count first maker_made j s there =
      let left = one_more_made v in
      let at0 : get_elem? vs 0 ≡ some v = ap (λ (n : ℕ). get_elem? vs n) (sym zeroth) ∙ at in
      let k_is : count_made v.made ≡ k = ap count_made made in
      let is_left : count_made v.made + 1 ≡ count =
      ⊎_elim
      (λ t. let e : Some (count_made v.made + 1) ≡ Some count = ap (λ (x : View P). x.made) t.1 ∙ maker_made in cc)
      (λ t. absurd (t.0 (sym zeroth)))
      (at_set vs id 0 (one_more_made v) maker (first_split vs id v (one_more_made v) (worker_view copied v) at maker first)) in
      ⊎_elim
      (λ t. let below = c v k at0 made j s t in omega arith)
      (λ (t : Some (count_made v.made) ≡ Some s). let e : count_made v.made ≡ s = cc in omega arith)
      (seat_split vs id v (one_more_made v) (worker_view copied v) at refl j s there)

module _ {P : Type 0} (holds : Rule P) (includes : Includes holds) (copied : P → P) (split : SplitLaw holds copied) where
  split_kept : (a : Setup) (ws : List ℕ) (vs : List (View P)) (id : ℕ) (v left right : View P) → holds a ws vs → get_elem? vs id ≡ some v → v.setup ≡ a
      → Parts v left right → left.host ≡ v.host → right.host ≡ copied v.host → Later a.config ws ws (holders_of vs ++ right.holder ∷ []) → RememberedLaw a.config (plain_views vs ++ plain right ∷ [])
      → CountsMade (set vs id left ++ right ∷ []) → holds a ws (set vs id left ++ right ∷ [])
  split_kept a ws vs id v left right held at own p host new_host later memory made =
      split a ws vs ws (set vs id left ++ right ∷ []) id v right.holder.seat held
      (record {
        before = includes a ws vs held;
        after = clocked_split vs id v left right a ws (includes a ws vs held) at own p later memory made;
        write_not_lower = later.write_not_lower;
        read_not_lower = later.read_not_lower;
        as_many = refl;
        host_words = λ j above. refl;
      })
      at (seats_split vs id v left right at p.holder)
      (hosts_split vs id v left right at host ∙ ap (λ (q : P). hosts_of vs ++ q ∷ []) new_host)

  pub note_splits : (a : Setup) (id : ℕ) (v : View P) → v.setup ≡ a → Splits (λ (s : State (Unit {0}) (View P)). holds a s.words s.views) id v v (note_view copied v)
  note_splits a id v own s held at =
      let c = includes a s.words s.views held in
      split_kept a s.words s.views id v v (note_view copied v) held at own
      (record { holder = refl; memory = refl; setup = refl; new_setup = refl }) refl refl
      (note-keeps a.config id v.holder s.words (holders_of s.views) c.law (holder_there a s.views id v v at))
      (note-remembers a.config id (plain v) s.words (plain_views s.views) (law_plain a s.words s.views c.law) c.memory (plain_there a s.views id v v at))
      (note_counts s.views id v v (note_view copied v) c.makers at refl refl refl)

  pub worker_splits : (a : Setup) (id : ℕ) (v : View P) (k : ℕ) → v.setup ≡ a → id ≡ 0 → v.made ≡ Some k → k < a.config.seats
      → Splits (λ (s : State (Unit {0}) (View P)). holds a s.words s.views) id v (one_more_made v) (worker_view copied v)
  worker_splits a id v k own zeroth made below s held at =
      let c = includes a s.words s.views held in
      let k_is : count_made v.made ≡ k = ap count_made made in
      let at0 : get_elem? s.views 0 ≡ some v = ap (λ (n : ℕ). get_elem? s.views n) (sym zeroth) ∙ at in
      let none : HasNoHolder (seats_in s.views) (count_made v.made) =
      λ j there. let less = c.makers v k at0 made j (count_made v.made) there in absurd (omega arith) in
      split_kept a s.words s.views id v (one_more_made v) (worker_view copied v) held at own
      (record { holder = refl; memory = refl; setup = refl; new_setup = refl }) refl refl
      (worker-keeps a.config id (count_made v.made) v.holder s.words (holders_of s.views) c.law (holder_there a s.views id v v at) (omega arith) none)
      (worker-remembers a.config id (count_made v.made) (plain v) s.words (plain_views s.views) (law_plain a s.words s.views c.law) c.memory (plain_there a s.views id v v at))
      (worker_counts copied s.views id v k c.makers at zeroth made)

-- ---- a note that is taken in

module _ {P : Type 0} (merged : P → P → P) (blank : P) (vs : List (View P)) (id at : ℕ) (v note : View P) where
  holders_joined : holders_of (set (set vs id (joined_view merged v note)) at (spent_view blank)) ≡ set (set (holders_of vs) id (clock.joined v.holder note.holder)) at spent
  holders_joined =
      map_set (λ (x : View P). x.holder) (set vs id (joined_view merged v note)) at (spent_view blank)
      ∙ ap (λ (l : List Holder). set l at spent) (map_set (λ (x : View P). x.holder) vs id (joined_view merged v note))

  plain_joined : plain_views (set (set vs id (joined_view merged v note)) at (spent_view blank))
      ≡ set (set (plain_views vs) id (clock.joined v.holder note.holder, remembered v.memory)) at (spent, nothing_remembered)
  plain_joined =
      map_set (λ (x : View P). plain x) (set vs id (joined_view merged v note)) at (spent_view blank)
      ∙ ap (λ (l : List Plain). set l at (spent, nothing_remembered)) (map_set (λ (x : View P). plain x) vs id (joined_view merged v note))

  pub hosts_joined : hosts_of (set (set vs id (joined_view merged v note)) at (spent_view blank)) ≡ set (set (hosts_of vs) id (merged v.host note.host)) at blank
  hosts_joined =
      map_set (λ (x : View P). x.host) (set vs id (joined_view merged v note)) at (spent_view blank)
      ∙ ap (λ (l : List P). set l at blank) (map_set (λ (x : View P). x.host) vs id (joined_view merged v note))

  seats_joined : get_elem? vs id ≡ some v → get_elem? (set vs id (joined_view merged v note)) at ≡ some note → note.holder.seat ≡ None
      → seats_in (set (set vs id (joined_view merged v note)) at (spent_view blank)) ≡ seats_in vs
  seats_joined here there none =
      seats_kept note.setup (set vs id (joined_view merged v note)) at note (spent_view blank) there (sym none)
      ∙ seats_kept v.setup vs id v (joined_view merged v note) here refl

  clocked_joined : (a : Setup) (ws : List ℕ) → Clocked a ws vs → get_elem? vs id ≡ some v → get_elem? (set vs id (joined_view merged v note)) at ≡ some note
      → v.setup ≡ a → note.holder.seat ≡ None
      → Later a.config ws ws (set (set (holders_of vs) id (clock.joined v.holder note.holder)) at spent)
      → RememberedLaw a.config (set (set (plain_views vs) id (clock.joined v.holder note.holder, remembered v.memory)) at (spent, nothing_remembered))
      → Clocked a ws (set (set vs id (joined_view merged v note)) at (spent_view blank))
  clocked_joined a ws c here there own none later memory =
      record {
        law = subst (λ (l : List Holder). ClockLaw a.config ws l) (sym holders_joined) later.law;
        memory = subst (λ (l : List Plain). RememberedLaw a.config l) (sym plain_joined) memory;
        setups = λ j w found alive.
            ⊎_elim
            (λ t. absurd (alive (ap (λ (x : View P). x.holder.phase) (sym t.1))))
            (λ t. ⊎_elim (λ u. subst (λ (x : View P). x.setup ≡ a) u.1 own) (λ u. c.setups j w u.1 alive) (at_set vs id j (joined_view merged v note) w t.1))
            (at_set (set vs id (joined_view merged v note)) at j (spent_view blank) w found);
        makers = λ maker count first made j s found.
            let before : get_elem? (seats_in vs) j ≡ some (Some s) = subst (λ (l : List (Option ℕ)). get_elem? l j ≡ some (Some s)) (seats_joined here there none) found in
            ⊎_elim
            (λ t. let e : None ≡ Some count = ap (λ (x : View P). x.made) t.1 ∙ made in absurd (cc))
            (λ t. ⊎_elim
            (λ u. c.makers v count (ap (λ (n : ℕ). get_elem? vs n) u.0 ∙ here) (ap (λ (x : View P). x.made) u.1 ∙ made) j s before)
            (λ u. c.makers maker count u.1 made j s before)
            (at_set vs id 0 (joined_view merged v note) maker t.1))
            (at_set (set vs id (joined_view merged v note)) at 0 (spent_view blank) maker first);
      }

  pub join_clocked : (a : Setup) (ws : List ℕ) → Clocked a ws vs → get_elem? vs id ≡ some v → get_elem? vs at ≡ some note → (at ≡ id → ⊥)
      → v.setup ≡ a → note.holder.phase ≡ phase.Note → Clocked a ws (set (set vs id (joined_view merged v note)) at (spent_view blank))
  join_clocked a ws c here there apart own is_note =
      let there' : get_elem? (set vs id (joined_view merged v note)) at ≡ some note = set_else vs id at (joined_view merged v note) apart ∙ there in
      let holder_at = holder_there a vs at note note there in
      clocked_joined a ws c here there' own
      (seat_in_phase a.config ws note.holder phase.Note (c.law.holders at note.holder holder_at) is_note)
      (join-keeps a.config id v.holder at note.holder apart is_note ws (holders_of vs) c.law (holder_there a vs id v v here) holder_at)
      (join-remembers a.config id (plain v) at (plain note) apart is_note ws (plain_views vs) (law_plain a ws vs c.law) c.memory
      (plain_there a vs id v v here) (plain_there a vs at note note there))

module _ {P : Type 0} (holds : Rule P) (includes : Includes holds) (may_note : P → Bool) (merged : P → P → P) (blank : P) (join : JoinLaw holds may_note merged blank) where
  pub note_joins : (a : Setup) (id : ℕ) (v : View P) (at : ℕ) (note : View P) → v.setup ≡ a → note.holder.phase ≡ phase.Note → IsTrue (may_note note.host)
      → Joins (λ (s : State (Unit {0}) (View P)). holds a s.words s.views) id v at note (joined_view merged v note) (spent_view blank)
  note_joins a id v at note own is_note may s held here apart there =
      let c = includes a s.words s.views held in
      let there' : get_elem? s.views at ≡ some note = sym (set_else s.views id at (joined_view merged v note) apart) ∙ there in
      let none : note.holder.seat ≡ None = seat_in_phase a.config s.words note.holder phase.Note (c.law.holders at note.holder (holder_there a s.views at note note there')) is_note in
      join a s.words s.views s.words (set (set s.views id (joined_view merged v note)) at (spent_view blank)) id at v note held
      (record {
        before = c;
        after = join_clocked merged blank s.views id at v note a s.words c here there' apart own is_note;
        write_not_lower = omega arith;
        read_not_lower = omega arith;
        as_many = refl;
        host_words = λ j above. refl;
      })
      here there' apart may
      (seats_joined merged blank s.views id at v note here there none)
      (hosts_joined merged blank s.views id at v note)
