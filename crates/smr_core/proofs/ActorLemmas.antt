-- What a step of the core does to the actor of one number: it stays, or it takes the step, or it is taken in.
use Rattle.std.proofs.Common.{◌≡◌, ℕ, List, set, sym, refl, ap, ◌∙◌, subst, ⊎_elim, slice_index}
use Rattle.std.proofs.lemmas.Bool.{cases_eq}
use mathlib.Core.Option.{some}
use lib.ListN.{get_elem?}
use Rattle.smr_seq.specs.Reading.{reading}
use Rattle.smr_core.specs.declared.steps.Actor.{Actor}
use Rattle.smr_core.specs.declared.holder.Holder.{Holder}
use Rattle.smr_core.specs.declared.holder.Phase.TheVariants as phase
use Rattle.smr_core.specs.declared.turns.Step.{Step}
use Rattle.smr_core.specs.declared.turns.Step.TheVariants.{EnterLoad, EnterStore, EnterCheck, Clear, Leave, Come, AdvanceRead, AdvanceLoad, AdvanceSwap, PollRead, PollLoad, PollPresent, PollScan, PollSwap, Note, Absorb}
use Rattle.smr_core.specs.declared.turns.Seen.{Seen}
use Rattle.smr_core.specs.ClockState.{write_hand, read_hand, seat_word, presence_word, spent}
use Rattle.smr_core.specs.ClockStep as clock
use Rattle.smr_core.specs.CoreState.{State, IsActor}
use Rattle.smr_core.specs.CoreStep.{IsStep, Moves, MakesNote, TakesIn, Needs, taker, poll_goes_on}
use Rattle.smr_core.proofs.PlaceLemmas.{set_here, set_else, same_place, at_longer}

-- the actor that takes the step, after it
abbrev pub Becomes : State → Step → Actor → Actor → Type 0
Becomes s (EnterLoad n) x y = record x { holder = clock.enter_loaded s.config x.holder (write_hand s.words) } ≡ y
Becomes s (EnterStore n) x y = record x { holder = clock.enter_stored x.holder } ≡ y
Becomes s (EnterCheck n) x y = record x { holder = clock.enter_checked s.config x.holder (write_hand s.words) } ≡ y
Becomes s (Clear n) x y = record x { holder = clock.cleared x.holder } ≡ y
Becomes s (Leave n) x y = record x { holder = clock.left x.holder } ≡ y
Becomes s (Come n) x y = record x { holder = clock.came x.holder } ≡ y
Becomes s (AdvanceRead n) x y = record x { holder = clock.advance_read x.holder (read_hand s.words) } ≡ y
Becomes s (AdvanceLoad n) x y = record x { holder = clock.advance_loaded s.config x.holder (write_hand s.words) } ≡ y
Becomes s (AdvanceSwap n) x y = record x { holder = clock.advance_swapped x.holder (write_hand s.words) } ≡ y
Becomes s (PollRead n tag) x y = record x { holder = clock.poll_read x.holder (read_hand s.words); tag = tag } ≡ y
Becomes s (PollLoad n) x y = poll_goes_on s.config x (write_hand s.words) (reading x.tag (write_hand s.words)) ≡ y
Becomes s (PollPresent n) x y = record x { holder = clock.poll_present s.config x.holder (presence_word s.config s.words) } ≡ y
Becomes s (PollScan n) x y = record x { holder = clock.poll_scanned s.config x.holder (seat_word s.words x.holder.scanned) } ≡ y
Becomes s (PollSwap n) x y = record x { holder = clock.poll_swapped x.holder (read_hand s.words) } ≡ y
Becomes s (Note n) x y = record x { holder = clock.write_loaded s.config x.holder (write_hand s.words) } ≡ y
Becomes s (Absorb n note) x y = (other : Actor) × (record x { holder = clock.joined x.holder other.holder } ≡ y)

pub data Change (s : State) (step : Step) (n : ℕ) (x y : Actor) : Type 0 where
  stays : x ≡ y → Change s step n x y
  acts : taker step ≡ n → Needs s.config step x.holder → Becomes s step x y → Change s step n x y
  taken : x.holder.phase ≡ phase.Note → record x { holder = spent } ≡ y → Change s step n x y

abbrev pub After : State → Step → State → ℕ → Actor → Type 0
After s step s' n x = (y : Actor) × IsActor s' n y × Change s step n x y

-- ---- a step that changes one actor

moves_actor : (s : State) (step : Step) (i : Holder → ℕ) (f : Holder → ℕ → ℕ) (g : Actor → ℕ → Actor) (sees : Actor → ℕ → Seen) (saw : Seen) (s' : State) (n : ℕ) (x : Actor)
    → Moves s step i f g sees saw s' → IsActor s n x → ((y : Actor) → g x (slice_index s.words (i x.holder)) ≡ y → Becomes s step x y) → After s step s' n x
moves_actor s step i f g sees saw s' n x m at own =
    ⊎_elim
    (λ e.
    let me : m.actor ≡ x = same_place s.actors n m.actor x (subst (λ (k : ℕ). IsActor s k m.actor) e m.there) at in
    let there : IsActor s' n (g m.actor (slice_index s.words (i m.actor.holder))) =
    subst (λ (t : State). IsActor t n (g m.actor (slice_index s.words (i m.actor.holder)))) (sym m.after)
    (subst (λ (k : ℕ). get_elem? (set s.actors k (g m.actor (slice_index s.words (i m.actor.holder)))) n ≡ some (g m.actor (slice_index s.words (i m.actor.holder)))) (sym e)
    (set_here s.actors n (g m.actor (slice_index s.words (i m.actor.holder))) x at)) in (
      g m.actor (slice_index s.words (i m.actor.holder)),
      there,
      acts e (subst (λ (z : Actor). Needs s.config step z.holder) me m.needs)
          (own (g m.actor (slice_index s.words (i m.actor.holder))) (ap (λ (z : Actor). g z (slice_index s.words (i z.holder))) (sym me))),
    ))
    (λ apart. (
      x,
      subst (λ (t : State). IsActor t n x) (sym m.after)
          (set_else s.actors (taker step) n (g m.actor (slice_index s.words (i m.actor.holder))) (λ e. apart (sym e)) ∙ at),
      stays refl,
    ))
    (cases_eq (taker step) n)

note_actor : (s : State) (k : ℕ) (saw : Seen) (s' : State) (n : ℕ) (x : Actor) → MakesNote s (Note k) saw s' → IsActor s n x → After s (Note k) s' n x
note_actor s k saw s' n x m at =
    let worker : Actor = record m.actor { holder = clock.write_loaded s.config m.actor.holder (write_hand s.words) } in
    ⊎_elim
    (λ e.
    let me : m.actor ≡ x = same_place s.actors n m.actor x (subst (λ (j : ℕ). IsActor s j m.actor) e m.there) at in
    let here : get_elem? (set s.actors k worker) n ≡ some worker =
    subst (λ (j : ℕ). get_elem? (set s.actors j worker) n ≡ some worker) (sym e) (set_here s.actors n worker x at) in
    let there : IsActor s' n worker = subst (λ (t : State). IsActor t n worker) (sym m.after) (at_longer (set s.actors k worker) _ n worker here) in (
      worker,
      there,
      acts e (subst (λ (z : Actor). Needs s.config (Note k) z.holder) me m.needs)
          (ap (λ (z : Actor). record z { holder = clock.write_loaded s.config z.holder (write_hand s.words) }) (sym me)),
    ))
    (λ apart. (
      x,
      subst (λ (t : State). IsActor t n x) (sym m.after)
          (at_longer (set s.actors k worker) _ n x (set_else s.actors k n worker (λ e. apart (sym e)) ∙ at)),
      stays refl,
    ))
    (cases_eq k n)

-- a place that is written still has an element
still : (l : List Actor) (k n : ℕ) (y x : Actor) → get_elem? l n ≡ some x → (z : Actor) × (get_elem? (set l k y) n ≡ some z)
still l k n y x at =
    ⊎_elim
    (λ e. (y, subst (λ (j : ℕ). get_elem? (set l j y) n ≡ some y) (sym e) (set_here l n y x at)))
    (λ apart. (x, set_else l k n y (λ e. apart (sym e)) ∙ at))
    (cases_eq k n)

absorb_actor : (s : State) (k other : ℕ) (saw : Seen) (s' : State) (n : ℕ) (x : Actor) → TakesIn s (Absorb k other) other saw s' → IsActor s n x → After s (Absorb k other) s' n x
absorb_actor s k other saw s' n x m at =
    let both : Actor = record m.actor { holder = clock.joined m.actor.holder m.note.holder } in
    let gone : Actor = record m.note { holder = spent } in
    let first : List Actor = set s.actors k both in
    ⊎_elim
    (λ e.
    let me : m.note ≡ x = same_place s.actors n m.note x (subst (λ (j : ℕ). IsActor s j m.note) e m.note_there) at in
    let kept : (z : Actor) × (get_elem? (set s.actors k both) n ≡ some z) = still s.actors k n both x at in
    let here : get_elem? (set (set s.actors k both) other gone) n ≡ some gone =
    subst (λ (j : ℕ). get_elem? (set (set s.actors k both) j gone) n ≡ some gone) (sym e) (set_here (set s.actors k both) n gone kept.0 kept.1) in (
      gone,
      subst (λ (t : State). IsActor t n gone) (sym m.after) here,
      taken (subst (λ (z : Actor). z.holder.phase ≡ phase.Note) me m.note_needs.0) (ap (λ (z : Actor). record z { holder = spent }) (sym me)),
    ))
    (λ apart.
    let past : get_elem? (set (set s.actors k both) other gone) n ≡ get_elem? (set s.actors k both) n = set_else (set s.actors k both) other n gone (λ e. apart (sym e)) in
    ⊎_elim
    (λ e.
    let me : m.actor ≡ x = same_place s.actors n m.actor x (subst (λ (j : ℕ). IsActor s j m.actor) e m.there) at in
    let here : get_elem? (set s.actors k both) n ≡ some both = subst (λ (j : ℕ). get_elem? (set s.actors j both) n ≡ some both) (sym e) (set_here s.actors n both x at) in (
      both,
      subst (λ (t : State). IsActor t n both) (sym m.after) (past ∙ here),
      acts e (subst (λ (z : Actor). Needs s.config (Absorb k other) z.holder) me m.needs)
          (m.note, ap (λ (z : Actor). record z { holder = clock.joined z.holder m.note.holder }) (sym me)),
    ))
    (λ aside.
    (x, subst (λ (t : State). IsActor t n x) (sym m.after) (past ∙ (set_else s.actors k n both (λ e. aside (sym e)) ∙ at)), stays refl))
    (cases_eq k n))
    (cases_eq other n)

-- Each step leaves an actor of this number.
pub actor_after : (s : State) (step : Step) (saw : Seen) (s' : State) (n : ℕ) (x : Actor) → IsStep s step saw s' → IsActor s n x → After s step s' n x
actor_after s (EnterLoad k) saw s' n x m at = moves_actor s (EnterLoad k) _ _ _ _ saw s' n x m at (λ y e. e)
actor_after s (EnterStore k) saw s' n x m at = moves_actor s (EnterStore k) _ _ _ _ saw s' n x m at (λ y e. e)
actor_after s (EnterCheck k) saw s' n x m at = moves_actor s (EnterCheck k) _ _ _ _ saw s' n x m at (λ y e. e)
actor_after s (Clear k) saw s' n x m at = moves_actor s (Clear k) _ _ _ _ saw s' n x m at (λ y e. e)
actor_after s (Leave k) saw s' n x m at = moves_actor s (Leave k) _ _ _ _ saw s' n x m at (λ y e. e)
actor_after s (Come k) saw s' n x m at = moves_actor s (Come k) _ _ _ _ saw s' n x m at (λ y e. e)
actor_after s (AdvanceRead k) saw s' n x m at = moves_actor s (AdvanceRead k) _ _ _ _ saw s' n x m at (λ y e. e)
actor_after s (AdvanceLoad k) saw s' n x m at = moves_actor s (AdvanceLoad k) _ _ _ _ saw s' n x m at (λ y e. e)
actor_after s (AdvanceSwap k) saw s' n x m at = moves_actor s (AdvanceSwap k) _ _ _ _ saw s' n x m at (λ y e. e)
actor_after s (PollRead k tag) saw s' n x m at = moves_actor s (PollRead k tag) _ _ _ _ saw s' n x m at (λ y e. e)
actor_after s (PollLoad k) saw s' n x m at = moves_actor s (PollLoad k) _ _ _ _ saw s' n x m at (λ y e. e)
actor_after s (PollPresent k) saw s' n x m at = moves_actor s (PollPresent k) _ _ _ _ saw s' n x m at (λ y e. e)
actor_after s (PollScan k) saw s' n x m at = moves_actor s (PollScan k) _ _ _ _ saw s' n x m at (λ y e. e)
actor_after s (PollSwap k) saw s' n x m at = moves_actor s (PollSwap k) _ _ _ _ saw s' n x m at (λ y e. e)
actor_after s (Note k) saw s' n x m at = note_actor s k saw s' n x m at
actor_after s (Absorb k other) saw s' n x m at = absorb_actor s k other saw s' n x m at
