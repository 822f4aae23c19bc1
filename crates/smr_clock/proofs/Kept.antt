-- A step of the clock keeps the rule of any host, where the core's lemmas say that it keeps the clock's law and that of what is remembered.
use Rattle.std.proofs.Common.{◌≡◌, ℕ, ◌<◌, List, [], ◌∷◌, set, sym, refl, ap, ◌∙◌, subst, ⊎_elim, arith, Option, Some, slice_index, length-set, get_or-set_other}
use mathlib.Core.Option.{some}
use lib.ListN.{get_elem?}
use Rattle.atomic_table.specs.Table.{State, Me, Allows, keeps}
use Rattle.smr_core.specs.declared.holder.Holder.{Holder}
use Rattle.smr_core.specs.ClockState.{place_after_seats, seats_of}
use Rattle.smr_core.specs.ClockLaw.{ClockLaw, Later, Keeps}
use Rattle.smr_core.specs.Remembered.{RememberedLaw}
use Rattle.smr_core.specs.Remembered.{View as Plain}
use Rattle.smr_core.specs.RememberedMoves.{holders_in, KeepsMemory}
use Rattle.smr_core.proofs.PlaceLemmas.{at_set, set_again, at_map, map_set}
use Rattle.smr_clock.specs.declared.clock.Setup.{Setup}
use Rattle.smr_clock.specs.declared.view.View.{View}
use Rattle.smr_clock.specs.Views.{plain, plain_views, holders_of, seats_in, hosts_of}
use Rattle.smr_clock.specs.Clocked.{Clocked}
use Rattle.smr_clock.specs.HostLaws.{Rule, Includes, FrameLaw}

-- A step of the clock changes of a view the holder, but its seat, and what it remembers.
pub record SameAside {P : Type 0} (v v' : View P) : Type 0 where
  pub setup : v'.setup ≡ v.setup
  pub made : v'.made ≡ v.made
  pub host : v'.host ≡ v.host
  pub seat : v'.holder.seat ≡ v.holder.seat

-- the holders of the plain views are the views' holders
pub holders_plain : {P : Type 0} (vs : List (View P)) → holders_in (plain_views vs) ≡ holders_of vs
holders_plain [] = refl
holders_plain (v ∷ vs) = ap (λ (l : List Holder). v.holder ∷ l) (holders_plain vs)

-- so the clock's law is that of the plain views
pub law_plain : {P : Type 0} (a : Setup) (ws : List ℕ) (vs : List (View P)) → ClockLaw a.config ws (holders_of vs) → ClockLaw a.config ws (holders_in (plain_views vs))
law_plain a ws vs law = subst (λ (l : List Holder). ClockLaw a.config ws l) (sym (holders_plain vs)) law

module _ {P : Type 0} (a : Setup) (vs : List (View P)) (id : ℕ) (v v' : View P) where
  pub holders_set : holders_of (set vs id v') ≡ set (holders_of vs) id v'.holder
  holders_set = map_set (λ (x : View P). x.holder) vs id v'

  pub plain_set : plain_views (set vs id v') ≡ set (plain_views vs) id (plain v')
  plain_set = map_set (λ (x : View P). plain x) vs id v'

  pub holder_there : get_elem? vs id ≡ some v → get_elem? (holders_of vs) id ≡ some v.holder
  holder_there at = at_map (λ (x : View P). x.holder) vs id v at

  pub plain_there : get_elem? vs id ≡ some v → get_elem? (plain_views vs) id ≡ some (plain v)
  plain_there at = at_map (λ (x : View P). plain x) vs id v at

  pub seats_kept : get_elem? vs id ≡ some v → v'.holder.seat ≡ v.holder.seat → seats_in (set vs id v') ≡ seats_in vs
  seats_kept at e =
      ap seats_of holders_set ∙ map_set (λ (h : Holder). h.seat) (holders_of vs) id v'.holder ∙ ap (λ (o : Option ℕ). set (seats_in vs) id o) e
      ∙ set_again (seats_in vs) id v.holder.seat (at_map (λ (h : Holder). h.seat) (holders_of vs) id v.holder (holder_there at))

  pub hosts_kept : get_elem? vs id ≡ some v → v'.host ≡ v.host → hosts_of (set vs id v') ≡ hosts_of vs
  hosts_kept at e =
      map_set (λ (x : View P). x.host) vs id v' ∙ ap (λ (p : P). set (hosts_of vs) id p) e
      ∙ set_again (hosts_of vs) id v.host (at_map (λ (x : View P). x.host) vs id v at)

  -- the clock's law after a step that changes one view, whatever becomes of the host's part
  pub clocked_after : (ws ws' : List ℕ) → Clocked a ws vs → get_elem? vs id ≡ some v → v.setup ≡ a → v'.setup ≡ v.setup → v'.made ≡ v.made → v'.holder.seat ≡ v.holder.seat
      → ClockLaw a.config ws' (set (holders_of vs) id v'.holder) → RememberedLaw a.config (set (plain_views vs) id (plain v')) → Clocked a ws' (set vs id v')
  clocked_after ws ws' c at own setup same_made seat law memory =
      record {
        law = subst (λ (l : List Holder). ClockLaw a.config ws' l) (sym holders_set) law;
        memory = subst (λ (l : List Plain). RememberedLaw a.config l) (sym plain_set) memory;
        setups = λ j w there alive.
            ⊎_elim (λ t. subst (λ (x : View P). x.setup ≡ a) t.1 (setup ∙ own)) (λ t. c.setups j w t.1 alive) (at_set vs id j v' w there);
        makers = λ maker count first made j s there.
            let before : get_elem? (seats_in vs) j ≡ some (Some s) = subst (λ (l : List (Option ℕ)). get_elem? l j ≡ some (Some s)) (seats_kept at seat) there in
            ⊎_elim
            (λ t. c.makers v count (ap (λ (n : ℕ). get_elem? vs n) t.0 ∙ at) (sym same_made ∙ ap (λ (x : View P). x.made) t.1 ∙ made) j s before)
            (λ t. c.makers maker count t.1 made j s before)
            (at_set vs id 0 v' maker first);
      }

module _ {P : Type 0} (holds : Rule P) (includes : Includes holds) (frame : FrameLaw holds) where
  kept : (a : Setup) (ws : List ℕ) (vs : List (View P)) (id : ℕ) (v v' : View P) (i n : ℕ)
      → holds a ws vs → get_elem? vs id ≡ some v → v.setup ≡ a → SameAside v v' → i < place_after_seats a.config
      → Later a.config ws (set ws i n) (set (holders_of vs) id v'.holder) → RememberedLaw a.config (set (plain_views vs) id (plain v'))
      → holds a (set ws i n) (set vs id v')
  kept a ws vs id v v' i n held at own same below later memory =
      frame a ws vs (set ws i n) (set vs id v') held
      (record {
        before = includes a ws vs held;
        after = clocked_after a vs id v v' ws (set ws i n) (includes a ws vs held) at own same.setup same.made same.seat later.law memory;
        write_not_lower = later.write_not_lower;
        read_not_lower = later.read_not_lower;
        as_many = length-set ws i n;
        host_words = λ j above. get_or-set_other ws i j n 0 (λ e. omega arith);
      })
      (seats_kept a vs id v v' at same.seat)
      (hosts_kept a vs id v v' at same.host)

  mine : (slots id : ℕ) (me : Me (Unit {0}) (View P)) (i : ℕ) (f : ℕ → ℕ) (next : ℕ → View P) (then : ℕ → Me (Unit {0}) (View P) → Type 0)
      → i < place_after_seats me.0.setup.config → ((found : ℕ) → SameAside me.0 (next found))
      → Keeps me.0.setup.config id me.0.holder i f (λ found. (next found).holder)
      → KeepsMemory me.0.setup.config id (plain me.0) i (λ found. plain (next found))
      → ((ws : List ℕ) (hs : List Holder) → ClockLaw me.0.setup.config ws hs → get_elem? hs id ≡ some me.0.holder → then (slice_index ws i) (next (slice_index ws i), me.1))
      → Allows (λ (s : State (Unit {0}) (View P)). holds me.0.setup s.words s.views) slots id me i f then
  mine slots id me i f next then below same lawful remembers tells s held counted at small =
      let c : Clocked me.0.setup s.words s.views = includes me.0.setup s.words s.views held in
      let there = holder_there me.0.setup s.views id me.0 me.0 at in
      let remembered = plain_there me.0.setup s.views id me.0 me.0 at in (
        next (slice_index s.words i),
        keeps,
        tt,
        kept me.0.setup s.words s.views id me.0 (next (slice_index s.words i)) i (f (slice_index s.words i)) held at refl (same (slice_index s.words i)) below
            (lawful s.words (holders_of s.views) c.law there)
            (remembers s.words (plain_views s.views) (law_plain me.0.setup s.words s.views c.law) c.memory remembered),
        tells s.words (holders_of s.views) c.law there,
      )

  -- Whatever the table is, the seat may take the step.
  pub allowed : (a : Setup) (slots id : ℕ) (me : Me (Unit {0}) (View P)) (i : ℕ) (f : ℕ → ℕ) (next : ℕ → View P) (then : ℕ → Me (Unit {0}) (View P) → Type 0)
      → me.0.setup ≡ a → i < place_after_seats me.0.setup.config → ((found : ℕ) → SameAside me.0 (next found))
      → Keeps me.0.setup.config id me.0.holder i f (λ found. (next found).holder)
      → KeepsMemory me.0.setup.config id (plain me.0) i (λ found. plain (next found))
      → ((ws : List ℕ) (hs : List Holder) → ClockLaw me.0.setup.config ws hs → get_elem? hs id ≡ some me.0.holder → then (slice_index ws i) (next (slice_index ws i), me.1))
      → Allows (λ (s : State (Unit {0}) (View P)). holds a s.words s.views) slots id me i f then
  allowed a slots id me i f next then own below same lawful remembers tells =
      subst (λ (b : Setup). Allows (λ (s : State (Unit {0}) (View P)). holds b s.words s.views) slots id me i f then) own
      (mine slots id me i f next then below same lawful remembers tells)
