-- Each step of a clock's table keeps the clock's law, and lowers no hand.
use Rattle.std.proofs.Math.Nat.{le_refl}
use Rattle.std.proofs.lemmas.List.{set-get_or}
use Rattle.std.proofs.Common.{◌≡◌, ℕ, ◌<◌, ◌≤◌, List, ◌∷◌, ◌++◌, set, slice_index, sym, refl, subst, Some, []}
use mathlib.Core.Option.{some}
use lib.ListN.{get_elem?}
use Rattle.smr_core.specs.ClockState.{place_after_seats, write_hand, read_hand}
use Rattle.smr_core.specs.ClockLaw.{ClockLaw, Later}
use Rattle.smr_core.specs.Remembered.{RememberedLaw}
use Rattle.smr_core.specs.RememberedMoves.{holders_in}
use Rattle.smr_core.proofs.Keeps.Looks.{write_look-keeps, read_look-keeps}
use Rattle.smr_core.proofs.Keeps.EnterLoad.{enter_load-keeps}
use Rattle.smr_core.proofs.Keeps.EnterCheck.{enter_check-keeps}
use Rattle.smr_core.proofs.Keeps.Stores.{enter_store-keeps, clear-keeps}
use Rattle.smr_core.proofs.Keeps.Presences.{leave-keeps, come-keeps}
use Rattle.smr_core.proofs.Keeps.AdvanceLoads.{advance_read-keeps, advance_load-keeps}
use Rattle.smr_core.proofs.Keeps.Swaps.{advance_swap-keeps, poll_swap-keeps}
use Rattle.smr_core.proofs.Keeps.PollLoads.{poll_read-keeps, poll_load-keeps, poll_present-keeps}
use Rattle.smr_core.proofs.Keeps.PollScan.{poll_scan-keeps}
use Rattle.smr_core.proofs.Keeps.OtherWords.{other_word-keeps}
use Rattle.smr_core.proofs.Keeps.Memory.{write_look-remembers, read_look-remembers, enter_load-remembers, enter_store-remembers, enter_check-remembers, clear-remembers, leave-remembers, come-remembers, advance_read-remembers, advance_load-remembers, advance_swap-remembers, poll_read-remembers, poll_load-remembers, poll_present-remembers, poll_scan-remembers, poll_swap-remembers}
use Rattle.smr_clock.specs.declared.clock.Setup.{Setup}
use Rattle.smr_clock.specs.declared.view.View.{View}
use Rattle.smr_clock.specs.Views.{plain, plain_views, holders_of}
use Rattle.smr_clock.specs.Clocked.{Clocked}
use Rattle.smr_clock.specs.Steps.{one_more_made, worker_view}
use Rattle.smr_clock.specs.HostSteps.{IsHand, with_host, looked}
use Rattle.smr_clock.specs.Moments.{Moment, Kind, WriteLook, ReadLook, EnterLoad, EnterStore, EnterCheck, Clear, Leave, Come, AdvanceRead, AdvanceLoad, AdvanceSwap, PollRead, PollLoad, PollPresent, PollScan, PollSwap, Needs, place, leaves, view_after, IsStep, acts, host_acts, hand_loads, splits_off, makes_worker, takes_in, NoLower, StepsLowerNoHand}
use Rattle.smr_clock.proofs.Kept.{SameAside, clocked_after, holder_there, plain_there, law_plain}
use Rattle.smr_clock.proofs.Steps.{aside, advance_seat}
use Rattle.smr_clock.proofs.HostClocked.{step_clocked, look_clocked, split_clocked}
use Rattle.smr_clock.proofs.Splits.{join_clocked, worker_splits}

module _ {P : Type 0} (v : View P) where
  same_aside : (kind : Kind) (found : ℕ) → SameAside v (view_after kind v found)
  same_aside WriteLook found = aside _ _ refl refl refl refl
  same_aside ReadLook found = aside _ _ refl refl refl refl
  same_aside EnterLoad found = aside _ _ refl refl refl refl
  same_aside (EnterStore s) found = aside _ _ refl refl refl refl
  same_aside EnterCheck found = aside _ _ refl refl refl refl
  same_aside (Clear s) found = aside _ _ refl refl refl refl
  same_aside (Leave s) found = aside _ _ refl refl refl refl
  same_aside (Come s) found = aside _ _ refl refl refl refl
  same_aside AdvanceRead found = aside _ _ refl refl refl refl
  same_aside AdvanceLoad found = aside _ _ refl refl refl (advance_seat v.setup.config v.holder found)
  same_aside AdvanceSwap found = aside _ _ refl refl refl refl
  same_aside PollRead found = aside _ _ refl refl refl refl
  same_aside PollLoad found = aside _ _ refl refl refl refl
  same_aside PollPresent found = aside _ _ refl refl refl refl
  same_aside PollScan found = aside _ _ refl refl refl refl
  same_aside PollSwap found = aside _ _ refl refl refl refl

module _ {P : Type 0} (ws : List ℕ) (vs : List (View P)) (id : ℕ) (v : View P) (c : Clocked v.setup ws vs) (at : get_elem? vs id ≡ some v) where
  here : get_elem? (holders_of vs) id ≡ some v.holder
  here = holder_there v.setup vs id v v at

  later : (kind : Kind) → Needs kind v
      → Later v.setup.config ws (set ws (place kind v.setup.config v.holder) (leaves kind v.holder (slice_index ws (place kind v.setup.config v.holder))))
      (set (holders_of vs) id (view_after kind v (slice_index ws (place kind v.setup.config v.holder))).holder)
  later WriteLook needs = write_look-keeps v.setup.config id v.holder ws (holders_of vs) c.law here
  later ReadLook needs = read_look-keeps v.setup.config id v.holder ws (holders_of vs) c.law here
  later EnterLoad needs = enter_load-keeps v.setup.config id v.holder needs ws (holders_of vs) c.law here
  later (EnterStore s) needs = enter_store-keeps v.setup.config id v.holder s needs.0 needs.1 ws (holders_of vs) c.law here
  later EnterCheck needs = enter_check-keeps v.setup.config id v.holder needs ws (holders_of vs) c.law here
  later (Clear s) needs = clear-keeps v.setup.config id v.holder s needs.0 needs.1 ws (holders_of vs) c.law here
  later (Leave s) needs = leave-keeps v.setup.config id v.holder s needs.0 needs.1 needs.2 ws (holders_of vs) c.law here
  later (Come s) needs = come-keeps v.setup.config id v.holder s needs.0 needs.1 ws (holders_of vs) c.law here
  later AdvanceRead needs = advance_read-keeps v.setup.config id v.holder needs.0 needs.1 ws (holders_of vs) c.law here
  later AdvanceLoad needs = advance_load-keeps v.setup.config id v.holder needs ws (holders_of vs) c.law here
  later AdvanceSwap needs = advance_swap-keeps v.setup.config id v.holder needs ws (holders_of vs) c.law here
  later PollRead needs = poll_read-keeps v.setup.config id v.holder needs ws (holders_of vs) c.law here
  later PollLoad needs = poll_load-keeps v.setup.config id v.holder needs ws (holders_of vs) c.law here
  later PollPresent needs = poll_present-keeps v.setup.config id v.holder needs ws (holders_of vs) c.law here
  later PollScan needs = poll_scan-keeps v.setup.config id v.holder needs.0 needs.1 ws (holders_of vs) c.law here
  later PollSwap needs = poll_swap-keeps v.setup.config id v.holder needs.0 needs.1 ws (holders_of vs) c.law here

  law : ClockLaw v.setup.config ws (holders_in (plain_views vs))
  law = law_plain v.setup ws vs c.law

  plainly : get_elem? (plain_views vs) id ≡ some (plain v)
  plainly = plain_there v.setup vs id v v at

  remembers : (kind : Kind) → Needs kind v → RememberedLaw v.setup.config (set (plain_views vs) id (plain (view_after kind v (slice_index ws (place kind v.setup.config v.holder)))))
  remembers WriteLook needs = write_look-remembers v.setup.config id (plain v) ws (plain_views vs) law c.memory plainly
  remembers ReadLook needs = read_look-remembers v.setup.config id (plain v) ws (plain_views vs) law c.memory plainly
  remembers EnterLoad needs = enter_load-remembers v.setup.config id (plain v) ws (plain_views vs) law c.memory plainly
  remembers (EnterStore s) needs = enter_store-remembers v.setup.config id s (plain v) needs.1 ws (plain_views vs) law c.memory plainly
  remembers EnterCheck needs = enter_check-remembers v.setup.config id (plain v) needs ws (plain_views vs) law c.memory plainly
  remembers (Clear s) needs = clear-remembers v.setup.config id s (plain v) ws (plain_views vs) law c.memory plainly
  remembers (Leave s) needs = leave-remembers v.setup.config id (plain v) ws (plain_views vs) law c.memory plainly
  remembers (Come s) needs = come-remembers v.setup.config id (plain v) ws (plain_views vs) law c.memory plainly
  remembers AdvanceRead needs = advance_read-remembers v.setup.config id (plain v) ws (plain_views vs) law c.memory plainly
  remembers AdvanceLoad needs = advance_load-remembers v.setup.config id (plain v) ws (plain_views vs) law c.memory plainly
  remembers AdvanceSwap needs = advance_swap-remembers v.setup.config id (plain v) ws (plain_views vs) law c.memory plainly
  remembers PollRead needs = poll_read-remembers v.setup.config id (plain v) ws (plain_views vs) law c.memory plainly
  remembers PollLoad needs = poll_load-remembers v.setup.config id (plain v) ws (plain_views vs) law c.memory plainly
  remembers PollPresent needs = poll_present-remembers v.setup.config id (plain v) ws (plain_views vs) law c.memory plainly
  remembers PollScan needs = poll_scan-remembers v.setup.config id (plain v) needs.0 needs.1 ws (plain_views vs) law c.memory plainly
  remembers PollSwap needs = poll_swap-remembers v.setup.config id (plain v) needs.0 needs.1 ws (plain_views vs) law c.memory plainly

  own_acts : (kind : Kind) → Needs kind v
      → NoLower v.setup (ws, vs) (set ws (place kind v.setup.config v.holder) (leaves kind v.holder (slice_index ws (place kind v.setup.config v.holder))), set vs id (view_after kind v (slice_index ws (place kind v.setup.config v.holder))))
  own_acts kind needs =
      let found : ℕ = slice_index ws (place kind v.setup.config v.holder) in
      let same = same_aside v kind found in
      let l = later kind needs in
      record {
        law = clocked_after v.setup vs id v (view_after kind v found) ws (set ws (place kind v.setup.config v.holder) (leaves kind v.holder found)) c at refl same.setup same.made same.seat l.law (remembers kind needs);
        write_not_lower = l.write_not_lower;
        read_not_lower = l.read_not_lower;
      }

  -- a word that is read and left changes no list
  list_kept : (word : ℕ) → ws ≡ set ws word (slice_index ws word)
  list_kept word = sym (set-get_or ws word 0)

  own_hand_loads : (word : ℕ) (part : P) → IsHand word
      → NoLower v.setup (ws, vs) (set ws word (slice_index ws word), set vs id (with_host (looked v word (slice_index ws word)) part))
  own_hand_loads word part hand =
      record {
        law = look_clocked ws vs id v v.setup c at refl word part hand;
        write_not_lower = subst (λ (l : List ℕ). write_hand ws ≤ write_hand l) (list_kept word) (le_refl (write_hand ws));
        read_not_lower = subst (λ (l : List ℕ). read_hand ws ≤ read_hand l) (list_kept word) (le_refl (read_hand ws));
      }

  own_host_acts : (word left : ℕ) (part : P) → place_after_seats v.setup.config ≤ word → NoLower v.setup (ws, vs) (set ws word left, set vs id (with_host v part))
  own_host_acts word left part above =
      let l = other_word-keeps v.setup.config word left ws (holders_of vs) above c.law in
      record {
        law = step_clocked ws vs id v v.setup c at refl word left part above;
        write_not_lower = l.write_not_lower;
        read_not_lower = l.read_not_lower;
      }

-- where no word changes
same_words : {P : Type 0} (a : Setup) (ws : List ℕ) (vs vs' : List (View P)) → Clocked a ws vs' → NoLower a (ws, vs) (ws, vs')
same_words a ws vs vs' law = record { law = law; write_not_lower = le_refl (write_hand ws); read_not_lower = le_refl (read_hand ws) }

makes_clocked : {P : Type 0} (copied : P → P) (a : Setup) (ws : List ℕ) (vs : List (View P)) (v : View P) (count : ℕ) → Clocked a ws vs → get_elem? vs 0 ≡ some v
    → v.setup ≡ a → v.made ≡ Some count → count < a.config.seats → Clocked a ws (set vs 0 (one_more_made v) ++ worker_view copied v ∷ [])
makes_clocked {P} copied a ws vs v count c at own made below =
    worker_splits {P = P} Clocked (λ b words views law. law) copied (λ b words views words' views' id w seat law moved there seats hosts. moved.after) a 0 v count own refl made below
    (record { words = ws; homes = []; views = vs }) c at

module _ {P : Type 0} (a : Setup) (now next : Moment P) (c : Clocked a now.0 now.1) where
  -- what is so of a seat with the setup of its view is so of it with that of the clock
  at_setup : (v : View P) (next : Moment P) → v.setup ≡ a → (Clocked v.setup now.0 now.1 → NoLower v.setup now next) → NoLower a now next
  at_setup v next own f = subst (λ (b : Setup). Clocked b now.0 now.1 → NoLower b now next) own f c

  by_step : IsStep a now next → NoLower a now next
  by_step (acts t) =
      subst (λ (m : Moment P). NoLower a now m) (sym t.after)
      (at_setup t.v _ t.own (λ d. own_acts now.0 now.1 t.id t.v d t.there t.kind t.needs))
  by_step (host_acts t) =
      subst (λ (m : Moment P). NoLower a now m) (sym t.after)
      (at_setup t.v _ t.own
      (λ d. own_host_acts now.0 now.1 t.id t.v d t.there t.word t.left t.part (subst (λ (b : Setup). place_after_seats b.config ≤ t.word) (sym t.own) t.of_host)))
  by_step (hand_loads t) =
      subst (λ (m : Moment P). NoLower a now m) (sym t.after)
      (at_setup t.v _ t.own (λ d. own_hand_loads now.0 now.1 t.id t.v d t.there t.word t.part t.of_hand))
  by_step (splits_off t) =
      subst (λ (m : Moment P). NoLower a now m) (sym t.after)
      (same_words a now.0 now.1 _ (split_clocked now.0 now.1 t.id t.v a c t.there t.own t.part t.copied))
  by_step (makes_worker t) =
      subst (λ (m : Moment P). NoLower a now m) (sym t.after)
      (same_words a now.0 now.1 _ (makes_clocked t.copied a now.0 now.1 t.v t.count c t.there t.own t.made t.below))
  by_step (takes_in t) =
      subst (λ (m : Moment P). NoLower a now m) (sym t.after)
      (same_words a now.0 now.1 _ (join_clocked t.merged t.blank now.1 t.id t.at t.v t.note a now.0 c t.there t.note_there t.apart t.own t.is_note))

pub steps-lower-no-hand : {P : Type 0} (a : Setup) → StepsLowerNoHand P a
steps-lower-no-hand a now next c s = by_step a now next c s
