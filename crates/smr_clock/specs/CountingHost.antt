-- A host of the tests: it has one word of its own, behind the seats' words. At most one seat keeps the word, which is to know what stands there; only that seat stores there.
use Rattle.std.specs.Prelude.{◌≡◌, ℕ, ◌<◌, List, length, slice_index, slice_set as set, Bool, true, false, Option, Some, None}
use Rattle.std.proofs.Common.{sym, subst, ◌∙◌, ⊎_elim}
use Rattle.std.proofs.Math.Nat.{le_refl}
use mathlib.Core.Option.{some}
use lib.ListN.{get_elem?}
use Rattle.smr_core.specs.ClockState.{place_after_seats}
use Rattle.smr_core.proofs.PlaceLemmas.{at_push, at_set, at_map, set_again}
use Rattle.smr_clock.specs.declared.clock.Setup.{Setup}
use Rattle.smr_clock.specs.declared.view.View.{View}
use Rattle.smr_clock.specs.Views.{hosts_of}
use Rattle.smr_clock.specs.Clocked.{Clocked}
use Rattle.smr_clock.specs.HostLaws.{Includes, FrameLaw, SplitLaw, JoinLaw}
use Rattle.smr_clock.specs.HostSteps.{Change, word_after}

abbrev pub count_place : Setup → ℕ
count_place a = place_after_seats a.config

-- the seat keeps the word, in which this stands
abbrev pub KeepsCount : List (View (Option ℕ)) → ℕ → ℕ → Type 0
KeepsCount vs id n = get_elem? (hosts_of vs) id ≡ some (Some n)

pub record Counted (a : Setup) (ws : List ℕ) (vs : List (View (Option ℕ))) : Type 0 where
  pub clock : Clocked a ws vs
  pub there : count_place a < length ws
  pub known : (id n : ℕ) → KeepsCount vs id n → slice_index ws (count_place a) ≡ n
  pub one : (id at n m : ℕ) → KeepsCount vs id n → KeepsCount vs at m → id ≡ at

-- a note keeps no word
abbrev pub keeps_none : Option ℕ → Bool
keeps_none None = true
keeps_none (Some n) = false

-- ---- the laws of a host

none_is_some : (n : ℕ) → None ≡ Some n → ⊥
none_is_some n e = subst IsNone e tt
  where
    IsNone : Option ℕ → Type 0
    IsNone None = Unit {0}
    IsNone (Some m) = ⊥

pub counted_includes : Includes Counted
counted_includes a ws vs held = held.clock

pub counted_frame : FrameLaw Counted
counted_frame a ws vs ws' vs' held moved seats hosts =
    record {
      clock = moved.after;
      there = subst (λ (n : ℕ). count_place a < n) (sym moved.as_many) held.there;
      known = λ id n keeps. moved.host_words (count_place a) (le_refl (count_place a)) ∙ held.known id n (before id n keeps);
      one = λ id at n m p q. held.one id at n m (before id n p) (before at m q);
    }
  where
    before : (id n : ℕ) → KeepsCount vs' id n → KeepsCount vs id n
    before id n keeps = subst (λ (l : List (Option ℕ)). get_elem? l id ≡ some (Some n)) hosts keeps

pub counted_split : SplitLaw Counted (λ part. None)
counted_split a ws vs ws' vs' id v seat held moved there seats hosts =
    record {
      clock = moved.after;
      there = subst (λ (n : ℕ). count_place a < n) (sym moved.as_many) held.there;
      known = λ at n keeps. moved.host_words (count_place a) (le_refl (count_place a)) ∙ held.known at n (before at n keeps);
      one = λ at else n m p q. held.one at else n m (before at n p) (before else m q);
    }
  where
    before : (at n : ℕ) → KeepsCount vs' at n → KeepsCount vs at n
    before at n keeps =
        ⊎_elim (λ t. t) (λ t. absurd (none_is_some n t.1))
        (at_push (hosts_of vs) None (Some n) at (subst (λ (l : List (Option ℕ)). get_elem? l at ≡ some (Some n)) hosts keeps))

pub counted_join : JoinLaw Counted keeps_none (λ part note. part) None
counted_join a ws vs ws' vs' id note_id v note held moved there note_there apart may seats hosts =
    record {
      clock = moved.after;
      there = subst (λ (n : ℕ). count_place a < n) (sym moved.as_many) held.there;
      known = λ at n keeps. moved.host_words (count_place a) (le_refl (count_place a)) ∙ held.known at n (before at n keeps);
      one = λ at else n m p q. held.one at else n m (before at n p) (before else m q);
    }
  where
    same : set (hosts_of vs) id v.host ≡ hosts_of vs
    same = set_again (hosts_of vs) id v.host (at_map (λ (x : View (Option ℕ)). x.host) vs id v there)

    before : (at n : ℕ) → KeepsCount vs' at n → KeepsCount vs at n
    before at n keeps =
        ⊎_elim
        (λ t. absurd (none_is_some n t.1))
        (λ t. subst (λ (l : List (Option ℕ)). get_elem? l at ≡ some (Some n)) same t.1)
        (at_set (set (hosts_of vs) id v.host) note_id at None (Some n) (subst (λ (l : List (Option ℕ)). get_elem? l at ≡ some (Some n)) hosts keeps))

-- ---- what its steps change

-- The seat that keeps the word steps on it: it finds what it knew, and knows what it leaves.
abbrev pub counts : Change (Option ℕ)
counts v word act found part = (v.host ≡ Some found) × (part ≡ Some (word_after act found))

-- a step that leaves the host part
abbrev pub reads : Change (Option ℕ)
reads v word act found part = part ≡ v.host

-- a seat that takes in another keeps the word if either did
abbrev pub either_count : Option ℕ → Option ℕ → Option ℕ
either_count None other = other
either_count (Some n) other = Some n
