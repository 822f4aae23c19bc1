-- What the calls on the root come to.
use Rattle.std.proofs.Common.{◌≡◌, ℕ, zero, suc, ◌<◌, true, List, [], ◌∷◌, length, set, get_or, sym, ap, ◌∙◌, ⊎_elim, arith, Option, Some, None, get_or-set_same, get_or-set_other}
use Rattle.std.specs.Prelude.{option_to_list, slice_index_or}
use Rattle.smr_clock.specs.declared.clock.Setup.{Setup}
use Rattle.smr_clock.specs.declared.view.View.{View}
use Rattle.smr_clock.specs.declared.host.HostAct.{HostAct}
use Rattle.smr_clock.specs.HostSteps.{SeatStepped, HostSplits}
use Rattle.name_rows.specs.declared.entry.Owned.{Owned}
use Rattle.name_rows.specs.declared.names.Part.{Part}
use Rattle.name_rows.specs.Records.{key_place}
use Rattle.name_rows.specs.Ripening.{is_loose}
use Rattle.name_rows.specs.Moving.{found, entry_no, rest_of_entries, next_entry}
use Rattle.name_rows.specs.RootStates.{names_next, is_loose_at}
use Rattle.name_rows.proofs.Seats.{decide}
use Rattle.name_rows.proofs.RootLemmas.{found_is, taken_out_by_number}

-- the root has named the entry
pub next_named : (a : Setup) (v v' : View Part) (n word seen : ℕ) (act : HostAct) → v.setup ≡ a → word ≡ key_place a n → SeatStepped v word act names_next seen v' → v'.host ≡ record v.host { next = Some n }
next_named a v v' n word seen act own place s =
    let at : key_place a n ≡ key_place a s.2.0 = sym place ∙ s.2.1 ∙ ap (λ (t : Setup). key_place t s.2.0) own in
    let same : s.2.0 ≡ n = omega arith in
    ap (λ (y : View Part). y.host) s.3 ∙ s.2.2 ∙ ap (λ (m : ℕ). record v.host { next = Some m }) same

pub some_within : {A : Type 0} (l : List (Option A)) (n : ℕ) (x : A) → slice_index_or l n None ≡ Some x → n < length l
some_within [] n x e = absurd (let f : None ≡ Some x = e in cc)
some_within (y ∷ ys) zero x e = omega arith
some_within (y ∷ ys) (suc n) x e = let h = some_within ys n x e in omega arith

-- what stands by number, after one was taken out
pub still_loose : (kept : List (Option Owned)) (n : ℕ) → n < length kept → ((m : ℕ) → is_loose_at (slice_index_or kept m None) ≡ true) → (m : ℕ) → is_loose_at (slice_index_or (set kept n None) m None) ≡ true
still_loose kept n below loose m =
    ⊎_elim
    (λ e. ap (λ (k : ℕ). is_loose_at (get_or (set kept n None) k None)) e ∙ ap is_loose_at (get_or-set_same kept n None None below))
    (λ h. ap is_loose_at (get_or-set_other kept n m None None h) ∙ loose m)
    (decide n m)

module _ (v v1 v2 other : View Part) (n : ℕ) (o : Owned) (kept : List (Option Owned)) (no_rows : v.host.rows ≡ [])
    (owns : (m : ℕ) → found entry_no m v.host.owned ≡ slice_index_or kept m None) (is : slice_index_or kept n None ≡ Some o)
    (named : v1.host ≡ record v.host { next = Some n }) (split : HostSplits rest_of_entries next_entry v1 v2 other) where
  pub rest_no_rows : v2.host.rows ≡ []
  rest_no_rows = ap (λ (y : View Part). y.host.rows) split.after ∙ ap (λ (p : Part). p.rows) named ∙ no_rows

  pub rest_owns : (m : ℕ) → found entry_no m v2.host.owned ≡ slice_index_or (set kept n None) m None
  rest_owns m =
      ap (λ (y : View Part). found entry_no m y.host.owned) split.after ∙ ap (λ (p : Part). found entry_no m (rest_of_entries p).owned) named
      ∙ taken_out_by_number entry_no n v.host.owned kept (some_within kept n o is) owns m

  pub out_no_rows : other.host.rows ≡ []
  out_no_rows = ap (λ (y : View Part). y.host.rows) split.split

  pub out_owns : other.host.owned ≡ o ∷ []
  out_owns =
      ap (λ (y : View Part). y.host.owned) split.split ∙ ap (λ (p : Part). (next_entry p).owned) named
      ∙ ap option_to_list (owns n ∙ is)

  pub out_no : o.entry ≡ n
  out_no = (found_is entry_no n v.host.owned o (owns n ∙ is)).0

pub out_loose : (kept : List (Option Owned)) (n : ℕ) (o : Owned) → ((m : ℕ) → is_loose_at (slice_index_or kept m None) ≡ true) → slice_index_or kept n None ≡ Some o → is_loose o.state ≡ true
out_loose kept n o loose is = ap is_loose_at (sym is) ∙ loose n
