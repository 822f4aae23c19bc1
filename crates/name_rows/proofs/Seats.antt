-- Seats' parts before and after one of them is written, and words that a step leaves.
use Rattle.std.proofs.Common.{◌≡◌, ℕ, zero, suc, ◌≢◌, ◌⊎◌, List, set, slice_index, refl, sym, ap, ◌∙◌, subst, ⊎_elim, inl, inr, arith}
use Rattle.std.proofs.lemmas.List.{set-get_or}
use mathlib.Core.Option.{some}
use lib.ListN.{get_elem?}
use Rattle.smr_core.proofs.PlaceLemmas.{map_set, at_map, same_place}
use Rattle.smr_clock.specs.declared.clock.Setup.{Setup}
use Rattle.smr_clock.specs.declared.view.View.{View}
use Rattle.smr_clock.specs.Views.{hosts_of}
use Rattle.smr_clock.specs.HostSteps.{with_host}
use Rattle.name_rows.specs.declared.names.RowView.{RowView}
use Rattle.name_rows.specs.declared.entry.Owned.{Owned}
use Rattle.name_rows.specs.declared.names.Part.{Part}
use Rattle.name_rows.specs.Records.{In, Has, IsRow, OwnsIt}
use Rattle.name_rows.specs.Laws.{Alike, Quiet, has_kept, has_set}

pub decide : (i j : ℕ) → (j ≡ i) ⊎ (j ≢ i)
decide zero zero = inl refl
decide zero (suc j) = inr (λ e. omega arith)
decide (suc i) zero = inr (λ e. omega arith)
decide (suc i) (suc j) = ⊎_elim (λ e. inl (ap suc e)) (λ n. inr (λ e. n (omega arith))) (decide i j)

-- the parts after one view was written
pub hosts_written : (vs : List (View Part)) (id : ℕ) (v : View Part) (x : Part) → hosts_of (set vs id (with_host v x)) ≡ set (hosts_of vs) id x
hosts_written vs id v x = map_set (λ (w : View Part). w.host) vs id (with_host v x)

pub host_there : (vs : List (View Part)) (id : ℕ) (v : View Part) → get_elem? vs id ≡ some v → get_elem? (hosts_of vs) id ≡ some v.host
host_there vs id v at = at_map (λ (w : View Part). w.host) vs id v at

-- to store what stands there changes no word
pub word_again : (ws : List ℕ) (i : ℕ) → set ws i (slice_index ws i) ≡ ws
word_again ws i = set-get_or ws i 0

pub quiet_again : (a : Setup) (ws : List ℕ) (i : ℕ) → Quiet a ws (set ws i (slice_index ws i))
quiet_again a ws i =
    subst (λ (l : List ℕ). Quiet a ws l) (sym (word_again ws i))
    (record { write_not_lower = omega arith; read_not_lower = omega arith; as_many = refl; host_words = λ j above. refl })

pub quiet_same : (a : Setup) (ws : List ℕ) → Quiet a ws ws
quiet_same a ws = record { write_not_lower = omega arith; read_not_lower = omega arith; as_many = refl; host_words = λ j above. refl }

module _ (ps : List Part) (id : ℕ) (x p : Part) (here : get_elem? ps id ≡ some p) where
  -- what is so of the seat is so of its part
  pub at_here : (F : Part → Type 0) (at : ℕ) → at ≡ id → Has ps at F → F p
  at_here F at e h = subst F (same_place ps id h.0 p (subst (λ (n : ℕ). get_elem? ps n ≡ some h.0) e h.1) here) h.2

  -- what is so of a seat after the step, was so before
  pub has_back : (F : Part → Type 0) (at : ℕ) → (F x → F p) → Has (set ps id x) at F → Has ps at F
  has_back F at same has =
      ⊎_elim (λ t. (p, ap (λ (n : ℕ). get_elem? ps n) t.0 ∙ here, same t.1)) (λ t. t.1) (has_set F ps id at x has)

  -- the seat has the rows and the entries that it had
  pub alike_written : x.rows ≡ p.rows → x.owned ≡ p.owned → Alike ps (set ps id x)
  alike_written rows owned =
      record {
        rows_back = λ at v has. has_back (IsRow v) at (λ t. subst (λ (l : List RowView). In v l) rows t) has;
        rows_on = λ at v has. has_kept (IsRow v) ps id at x p here (λ t. subst (λ (l : List RowView). In v l) (sym rows) t) has;
        owned_back = λ at o has. has_back (OwnsIt o) at (λ t. subst (λ (l : List Owned). In o l) owned t) has;
        owned_on = λ at o has. has_kept (OwnsIt o) ps id at x p here (λ t. subst (λ (l : List Owned). In o l) (sym owned) t) has;
      }
