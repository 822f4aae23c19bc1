-- The workers of a clock are split off in order.
use Rattle.std.proofs.Common.{◌≡◌, ℕ, zero, suc, ◌+◌, ◌<◌, List, [], ◌∷◌, ◌++◌, length, length-set, replicate, set, sym, refl, ap, ◌∙◌, subst, ⊎_elim, arith, Some}
use Rattle.std.proofs.Math.ListN.{length-append, length-replicate}
use mathlib.Core.Option.{some}
use lib.ListN.{get_elem?}
use Rattle.atomic_table.specs.Seated.{TableId}
use Rattle.smr_core.specs.ClockState.{all_seats, opening_words, place_after_seats, presence_place, read_place, write_place}
use Rattle.smr_core.proofs.PlaceLemmas.{at_push, at_end, at_longer, place_within}
use Rattle.smr_clock.specs.declared.clock.Setup.{Setup}
use Rattle.smr_clock.specs.declared.view.View.{View}
use Rattle.smr_clock.specs.declared.host.Host.{Ghosts}
use Rattle.smr_clock.specs.declared.pass.Pass.{Pass}
use Rattle.smr_clock.specs.Belongs.{view, holder}
use Rattle.smr_clock.specs.Making.{first_words, fresh_view, AreSplitOff, OneForEachSeat}

-- as many words as the clock's own and the host's
pub words_made : (a b : Setup) (more given made : List ℕ) (count : ℕ) → made ≡ first_words b given → b ≡ a → given ≡ more → count ≡ length made
    → count ≡ place_after_seats a.config + length more
words_made a b more given made count is same whole all =
    let blank : List ℕ = replicate (place_after_seats b.config) 0 in
    let write : List ℕ = set blank write_place b.config.start in
    let hands : List ℕ = set write read_place b.config.start in
    let own : length (opening_words b.config) ≡ place_after_seats b.config =
    length-set hands (presence_place b.config) (all_seats b.config) ∙ length-set write read_place b.config.start ∙ length-set blank write_place b.config.start
    ∙ length-replicate (place_after_seats b.config) 0 in
    all ∙ ap (λ (l : List ℕ). length l) is ∙ length-append (opening_words b.config) given ∙ (λ i. own i + length (whole i)) ∙ (λ i. place_after_seats (same i).config + length more)

module _ {H P : Type 0} {g : Ghosts H P} (table : TableId) (copied : P → P) (a : Setup) (first : P) where
  pub one_more : (passes : List (Pass H P g)) (pass : Pass H P g) → AreSplitOff table copied a first passes
      → pass.seat.table_id ≡ table → view pass ≡ fresh_view copied a first (length passes) → AreSplitOff table copied a first (passes ++ pass ∷ [])
  one_more passes pass before here fresh =
      record {
        here = λ seat p there.
            ⊎_elim (λ t. before.here seat p t) (λ t. subst (λ (x : Pass H P g). x.seat.table_id ≡ table) t.1 here) (at_push passes pass p seat there);
        fresh = λ seat p there.
            ⊎_elim
            (λ t. before.fresh seat p t)
            (λ t. subst (λ (x : Pass H P g). view x ≡ fresh_view copied a first seat) t.1 (fresh ∙ ap (λ (n : ℕ). fresh_view copied a first n) (sym t.0)))
            (at_push passes pass p seat there);
      }

-- ---- each seat has one worker

-- each place of a list has its element
there : {A : Type 0} (l : List A) (i : ℕ) → i < length l → (x : A) × (get_elem? l i ≡ some x)
there [] i h = absurd (omega arith)
there (x ∷ xs) zero h = (x, refl)
there (x ∷ xs) (suc i) h = there xs i (omega arith)

some_number : (n m : ℕ) → Some n ≡ Some m → n ≡ m
some_number n m e = cc

module _ {H P : Type 0} {g : Ghosts H P} (table : TableId) (copied : P → P) (a : Setup) (first : P) (passes : List (Pass H P g)) (made : AreSplitOff table copied a first passes) where
  seat_at : (at : ℕ) (pass : Pass H P g) → get_elem? passes at ≡ some pass → (holder pass).seat ≡ Some at
  seat_at at pass is = ap (λ (v : View P). v.holder.seat) (made.fresh at pass is)

  pub one-for-each-seat : length passes ≡ a.config.seats → OneForEachSeat a.config.seats passes
  one-for-each-seat many =
      record {
        of_a_seat = λ at pass is. (at, seat_at at pass is, let within = place_within passes at pass is in omega arith);
        has_one = λ seat below. let t : (x : Pass H P g) × (get_elem? passes seat ≡ some x) = there passes seat (omega arith) in (seat, t.0, t.1, seat_at seat t.0 t.1);
        no_other = λ at else seat pass other is other_is mine its.
            some_number at seat (sym (seat_at at pass is) ∙ mine) ∙ sym (some_number else seat (sym (seat_at else other other_is) ∙ its));
      }

-- ---- the last two of a list

pub last_there : {A : Type 0} (l rest : List A) (x : A) → l ≡ rest ++ x ∷ [] → get_elem? l (length rest) ≡ some x
last_there l rest x e = ap (λ (m : List _). get_elem? m (length rest)) e ∙ at_end rest x

pub before_last_there : {A : Type 0} (l rest first : List A) (x y : A) → l ≡ rest ++ y ∷ [] → rest ≡ first ++ x ∷ [] → get_elem? l (length first) ≡ some x
before_last_there l rest first x y e f =
    ap (λ (m : List _). get_elem? m (length first)) e ∙ at_longer rest (y ∷ []) (length first) x (last_there rest first x f)
