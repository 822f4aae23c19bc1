-- A word behind the seats' words changes neither a hand nor a seat's word. One behind the clock's own may change as it likes: the law reads none of them.
use Rattle.std.proofs.Common.{◌≡◌, ℕ, ◌-◌, ◌^◌, ◌<◌, ◌≤◌, List, set, sym, refl, ap, subst, subst₂, ◌∙◌, arith, Option, Some, None, length-set, get_or-set_other}
use Rattle.std.specs.Int.{bit_at}
use lib.ListN.{get_elem?}
use mathlib.Core.Option.{some}
use Rattle.smr_core.specs.declared.clock_core.ClockConfig.{ClockConfig}
use Rattle.smr_core.specs.declared.holder.Holder.{Holder}
use Rattle.smr_core.specs.declared.holder.Phase.TheVariants as phase
use Rattle.smr_core.specs.ClockState.{IsOdd, IsSeatWord, place_after_seats, presence_place, presence_word, write_place, read_place, seat_place, write_hand, read_hand, seat_word, word_of}
use Rattle.smr_core.specs.ClockLaw.{HandsFit, ClockLaw}
use Rattle.smr_core.specs.ClockMoves.{OtherWordKeeps}
use Rattle.smr_core.proofs.PlaceLemmas.{at_map}
use Rattle.smr_core.proofs.KindLemmas.{in_phase}
use Rattle.smr_core.proofs.MoveLemmas.{fits_still}

some_of : {o : Option ℕ} {s : ℕ} → o ≡ Some s → some o ≡ some (Some s)
some_of e = ap (λ (x : Option ℕ). some x) e

module _ (a : ClockConfig) (i v : ℕ) (ws : List ℕ) (behind : presence_place a ≤ i) where
  pub write_still : write_hand (set ws i v) ≡ write_hand ws
  write_still = get_or-set_other ws i write_place v 0 (λ e. omega arith)

  pub read_still : read_hand (set ws i v) ≡ read_hand ws
  read_still = get_or-set_other ws i read_place v 0 (λ e. omega arith)

  pub seat_still : (s : ℕ) → s < a.seats → seat_word (set ws i v) s ≡ seat_word ws s
  seat_still s known = get_or-set_other ws i (seat_place s) v 0 (λ e. omega arith)

  pub hands_still : HandsFit a ws → HandsFit a (set ws i v)
  hands_still f =
      record {
        places = subst (λ (n : ℕ). place_after_seats a ≤ n) (sym (length-set ws i v)) f.places;
        odd_write = subst IsOdd (sym write_still) f.odd_write;
        odd_read = subst IsOdd (sym read_still) f.odd_read;
        from_start = subst (λ (n : ℕ). a.start ≤ n) (sym read_still) f.from_start;
        in_order = subst₂ (λ (m n : ℕ). m ≤ n) (sym read_still) (sym write_still) f.in_order;
        in_range = subst (λ (n : ℕ). n < 2 ^ 63) (sym write_still) f.in_range;
        within_window = subst₂ (λ (m n : ℕ). n - m ≤ a.window) (sym read_still) (sym write_still) f.within_window;
      }

  own_still : (hs : List Holder) → ClockLaw a ws hs → (j : ℕ) (h : Holder) (o : Option ℕ) → get_elem? hs j ≡ some h → h.seat ≡ o → word_of (set ws i v) o ≡ word_of ws o
  own_still hs law j h None at e = refl
  own_still hs law j h (Some s) at e =
      seat_still s (law.seats.known j s (at_map (λ (x : Holder). x.seat) hs j h at ∙ some_of e))

presence_still : (a : ClockConfig) (i v : ℕ) (ws : List ℕ) → place_after_seats a ≤ i → presence_word a (set ws i v) ≡ presence_word a ws
presence_still a i v ws past = get_or-set_other ws i (presence_place a) v 0 (λ e. omega arith)

pub other_word-keeps : OtherWordKeeps
other_word-keeps a i v ws hs past law =
    let behind : presence_place a ≤ i = omega arith in
    let w : write_hand (set ws i v) ≡ write_hand ws = write_still a i v ws behind in
    let r : read_hand (set ws i v) ≡ read_hand ws = read_still a i v ws behind in
    record {
      law = record {
        numbers = law.numbers;
        hands = hands_still a i v ws behind law.hands;
        holders = λ j h at.
            fits_still a ws (set ws i v) h (law.holders j h at) (own_still a i v ws behind hs law j h h.seat at refl)
            (λ s _. ap (λ (n : ℕ). bit_at n s) (presence_still a i v ws past)) (omega arith) (omega arith)
            (λ inside. subst (λ (n : ℕ). n ≤ h.mark) (sym r) (in_phase a ws h phase.Inside (law.holders j h at) inside).5);
        seats = law.seats;
        unmade = λ s known none.
            let u = law.unmade s known none in
            (seat_still a i v ws behind s known ∙ u.0, ap (λ (n : ℕ). bit_at n s) (presence_still a i v ws past) ∙ u.1);
        presence = subst (λ (n : ℕ). n < 2 ^ a.seats) (sym (presence_still a i v ws past)) law.presence;
        seat_words = λ s known. subst IsSeatWord (sym (seat_still a i v ws behind s known)) (law.seat_words s known);
        scans = law.scans;
        balance = w ∙ law.balance;
      };
      write_not_lower = omega arith;
      read_not_lower = omega arith;
    }
