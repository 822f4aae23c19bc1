-- A worker that leaves, and one that comes, keep the law: each changes its own bit of the presence word, outside a section and in no poll.
use Rattle.std.proofs.Common.{◌≡◌, ◌≢◌, ℕ, ◌^◌, ◌<◌, ◌≤◌, List, length, set, sym, refl, ap, ◌∙◌, subst, subst₂, arith, Option, Some, get_or-set_same}
use Rattle.std.specs.Int.{bit_at}
use mathlib.Core.Option.{some}
use lib.ListN.{get_elem?}
use Rattle.smr_core.specs.declared.clock_core.ClockConfig.{ClockConfig}
use Rattle.smr_core.specs.declared.holder.Holder.{Holder}
use Rattle.smr_core.specs.declared.holder.Phase.TheVariants as phase
use Rattle.smr_core.specs.declared.holder.Task.{Task}
use Rattle.smr_core.specs.declared.holder.Task.TheVariants as task
use Rattle.smr_core.specs.ClockState.{IsSeatWord, place_after_seats, presence_place, presence_word, write_hand, read_hand, word_of}
use Rattle.smr_core.specs.ClockStep as step
use Rattle.smr_core.specs.ClockStep.{without, with_seat}
use Rattle.smr_core.specs.ClockLaw.{PhaseFits, SeatFits, TaskFits, HolderFits, ClockLaw, presence_bit}
use Rattle.smr_core.specs.ClockMoves.{LeaveKeeps, ComeKeeps}
use Rattle.smr_core.proofs.PlaceLemmas.{at_map}
use Rattle.smr_core.proofs.PresenceLemmas.{without-same, without-other, without-narrow, with-same, with-other, with-narrow}
use Rattle.smr_core.proofs.MoveLemmas.{Moves, moved}
use Rattle.smr_core.proofs.KindLemmas.{in_phase, seat_in_phase, marks_above_read}
use Rattle.smr_core.proofs.Keeps.OtherWords.{write_still, read_still, seat_still, hands_still}

-- what has to be shown of the holder, and of the presence word v, after such a step
record Flips (a : ClockConfig) (ws : List ℕ) (h h' : Holder) (s v : ℕ) : Type 0 where
  own : h.seat ≡ Some s
  seat : h'.seat ≡ h.seat
  advances : h'.advances ≡ h.advances
  seen : h'.seen ≡ h.seen
  floor : h'.floor ≡ h.floor
  word : word_of ws h.seat ≡ 0
  idle : h'.task ≡ task.Idle
  outside : h'.phase ≡ phase.Inside → ⊥
  seat_fits : SeatFits h'.seat h'.phase
  phase_fits : (ws' : List ℕ) → word_of ws' h'.seat ≡ 0 → PhaseFits a ws' h' h'.phase
  bit : bit_at v s ≡ presence_bit h'.phase
  others : (t : ℕ) → t < 64 → t ≢ s → bit_at v t ≡ bit_at (presence_word a ws) t
  narrow : v < 2 ^ a.seats

not_scanning : (t : Task) → t ≡ task.Idle → t ≡ task.Scanning → ⊥
not_scanning t i s = let both : task.Idle ≡ task.Scanning = sym i ∙ s in cc

same_number : (s t : ℕ) (o : Option ℕ) → o ≡ Some s → o ≡ Some t → s ≡ t
same_number s t o e f = let both : Some s ≡ Some t = sym e ∙ f in cc

module _ (a : ClockConfig) (ws : List ℕ) (hs : List Holder) (id : ℕ) (h h' : Holder) (s v : ℕ) where
  known_seat : ClockLaw a ws hs → get_elem? hs id ≡ some h → h.seat ≡ Some s → s < a.seats
  known_seat law at own = law.seats.known id s (at_map (λ (x : Holder). x.seat) hs id h at ∙ ap (λ (o : Option ℕ). some o) own)

  after_flip : ClockLaw a ws hs → get_elem? hs id ≡ some h → Flips a ws h h' s v → Moves a ws hs (set ws (presence_place a) v) id h h'
  after_flip law at m =
      let w : write_hand (set ws (presence_place a) v) ≡ write_hand ws = write_still a (presence_place a) v ws (omega arith) in
      let r : read_hand (set ws (presence_place a) v) ≡ read_hand ws = read_still a (presence_place a) v ws (omega arith) in
      let f : HolderFits a ws h = law.holders id h at in
      let known : s < a.seats = known_seat law at m.own in
      let few : a.seats ≤ 64 = law.numbers.few_seats in
      let places : place_after_seats a ≤ length ws = law.hands.places in
      let p : presence_word a (set ws (presence_place a) v) ≡ v = get_or-set_same ws (presence_place a) v 0 (omega arith) in
      let word : word_of (set ws (presence_place a) v) h'.seat ≡ 0 =
      ap (word_of (set ws (presence_place a) v)) (m.seat ∙ m.own) ∙ seat_still a (presence_place a) v ws (omega arith) s known
      ∙ ap (word_of ws) (sym m.own) ∙ m.word in
      record {
        seat = m.seat;
        hands = hands_still a (presence_place a) v ws (omega arith) law.hands;
        write_not_lower = omega arith;
        read_not_lower = omega arith;
        others = λ t k n. seat_still a (presence_place a) v ws (omega arith) t k;
        seat_words = λ t k. subst IsSeatWord (sym (seat_still a (presence_place a) v ws (omega arith) t k)) (law.seat_words t k);
        other_bits = λ t k n. ap (λ (x : ℕ). bit_at x t) p ∙ m.others t (omega arith) (λ e. n (m.own ∙ ap (λ (x : ℕ). Some x) (sym e)));
        presence = subst (λ (x : ℕ). x < 2 ^ a.seats) (sym p) m.narrow;
        balance = let b : h'.advances ≡ h.advances = m.advances in omega arith;
        fits = record {
          seen = subst₂ (λ (x y : ℕ). x ≤ y) (sym m.seen) (sym w) f.seen;
          floor = subst₂ (λ (x y : ℕ). x ≤ y) (sym m.floor) (sym r) f.floor;
          seat = m.seat_fits;
          phase = m.phase_fits (set ws (presence_place a) v) word;
          presence = λ t own.
              let same : s ≡ t = same_number s t h'.seat (m.seat ∙ m.own) own in
              ap (λ (x : ℕ). bit_at x t) p ∙ ap (λ (x : ℕ). bit_at v x) (sym same) ∙ m.bit;
          task = subst (λ (x : Task). TaskFits a (set ws (presence_place a) v) h' x) (sym m.idle) tt;
        };
        pinned = λ j q n g i. subst (λ (x : ℕ). x ≤ q.mark) (sym r) (marks_above_read a ws hs id h h' law j q g i);
        scan = λ t j q x n g i seat. absurd (not_scanning h'.task m.idle t);
        section = λ i j x p n g t seat. absurd (m.outside i);
        own = λ t i x seat. absurd (m.outside i);
      }

pub leave-keeps : LeaveKeeps
leave-keeps a id h s own outside idle ws hs law at =
    let p : ℕ = presence_word a ws in
    let f : HolderFits a ws h = law.holders id h at in
    let known : s < a.seats = known_seat a ws hs id h (step.left h) s (without s (presence_word a ws)) law at own in
    let few : a.seats ≤ 64 = law.numbers.few_seats in
    let small : s < 64 = omega arith in
    moved a ws hs (set ws (presence_place a) (without s (presence_word a ws))) id h (step.left h) law at
    (after_flip a ws hs id h (step.left h) s (without s (presence_word a ws)) law at (record {
      own = own;
      seat = refl;
      advances = refl;
      seen = refl;
      floor = refl;
      word = in_phase a ws h phase.Outside f outside;
      idle = idle;
      outside = λ e. cc;
      seat_fits = seat_in_phase a ws h phase.Outside f outside;
      phase_fits = λ ws' word. (word, idle);
      bit = without-same s (presence_word a ws) small;
      others = λ t k n. without-other s (presence_word a ws) small t k n;
      narrow = without-narrow s (presence_word a ws) small a.seats law.presence;
    }))

pub come-keeps : ComeKeeps
come-keeps a id h s own vacant ws hs law at =
    let f : HolderFits a ws h = law.holders id h at in
    let known : s < a.seats = known_seat a ws hs id h (step.came h) s (with_seat s (presence_word a ws)) law at own in
    let few : a.seats ≤ 64 = law.numbers.few_seats in
    let small : s < 64 = omega arith in
    moved a ws hs (set ws (presence_place a) (with_seat s (presence_word a ws))) id h (step.came h) law at
    (after_flip a ws hs id h (step.came h) s (with_seat s (presence_word a ws)) law at (record {
      own = own;
      seat = refl;
      advances = refl;
      seen = refl;
      floor = refl;
      word = (in_phase a ws h phase.Vacant f vacant).0;
      idle = (in_phase a ws h phase.Vacant f vacant).1;
      outside = λ e. cc;
      seat_fits = seat_in_phase a ws h phase.Vacant f vacant;
      phase_fits = λ ws' word. word;
      bit = with-same s (presence_word a ws) small;
      others = λ t k n. with-other s (presence_word a ws) small t n;
      narrow = with-narrow s (presence_word a ws) small a.seats known law.presence;
    }))
