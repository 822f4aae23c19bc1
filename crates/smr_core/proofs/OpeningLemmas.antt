-- The law holds where a core begins.
use Rattle.std.proofs.Common.{◌≡◌, ℕ, zero, suc, ◌+◌, ◌^◌, ◌<◌, ◌≤◌, List, [], ◌∷◌, ◌++◌, length, set, replicate, sym, refl, ap, ◌∙◌, subst, ⊎_elim, arith, Bool, cond, Option, Some, None, add-one, length-set, get_or-set_same, get_or-set_other}
use Rattle.std.specs.Int.{bit_at}
use borrow.Author.Tests.{lt-ltb}
use Rattle.std.proofs.Math.ListN.{get_or-replicate, length-replicate, get_or-append, length-append}
use Rattle.std.proofs.lemmas.List.{map-append, length_push}
use Rattle.std.proofs.lemmas.List.Sums.{sum_by-append}
use mathlib.Core.Option.{some, some-injective, some-ne-none}
use lib.ListN.{get_elem?}
use Rattle.smr_core.specs.declared.clock_core.ClockConfig.{ClockConfig}
use Rattle.smr_core.specs.declared.steps.Actor.{Actor}
use Rattle.smr_core.specs.declared.holder.Holder.{Holder}
use Rattle.smr_core.specs.declared.holder.Task.TheVariants as task
use Rattle.smr_core.specs.ClockState.{IsOdd, IsInRange, IsSeatWord, IsPresent, all_seats, opening_words, place_after_seats, presence_place, presence_word, read_hand, read_place, seat_place, seat_word, seats_of, first_holder, write_hand, write_place}
use Rattle.smr_core.specs.ClockLaw.{HandsFit, HolderFits, ClockLaw, all_advances}
use Rattle.smr_core.specs.ClockMoves.{BeginsLawful}
use Rattle.smr_core.specs.CoreState.{CoreLaw, holder_of, holders_of, first_worker, first_workers, opening}
use Rattle.smr_core.proofs.PlaceLemmas.{at_push, from_map}
use Rattle.smr_core.proofs.PresenceLemmas.{all-present, all-narrow}

length-first_workers : (a : ClockConfig) (n : ℕ) → length (first_workers a n) ≡ n
length-first_workers a zero = refl
length-first_workers a (suc n) = length_push (first_workers a n) (first_worker a n) ∙ ap (λ (m : ℕ). m + 1) (length-first_workers a n) ∙ add-one n

-- the actor of each number is the worker of that seat
first_at : (a : ClockConfig) (n i : ℕ) (x : Actor) → get_elem? (first_workers a n) i ≡ some x → (i < n) × (first_worker a i ≡ x)
first_at a zero i x e = absurd (some-ne-none x (sym e))
first_at a (suc n) i x e =
    ⊎_elim
    (λ t. let r = first_at a n i x t in let l : i < n = r.0 in (omega arith, r.1))
    (λ t. let l : i ≡ n = t.0 ∙ length-first_workers a n in (omega arith, ap (first_worker a) l ∙ t.1))
    (at_push (first_workers a n) (first_worker a n) x i e)

no_advances : (a : ClockConfig) (n : ℕ) → all_advances (holders_of (first_workers a n)) ≡ 0
no_advances a zero = refl
no_advances a (suc n) =
    ap all_advances (map-append holder_of (first_workers a n) (first_worker a n ∷ []))
    ∙ sum_by-append (λ (h : Holder). h.advances) (holders_of (first_workers a n)) (holder_of (first_worker a n) ∷ [])
    ∙ ap (λ (m : ℕ). m + 0) (no_advances a n)

not_scanning : task.Idle ≡ task.Scanning → ⊥
not_scanning e = cc

not_loaded : task.Idle ≡ task.PollLoaded → ⊥
not_loaded e = cc

no_some : (s : ℕ) → (let o : Option ℕ = None in o ≡ Some s) → ⊥
no_some s e = cc

-- ---- the words

-- what is read in the words before any step
record Opened (a : ClockConfig) (ws : List ℕ) : Type 0 where
  places : place_after_seats a ≤ length ws
  write : write_hand ws ≡ a.start
  read : read_hand ws ≡ a.start
  seat : (s : ℕ) → s < a.seats → seat_word ws s ≡ 0
  presence : presence_word a ws ≡ all_seats a

module _ (a : ClockConfig) where
  blank : List ℕ
  blank = replicate (place_after_seats a) 0

  with_write : List ℕ
  with_write = set blank write_place a.start

  with_hands : List ℕ
  with_hands = set with_write read_place a.start

  length-hands : length with_hands ≡ place_after_seats a
  unfolding blank with_write with_hands
  length-hands =
      length-set with_write read_place a.start ∙ length-set blank write_place a.start ∙ length-replicate (place_after_seats a) 0

  length-opening : length (opening_words a) ≡ place_after_seats a
  unfolding blank with_write with_hands
  length-opening = length-set with_hands (presence_place a) (all_seats a) ∙ length-hands

  opened : Opened a (opening_words a)
  unfolding blank with_write with_hands
  opened =
      let long : length blank ≡ place_after_seats a = length-replicate (place_after_seats a) 0 in
      let longer : length with_write ≡ length blank = length-set blank write_place a.start in
      let hands : length with_hands ≡ place_after_seats a = length-hands in
      let all : length (opening_words a) ≡ place_after_seats a = length-opening in
      record {
        places = omega arith;
        write =
            get_or-set_other with_hands (presence_place a) write_place (all_seats a) 0 (λ e. omega arith)
            ∙ get_or-set_other with_write read_place write_place a.start 0 (λ e. omega arith)
            ∙ get_or-set_same blank write_place a.start 0 (omega arith);
        read =
            get_or-set_other with_hands (presence_place a) read_place (all_seats a) 0 (λ e. omega arith)
            ∙ get_or-set_same with_write read_place a.start 0 (omega arith);
        seat = λ s known.
            get_or-set_other with_hands (presence_place a) (seat_place s) (all_seats a) 0 (λ e. omega arith)
            ∙ get_or-set_other with_write read_place (seat_place s) a.start 0 (λ e. omega arith)
            ∙ get_or-set_other blank write_place (seat_place s) a.start 0 (λ e. omega arith)
            ∙ get_or-replicate (place_after_seats a) (seat_place s) 0 0 (omega arith);
        presence = get_or-set_same with_hands (presence_place a) (all_seats a) 0 (omega arith);
      }

  opened_more : (more : List ℕ) → Opened a (opening_words a ++ more)
  opened_more more =
      let all : length (opening_words a) ≡ place_after_seats a = length-opening in
      let longer : length (opening_words a ++ more) ≡ length (opening_words a) + length more = length-append (opening_words a) more in
      record {
        places = omega arith;
        write = get_or-append (opening_words a) more 0 write_place (omega arith) ∙ opened.write;
        read = get_or-append (opening_words a) more 0 read_place (omega arith) ∙ opened.read;
        seat = λ s known. get_or-append (opening_words a) more 0 (seat_place s) (omega arith) ∙ opened.seat s known;
        presence = get_or-append (opening_words a) more 0 (presence_place a) (omega arith) ∙ opened.presence;
      }

-- what the law says of these words alone
module _ (a : ClockConfig) (ws : List ℕ) (o : Opened a ws) (r : IsInRange a) where
  opened_hands : HandsFit a ws
  opened_hands =
      let w : write_hand ws ≡ a.start = o.write in let k : read_hand ws ≡ a.start = o.read in
      record {
        places = o.places;
        odd_write = subst IsOdd (sym w) r.odd_start;
        odd_read = subst IsOdd (sym k) r.odd_start;
        from_start = omega arith;
        in_order = omega arith;
        in_range = subst (λ (n : ℕ). n < 2 ^ 63) (sym w) r.low_start;
        within_window = omega arith;
      }

  opened_seat_words : (s : ℕ) → s < a.seats → IsSeatWord (seat_word ws s)
  opened_seat_words s k = subst IsSeatWord (sym (o.seat s k)) (record { narrow = omega arith; odd = λ l. absurd (omega arith) })

  opened_present : (s : ℕ) → s < a.seats → IsPresent (presence_word a ws) s
  opened_present s k = ap (λ (n : ℕ). bit_at n s) o.presence ∙ all-present a s k

  opened_narrow : presence_word a ws < 2 ^ a.seats
  opened_narrow = subst (λ (n : ℕ). n < 2 ^ a.seats) (sym o.presence) (all-narrow a)

pub first_workers_more : (a : ClockConfig) (n : ℕ) → first_workers a (n + 1) ≡ first_workers a n ++ first_worker a n ∷ []
first_workers_more a n = ap (first_workers a) (add-one n)

module _ (a : ClockConfig) where
  holder_at : (i : ℕ) (h : Holder) → get_elem? (holders_of (first_workers a a.seats)) i ≡ some h → (i < a.seats) × (holder_of (first_worker a i) ≡ h)
  holder_at i h e =
      let t = from_map holder_of (first_workers a a.seats) i h e in
      let r = first_at a a.seats i t.0 t.1 in
      (r.0, ap holder_of r.1 ∙ t.2)

  seat_there : (i s : ℕ) → get_elem? (seats_of (holders_of (first_workers a a.seats))) i ≡ some (Some s) → (i < a.seats) × (i ≡ s)
  seat_there i s e =
      let t = from_map (λ (h : Holder). h.seat) (holders_of (first_workers a a.seats)) i (Some s) e in
      let r = holder_at i t.0 t.1 in
      let p : Some i ≡ Some s = ap (λ (h : Holder). h.seat) r.1 ∙ t.2 in
      (r.0, cc)

  first_fits : (i : ℕ) → i < a.seats → HolderFits a (opening_words a) (holder_of (first_worker a i))
  first_fits i k =
      let w : write_hand (opening_words a) ≡ a.start = (opened a).write in let f : read_hand (opening_words a) ≡ a.start = (opened a).read in
      record {
        seen = omega arith;
        floor = omega arith;
        seat = refl;
        phase = (opened a).seat i k;
        presence = λ s e. let same : i ≡ s = cc in subst (λ (x : ℕ). IsPresent (presence_word a (opening_words a)) x) same (ap (λ (n : ℕ). bit_at n i) (opened a).presence ∙ all-present a i k);
        task = tt;
      }

  pub opening-law : IsInRange a → CoreLaw (opening a)
  opening-law r =
      let few : a.seats ≤ 64 = r.few_seats in
      let many : length (first_workers a a.seats) ≡ a.seats = length-first_workers a a.seats in
      let w : write_hand (opening_words a) ≡ a.start = (opened a).write in
      record {
        clock = record {
          numbers = r;
          hands = opened_hands a (opening_words a) (opened a) r;
          holders = λ i h e. let t = holder_at i h e in subst (λ (x : Holder). HolderFits a (opening_words a) x) t.1 (first_fits i t.0);
          seats = record {
            one = λ i j s p q. (seat_there i s p).1 ∙ sym (seat_there j s q).1;
            known = λ i s p. let t = seat_there i s p in subst (λ (x : ℕ). x < a.seats) t.1 t.0;
          };
          unmade = λ s k none. ((opened a).seat s k, opened_present a (opening_words a) (opened a) r s k);
          presence = opened_narrow a (opening_words a) (opened a) r;
          seat_words = opened_seat_words a (opening_words a) (opened a) r;
          scans = λ i j s p q fi fj scanning inside seat.
              let t = holder_at i p fi in
              let idle : task.Idle ≡ task.Scanning = ap (λ (h : Holder). h.task) t.1 ∙ scanning in absurd (not_scanning idle);
          balance = let z = no_advances a a.seats in omega arith;
        };
        words = length-opening a;
        workers = omega arith;
        few = omega arith;
        seats = λ n x e.
            let t = first_at a a.seats n x e in
            ap (λ (y : Actor). y.holder.seat) (sym t.1) ∙ ap (λ (b : Bool). cond b (Some n) None) (sym (lt-ltb n a.seats t.0));
        aims = λ n x e polling.
            let t = first_at a a.seats n x e in
            let idle : x.holder.task ≡ task.Idle = ap (λ (y : Actor). y.holder.task) (sym t.1) in
            absurd (⊎_elim (λ (l : x.holder.task ≡ task.PollLoaded). not_loaded (sym idle ∙ l)) (λ (l : x.holder.task ≡ task.Scanning). not_scanning (sym idle ∙ l)) polling);
      }

-- ---- a clock that is only being made

module _ (a : ClockConfig) (more : List ℕ) (r : IsInRange a) where
  only_first : (i : ℕ) (h : Holder) → get_elem? (first_holder a ∷ []) i ≡ some h → first_holder a ≡ h
  only_first zero h e = some-injective (first_holder a) h e
  only_first (suc i) h e = absurd (some-ne-none h (sym e))

  no_seat : (i s : ℕ) → get_elem? (seats_of (first_holder a ∷ [])) i ≡ some (Some s) → ⊥
  no_seat zero s e = no_some s (some-injective None (Some s) e)
  no_seat (suc i) s e = some-ne-none (Some s) (sym e)

  first_holder-fits : HolderFits a (opening_words a ++ more) (first_holder a)
  first_holder-fits =
      let o = opened_more a more in
      let w : write_hand (opening_words a ++ more) ≡ a.start = o.write in let f : read_hand (opening_words a ++ more) ≡ a.start = o.read in
      record { seen = omega arith; floor = omega arith; seat = refl; phase = refl; presence = λ s e. absurd (no_some s e); task = tt }

  begun-law : ClockLaw a (opening_words a ++ more) (first_holder a ∷ [])
  begun-law =
      let o : Opened a (opening_words a ++ more) = opened_more a more in
      let w : write_hand (opening_words a ++ more) ≡ a.start = o.write in
      record {
        numbers = r;
        hands = opened_hands a (opening_words a ++ more) (opened_more a more) r;
        holders = λ i h e. subst (λ (x : Holder). HolderFits a (opening_words a ++ more) x) (only_first i h e) first_holder-fits;
        seats = record { one = λ i j s p q. absurd (no_seat i s p); known = λ i s p. absurd (no_seat i s p) };
        unmade = λ s k none. (o.seat s k, opened_present a (opening_words a ++ more) (opened_more a more) r s k);
        presence = opened_narrow a (opening_words a ++ more) (opened_more a more) r;
        seat_words = opened_seat_words a (opening_words a ++ more) (opened_more a more) r;
        scans = λ i j s p q fi fj scanning inside seat. absurd (not_scanning (ap (λ (h : Holder). h.task) (only_first i p fi) ∙ scanning));
        balance = omega arith;
      }

pub begins-lawful : BeginsLawful
begins-lawful a more r = begun-law a more r
