-- A holder that is split off keeps the law: a note, and where a clock is made the worker of a seat that has none yet.
use Rattle.std.proofs.Common.{◌≡◌, ℕ, ◌+◌, ◌*◌, ◌<◌, List, [], ◌∷◌, ◌++◌, sym, refl, ap, ◌∙◌, subst, ⊎_elim, arith, Option, Some, None}
use mathlib.Core.Option.{some}
use lib.ListN.{get_elem?}
use Rattle.smr_core.specs.declared.clock_core.ClockConfig.{ClockConfig}
use Rattle.smr_core.specs.declared.holder.Holder.{Holder}
use Rattle.smr_core.specs.declared.holder.Phase.TheVariants as phase
use Rattle.smr_core.specs.declared.holder.Task.TheVariants as task
use Rattle.smr_core.specs.ClockState.{seats_of, presence_word, IsPresent}
use Rattle.smr_core.specs.ClockStep as step
use Rattle.smr_core.specs.ClockLaw.{HolderFits, OneHolderEach, HasNoHolder, ScansFit, all_advances, ClockLaw, Later}
use Rattle.smr_core.proofs.PlaceLemmas.{at_push, at_longer}
use Rattle.smr_core.specs.ClockMoves.{NoteKeeps, WorkerKeeps}
use Rattle.std.proofs.lemmas.List.{map-append}
use Rattle.std.proofs.lemmas.List.Sums.{sum_by-append}

-- what has to be shown of a new holder
pub record Joining (a : ClockConfig) (ws : List ℕ) (hs : List Holder) (new : Holder) : Type 0 where
  pub fits : HolderFits a ws new
  pub advances : new.advances ≡ 0
  pub outside : new.phase ≡ phase.Inside → ⊥
  pub idle : new.task ≡ task.Scanning → ⊥
  pub seat : (s : ℕ) → new.seat ≡ Some s → (s < a.seats) × HasNoHolder (seats_of hs) s

module _ (a : ClockConfig) (ws : List ℕ) (hs : List Holder) (new : Holder) where
  seats_pushed : seats_of (hs ++ new ∷ []) ≡ seats_of hs ++ new.seat ∷ []
  seats_pushed = map-append (λ (x : Holder). x.seat) hs (new ∷ [])

  fits_pushed : ClockLaw a ws hs → Joining a ws hs new → (i : ℕ) (q : Holder) → get_elem? (hs ++ new ∷ []) i ≡ some q → HolderFits a ws q
  fits_pushed law m i q g =
      ⊎_elim (λ t. law.holders i q t) (λ t. subst (λ (x : Holder). HolderFits a ws x) t.1 m.fits) (at_push hs new q i g)

  one_each : ClockLaw a ws hs → Joining a ws hs new → OneHolderEach a (seats_of hs ++ new.seat ∷ [])
  one_each law m =
      record {
        one = λ i j s p q.
            ⊎_elim
            (λ t. ⊎_elim
            (λ u. law.seats.one i j s t u)
            (λ u. absurd ((m.seat s u.1).1 i t))
            (at_push (seats_of hs) new.seat (Some s) j q))
            (λ t. ⊎_elim
            (λ u. absurd ((m.seat s t.1).1 j u))
            (λ u. t.0 ∙ sym u.0)
            (at_push (seats_of hs) new.seat (Some s) j q))
            (at_push (seats_of hs) new.seat (Some s) i p);
        known = λ i s p. ⊎_elim (λ t. law.seats.known i s t) (λ t. (m.seat s t.1).0) (at_push (seats_of hs) new.seat (Some s) i p);
      }

  scans_pushed : ClockLaw a ws hs → Joining a ws hs new → ScansFit (hs ++ new ∷ [])
  scans_pushed law m i j s p q fi fj scanning inside seat =
      ⊎_elim
      (λ t. ⊎_elim
      (λ u. law.scans i j s p q t u scanning inside seat)
      (λ u. absurd (m.outside (ap (λ (x : Holder). x.phase) u.1 ∙ inside)))
      (at_push hs new q j fj))
      (λ t. absurd (m.idle (ap (λ (x : Holder). x.task) t.1 ∙ scanning)))
      (at_push hs new p i fi)

  sum_pushed : Joining a ws hs new → all_advances (hs ++ new ∷ []) ≡ all_advances hs
  sum_pushed m = sum_by-append (λ (x : Holder). x.advances) hs (new ∷ []) ∙ (let e : new.advances ≡ 0 = m.advances in omega arith)

  pub pushed : ClockLaw a ws hs → Joining a ws hs new → Later a ws ws (hs ++ new ∷ [])
  pushed law m =
      record {
        law = record {
          numbers = law.numbers;
          hands = law.hands;
          holders = fits_pushed law m;
          seats = subst (λ (l : List (Option ℕ)). OneHolderEach a l) (sym seats_pushed) (one_each law m);
          unmade = λ s known none.
              law.unmade s known (λ i g. none i (subst (λ (l : List (Option ℕ)). get_elem? l i ≡ some (Some s)) (sym seats_pushed) (at_longer (seats_of hs) (new.seat ∷ []) i (Some s) g)));
          presence = law.presence;
          seat_words = law.seat_words;
          scans = scans_pushed law m;
          balance = law.balance ∙ ap (λ (n : ℕ). a.start + 2 * n) (sym (sum_pushed m));
        };
        write_not_lower = omega arith;
        read_not_lower = omega arith;
      }

none_is_some : (s : ℕ) → (let o : Option ℕ = None in o ≡ Some s) → ⊥
none_is_some s e = cc

-- ---- a note, which any holder may split off

pub note-keeps : NoteKeeps
note-keeps a id h ws hs law at =
    let f : HolderFits a ws h = law.holders id h at in
    pushed a ws hs (step.note_of h) law record {
      fits = record { seen = f.seen; floor = f.floor; seat = refl; phase = refl; presence = λ s e. absurd (none_is_some s e); task = tt };
      advances = refl;
      outside = λ e. cc;
      idle = λ e. cc;
      seat = λ s e. absurd (none_is_some s e);
    }

-- ---- a worker of a seat that has none

pub worker-keeps : WorkerKeeps
worker-keeps a id s h ws hs law at known none =
    let f : HolderFits a ws h = law.holders id h at in
    pushed a ws hs (step.worker_of s h) law record {
      fits = record { seen = f.seen; floor = f.floor; seat = refl; phase = (law.unmade s known none).0; presence = λ t e. let same_seat : s ≡ t = cc in subst (λ (x : ℕ). IsPresent (presence_word a ws) x) same_seat (law.unmade s known none).1; task = tt };
      advances = refl;
      outside = λ e. cc;
      idle = λ e. cc;
      seat = λ t e. let same_seat : s ≡ t = cc in subst (λ (x : ℕ). (x < a.seats) × HasNoHolder (seats_of hs) x) same_seat (known, none);
    }
