-- The workers after a `give` line stand for one line more.
use Rattle.std.proofs.Common.{◌≡◌, ℕ, ◌<◌, ◌≤◌, inl, inr, List, ◌∷◌, false, cond, Option, None, Some, refl, sym, ap, ◌∙◌, subst, length, get_or, eq-eqb}
use Rattle.std.proofs.lemmas.Bool.{cases_eq, ne_eqb, and_left, and_right, and_from, cond-true, cond-false}
use Rattle.std.proofs.lemmas.List.{length-set, get_or-set_same, get_or-set_other}
use Rattle.std.proofs.lemmas.Option.{same_Some, none-some}
use Rattle.std.specs.Prelude.{◌==◌, ◌&&◌, slice_set}
use Rattle.smr_clock.specs.declared.clock.Clock.{Clock}
use Rattle.smr_clock.specs.declared.host.Host.{Ghosts}
use Rattle.trace_text.specs.declared.trace.Between.TheVariants.{Give}
use Rattle.trace_text.specs.Lines.{Line, Moves}
use Rattle.trace_text.specs.Reading.{held}
use Rattle.uma_seat.specs.Seat.{ledger_of}
use Rattle.replay_worker.specs.declared.worker.Held.{Held}
use Rattle.replay_worker.specs.declared.worker_run.WorkerRun.{WorkerRun}
use Rattle.replay_worker.specs.declared.worker.Worker.{Worker}
use Rattle.replay_worker.specs.Attendance.{worker_in}
use Rattle.replay_worker.specs.Giving.{Gives, MovesOn, PutsInto, TakesFrom, with_slots}
use Rattle.replay_worker.specs.Items.{CountedZone}
use Rattle.replay_worker.specs.Slots.{slot_at, filled, with_held, emptied}
use Rattle.replay_worker.specs.Stands.{NamesZone, Stands}
use Rattle.replay_worker.specs.Together.{AllStand, crew}
use Rattle.replay_worker.specs.Worker.{FitsZones, IsHeld, phase_of}
use Rattle.replay_worker.proofs.Attending.{slots_with, worker_with}
use Rattle.replay_worker.proofs.Belongs.{AreHeld, AreHeld-with}
use Rattle.replay_worker.proofs.GiveSums.{adds_up_on, crew_at, live_gives, rest_gives, worker_of}
use Rattle.replay_worker.proofs.LedgerSteps.{LedgerStands-other}
use Rattle.replay_worker.proofs.EntrySteps.{entries_kept}
use Rattle.replay_worker.proofs.Numbers.{below_as, below_next, few_as}
use Rattle.replay_worker.proofs.SlotLemmas.{slot_at-with_same, slot_at-with_other, slot_at-emptied_same, slot_at-emptied_other, length-emptied, length-filled}

module _ {N H C S Part : Type 0} {h : Ghosts H Part} where
  -- all workers fit and stand for these lines, by their place
  abbrev AllAt : List (CountedZone H Part h) → Clock H Part → List Line → List (WorkerRun N H C S Part h) → Type 0
  AllAt zones clock lines workers = (n : ℕ) (d : WorkerRun N H C S Part h) → n < length workers → FitsZones zones clock (worker_in (get_or workers n d)) × Stands zones clock n lines (worker_in (get_or workers n d))

-- what is known of the slots of each worker, as a function
abbrev Reads : List Line → ℕ → List (Option Held) → Type 0
Reads lines n slots = (slot : ℕ) (it : Held) → slot_at slots slot ≡ Some it → held lines n slot ≡ Some it.zone

module _ {H Part : Type 0} {h : Ghosts H Part} where
  -- other slots in a worker that fits and stands
  moved : (zones : List (CountedZone H Part h)) (clock : Clock H Part) (n : ℕ) (lines : List Line) (giver from taker to : ℕ) (w : Worker H Part h) (slots : List (Option Held))
      → FitsZones zones clock w × Stands zones clock n lines w → AreHeld zones slots → length slots ≤ 65536 → Reads (Moves (Give giver from taker to) ∷ lines) n slots
      → FitsZones zones clock (record w { slots = slots }) × Stands zones clock n (Moves (Give giver from taker to) ∷ lines) (record w { slots = slots })
  moved zones clock n lines giver from taker to w slots was are few reads =
      let line : Line = Moves (Give giver from taker to) in (
        record { seats = was.0.seats; pass = was.0.pass; slots = are },
        record {
          ledgers = λ z zone seat is_zone at. LedgerStands-other (NamesZone zone) n z lines line (ledger_of seat) refl refl (was.1.ledgers z zone seat is_zone at);
          filled = reads;
          few = few;
          outside = was.1.outside;
          between = was.1.between;
          entries = entries_kept n line lines w.entered w.late w.entered w.late (phase_of w) (phase_of w) refl refl refl (λ inner. (inner, refl)) was.1.entries;
          begun = was.1.begun;
          overtaken = was.1.overtaken;
        },
      )

-- ---- the reading of a slot after the line

at_taker : (lines : List Line) (giver from taker to : ℕ) → held (Moves (Give giver from taker to) ∷ lines) taker to ≡ held lines giver from
at_taker lines giver from taker to =
    cond-true ((taker == taker) && (to == to)) (held lines giver from) (cond ((giver == taker) && (from == to)) None (held lines taker to))
    (and_from (taker == taker) (to == to) (eq-eqb taker taker refl) (eq-eqb to to refl))

elsewhere : (lines : List Line) (giver from taker to w slot : ℕ) → ((taker == w) && (to == slot)) ≡ false → ((giver == w) && (from == slot)) ≡ false
    → held (Moves (Give giver from taker to) ∷ lines) w slot ≡ held lines w slot
elsewhere lines giver from taker to w slot no_taker no_giver =
    cond-false ((taker == w) && (to == slot)) (held lines giver from) (cond ((giver == w) && (from == slot)) None (held lines w slot)) no_taker
    ∙ cond-false ((giver == w) && (from == slot)) None (held lines w slot) no_giver

-- What a slot holds that the line doesn't fill, the reading goes on holding there. The slot that it empties holds nothing.
kept : (lines : List Line) (giver from taker to n : ℕ) (slots : List (Option Held)) (slot : ℕ) (it : Held) → Reads lines n slots → (n ≡ giver → slot_at slots from ≡ None)
    → ((taker == n) && (to == slot)) ≡ false → slot_at slots slot ≡ Some it → held (Moves (Give giver from taker to) ∷ lines) n slot ≡ Some it.zone
kept lines giver from taker to n slots slot it reads gone no_taker found = elim (cases_eq giver n) [
  | inl same ↦ elim (cases_eq from slot) [
    | inl here ↦
        let P : ℕ → Type 0 = λ i. slot_at slots i ≡ None in
        absurd (none-some it (sym (subst P here (gone (sym same))) ∙ found))
    | inr apart ↦ elsewhere lines giver from taker to n slot no_taker (and_right (giver == n) (from == slot) (ne_eqb from slot apart)) ∙ reads slot it found
  ]
  | inr apart ↦ elsewhere lines giver from taker to n slot no_taker (and_left (giver == n) (from == slot) (ne_eqb giver n apart)) ∙ reads slot it found
]

module _ {N H C S Part : Type 0} {h : Ghosts H Part} where
  -- ---- the taking

  -- the workers without what was taken stand for the lines as before
  taken : (zones : List (CountedZone H Part h)) (clock : Clock H Part) (lines : List Line) (n slot : ℕ) (old between : List (WorkerRun N H C S Part h)) (got : Option Held) → TakesFrom n slot old got between
      → AllAt zones clock lines old → AllAt zones clock lines between
  taken zones clock lines n slot old between got takes all m d below =
      let before = takes.sets.before in
      let after : WorkerRun N H C S Part h = with_slots before (emptied (worker_in before).slots slot) in
      let size : length between ≡ length old = ap length takes.sets.set ∙ length-set old n after in
      let within : m < length old = below_as below (sym size) in
      let F : WorkerRun N H C S Part h → Type 0 = λ r. FitsZones zones clock (worker_in r) × Stands zones clock m lines (worker_in r) in
      let G : List (WorkerRun N H C S Part h) → Type 0 = λ list. F (get_or list m d) in
      subst G (sym takes.sets.set) (elim (cases_eq m n) [
        | inl same ↦
            let was : F before = subst F (takes.sets.at d) (let I : ℕ → Type 0 = λ i. F (get_or old i d) in subst I same (all m d within)) in
            let less : (at : ℕ) (it : Held) → slot_at (emptied (worker_in before).slots slot) at ≡ Some it → slot_at (worker_in before).slots at ≡ Some it =
            (λ at it found. elim (cases_eq at slot) [
              | inl here ↦
                  let P : ℕ → Type 0 = λ i. slot_at (emptied (worker_in before).slots slot) i ≡ Some it in
                  absurd (none-some it (sym (slot_at-emptied_same (worker_in before).slots slot) ∙ subst P here found))
              | inr apart ↦ sym (slot_at-emptied_other (worker_in before).slots slot at apart) ∙ found
            ]) in
            let G' : Worker H Part h → Type 0 = λ w. FitsZones zones clock w × Stands zones clock m lines w in
            let now : F after = subst G' (sym (worker_with before.attendance (emptied (worker_in before).slots slot))) (
              record { seats = was.0.seats; pass = was.0.pass; slots = λ at it found. was.0.slots at it (less at it found) },
              record {
                ledgers = was.1.ledgers;
                filled = λ at it found. was.1.filled at it (less at it found);
                few = few_as (length-emptied (worker_in before).slots slot) was.1.few;
                outside = was.1.outside;
                between = was.1.between;
                entries = was.1.entries;
                begun = was.1.begun;
                overtaken = was.1.overtaken;
              },
            ) in
            let K : ℕ → Type 0 = λ i. F (get_or (slice_set old n after) i d) in
            subst K (sym same) (subst F (sym (get_or-set_same old n after d (let L : ℕ → Type 0 = λ i. i < length old in subst L same within))) now)
        | inr apart ↦ subst F (sym (get_or-set_other old n m after d apart)) (all m d within)
      ])

module _ {H Part : Type 0} {h : Ghosts H Part} where
  -- ---- the putting

  -- what was taken: the reading holds it where the giver had it, and it is at home in its zone
  record WasHeld (zones : List (CountedZone H Part h)) (lines : List Line) (giver from : ℕ) (got : Option Held) : Type 0 where
    pub read : (it : Held) → got ≡ Some it → held lines giver from ≡ Some it.zone
    pub home : (it : Held) → got ≡ Some it → IsHeld zones it

  -- the taker's slots, of which the slot was empty
  put_reads : (zones : List (CountedZone H Part h)) (lines : List Line) (giver from taker to : ℕ) (slots : List (Option Held)) (got : Option Held) → WasHeld zones lines giver from got → slot_at slots to ≡ None
      → Reads lines taker slots → (taker ≡ giver → slot_at slots from ≡ None) → Reads (Moves (Give giver from taker to) ∷ lines) taker (filled slots to got)
  put_reads zones lines giver from taker to slots (Some new) was empty reads gone at it found = elim (cases_eq at to) [
    | inl same ↦
        let P : ℕ → Type 0 = λ i. slot_at (with_held slots to new) i ≡ Some it in
        let is : new ≡ it = same_Some new it (sym (slot_at-with_same slots to new) ∙ subst P same found) in
        let Q : ℕ → Type 0 = λ i. held (Moves (Give giver from taker to) ∷ lines) taker i ≡ Some it.zone in
        subst Q (sym same) (at_taker lines giver from taker to ∙ was.read it (ap Some is))
    | inr apart ↦ kept lines giver from taker to taker slots at it reads gone
        (and_right (taker == taker) (to == at) (ne_eqb to at (λ e. apart (sym e))))
        (sym (slot_at-with_other slots to at new apart) ∙ found)
  ]
  put_reads zones lines giver from taker to slots None was empty reads gone at it found = elim (cases_eq at to) [
    | inl same ↦
        let P : ℕ → Type 0 = λ i. slot_at slots i ≡ Some it in
        absurd (none-some it (sym empty ∙ subst P same found))
    | inr apart ↦ kept lines giver from taker to taker slots at it reads gone
        (and_right (taker == taker) (to == at) (ne_eqb to at (λ e. apart (sym e)))) found
  ]

  put_held : (zones : List (CountedZone H Part h)) (lines : List Line) (giver from : ℕ) (to : ℕ) (slots : List (Option Held)) (got : Option Held) → WasHeld zones lines giver from got → AreHeld zones slots → AreHeld zones (filled slots to got)
  put_held zones lines giver from to slots (Some new) was are = AreHeld-with zones slots to new (was.home new refl) are
  put_held zones lines giver from to slots None was are = are

module _ {N H C S Part : Type 0} {h : Ghosts H Part} where
  put : (zones : List (CountedZone H Part h)) (clock : Clock H Part) (lines : List Line) (giver from taker to : ℕ) (between new : List (WorkerRun N H C S Part h)) (got : Option Held) → PutsInto taker to got between new
      → WasHeld zones lines giver from got → taker < length between → to ≤ 65535
      → ((d : WorkerRun N H C S Part h) → slot_at (worker_in (get_or between giver d)).slots from ≡ None) → ((d : WorkerRun N H C S Part h) → slot_at (worker_in (get_or between taker d)).slots to ≡ None)
      → AllAt zones clock lines between → AllAt zones clock (Moves (Give giver from taker to) ∷ lines) new
  put zones clock lines giver from taker to between new got puts was within least gone empty all m d below =
      let before = puts.sets.before in
      let slots = (worker_in before).slots in
      let after : WorkerRun N H C S Part h = with_slots before (filled slots to got) in
      let size : length new ≡ length between = ap length puts.sets.set ∙ length-set between taker after in
      let inside : m < length between = below_as below (sym size) in
      let F : WorkerRun N H C S Part h → Type 0 = λ r. FitsZones zones clock (worker_in r) × Stands zones clock m lines (worker_in r) in
      let F' : WorkerRun N H C S Part h → Type 0 = λ r. FitsZones zones clock (worker_in r) × Stands zones clock m (Moves (Give giver from taker to) ∷ lines) (worker_in r) in
      let G : List (WorkerRun N H C S Part h) → Type 0 = λ list. F' (get_or list m d) in
      subst G (sym puts.sets.set) (elim (cases_eq m taker) [
        | inl same ↦
            let at_before : F before = subst F (puts.sets.at d) (let I : ℕ → Type 0 = λ i. F (get_or between i d) in subst I same (all m d inside)) in
            let E : WorkerRun N H C S Part h → Type 0 = λ r. slot_at (worker_in r).slots to ≡ None in
            let Z : WorkerRun N H C S Part h → Type 0 = λ r. slot_at (worker_in r).slots from ≡ None in
            let none_before : E before = subst E (puts.sets.at d) (empty d) in
            let mine : FitsZones zones clock (worker_in before) × Stands zones clock taker lines (worker_in before) =
            let T : ℕ → Type 0 = λ i. FitsZones zones clock (worker_in before) × Stands zones clock i lines (worker_in before) in subst T same at_before in
            let gone_before : taker ≡ giver → Z before =
            (λ e. let I : ℕ → Type 0 = λ i. Z (get_or between i d) in subst Z (puts.sets.at d) (subst I (sym e) (gone d))) in
            let G' : Worker H Part h → Type 0 = λ w. FitsZones zones clock w × Stands zones clock taker (Moves (Give giver from taker to) ∷ lines) w in
            let now : FitsZones zones clock (worker_in after) × Stands zones clock taker (Moves (Give giver from taker to) ∷ lines) (worker_in after) =
            subst G' (sym (worker_with before.attendance (filled slots to got))) (moved zones clock taker lines giver from taker to (worker_in before) (filled slots to got) mine (put_held zones lines giver from to slots got was mine.0.slots)
            (length-filled slots to 65536 got mine.1.few (below_next least))
            (put_reads zones lines giver from taker to slots got was none_before mine.1.filled gone_before)) in
            let K : ℕ → Type 0 = λ i. FitsZones zones clock (worker_in (get_or (slice_set between taker after) i d)) × Stands zones clock i (Moves (Give giver from taker to) ∷ lines) (worker_in (get_or (slice_set between taker after) i d)) in
            let M : WorkerRun N H C S Part h → Type 0 = λ r. FitsZones zones clock (worker_in r) × Stands zones clock taker (Moves (Give giver from taker to) ∷ lines) (worker_in r) in
            subst K (sym same) (subst M (sym (get_or-set_same between taker after d within)) now)
        | inr apart ↦
            let other = get_or between m d in
            let here : F other = all m d inside in
            let gone_here : m ≡ giver → slot_at (worker_in other).slots from ≡ None =
            (λ e. let I : ℕ → Type 0 = λ i. slot_at (worker_in (get_or between i d)).slots from ≡ None in subst I (sym e) (gone d)) in
            subst F' (sym (get_or-set_other between taker m after d apart))
            (moved zones clock m lines giver from taker to (worker_in other) (worker_in other).slots here here.0.slots here.1.few
            (λ at it found. kept lines giver from taker to m (worker_in other).slots at it here.1.filled gone_here
            (and_left (taker == m) (to == at) (ne_eqb taker m (λ e. apart (sym e)))) found))
      ])

-- ---- the line

none_from : (o : Option Held) → ((it : Held) → o ≡ Some it → ⊥) → o ≡ None
none_from None never = refl
none_from (Some it) never = absurd (never it refl)

module _ {N H C S Part : Type 0} {h : Ghosts H Part} where
  all_at : (zones : List (CountedZone H Part h)) (clock : Clock H Part) (lines : List Line) (workers : List (WorkerRun N H C S Part h)) → AllStand zones clock lines (crew workers) → AllAt zones clock lines workers
  all_at zones clock lines workers all n d below =
      let at = crew_at workers n d below in (all.fits n (worker_in (get_or workers n d)) at, all.stands n (worker_in (get_or workers n d)) at)

  all_stand : (zones : List (CountedZone H Part h)) (clock : Clock H Part) (lines : List Line) (workers : List (WorkerRun N H C S Part h)) → AllAt zones clock lines workers → AllStand zones clock lines (crew workers)
  all_stand zones clock lines workers all = record {
    fits = worker_of (λ n w. FitsZones zones clock w) workers (λ n d below. (all n d below).0);
    stands = worker_of (λ n w. Stands zones clock n lines w) workers (λ n d below. (all n d below).1);
  }

  length_between : (giver slot taker slot2 : ℕ) (old new : List (WorkerRun N H C S Part h)) (gives : Gives giver slot taker slot2 old new) → length gives.between ≡ length old
  length_between giver slot taker slot2 old new gives =
      let before = gives.takes.sets.before in
      let after : WorkerRun N H C S Part h = with_slots before (emptied (worker_in before).slots slot) in
      ap length gives.takes.sets.set ∙ length-set old giver after

  -- the taker's slot, as the reading of the lines has it
  taker_empty : (zones : List (CountedZone H Part h)) (clock : Clock H Part) (lines : List Line) (taker slot2 : ℕ) (workers : List (WorkerRun N H C S Part h)) → taker < length workers → held lines taker slot2 ≡ None
      → AllAt zones clock lines workers → (d : WorkerRun N H C S Part h) → slot_at (worker_in (get_or workers taker d)).slots slot2 ≡ None
  taker_empty zones clock lines taker slot2 workers within empty all d =
      none_from (slot_at (worker_in (get_or workers taker d)).slots slot2)
      (λ it found. absurd (none-some it.zone (sym empty ∙ (all taker d within).1.filled slot2 it found)))

  moves_at : (zones : List (CountedZone H Part h)) (clock : Clock H Part) (lines : List Line) (giver slot taker slot2 : ℕ) (old new : List (WorkerRun N H C S Part h)) → giver < length old → taker < length old
      → (gives : Gives giver slot taker slot2 old new) → slot2 ≤ 65535 → held lines taker slot2 ≡ None → AllAt zones clock lines old → AllAt zones clock (Moves (Give giver slot taker slot2) ∷ lines) new
  moves_at zones clock lines giver slot taker slot2 old new is_giver is_taker gives least no_item all =
      let before = gives.takes.sets.before in
      let after : WorkerRun N H C S Part h = with_slots before (emptied (worker_in before).slots slot) in
      let middle = gives.between in
      let within : taker < length middle = below_as is_taker (length_between giver slot taker slot2 old new gives) in
      let stand = taken zones clock lines giver slot old middle gives.held gives.takes all in
      let E' : List (Option Held) → Type 0 = λ slots. slot_at slots slot ≡ None in
      let gone : (d : WorkerRun N H C S Part h) → slot_at (worker_in (get_or middle giver d)).slots slot ≡ None =
      (λ d. let P : List (WorkerRun N H C S Part h) → Type 0 = λ list. slot_at (worker_in (get_or list giver d)).slots slot ≡ None in
      let Q : WorkerRun N H C S Part h → Type 0 = λ r. slot_at (worker_in r).slots slot ≡ None in
      subst P (sym gives.takes.sets.set) (subst Q (sym (get_or-set_same old giver after d is_giver))
      (subst E' (sym (slots_with before.attendance (emptied (worker_in before).slots slot))) (slot_at-emptied_same (worker_in before).slots slot)))) in
      let was : WasHeld zones lines giver slot gives.held = record {
        read = λ it is. (all giver before is_giver).1.filled slot it (sym (gives.takes.took before) ∙ is);
        home = λ it is. (all giver before is_giver).0.slots slot it (sym (gives.takes.took before) ∙ is);
      } in
      put zones clock lines giver slot taker slot2 middle new gives.held gives.puts was within least gone (taker_empty zones clock lines taker slot2 middle within no_item stand) stand

  pub moves_on : (giver slot taker slot2 : ℕ) (old new : List (WorkerRun N H C S Part h)) → giver < length old → taker < length old → slot2 ≤ 65535 → Gives giver slot taker slot2 old new → MovesOn giver slot taker slot2 old new
  moves_on giver slot taker slot2 old new is_giver is_taker least gives zones clock lines no_item stands =
      let all = all_at zones clock lines old stands in
      let middle = gives.between in
      let within : taker < length middle = below_as is_taker (length_between giver slot taker slot2 old new gives) in
      let between = taken zones clock lines giver slot old middle gives.held gives.takes all in
      let put = gives.puts.sets in
      let E : WorkerRun N H C S Part h → Type 0 = λ r. slot_at (worker_in r).slots slot2 ≡ None in
      let empty : E put.before = subst E (put.at put.before) (taker_empty zones clock lines taker slot2 middle within no_item between put.before) in
      record {
        stand = all_stand zones clock (Moves (Give giver slot taker slot2) ∷ lines) new (moves_at zones clock lines giver slot taker slot2 old new is_giver is_taker gives least no_item all);
        adds_up = λ z. adds_up_on z old new (rest_gives giver slot taker slot2 old new gives) (live_gives z giver slot taker slot2 old new gives is_giver within empty);
      }
