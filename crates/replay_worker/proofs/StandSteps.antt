-- A worker after one line more stands for one line more.
use Rattle.std.proofs.Common.{◌≡◌, ◌≢◌, ℕ, ◌+◌, ◌-◌, ◌<◌, ◌≤◌, inl, inr, ◌⊎◌, List, ◌∷◌, Bool, true, false, true≢false, Option, None, Some, refl, sym, ap, ◌∙◌, subst, arith, le_trans, length}
use Rattle.std.proofs.lemmas.Bool.{cases_eq}
use Rattle.std.proofs.lemmas.Bool.Decides.{nat_tests}
use Rattle.std.proofs.lemmas.List.{length-set, get_or-set_same, get_or-set_other}
use Rattle.std.proofs.lemmas.Option.{slice_get_within, get_or_from_slice_get, slice_get-get_or, same_Some, none-some}
use Rattle.std.specs.Prelude.{slice_get, slice_set, option_map}
use Rattle.smr_clock.specs.declared.clock.Clock.{Clock}
use Rattle.smr_clock.specs.declared.host.Host.{Ghosts}
use Rattle.smr_core.specs.declared.holder.Phase.{Phase}
use Rattle.smr_core.specs.declared.holder.Phase.TheVariants.{Outside, Inside}
use Rattle.trace_text.specs.declared.trace.Op.{Op}
use Rattle.trace_text.specs.declared.trace.Op.TheVariants.{Alloc, Free, Enter, Exit, Prealloc, Bind, Unbind, Look, Trim, Drain, DrainSeat, Away, Back}
use Rattle.trace_text.specs.Lines.{Line, Does}
use Rattle.trace_text.specs.Reading.{held, held_after, in_section, open_after}
use Rattle.uma_seat.specs.Seat.{ledger_of}
use Rattle.uma_zone.specs.declared.zone.alloc.AllocRefused.TheVariants.{Refused}
use Rattle.uma_zone.specs.Alloc.{AllocIsRefused}
use Rattle.zone_stats.specs.declared.ledger.SeatLedger.{SeatLedger}
use Rattle.zone_stats.specs.LedgerSteps.{CountsCtor}
use Rattle.zone_stats.specs.declared.refusal.Refusal.{Refusal}
use Rattle.zone_stats.specs.declared.refusal.Refusal.TheVariants.{AtLimit, Reserved, Full, Init, Ctor}
use Rattle.replay_worker.specs.declared.worker.Held.{Held}
use Rattle.replay_worker.specs.declared.worker.Worker.{Worker}
use Rattle.replay_worker.specs.Hooks.{refusal_of}
use Rattle.replay_worker.specs.Counting.{is_ask, is_ask_with_arg, is_section}
use Rattle.replay_worker.specs.EntriesStand.{EntriesStand}
use Rattle.replay_worker.specs.Items.{CountedSeat, CountedZone, LiveItem}
use Rattle.replay_worker.specs.LedgerStands.{LedgerStands}
use Rattle.replay_worker.specs.Live.{holding}
use Rattle.replay_worker.specs.Performs.{Allocs, Frees, FreesSlot, EntersInTime, EntersLate, Leaves, KeepsHolds, KeepsSection, Reclaims, IsBetween, CanPerform, Performs, ask_of}
use Rattle.replay_worker.specs.Requests.{Ends}
use Rattle.replay_worker.specs.Slots.{slot_at, filled, with_held, emptied}
use Rattle.replay_worker.specs.Stands.{NamesZone, Stands}
use Rattle.smr_clock.specs.Belongs.{IsPassOf, setup_of, view}
use Rattle.smr_clock.specs.declared.polls.Overtaken.{Overtaken}
use Rattle.smr_clock.specs.declared.clock.Setup.{Setup}
use Rattle.smr_clock.specs.Sections.{Misses}
use Rattle.replay_worker.specs.Worker.{phase_of, seen_of}
use Rattle.replay_worker.proofs.Numbers.{still_some, far_above, below_as, below_next, few_as}
use Rattle.replay_worker.proofs.EntrySteps.{entries_entered, entries_kept, entries_late, looks_up, wants}
use Rattle.replay_worker.proofs.LedgerSteps.{LedgerStands-other, LedgerStands-other_zone, LedgerStands-served, LedgerStands-turned, LedgerStands-dropped, LedgerStands-freed}
use Rattle.replay_worker.proofs.LineCounts.{is_enter-own, is_look-own, is_section-look}
use Rattle.replay_worker.proofs.ReclaimSteps.{Keeping, drained_keeps, emptied_keeps, trimmed_keeps}
use Rattle.replay_worker.proofs.SlotLemmas.{slot_at-with_same, slot_at-with_other, slot_at-emptied_same, slot_at-emptied_other, emptied_none, length-emptied, length-filled}
use Rattle.replay_worker.proofs.SlotReading.{held-own, in_section-own, held-alloc_same, held-alloc_other, held-free_other}

module _ {H Part : Type 0} {h : Ghosts H Part} where
  -- ---- the seats

  -- the seat that stands at a place after one was written
  seat_same : (seats others : List (CountedSeat H Part h)) (z w : ℕ) (before after seat : CountedSeat H Part h) → z ≡ w → slice_get seats w ≡ Some before
      → others ≡ slice_set seats w after → slice_get others z ≡ Some seat → after ≡ seat
  seat_same seats others z w before after seat same at is found =
      let P : List (CountedSeat H Part h) → Type 0 = λ list. slice_get list z ≡ Some seat in
      let Q : ℕ → Type 0 = λ i. slice_get (slice_set seats w after) i ≡ Some seat in
      let here : slice_get (slice_set seats w after) w ≡ Some seat = subst Q same (subst P is found) in
      sym (get_or-set_same seats w after after (slice_get_within seats w before at))
      ∙ get_or_from_slice_get (slice_set seats w after) w seat after here

  seat_other : (seats others : List (CountedSeat H Part h)) (z w : ℕ) (after seat : CountedSeat H Part h) → z ≢ w
      → others ≡ slice_set seats w after → slice_get others z ≡ Some seat → slice_get seats z ≡ Some seat
  seat_other seats others z w after seat apart is found =
      let P : List (CountedSeat H Part h) → Type 0 = λ list. slice_get list z ≡ Some seat in
      let there : slice_get (slice_set seats w after) z ≡ Some seat = subst P is found in
      let within : z < length (slice_set seats w after) = slice_get_within (slice_set seats w after) z seat there in
      let below : z < length seats = below_as within (sym (length-set seats w after)) in
      slice_get-get_or seats z seat below
      ∙ ap Some (sym (get_or-set_other seats w z after seat apart) ∙ get_or_from_slice_get (slice_set seats w after) z seat seat there)

  -- What is said of each zone with its seat, where one seat is written: of this one, and of each other one as it was.
  pub zones_go : (zones : List (CountedZone H Part h)) (old new : List (CountedSeat H Part h)) (w : ℕ) (of : CountedZone H Part h) (before after : CountedSeat H Part h) (P : ℕ → CountedZone H Part h → CountedSeat H Part h → Type 0)
      → slice_get zones w ≡ Some of → slice_get old w ≡ Some before → new ≡ slice_set old w after
      → P w of after → ((z : ℕ) (zone : CountedZone H Part h) (seat : CountedSeat H Part h) → z ≢ w → slice_get zones z ≡ Some zone → slice_get old z ≡ Some seat → P z zone seat)
      → (z : ℕ) (zone : CountedZone H Part h) (seat : CountedSeat H Part h) → slice_get zones z ≡ Some zone → slice_get new z ≡ Some seat → P z zone seat
  zones_go zones old new w of before after P is_zone at is here there z zone seat is_other found = elim (cases_eq z w) [
    | inl same ↦
        let Z : ℕ → Type 0 = λ i. slice_get zones i ≡ Some zone in
        let of_is : of ≡ zone = same_Some of zone (sym is_zone ∙ subst Z same is_other) in
        let after_is : after ≡ seat = seat_same old new z w before after seat same at is found in
        let A : CountedZone H Part h → Type 0 = λ x. P w x after in
        let B : CountedSeat H Part h → Type 0 = λ x. P w zone x in
        let C : ℕ → Type 0 = λ i. P i zone seat in
        subst C (sym same) (subst B after_is (subst A of_is here))
    | inr apart ↦ there z zone seat apart is_other (seat_other old new z w after seat apart is found)
  ]

-- ---- sections

apart : (phase : Phase) → phase ≡ Inside → phase ≡ Outside → ⊥
apart phase inside outside = let never : Inside ≡ Outside = sym inside ∙ outside in cc

not_false : (b : Bool) → (b ≡ false → ⊥) → b ≡ true
not_false true never = refl
not_false false never = absurd (never refl)

not_true : (b : Bool) → (b ≡ true → ⊥) → b ≡ false
not_true true never = absurd (never refl)
not_true false never = refl

-- ---- a request

-- only the argument 0 is taken
accepted_zero : (arg : ℕ) → arg ≤ 254 → refusal_of arg ≡ None → arg ≡ 0
accepted_zero arg few accepts = elim (cases_eq arg 0) [
  | inl is ↦ is
  | inr some ↦ absurd (grind (arith, nat_tests))
]

-- and another one is refused with itself as the code
refused_some : (arg code : ℕ) → refusal_of arg ≡ Some code → (0 < arg) × (code ≡ arg)
refused_some arg code refuses = elim (cases_eq arg 0) [
  | inl is ↦ absurd (grind (arith, nat_tests))
  | inr some ↦ (omega arith, grind (arith, nat_tests))
]

module _ {H Part : Type 0} {h : Ghosts H Part} where
  -- the ledger of a refused request
  ledger_refused : (zone : CountedZone H Part h) (n z slot arg : ℕ) (reserve : Bool) (lines : List Line) (before after : CountedSeat H Part h) (why : Refusal)
      → AllocIsRefused zone (ask_of arg reserve) before after (Refused why)
      → LedgerStands (NamesZone zone) n z lines (ledger_of before)
      → LedgerStands (NamesZone zone) n z (Does n (Alloc z slot arg reserve) ∷ lines) (ledger_of after)
  ledger_refused zone n z slot arg reserve lines before after (Ctor code) refuses stands =
      let some = refused_some arg code refuses.refused in
      let P : ℕ → Type 0 = λ c. CountsCtor (ledger_of before) (ledger_of after) c in
      LedgerStands-dropped (NamesZone zone) n z slot arg reserve lines (ledger_of before) (ledger_of after) some.0 (subst P some.1 refuses.counted) stands
  ledger_refused zone n z slot arg reserve lines before after (AtLimit out limit) refuses stands =
      LedgerStands-turned (NamesZone zone) n z slot arg reserve lines (ledger_of before) (ledger_of after) (AtLimit out limit) refl (reserve, refuses.names) refuses.counted stands
  ledger_refused zone n z slot arg reserve lines before after (Reserved free kept) refuses stands =
      LedgerStands-turned (NamesZone zone) n z slot arg reserve lines (ledger_of before) (ledger_of after) (Reserved free kept) refl (reserve, refuses.names) refuses.counted stands
  ledger_refused zone n z slot arg reserve lines before after (Full slabs made) refuses stands =
      LedgerStands-turned (NamesZone zone) n z slot arg reserve lines (ledger_of before) (ledger_of after) (Full slabs made) refl (reserve, refuses.names) refuses.counted stands
  ledger_refused zone n z slot arg reserve lines before after (Init code) refuses stands =
      LedgerStands-turned (NamesZone zone) n z slot arg reserve lines (ledger_of before) (ledger_of after) (Init code) refl (reserve, refuses.names) refuses.counted stands

  -- the ledger of a request, however it ended
  ledger_ends : (zone : CountedZone H Part h) (n z slot arg : ℕ) (reserve : Bool) (lines : List Line) (before after : CountedSeat H Part h) (got : Option LiveItem) → arg ≤ 254
      → Ends zone (ask_of arg reserve) before got after
      → LedgerStands (NamesZone zone) n z lines (ledger_of before)
      → LedgerStands (NamesZone zone) n z (Does n (Alloc z slot arg reserve) ∷ lines) (ledger_of after)
  ledger_ends zone n z slot arg reserve lines before after (Some item) few ends stands =
      LedgerStands-served (NamesZone zone) n z slot arg reserve lines (ledger_of before) (ledger_of after) (accepted_zero arg few ends.0.built.accepted) ends.0.counted stands
  ledger_ends zone n z slot arg reserve lines before after None few ends stands =
      ledger_refused zone n z slot arg reserve lines before after ends.0 ends.1 stands

-- ---- the slots

abbrev ReadsAs : ℕ → List Line → List (Option Held) → Type 0
ReadsAs n lines slots = (slot : ℕ) (it : Held) → slot_at slots slot ≡ Some it → held lines n slot ≡ Some it.zone

reads_alloc : (n z slot arg : ℕ) (reserve : Bool) (lines : List Line) (slots : List (Option Held)) (got : Option LiveItem) → slot_at slots slot ≡ None
    → ReadsAs n lines slots → ReadsAs n (Does n (Alloc z slot arg reserve) ∷ lines) (filled slots slot (option_map (holding z) got))
reads_alloc n z slot arg reserve lines slots (Some item) empty reads at it found = elim (cases_eq at slot) [
  | inl same ↦
      let P : ℕ → Type 0 = λ i. slot_at (with_held slots slot (holding z item)) i ≡ Some it in
      let is : holding z item ≡ it = same_Some (holding z item) it (sym (slot_at-with_same slots slot (holding z item)) ∙ subst P same found) in
      let Q : ℕ → Type 0 = λ i. held (Does n (Alloc z slot arg reserve) ∷ lines) n i ≡ Some it.zone in
      subst Q (sym same) (held-alloc_same lines n z slot arg reserve ∙ ap (λ (h : Held). Some h.zone) is)
  | inr apart ↦ held-alloc_other lines n z slot arg at reserve apart
      ∙ reads at it (sym (slot_at-with_other slots slot at (holding z item) apart) ∙ found)
]
reads_alloc n z slot arg reserve lines slots None empty reads at it found = elim (cases_eq at slot) [
  | inl same ↦
      let P : ℕ → Type 0 = λ i. slot_at slots i ≡ Some it in
      absurd (none-some it (sym empty ∙ subst P same found))
  | inr apart ↦ held-alloc_other lines n z slot arg at reserve apart ∙ reads at it found
]

reads_free : (n slot : ℕ) (lines : List Line) (slots : List (Option Held)) → ReadsAs n lines slots → ReadsAs n (Does n (Free slot) ∷ lines) (emptied slots slot)
reads_free n slot lines slots reads at it found = elim (cases_eq at slot) [
  | inl same ↦
      let P : ℕ → Type 0 = λ i. slot_at (emptied slots slot) i ≡ Some it in
      absurd (none-some it (sym (slot_at-emptied_same slots slot) ∙ subst P same found))
  | inr apart ↦ held-free_other lines n slot at apart ∙ reads at it (sym (slot_at-emptied_other slots slot at apart) ∙ found)
]

-- a line of the worker that names no slot
reads_quiet : (n : ℕ) (op : Op) (lines : List Line) (slots : List (Option Held)) → ((slot : ℕ) (o : Option ℕ) → held_after op slot o ≡ o)
    → ReadsAs n lines slots → ReadsAs n (Does n op ∷ lines) slots
reads_quiet n op lines slots quiet reads at it found = held-own lines n at op ∙ (quiet at (held lines n at) ∙ reads at it found)

module _ {H Part : Type 0} {h : Ghosts H Part} where
  -- ---- the lines, by their kinds

  between_same : (old new : Worker H Part h) → phase_of new ≡ phase_of old → IsBetween old → IsBetween new
  between_same old new same (inl out) = inl (same ∙ out)
  between_same old new same (inr inside) = inr (same ∙ inside)

module _ {H Part : Type 0} {h : Ghosts H Part} where
  -- a line that wants no section, and leaves the one that is open
  entries_quiet : (n : ℕ) (op : Op) (lines : List Line) (old new : Worker H Part h) → is_section n lines (Does n op) ≡ false → ((b : Bool) → open_after op b ≡ b) → KeepsSection old new
      → EntriesStand n lines old.entered old.late (phase_of old) → EntriesStand n (Does n op ∷ lines) new.entered new.late (phase_of new)
  entries_quiet n op lines old new quiet still section stands =
      entries_kept n (Does n op) lines old.entered old.late new.entered new.late (phase_of old) (phase_of new) quiet section.entered section.late
      (λ inner. (sym (in_section-own lines n op ∙ still (in_section lines n)) ∙ inner, section.phase)) stands

module _ {H Part : Type 0} {h : Ghosts H Part} where
  pub stands_alloc : (zones : List (CountedZone H Part h)) (clock : Clock H Part) (n z slot arg : ℕ) (reserve : Bool) (lines : List Line) (old new : Worker H Part h) → arg ≤ 254 → slot_at old.slots slot ≡ None → slot ≤ 65535
      → Allocs zones old z slot (ask_of arg reserve) new → Stands zones clock n lines old → Stands zones clock n (Does n (Alloc z slot arg reserve) ∷ lines) new
  stands_alloc zones clock n z slot arg reserve lines old new few empty within step stands =
      let op : Op = Alloc z slot arg reserve in
      let P : ℕ → CountedZone H Part h → CountedSeat H Part h → Type 0 = λ i zone seat. LedgerStands (NamesZone zone) n i (Does n op ∷ lines) (ledger_of seat) in
      let Q : List (Option Held) → Type 0 = ReadsAs n (Does n op ∷ lines) in
      record {
        ledgers = zones_go zones old.seats.items new.seats.items z step.of step.before step.after P step.is_zone step.at step.seats
            (ledger_ends step.of n z slot arg reserve lines step.before step.after step.got few step.requests.ends (stands.ledgers z step.of step.before step.is_zone step.at))
            (λ i zone seat apart is_zone at. LedgerStands-other_zone (NamesZone zone) n i z slot arg reserve lines (ledger_of seat) (λ e. apart (sym e)) (stands.ledgers i zone seat is_zone at));
        filled = subst Q (sym step.slots) (reads_alloc n z slot arg reserve lines old.slots step.got empty stands.filled);
        few = few_as (ap length step.slots) (length-filled old.slots slot 65536 (option_map (holding z) step.got) stands.few (below_next within));
        outside = λ closed. step.section.phase ∙ stands.outside (sym (in_section-own lines n op) ∙ closed);
        between = between_same old new step.section.phase stands.between;
        entries = entries_quiet n op lines old new refl (λ b. refl) step.section stands.entries;
        begun = le_trans stands.begun step.section.seen;
        overtaken = λ some. le_trans (stands.overtaken (still_some step.section.late some)) step.section.seen;
      }

  -- what a slot holds is freed
  stands_freed : (zones : List (CountedZone H Part h)) (clock : Clock H Part) (n slot : ℕ) (it : Held) (lines : List Line) (old new : Worker H Part h) → Frees zones old slot it new
      → Stands zones clock n lines old → Stands zones clock n (Does n (Free slot) ∷ lines) new
  stands_freed zones clock n slot it lines old new step stands =
      let op : Op = Free slot in
      let P : ℕ → CountedZone H Part h → CountedSeat H Part h → Type 0 = λ i zone seat. LedgerStands (NamesZone zone) n i (Does n op ∷ lines) (ledger_of seat) in
      let Q : List (Option Held) → Type 0 = ReadsAs n (Does n op ∷ lines) in
      let R : SeatLedger → Type 0 = LedgerStands (NamesZone step.of) n it.zone lines in
      let ready_is : ledger_of step.gives_back.ready ≡ ledger_of step.before = ap (λ c. c.ledger) step.gives_back.made.counts in
      let was : LedgerStands (NamesZone step.of) n it.zone lines (ledger_of step.gives_back.ready) =
      subst R (sym ready_is) (stands.ledgers it.zone step.of step.before step.is_zone step.at) in
      record {
        ledgers = zones_go zones old.seats.items new.seats.items it.zone step.of step.before step.after P step.is_zone step.at step.seats
            (LedgerStands-freed (NamesZone step.of) n it.zone slot lines (ledger_of step.gives_back.ready) (ledger_of step.after) _ (stands.filled slot it step.holds) step.gives_back.released.counted was)
            (λ i zone seat apart is_zone at. LedgerStands-other (NamesZone zone) n i lines (Does n op) (ledger_of seat) refl refl (stands.ledgers i zone seat is_zone at));
        filled = subst Q (sym step.slots) (reads_free n slot lines old.slots stands.filled);
        few = few_as (ap length step.slots ∙ length-emptied old.slots slot) stands.few;
        outside = λ closed. step.section.phase ∙ stands.outside (sym (in_section-own lines n op) ∙ closed);
        between = between_same old new step.section.phase stands.between;
        entries = entries_quiet n op lines old new refl (λ b. refl) step.section stands.entries;
        begun = le_trans stands.begun step.section.seen;
        overtaken = λ some. le_trans (stands.overtaken (still_some step.section.late some)) step.section.seen;
      }

  -- a line that leaves the worker as it is
  stands_same : (zones : List (CountedZone H Part h)) (clock : Clock H Part) (n : ℕ) (op : Op) (lines : List Line) (old : Worker H Part h) → ((z : ℕ) → is_ask n z (Does n op) ≡ false) → ((z : ℕ) → is_ask_with_arg n z (Does n op) ≡ false)
      → ReadsAs n (Does n op ∷ lines) old.slots → in_section (Does n op ∷ lines) n ≡ in_section lines n → is_section n lines (Does n op) ≡ false
      → Stands zones clock n lines old → Stands zones clock n (Does n op ∷ lines) old
  stands_same zones clock n op lines old no_ask no_arg reads same_section no_section stands = record {
    ledgers = λ i zone seat is_zone at. LedgerStands-other (NamesZone zone) n i lines (Does n op) (ledger_of seat) (no_ask i) (no_arg i) (stands.ledgers i zone seat is_zone at);
    filled = reads;
    few = stands.few;
    outside = λ closed. stands.outside (sym same_section ∙ closed);
    between = stands.between;
    entries = entries_kept n (Does n op) lines old.entered old.late old.entered old.late (phase_of old) (phase_of old) no_section refl refl (λ inner. (sym same_section ∙ inner, refl)) stands.entries;
    begun = stands.begun;
    overtaken = stands.overtaken;
  }

  pub stands_free : (zones : List (CountedZone H Part h)) (clock : Clock H Part) (n slot : ℕ) (lines : List Line) (old new : Worker H Part h) → FreesSlot zones old slot new
      → Stands zones clock n lines old → Stands zones clock n (Does n (Free slot) ∷ lines) new
  stands_free zones clock n slot lines old new (inl freed) stands = stands_freed zones clock n slot freed.0 lines old new freed.1 stands
  stands_free zones clock n slot lines old new (inr nothing) stands =
      let P : Worker H Part h → Type 0 = Stands zones clock n (Does n (Free slot) ∷ lines) in
      let Q : List (Option Held) → Type 0 = ReadsAs n (Does n (Free slot) ∷ lines) in
      subst P (sym nothing.1)
      (stands_same zones clock n (Free slot) lines old (λ z. refl) (λ z. refl)
      (subst Q (emptied_none old.slots slot nothing.0) (reads_free n slot lines old.slots stands.filled))
      (in_section-own lines n (Free slot)) refl stands)

  -- a line that changes only the section
  stands_section : (zones : List (CountedZone H Part h)) (clock : Clock H Part) (n : ℕ) (op : Op) (lines : List Line) (old new : Worker H Part h) → ((z : ℕ) → is_ask n z (Does n op) ≡ false) → ((z : ℕ) → is_ask_with_arg n z (Does n op) ≡ false)
      → ((slot : ℕ) (o : Option ℕ) → held_after op slot o ≡ o) → KeepsHolds old new
      → (in_section (Does n op ∷ lines) n ≡ false → phase_of new ≡ Outside) → IsBetween new → EntriesStand n (Does n op ∷ lines) new.entered new.late (phase_of new)
      → seen_of old ≤ seen_of new → (0 < new.late → (setup_of clock).config.start + (setup_of clock).config.window ≤ seen_of new)
      → Stands zones clock n lines old → Stands zones clock n (Does n op ∷ lines) new
  stands_section zones clock n op lines old new no_ask no_arg quiet holds outside between entries seen overtaken stands = record {
    ledgers = λ i zone seat is_zone at.
        let S : List (CountedSeat H Part h) → Type 0 = λ list. slice_get list i ≡ Some seat in
        LedgerStands-other (NamesZone zone) n i lines (Does n op) (ledger_of seat) (no_ask i) (no_arg i) (stands.ledgers i zone seat is_zone (subst S (ap (λ v. v.items) holds.seats) at));
    filled = let Q : List (Option Held) → Type 0 = ReadsAs n (Does n op ∷ lines) in subst Q (sym holds.slots) (reads_quiet n op lines old.slots quiet stands.filled);
    few = few_as (ap length holds.slots) stands.few;
    outside = outside;
    between = between;
    entries = entries;
    begun = le_trans stands.begun seen;
    overtaken = overtaken;
  }

module _ {H Part : Type 0} {h : Ghosts H Part} where
  -- a pass whose enter was late has seen the write sequence the window or more above where it began
  late_far : (clock : Clock H Part) (old new : Worker H Part h) (overtaken : Overtaken) → IsPassOf clock old.pass → Misses (view old.pass) overtaken (view new.pass) → (setup_of clock).config.start ≤ seen_of old
      → (setup_of clock).config.start + (setup_of clock).config.window ≤ seen_of new
  late_far clock old new overtaken of misses begun =
      let setup_is : (view old.pass).setup ≡ setup_of clock = ap (λ i. i.1) of in
      let P : Setup → Type 0 = λ s. s.config.window ≤ overtaken.found - overtaken.loaded in
      far_above begun misses.first.not_lower (misses.third.found.in_enter refl) (subst P setup_is misses.third.late) misses.third.seen

  pub stands_enter : (zones : List (CountedZone H Part h)) (clock : Clock H Part) (n : ℕ) (lines : List Line) (old new : Worker H Part h) → IsPassOf clock old.pass → EntersInTime old new ⊎ EntersLate old new
      → Stands zones clock n lines old → Stands zones clock n (Does n Enter ∷ lines) new
  stands_enter zones clock n lines old new of (inl step) stands =
      stands_section zones clock n Enter lines old new (λ z. refl) (λ z. refl) (λ slot o. refl) step.holds
      (λ closed. absurd (true≢false (sym (in_section-own lines n Enter) ∙ closed)))
      (inr step.phase)
      (entries_entered n (Does n Enter) lines old.entered old.late new.entered new.late (phase_of old) (phase_of new) (λ none. is_enter-own n lines) (wants n (Does n Enter) lines (is_enter-own n lines))
      step.entered step.late (λ none inner. step.phase) stands.entries)
      step.seen (λ some. le_trans (stands.overtaken (still_some step.late some)) step.seen) stands
  stands_enter zones clock n lines old new of (inr step) stands =
      stands_section zones clock n Enter lines old new (λ z. refl) (λ z. refl) (λ slot o. refl) step.holds
      (λ closed. step.phase) (inl step.phase)
      (entries_late n (Does n Enter) lines old.entered old.late new.entered new.late (phase_of old) (phase_of new) (wants n (Does n Enter) lines (is_enter-own n lines)) step.entered step.late stands.entries)
      step.seen (λ some. late_far clock old new step.overtaken of step.misses stands.begun) stands

  pub stands_exit : (zones : List (CountedZone H Part h)) (clock : Clock H Part) (n : ℕ) (lines : List Line) (old new : Worker H Part h) → Leaves old new
      → Stands zones clock n lines old → Stands zones clock n (Does n Exit ∷ lines) new
  stands_exit zones clock n lines old new step stands =
      stands_section zones clock n Exit lines old new (λ z. refl) (λ z. refl) (λ slot o. refl) step.holds
      (λ closed. step.phase) (inl step.phase)
      (entries_kept n (Does n Exit) lines old.entered old.late new.entered new.late (phase_of old) (phase_of new) refl step.entered step.late
      (λ inner. absurd (true≢false (sym inner ∙ in_section-own lines n Exit))) stands.entries)
      step.seen (λ some. le_trans (stands.overtaken (still_some step.late some)) step.seen) stands

  pub stands_prealloc : (zones : List (CountedZone H Part h)) (clock : Clock H Part) (n zone items : ℕ) (lines : List Line) (old : Worker H Part h) → Stands zones clock n lines old → Stands zones clock n (Does n (Prealloc zone items) ∷ lines) old
  stands_prealloc zones clock n zone items lines old stands =
      stands_same zones clock n (Prealloc zone items) lines old (λ z. refl) (λ z. refl)
      (reads_quiet n (Prealloc zone items) lines old.slots (λ slot o. refl) stands.filled)
      (in_section-own lines n (Prealloc zone items)) refl stands

  -- a line that changes the pass alone, and no section
  pub stands_quiet : (zones : List (CountedZone H Part h)) (clock : Clock H Part) (n : ℕ) (op : Op) (lines : List Line) (old new : Worker H Part h) → ((z : ℕ) → is_ask n z (Does n op) ≡ false) → ((z : ℕ) → is_ask_with_arg n z (Does n op) ≡ false)
      → ((slot : ℕ) (o : Option ℕ) → held_after op slot o ≡ o) → is_section n lines (Does n op) ≡ false → ((b : Bool) → open_after op b ≡ b) → KeepsHolds old new → KeepsSection old new
      → Stands zones clock n lines old → Stands zones clock n (Does n op ∷ lines) new
  stands_quiet zones clock n op lines old new no_ask no_arg quiet no_section still holds section stands =
      stands_section zones clock n op lines old new no_ask no_arg quiet holds
      (λ closed. section.phase ∙ stands.outside (sym (in_section-own lines n op ∙ still (in_section lines n)) ∙ closed))
      (between_same old new section.phase stands.between)
      (entries_quiet n op lines old new no_section still section stands.entries)
      section.seen (λ some. le_trans (stands.overtaken (still_some section.late some)) section.seen) stands

  -- a look in a section: the reading says that it is open
  pub stands_find : (zones : List (CountedZone H Part h)) (clock : Clock H Part) (n key : ℕ) (lines : List Line) (old new : Worker H Part h) → phase_of old ≡ Inside → KeepsHolds old new → KeepsSection old new
      → Stands zones clock n lines old → Stands zones clock n (Does n (Look key) ∷ lines) new
  stands_find zones clock n key lines old new inside holds section stands =
      let opened : in_section lines n ≡ true = not_false (in_section lines n) (λ closed. apart (phase_of old) inside (stands.outside closed)) in
      stands_quiet zones clock n (Look key) lines old new (λ z. refl) (λ z. refl) (λ slot o. refl) (is_section-look n key lines true opened) (λ b. refl) holds section stands

  -- a look in a section of its own, in time
  pub stands_look : (zones : List (CountedZone H Part h)) (clock : Clock H Part) (n key : ℕ) (lines : List Line) (old new : Worker H Part h) → phase_of old ≡ Outside → phase_of new ≡ Outside → KeepsHolds old new
      → seen_of old ≤ seen_of new → new.entered ≡ old.entered + 1 → new.late ≡ old.late
      → Stands zones clock n lines old → Stands zones clock n (Does n (Look key) ∷ lines) new
  stands_look zones clock n key lines old new was phase holds seen entered late stands =
      let closed : old.late ≡ 0 → in_section lines n ≡ false = λ none. not_true (in_section lines n) (λ inner. apart (phase_of old) (stands.entries.inside none inner) was) in
      stands_section zones clock n (Look key) lines old new (λ z. refl) (λ z. refl) (λ slot o. refl) holds (λ out. phase) (inl phase)
      (entries_entered n (Does n (Look key)) lines old.entered old.late new.entered new.late (phase_of old) (phase_of new)
      (λ none. is_section-look n key lines false (closed none)) (looks_up n (Does n (Look key)) lines (is_look-own n key)) entered late
      (λ none inner. absurd (true≢false (sym inner ∙ (in_section-own lines n (Look key) ∙ closed none)))) stands.entries)
      seen (λ some. le_trans (stands.overtaken (still_some late some)) seen) stands

  -- a look whose section was late
  pub stands_late : (zones : List (CountedZone H Part h)) (clock : Clock H Part) (n key : ℕ) (lines : List Line) (old new : Worker H Part h) (overtaken : Overtaken) → IsPassOf clock old.pass → Misses (view old.pass) overtaken (view new.pass)
      → phase_of new ≡ Outside → KeepsHolds old new → seen_of old ≤ seen_of new → new.entered ≡ old.entered → new.late ≡ old.late + 1
      → Stands zones clock n lines old → Stands zones clock n (Does n (Look key) ∷ lines) new
  stands_late zones clock n key lines old new overtaken of misses phase holds seen entered late stands =
      stands_section zones clock n (Look key) lines old new (λ z. refl) (λ z. refl) (λ slot o. refl) holds (λ out. phase) (inl phase)
      (entries_late n (Does n (Look key)) lines old.entered old.late new.entered new.late (phase_of old) (phase_of new)
      (looks_up n (Does n (Look key)) lines (is_look-own n key)) entered late stands.entries)
      seen (λ some. late_far clock old new overtaken of misses stands.begun) stands

  -- a line of reclaim, which leaves the ledger of its seat
  stands_reclaim : (zones : List (CountedZone H Part h)) (clock : Clock H Part) (n : ℕ) (op : Op) (z : ℕ) (lines : List Line) (old new : Worker H Part h) → ((i : ℕ) → is_ask n i (Does n op) ≡ false) → ((i : ℕ) → is_ask_with_arg n i (Does n op) ≡ false)
      → ((slot : ℕ) (o : Option ℕ) → held_after op slot o ≡ o) → in_section (Does n op ∷ lines) n ≡ in_section lines n → is_section n lines (Does n op) ≡ false
      → Reclaims zones Keeping old z new → Stands zones clock n lines old → Stands zones clock n (Does n op ∷ lines) new
  stands_reclaim zones clock n op z lines old new no_ask no_arg quiet same_section no_section step stands =
      let P : ℕ → CountedZone H Part h → CountedSeat H Part h → Type 0 = λ i zone seat. LedgerStands (NamesZone zone) n i (Does n op ∷ lines) (ledger_of seat) in
      let Q : List (Option Held) → Type 0 = ReadsAs n (Does n op ∷ lines) in
      let R : SeatLedger → Type 0 = LedgerStands (NamesZone step.of) n z lines in
      let ledger_is : ledger_of step.after ≡ ledger_of step.before = ap (λ c. c.ledger) step.leaves.counts in
      let was : LedgerStands (NamesZone step.of) n z lines (ledger_of step.after) = subst R (sym ledger_is) (stands.ledgers z step.of step.before step.is_zone step.at) in
      record {
        ledgers = zones_go zones old.seats.items new.seats.items z step.of step.before step.after P step.is_zone step.at step.seats
            (LedgerStands-other (NamesZone step.of) n z lines (Does n op) (ledger_of step.after) (no_ask z) (no_arg z) was)
            (λ i zone seat apart is_zone at. LedgerStands-other (NamesZone zone) n i lines (Does n op) (ledger_of seat) (no_ask i) (no_arg i) (stands.ledgers i zone seat is_zone at));
        filled = subst Q (sym step.slots) (reads_quiet n op lines old.slots quiet stands.filled);
        few = few_as (ap length step.slots) stands.few;
        outside = λ closed. step.section.phase ∙ stands.outside (sym same_section ∙ closed);
        between = between_same old new step.section.phase stands.between;
        entries = entries_kept n (Does n op) lines old.entered old.late new.entered new.late (phase_of old) (phase_of new) no_section step.section.entered step.section.late (λ inner. (sym same_section ∙ inner, step.section.phase)) stands.entries;
        begun = le_trans stands.begun step.section.seen;
        overtaken = λ some. le_trans (stands.overtaken (still_some step.section.late some)) step.section.seen;
      }

  pub stands_trim : (zones : List (CountedZone H Part h)) (clock : Clock H Part) (n z : ℕ) (lines : List Line) (old new : Worker H Part h) → Reclaims zones Keeping old z new → Stands zones clock n lines old → Stands zones clock n (Does n (Trim z) ∷ lines) new
  stands_trim zones clock n z lines old new step stands =
      stands_reclaim zones clock n (Trim z) z lines old new (λ i. refl) (λ i. refl) (λ slot o. refl) (in_section-own lines n (Trim z)) refl step stands

  pub stands_drain : (zones : List (CountedZone H Part h)) (clock : Clock H Part) (n z : ℕ) (lines : List Line) (old new : Worker H Part h) → Reclaims zones Keeping old z new → Stands zones clock n lines old → Stands zones clock n (Does n (Drain z) ∷ lines) new
  stands_drain zones clock n z lines old new step stands =
      stands_reclaim zones clock n (Drain z) z lines old new (λ i. refl) (λ i. refl) (λ slot o. refl) (in_section-own lines n (Drain z)) refl step stands

  pub stands_drain_seat : (zones : List (CountedZone H Part h)) (clock : Clock H Part) (n z : ℕ) (lines : List Line) (old new : Worker H Part h) → Reclaims zones Keeping old z new → Stands zones clock n lines old
      → Stands zones clock n (Does n (DrainSeat z) ∷ lines) new
  stands_drain_seat zones clock n z lines old new step stands =
      stands_reclaim zones clock n (DrainSeat z) z lines old new (λ i. refl) (λ i. refl) (λ slot o. refl) (in_section-own lines n (DrainSeat z)) refl step stands

  -- a line of any kind
  pub stand_step : (zones : List (CountedZone H Part h)) (clock : Clock H Part) (n : ℕ) (op : Op) (lines : List Line) (old new : Worker H Part h) → IsPassOf clock old.pass → CanPerform zones old op → Performs zones old op new
      → Stands zones clock n lines old → Stands zones clock n (Does n op ∷ lines) new
  stand_step zones clock n (Alloc zone slot arg reserve) lines old new of can step stands = stands_alloc zones clock n zone slot arg reserve lines old new can.1 can.2 can.3 step stands
  stand_step zones clock n (Free slot) lines old new of can step stands = stands_free zones clock n slot lines old new step stands
  stand_step zones clock n Enter lines old new of can step stands = stands_enter zones clock n lines old new of step stands
  stand_step zones clock n Exit lines old new of can step stands = stands_exit zones clock n lines old new step stands
  stand_step zones clock n (Prealloc zone items) lines old new of can step stands =
      let P : Worker H Part h → Type 0 = Stands zones clock n (Does n (Prealloc zone items) ∷ lines) in
      subst P (sym step.same) (stands_prealloc zones clock n zone items lines old stands)
  stand_step zones clock n (Bind key value) lines old new of can step stands = absurd can
  stand_step zones clock n (Unbind key) lines old new of can step stands = absurd can
  stand_step zones clock n (Look key) lines old new of can step stands = absurd can
  stand_step zones clock n Away lines old new of can step stands = absurd can
  stand_step zones clock n Back lines old new of can step stands = absurd can
  stand_step zones clock n (Trim zone) lines old new of can step stands = stands_trim zones clock n zone lines old new (trimmed_keeps zones old new zone step) stands
  stand_step zones clock n (Drain zone) lines old new of can step stands = stands_drain zones clock n zone lines old new (drained_keeps zones old new zone step) stands
  stand_step zones clock n (DrainSeat zone) lines old new of can step stands = stands_drain_seat zones clock n zone lines old new (emptied_keeps zones old new zone step) stands
