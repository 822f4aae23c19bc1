-- The lines that are drawn fit the header, and each fits the lines before it.
use Rattle.std.proofs.Common.{◌≡◌, ◌<◌, ◌≤◌, ℕ, zero, suc, Bool, false, List, [], ◌∷◌, ◌++◌, Option, Some, None, get_or, length, refl, sym, subst, ◌∙◌, arith}
use Rattle.std.specs.Prelude.{All, is_some, ◌==◌}
use Rattle.std.specs.List.{flat_map}
use Rattle.std.proofs.lemmas.Bool.{false≢true}
use Rattle.std.proofs.lemmas.List.Concat.{flat_map-append}
use Rattle.std.proofs.lemmas.List.Elements.{All-nil, All-cons, All-append}
use Rattle.trace_text.specs.declared.trace.Between.{Between}
use Rattle.trace_text.specs.declared.trace.Between.TheVariants.{Give, SetMax}
use Rattle.trace_text.specs.declared.trace.Op.{Op}
use Rattle.trace_text.specs.declared.trace.Op.TheVariants.{Alloc, Free, Enter, Exit, Bind, Unbind, Look, Trim, Drain, DrainSeat, Prealloc, Away, Back}
use Rattle.trace_text.specs.declared.trace_reading.fields.Entry.{Entry}
use Rattle.trace_text.specs.declared.trace_reading.fields.Entry.TheVariants as entries
use Rattle.trace_text.specs.Lines.{Line, Does, Moves}
use Rattle.trace_text.specs.declared.trace.Version.TheVariants as versions
use Rattle.trace_text.specs.Reading.{held, is_away}
use Rattle.trace_text.specs.Valid.{OpFits, IsKnownOp, SlotFits, LineFits, LinesFit, comes_back}
use Rattle.trace_text.proofs.TraceParts.{FitsHead, HasEntry, entry_line}
use Rattle.trace_gen.specs.declared.generator.Drawn.{Drawn}
use Rattle.trace_gen.specs.declared.generator.Drawn.TheVariants as drawn
use Rattle.trace_gen.specs.Generator.{State, draw, drawn_lines, entries_of, give_drawn, op_drawn, round_step, slots_given, step, work_step}
use Rattle.trace_gen.specs.Header.{made_head}
use Rattle.trace_gen.proofs.DrawnOps.{MayDo, MayGive, draw_below, give_may, of_each, op_may}
use Rattle.trace_gen.proofs.KnownSlots.{Knows, knows_did, knows_gave, row}

-- ---- one step

-- its lines fit the header and the lines before them, and the slots that are kept behind it are those behind its lines
record StepFits (workers : ℕ) (before : List Line) (d : Drawn × State) : Type 0 where
  after : List Line
  head : All (FitsHead (made_head workers)) (entries_of d.0)
  known : All (HasEntry versions.One) (entries_of d.0)
  fits : (rest : List Line) → LinesFit after rest → LinesFit before (flat_map entry_line (entries_of d.0) ++ rest)
  knows : Knows workers d.1.slots after

op_head : (workers : ℕ) (slots : List Bool) (op : Op) → length slots ≤ 256 → MayDo slots op → OpFits (made_head workers) op
op_head workers slots (Alloc zone slot arg reserve) few may = (may.0, let lt = may.1.there in omega arith, may.2)
op_head workers slots (Free slot) few may = let lt = may.there in omega arith
op_head workers slots (Bind key value) few may = (refl, may.0, may.1)
op_head workers slots (Unbind key) few may = (refl, may)
op_head workers slots (Look key) few may = (refl, may)
op_head workers slots Enter few may = absurd may
op_head workers slots Exit few may = absurd may
op_head workers slots (Trim zone) few may = absurd may
op_head workers slots (Drain zone) few may = absurd may
op_head workers slots (DrainSeat zone) few may = absurd may
op_head workers slots (Prealloc zone items) few may = absurd may
op_head workers slots Away few may = absurd may
op_head workers slots Back few may = absurd may

op_known : (slots : List Bool) (op : Op) → MayDo slots op → IsKnownOp versions.One op
op_known slots Away may = absurd may
op_known slots Back may = absurd may
op_known slots other may = tt

none_held : (o : Option ℕ) → is_some o ≡ false → o ≡ None
none_held None e = refl
none_held (Some zone) e = absurd (false≢true (sym e))

op_slot : (before : List Line) (w : ℕ) (slots : List Bool) (op : Op) → ((slot : ℕ) → get_or slots slot false ≡ is_some (held before w slot)) → MayDo slots op → SlotFits before w op
op_slot before w slots (Alloc zone slot arg reserve) same may = none_held (held before w slot) (sym (same slot) ∙ may.1.empty)
op_slot before w slots (Free slot) same may = sym (same slot) ∙ may.full
op_slot before w slots (Bind key value) same may = tt
op_slot before w slots (Unbind key) same may = tt
op_slot before w slots (Look key) same may = tt
op_slot before w slots Enter same may = absurd may
op_slot before w slots Exit same may = absurd may
op_slot before w slots (Trim zone) same may = absurd may
op_slot before w slots (Drain zone) same may = absurd may
op_slot before w slots (DrainSeat zone) same may = absurd may
op_slot before w slots (Prealloc zone items) same may = absurd may
op_slot before w slots Away same may = absurd may
op_slot before w slots Back same may = absurd may

stays_there : (slots : List Bool) (op : Op) → MayDo slots op → comes_back op ≡ false
stays_there slots Back may = absurd may
stays_there slots other may = refl

op_line : (before : List Line) (w : ℕ) (slots : List Bool) (op : Op) → ((slot : ℕ) → get_or slots slot false ≡ is_some (held before w slot)) → is_away before w ≡ false → MayDo slots op
    → LineFits before (Does w op)
op_line before w slots op same there may = (op_slot before w slots op same may, there ∙ sym (stays_there slots op may))

work_fits : (workers w choice : ℕ) (s : State) (before : List Line) → w < workers → Knows workers s.slots before → StepFits workers before (work_step w choice s)
work_fits workers w choice s before lt knows =
    let slots : List Bool = row s.slots w in
    let op : Op = (op_drawn slots s.binds choice s.random).0 in
    let may : MayDo slots op = op_may slots s.binds choice s.random in
    record {
      after = Does w op ∷ before;
      head = All-cons (FitsHead (made_head workers)) (entries.Does w op) [] (lt, op_head workers slots op (knows.few w) may) (All-nil (FitsHead (made_head workers)));
      known = All-cons (HasEntry versions.One) (entries.Does w op) [] (op_known slots op may) (All-nil (HasEntry versions.One));
      fits = λ rest fit. (op_line before w slots op (knows.same w) (knows.there w) may, fit);
      knows = knows_did op workers s.slots before w knows lt may;
    }

give_fits : (workers : ℕ) (s : State) (before : List Line) (give : Option Between) → Knows workers s.slots before → MayGive workers s.slots give
    → StepFits workers before (drawn.Round give, record { slots = slots_given give s.slots; binds = s.binds; random = s.random })
give_fits workers s before None knows may = record {
  after = before;
  head = All-cons (FitsHead (made_head workers)) entries.Round [] tt (All-nil (FitsHead (made_head workers)));
  known = All-cons (HasEntry versions.One) entries.Round [] tt (All-nil (HasEntry versions.One));
  fits = λ rest fit. fit;
  knows = knows;
}
give_fits workers s before (Some (Give giver from taker to)) knows may =
    let between : Between = Give giver from taker to in
    let low : from ≤ 65535 = let lt = may.3.there in let few = knows.few giver in omega arith in
    let low2 : to ≤ 65535 = let lt = may.4.there in let few = knows.few taker in omega arith in
    record {
      after = Moves between ∷ before;
      head =
          All-cons (FitsHead (made_head workers)) entries.Round (entries.Moves between ∷ []) tt
          (All-cons (FitsHead (made_head workers)) (entries.Moves between) [] (may.0, low, may.1, low2) (All-nil (FitsHead (made_head workers))));
      known =
          All-cons (HasEntry versions.One) entries.Round (entries.Moves between ∷ []) tt
          (All-cons (HasEntry versions.One) (entries.Moves between) [] tt (All-nil (HasEntry versions.One)));
      fits = λ rest fit. ((sym (knows.same giver from) ∙ may.3.full, none_held (held before taker to) (sym (knows.same taker to) ∙ may.4.empty)), fit);
      knows = knows_gave workers s.slots before giver from taker to knows may;
    }
give_fits workers s before (Some (SetMax zone limit)) knows may = absurd may

step_fits : (workers : ℕ) (s : State) (before : List Line) → 0 < workers → Knows workers s.slots before → StepFits workers before (step workers s)
step_fits workers s before some knows =
    let worker = draw workers s.random in
    let choice = draw 64 worker.1 in
    let behind : State = record { slots = s.slots; binds = s.binds; random = choice.1 } in
    of_each (StepFits workers before) (choice.0 == 50) (round_step workers behind) (work_step worker.0 choice.0 behind)
    (λ is. give_fits workers behind before (give_drawn workers s.slots) knows (give_may workers s.slots))
    (λ isn't. work_fits workers worker.0 choice.0 behind before (draw_below workers s.random some) knows)

-- ---- all steps

pub lines_head : (workers left : ℕ) (s : State) (before : List Line) → 0 < workers → Knows workers s.slots before → All (FitsHead (made_head workers)) (drawn_lines workers left s)
lines_head workers zero s before some knows = All-nil (FitsHead (made_head workers))
lines_head workers (suc left) s before some knows =
    let first = step_fits workers s before some knows in
    All-append (FitsHead (made_head workers)) (entries_of (step workers s).0) (drawn_lines workers left (step workers s).1) first.head
    (lines_head workers left (step workers s).1 first.after some first.knows)

pub lines_known : (workers left : ℕ) (s : State) (before : List Line) → 0 < workers → Knows workers s.slots before → All (HasEntry versions.One) (drawn_lines workers left s)
lines_known workers zero s before some knows = All-nil (HasEntry versions.One)
lines_known workers (suc left) s before some knows =
    let first = step_fits workers s before some knows in
    All-append (HasEntry versions.One) (entries_of (step workers s).0) (drawn_lines workers left (step workers s).1) first.known
    (lines_known workers left (step workers s).1 first.after some first.knows)

pub lines_fit : (workers left : ℕ) (s : State) (before : List Line) → 0 < workers → Knows workers s.slots before → LinesFit before (flat_map entry_line (drawn_lines workers left s))
lines_fit workers zero s before some knows = tt
lines_fit workers (suc left) s before some knows =
    let first = step_fits workers s before some knows in
    let lines : List Entry = entries_of (step workers s).0 in
    let rest : List Entry = drawn_lines workers left (step workers s).1 in
    subst (LinesFit before) (sym (flat_map-append entry_line lines rest))
    (first.fits (flat_map entry_line rest) (lines_fit workers left (step workers s).1 first.after some first.knows))
