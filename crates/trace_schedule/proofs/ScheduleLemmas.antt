-- What lines print, one after another.
use Rattle.std.proofs.Common.{◌≡◌, ℕ, ◌+◌, ◌<◌, ◌≤◌, List, [], ◌∷◌, ◌++◌, length, take, get_or, refl, sym, ap, ◌∙◌, subst, append_assoc, take_all}
use Rattle.std.specs.List.{flat_map}
use Rattle.std.proofs.lemmas.List.{take_more, map-append, append-nil}
use Rattle.std.proofs.lemmas.Option.{slice_get-get_or}
use Rattle.smr_core.specs.declared.turns.Seen.{Seen}
use Rattle.smr_core.specs.declared.turns.StepRefused.{StepRefused}
use Rattle.smr_core.specs.declared.turns.StepRefused.TheVariants as refusals
use Rattle.smr_core.specs.declared.turns.Turn.{Turn}
use Rattle.smr_core.specs.CoreState.{State, opening}
use Rattle.smr_core.specs.Turns.{IsTurn, TurnRun, RefusesTurn}
use Rattle.trace_schedule.specs.declared.schedule.Schedule.{Schedule}
use Rattle.trace_schedule.specs.declared.schedule.TurnLine.{TurnLine}
use Rattle.trace_schedule.specs.declared.schedule.Version.{Version}
use Rattle.trace_schedule.specs.declared.schedule.ScheduleRefused.{ScheduleRefused}
use Rattle.trace_schedule.specs.declared.schedule.ScheduleRefused.TheVariants as schedule_refused
use Rattle.trace_schedule.specs.ScheduleText.{Prints, PrintsLine, RefusesLine, RefusesTurnLine, RefusesSchedule, RefusedAt, config_of, refused_at, seen_line, turns_of}

-- turns go on by one
turn_run-push : (s mid s' : State) (turns : List Turn) (sees : List (List Seen)) (turn : Turn) (saw : List Seen)
    → TurnRun s turns sees mid → IsTurn mid turn saw s' → TurnRun s (turns ++ turn ∷ []) (sees ++ saw ∷ []) s'
turn_run-push s mid s' [] [] turn saw p q =
    (s', subst (λ (t : State). IsTurn t turn saw s') p q, refl)
turn_run-push s mid s' (first ∷ turns) (seen ∷ sees) turn saw p q =
    (p.0, p.1, turn_run-push p.0 mid s' turns sees turn saw p.2 q)
turn_run-push s mid s' [] (seen ∷ sees) turn saw p q = absurd p
turn_run-push s mid s' (first ∷ turns) [] turn saw p q = absurd p

module _ (version : Version) where
  text_of : List (List Seen) → List ℕ
  text_of sees = flat_map (λ (saw : List Seen). flat_map (seen_line version) saw) sees

  text_of-push : (sees : List (List Seen)) (saw : List Seen)
      → text_of (sees ++ saw ∷ []) ≡ text_of sees ++ flat_map (seen_line version) saw
  unfolding text_of
  text_of-push [] saw = append-nil (flat_map (seen_line version) saw)
  text_of-push (first ∷ sees) saw =
      ap (λ (l : List ℕ). flat_map (seen_line version) first ++ l) (text_of-push sees saw)
      ∙ sym (append_assoc (flat_map (seen_line version) first) (text_of sees) (flat_map (seen_line version) saw))

module _ (version : Version) where
  pub prints-push : (s mid s' : State) (lines : List TurnLine) (l : TurnLine) (before bytes : List ℕ)
      → Prints version s lines before mid → PrintsLine version mid l before bytes s' → Prints version s (lines ++ l ∷ []) bytes s'
  unfolding text_of
  prints-push s mid s' lines l before bytes p q =
      record {
        sees = p.sees ++ q.saw ∷ [];
        run =
            subst (λ (turns : List Turn). TurnRun s turns (p.sees ++ q.saw ∷ []) s')
            (sym (map-append (λ (x : TurnLine). x.turn) lines (l ∷ [])))
            (turn_run-push s mid s' (turns_of lines) p.sees l.turn q.saw p.run q.turn);
        text = q.text ∙ ap (λ (t : List ℕ). t ++ flat_map (seen_line version) q.saw) p.text ∙ sym (text_of-push version p.sees q.saw);
      }

  -- the first n lines, and then the next
  pub prints-more : (s mid s' : State) (lines : List TurnLine) (n : ℕ) (d : TurnLine) (before bytes : List ℕ)
      → n < length lines
      → Prints version s (take n lines) before mid → PrintsLine version mid (get_or lines n d) before bytes s'
      → Prints version s (take (n + 1) lines) bytes s'
  prints-more s mid s' lines n d before bytes below p q =
      subst (λ (l : List TurnLine). Prints version s l bytes s') (sym (take_more lines n d below))
      (prints-push s mid s' (take n lines) (get_or lines n d) before bytes p q)

  pub prints-all : (s s' : State) (lines : List TurnLine) (n : ℕ) (bytes : List ℕ) → length lines ≤ n
      → Prints version s (take n lines) bytes s' → Prints version s lines bytes s'
  prints-all s s' lines n bytes h p = subst (λ (l : List TurnLine). Prints version s l bytes s') (take_all n lines h) p

pub refused-here : (schedule : Schedule) (n : ℕ) (d : TurnLine) (mid : State) (printed : List ℕ) (refused : StepRefused) → n < length schedule.lines
    → Prints schedule.version (opening (config_of schedule)) (take n schedule.lines) printed mid
    → RefusesLine mid (get_or schedule.lines n d) refused
    → RefusedAt schedule n (get_or schedule.lines n d) refused
refused-here schedule n d mid printed refused below p q =
    record {
      there = slice_get-get_or schedule.lines n d below;
      mid = mid;
      printed = printed;
      before = p;
      refuses = q;
    }

-- want of memory of the core is want of memory, and every other refusal is that of the line's first step
pub refuses_line : (s : State) (l : TurnLine) (refused : StepRefused) → RefusesTurn s l.turn refused
    → RefusesTurnLine s l (refused_at l.line refused)
refuses_line s l refusals.Memory r = tt
refuses_line s l (refusals.NoSeat missing count) r = (refl, record { step = r; not_memory = λ e. cc })
refuses_line s l (refusals.OutOfTurn at in_phase in_task) r = (refl, record { step = r; not_memory = λ e. cc })
refuses_line s l (refusals.Crowded count) r = (refl, record { step = r; not_memory = λ e. cc })

-- a line that is refused after the lines before it
pub refuses-schedule : (schedule : Schedule) (n : ℕ) (d : TurnLine) (mid : State) (printed : List ℕ) (refused : ScheduleRefused) → n < length schedule.lines
    → Prints schedule.version (opening (config_of schedule)) (take n schedule.lines) printed mid
    → RefusesTurnLine mid (get_or schedule.lines n d) refused
    → RefusesSchedule schedule refused
refuses-schedule schedule n d mid printed (schedule_refused.Step at refused) below p q =
    (n, (get_or schedule.lines n d, q.0, refused-here schedule n d mid printed refused below p q.1))
refuses-schedule schedule n d mid printed schedule_refused.Memory below p q = tt
