-- What a worker has of the names stands, after one line more, for one line more.
use Rattle.std.proofs.Common.{◌≡◌, ℕ, ◌+◌, ◌<◌, ◌^◌, ◌≤◌, inl, inr, List, ◌∷◌, Bool, true, false, cond, Option, None, Some, refl, sym, ap, ◌∙◌, subst, le_trans, add-zero, arith, length}
use Rattle.std.proofs.lemmas.Option.{same_Some}
use Rattle.std.specs.Prelude.{IfSome}
use Rattle.smr_clock.specs.declared.host.Host.{Ghosts}
use Rattle.trace_text.specs.declared.trace.Op.{Op}
use Rattle.trace_text.specs.declared.trace.Op.TheVariants.{Alloc, Free, Enter, Exit, Prealloc, Bind, Unbind, Look, Trim, Drain, DrainSeat, Away, Back}
use Rattle.trace_text.specs.Lines.{Line, Does}
use Rattle.zone_stats.specs.declared.ledger.SeatLedger.{SeatLedger}
use Rattle.zone_stats.specs.declared.refusal.Refusal.{Refusal}
use Rattle.zone_stats.specs.LedgerSteps.{CountsAlloc, CountsFree, CountsTurned}
use Rattle.replay_worker.specs.declared.name_calls.NameCalls.{Ghosts as NameGhosts}
use Rattle.replay_worker.specs.declared.name_work.NameCounts.{NameCounts}
use Rattle.replay_worker.specs.declared.name_work.NameWork.{NameWork}
use Rattle.replay_worker.specs.declared.worker.Worker.{Worker}
use Rattle.replay_worker.specs.Counting.{is_bind, is_look, is_unbind, binds, looks, unbinds}
use Rattle.replay_worker.specs.Items.{CountedZone}
use Rattle.replay_worker.specs.NameCalls.{OnBoth}
use Rattle.replay_worker.specs.NameLedger.{BindCounts, MayCountFree, NamesRefuse, UnbindCounts}
use Rattle.replay_worker.specs.NameLines.{BindsLine, Changes, LineState, HasNameRooms, LooksLine, UnbindsLine}
use Rattle.replay_worker.specs.NamesStand.{NameCountsStand, NameLedgerStands, NamesStand}
use Rattle.replay_worker.specs.NameWork.{CountsAnswer, CountsBind, CountsLate, CountsUnbind}
use Rattle.replay_worker.specs.Performs.{Performs}
use Rattle.replay_worker.proofs.LineCounts.{binds-few, binds-more, is_bind-own, is_look-own, is_unbind-own, looks-few, looks-more, unbinds-few, unbinds-more}

-- ---- what is there where there is a ledger

pub if_some : {X : Type 0} {P Q : X → Type 0} (o : Option X) → ((x : X) → P x → Q x) → IfSome o P → IfSome o Q
if_some (Some x) f p = f x p
if_some None f p = tt

on_both : {R : SeatLedger → SeatLedger → Type 0} {P Q : SeatLedger → Type 0} (old new : Option SeatLedger) → OnBoth R old new → ((x y : SeatLedger) → R x y → P x → Q y) → IfSome old P → IfSome new Q
on_both (Some x) (Some y) both f p = f x y both p
on_both (Some x) None both f p = absurd both
on_both None (Some y) both f p = absurd both
on_both None None both f p = tt

-- ---- the numbers

same_count : {now before : ℕ} {b : Bool} → now ≡ before + cond b 1 0 → b ≡ false → now ≡ before
same_count {now} {before} more none = more ∙ (ap (λ b. before + cond b 1 0) none ∙ add-zero before)

next_count : (before : ℕ) {now : ℕ} {b : Bool} → now ≡ before + cond b 1 0 → b ≡ true → now ≡ before + 1
next_count before more one = more ∙ ap (λ b. before + cond b 1 0) one

first_more : (a b c : ℕ) {sum sum' a' b' c' : ℕ} → a' ≡ a + 1 → b' ≡ b → c' ≡ c → sum' ≡ sum + 1 → a + b + c ≡ sum → a' + b' + c' ≡ sum'
first_more a b c d e f g h = omega arith

second_more : (a b c : ℕ) {sum sum' a' b' c' : ℕ} → a' ≡ a → b' ≡ b + 1 → c' ≡ c → sum' ≡ sum + 1 → a + b + c ≡ sum → a' + b' + c' ≡ sum'
second_more a b c d e f g h = omega arith

third_more : (a b c : ℕ) {sum sum' a' b' c' : ℕ} → a' ≡ a → b' ≡ b → c' ≡ c + 1 → sum' ≡ sum + 1 → a + b + c ≡ sum → a' + b' + c' ≡ sum'
third_more a b c d e f g h = omega arith

three_kept : (a b c : ℕ) {sum sum' a' b' c' : ℕ} → a' ≡ a → b' ≡ b → c' ≡ c → sum' ≡ sum → a + b + c ≡ sum → a' + b' + c' ≡ sum'
three_kept a b c d e f g h = omega arith

one_more_of_two : (a b : ℕ) {sum sum' a' b' : ℕ} → a' ≡ a + 1 → b' ≡ b → sum' ≡ sum + 1 → a + b ≡ sum → a' + b' ≡ sum'
one_more_of_two a b d e f g = omega arith

other_more_of_two : (a b : ℕ) {sum sum' a' b' : ℕ} → a' ≡ a → b' ≡ b + 1 → sum' ≡ sum + 1 → a + b ≡ sum → a' + b' ≡ sum'
other_more_of_two a b d e f g = omega arith

two_kept : (a b : ℕ) {sum sum' a' b' : ℕ} → a' ≡ a → b' ≡ b → sum' ≡ sum → a + b ≡ sum → a' + b' ≡ sum'
two_kept a b d e f g = omega arith

up_both : {a b a' b' : ℕ} → a' ≡ a + 1 → b' ≡ b + 1 → a ≤ b → a' ≤ b'
up_both c d e = omega arith

up_right : {a b a' b' : ℕ} → a' ≡ a → b ≤ b' → a ≤ b → a' ≤ b'
up_right c d e = omega arith

up_bound : {a b a' b' : ℕ} → a' ≡ a → b' ≡ b → a ≤ b → a' ≤ b'
up_bound c d e = omega arith

frees_kept : (b u : ℕ) {b' u' f : ℕ} → b' ≡ b → u' ≡ u → f ≤ b + u → f ≤ b' + u'
frees_kept b u c d e = omega arith

frees_none : (b u : ℕ) {b' f f' : ℕ} → f' ≡ f → b' ≡ b + 1 → f ≤ b + u → f' ≤ b' + u
frees_none b u c d e = omega arith

frees_one : (b u : ℕ) {b' f f' : ℕ} → f' ≡ f + 1 → b' ≡ b + 1 → f ≤ b + u → f' ≤ b' + u
frees_one b u c d e = omega arith

frees_other : (b u : ℕ) {b' u' f f' : ℕ} → f' ≡ f + 1 → b' ≡ b → u' ≡ u + 1 → f ≤ b + u → f' ≤ b' + u'
frees_other b u c d e g = omega arith

frees_still : (b u : ℕ) {b' u' f f' : ℕ} → f' ≡ f → b' ≡ b → u' ≡ u + 1 → f ≤ b + u → f' ≤ b' + u'
frees_still b u c d e g = omega arith

frees_as : (most : ℕ) {f f' : ℕ} → f' ≡ f → f ≤ most → f' ≤ most
frees_as most c d = omega arith

unbinds_as : (b : ℕ) {u u' f : ℕ} → u' ≡ u → f ≤ b + u → f ≤ b + u'
unbinds_as b c d = omega arith

more_of : {a a' : ℕ} → a' ≡ a + 1 → a ≤ a'
more_of c = omega arith

same_of : {a a' : ℕ} → a' ≡ a → a ≤ a'
same_of c = omega arith

three_few : {a b c sum lines : ℕ} → lines < 2 ^ 32 → a + b + c ≡ sum → sum ≤ lines → (a < 2 ^ 62) × (b < 2 ^ 62) × (c < 2 ^ 62)
three_few few adds most = (omega arith, omega arith, omega arith)

two_few : {a b sum lines : ℕ} → lines < 2 ^ 32 → a + b ≡ sum → sum ≤ lines → (a < 2 ^ 62) × (b < 2 ^ 62)
two_few few adds most = (omega arith, omega arith)

one_few : {a sum lines : ℕ} → lines < 2 ^ 32 → a ≤ sum → sum ≤ lines → a < 2 ^ 62
one_few few adds most = omega arith

room_of : {a sum lines : ℕ} → lines < 2 ^ 32 → a ≡ sum → sum ≤ lines → a < 2 ^ 63
room_of few is most = omega arith

next_room : {a sum lines : ℕ} → lines < 2 ^ 32 → a ≡ sum → sum ≤ lines → a + 1 < 2 ^ 63
next_room few is most = omega arith

frees_room : {a b u lines : ℕ} → lines < 2 ^ 32 → a ≤ b + u → b ≤ lines → u ≤ lines → a < 2 ^ 63
frees_room few is some more = omega arith

-- ---- a line raises no count but by one

module _ {H Part : Type 0} {h : Ghosts H Part} where
  late_step : (zones : List (CountedZone H Part h)) (op : Op) (old new : Worker H Part h) → Performs zones old op new → old.late ≤ new.late
  late_step zones (Alloc zone slot arg reserve) old new step = same_of step.section.late
  late_step zones (Free slot) old new (inl freed) = same_of freed.1.section.late
  late_step zones (Free slot) old new (inr nothing) = same_of (ap (λ (w : Worker H Part h). w.late) nothing.1)
  late_step zones Enter old new (inl step) = same_of step.late
  late_step zones Enter old new (inr step) = more_of step.late
  late_step zones Exit old new step = same_of step.late
  late_step zones (Prealloc zone items) old new step = same_of (ap (λ (w : Worker H Part h). w.late) step.same)
  late_step zones (Bind key value) old new step = absurd step
  late_step zones (Unbind key) old new step = absurd step
  late_step zones (Look key) old new step = absurd step
  late_step zones Away old new step = absurd step
  late_step zones Back old new step = absurd step
  late_step zones (Trim zone) old new step = same_of step.section.late
  late_step zones (Drain zone) old new step = same_of step.section.late
  late_step zones (DrainSeat zone) old new step = same_of step.section.late

-- ---- the counts

-- a line that is no look, bind or unbind
counts_quiet : (n : ℕ) (line : Line) (lines : List Line) (late late' : ℕ) (counts counts' : NameCounts) → is_look n line ≡ false → is_bind n line ≡ false → is_unbind n line ≡ false → late ≤ late' → counts' ≡ counts
    → NameCountsStand n lines late counts → NameCountsStand n (line ∷ lines) late' counts'
counts_quiet n line lines late late' counts counts' no_look no_bind no_unbind later same stands = record {
  looks_add_up = three_kept counts.hits counts.misses counts.late (ap (λ (c : NameCounts). c.hits) same) (ap (λ (c : NameCounts). c.misses) same) (ap (λ (c : NameCounts). c.late) same)
      (same_count (looks-more n line lines) no_look) stands.looks_add_up;
  binds_add_up = two_kept counts.binds counts.refused (ap (λ (c : NameCounts). c.binds) same) (ap (λ (c : NameCounts). c.refused) same) (same_count (binds-more n line lines) no_bind) stands.binds_add_up;
  unbound = up_bound (ap (λ (c : NameCounts). c.unbound) same) (same_count (unbinds-more n line lines) no_unbind) stands.unbound;
  late_few = up_right (ap (λ (c : NameCounts). c.late) same) later stands.late_few;
}

abbrev Count : Type 0
Count = NameCounts → ℕ

abbrev hits : Count
hits c = c.hits

abbrev misses : Count
misses c = c.misses

abbrev too_late : Count
too_late c = c.late

abbrev bound : Count
bound c = c.binds

abbrev refused : Count
refused c = c.refused

abbrev unbound : Count
unbound c = c.unbound

counts_bind : (n key value : ℕ) (lines : List Line) (late late' : ℕ) (done : Bool) (counts counts' : NameCounts) → late ≤ late' → CountsBind done counts counts'
    → NameCountsStand n lines late counts → NameCountsStand n (Does n (Bind key value) ∷ lines) late' counts'
counts_bind n key value lines late late' true counts counts' later is stands =
    let line : Line = Does n (Bind key value) in
    record {
      looks_add_up = three_kept counts.hits counts.misses counts.late (ap hits is) (ap misses is) (ap too_late is) (same_count (looks-more n line lines) refl) stands.looks_add_up;
      binds_add_up = one_more_of_two counts.binds counts.refused (ap bound is) (ap refused is) (next_count (binds n lines) (binds-more n line lines) (is_bind-own n key value)) stands.binds_add_up;
      unbound = up_bound (ap unbound is) (same_count (unbinds-more n line lines) refl) stands.unbound;
      late_few = up_right (ap too_late is) later stands.late_few;
    }
counts_bind n key value lines late late' false counts counts' later is stands =
    let line : Line = Does n (Bind key value) in
    record {
      looks_add_up = three_kept counts.hits counts.misses counts.late (ap hits is) (ap misses is) (ap too_late is) (same_count (looks-more n line lines) refl) stands.looks_add_up;
      binds_add_up = other_more_of_two counts.binds counts.refused (ap bound is) (ap refused is) (next_count (binds n lines) (binds-more n line lines) (is_bind-own n key value)) stands.binds_add_up;
      unbound = up_bound (ap unbound is) (same_count (unbinds-more n line lines) refl) stands.unbound;
      late_few = up_right (ap too_late is) later stands.late_few;
    }

counts_unbind : (n key : ℕ) (lines : List Line) (late late' : ℕ) (done : Bool) (counts counts' : NameCounts) → late ≤ late' → CountsUnbind done counts counts'
    → NameCountsStand n lines late counts → NameCountsStand n (Does n (Unbind key) ∷ lines) late' counts'
counts_unbind n key lines late late' true counts counts' later is stands =
    let line : Line = Does n (Unbind key) in
    record {
      looks_add_up = three_kept counts.hits counts.misses counts.late (ap hits is) (ap misses is) (ap too_late is) (same_count (looks-more n line lines) refl) stands.looks_add_up;
      binds_add_up = two_kept counts.binds counts.refused (ap bound is) (ap refused is) (same_count (binds-more n line lines) refl) stands.binds_add_up;
      unbound = up_both (ap unbound is) (next_count (unbinds n lines) (unbinds-more n line lines) (is_unbind-own n key)) stands.unbound;
      late_few = up_right (ap too_late is) later stands.late_few;
    }
counts_unbind n key lines late late' false counts counts' later is stands =
    let line : Line = Does n (Unbind key) in
    record {
      looks_add_up = three_kept counts.hits counts.misses counts.late (ap hits is) (ap misses is) (ap too_late is) (same_count (looks-more n line lines) refl) stands.looks_add_up;
      binds_add_up = two_kept counts.binds counts.refused (ap bound is) (ap refused is) (same_count (binds-more n line lines) refl) stands.binds_add_up;
      unbound = up_right (ap unbound is) (more_of (next_count (unbinds n lines) (unbinds-more n line lines) (is_unbind-own n key))) stands.unbound;
      late_few = up_right (ap too_late is) later stands.late_few;
    }

counts_answer : (n key : ℕ) (lines : List Line) (late late' : ℕ) (found : Option ℕ) (counts counts' : NameCounts) → late ≤ late' → CountsAnswer found counts counts'
    → NameCountsStand n lines late counts → NameCountsStand n (Does n (Look key) ∷ lines) late' counts'
counts_answer n key lines late late' (Some value) counts counts' later is stands =
    let line : Line = Does n (Look key) in
    record {
      looks_add_up = first_more counts.hits counts.misses counts.late (ap hits is) (ap misses is) (ap too_late is) (next_count (looks n lines) (looks-more n line lines) (is_look-own n key)) stands.looks_add_up;
      binds_add_up = two_kept counts.binds counts.refused (ap bound is) (ap refused is) (same_count (binds-more n line lines) refl) stands.binds_add_up;
      unbound = up_bound (ap unbound is) (same_count (unbinds-more n line lines) refl) stands.unbound;
      late_few = up_right (ap too_late is) later stands.late_few;
    }
counts_answer n key lines late late' None counts counts' later is stands =
    let line : Line = Does n (Look key) in
    record {
      looks_add_up = second_more counts.hits counts.misses counts.late (ap hits is) (ap misses is) (ap too_late is) (next_count (looks n lines) (looks-more n line lines) (is_look-own n key)) stands.looks_add_up;
      binds_add_up = two_kept counts.binds counts.refused (ap bound is) (ap refused is) (same_count (binds-more n line lines) refl) stands.binds_add_up;
      unbound = up_bound (ap unbound is) (same_count (unbinds-more n line lines) refl) stands.unbound;
      late_few = up_right (ap too_late is) later stands.late_few;
    }

counts_late : (n key : ℕ) (lines : List Line) (late late' : ℕ) (counts counts' : NameCounts) → late' ≡ late + 1 → CountsLate counts counts'
    → NameCountsStand n lines late counts → NameCountsStand n (Does n (Look key) ∷ lines) late' counts'
counts_late n key lines late late' counts counts' later is stands =
    let line : Line = Does n (Look key) in
    record {
      looks_add_up = third_more counts.hits counts.misses counts.late (ap hits is) (ap misses is) (ap too_late is) (next_count (looks n lines) (looks-more n line lines) (is_look-own n key)) stands.looks_add_up;
      binds_add_up = two_kept counts.binds counts.refused (ap bound is) (ap refused is) (same_count (binds-more n line lines) refl) stands.binds_add_up;
      unbound = up_bound (ap unbound is) (same_count (unbinds-more n line lines) refl) stands.unbound;
      late_few = up_both (ap too_late is) later stands.late_few;
    }

-- ---- the ledger

-- a line that is no bind or unbind
ledger_quiet : (slabs n : ℕ) (line : Line) (lines : List Line) (more more' : ℕ) (ledger : SeatLedger) → is_bind n line ≡ false → is_unbind n line ≡ false → more ≤ more'
    → NameLedgerStands slabs n lines more ledger → NameLedgerStands slabs n (line ∷ lines) more' ledger
ledger_quiet slabs n line lines more more' ledger no_bind no_unbind most stands =
    let binds_same : binds n (line ∷ lines) ≡ binds n lines = same_count (binds-more n line lines) no_bind in
    let unbinds_same : unbinds n (line ∷ lines) ≡ unbinds n lines = same_count (unbinds-more n line lines) no_unbind in
    record {
      requests = stands.requests ∙ sym binds_same;
      turned = stands.turned;
      fails = le_trans stands.fails most;
      frees = frees_kept (binds n lines) (unbinds n lines) binds_same unbinds_same stands.frees;
      kept = stands.kept;
    }

frees_bind : (between new : SeatLedger) (b u : ℕ) {b' : ℕ} → MayCountFree between new → b' ≡ b + 1 → between.frees ≤ b + u → new.frees ≤ b' + u
frees_bind between new b u (inl same) more few = frees_none b u (ap (λ (l : SeatLedger). l.frees) same) more few
frees_bind between new b u (inr freed) more few = frees_one b u freed.1.frees more few

-- what an evicting bind leaves of the ledger, but for the frees
record KeepsRequests (between new : SeatLedger) : Type 0 where
  pub requests : new.requests ≡ between.requests
  pub fails : new.fails ≡ between.fails
  pub turned : new.turned ≡ between.turned
  pub last : new.last ≡ between.last

freed_keeps : (between new : SeatLedger) (crossed : Bool) → CountsFree between new crossed → KeepsRequests between new
freed_keeps between new crossed freed = record { requests = freed.requests; fails = freed.fails; turned = freed.turned; last = freed.last }

evict_keeps : (between new : SeatLedger) → MayCountFree between new → KeepsRequests between new
evict_keeps between new (inl same) =
    record { requests = ap (λ (l : SeatLedger). l.requests) same; fails = ap (λ (l : SeatLedger). l.fails) same; turned = ap (λ (l : SeatLedger). l.turned) same; last = ap (λ (l : SeatLedger). l.last) same }
evict_keeps between new (inr freed) = freed_keeps between new freed.0 freed.1

-- a bind that got an entry
ledger_got : (slabs n key value : ℕ) (lines : List Line) (more more' : ℕ) (old between new : SeatLedger) → more ≤ more' → CountsAlloc old between → MayCountFree between new
    → NameLedgerStands slabs n lines more old → NameLedgerStands slabs n (Does n (Bind key value) ∷ lines) more' new
ledger_got slabs n key value lines more more' old between new most alloc evicts stands =
    let line : Line = Does n (Bind key value) in
    let one : binds n (line ∷ lines) ≡ binds n lines + 1 = next_count (binds n lines) (binds-more n line lines) (is_bind-own n key value) in
    let none : unbinds n (line ∷ lines) ≡ unbinds n lines = same_count (unbinds-more n line lines) refl in
    let keeps = evict_keeps between new evicts in
    record {
      requests = keeps.requests ∙ (alloc.requests ∙ (ap (λ k. k + 1) stands.requests ∙ sym one));
      turned = up_bound (keeps.fails ∙ alloc.fails) (keeps.turned ∙ alloc.turned) stands.turned;
      fails = up_right (keeps.fails ∙ alloc.fails) most stands.fails;
      frees = unbinds_as (binds n (line ∷ lines)) none (frees_bind between new (binds n lines) (unbinds n lines) evicts one (frees_as (binds n lines + unbinds n lines) alloc.frees stands.frees));
      kept = λ refusal is. stands.kept refusal (sym (keeps.last ∙ alloc.last) ∙ is);
    }

-- a bind whose entry was refused
ledger_refused : (slabs n key value : ℕ) (lines : List Line) (more more' : ℕ) (old new : SeatLedger) (refusal : Refusal) → more' ≡ more + 1 → CountsTurned old new refusal → NamesRefuse slabs refusal
    → NameLedgerStands slabs n lines more old → NameLedgerStands slabs n (Does n (Bind key value) ∷ lines) more' new
ledger_refused slabs n key value lines more more' old new refusal one_more turned fits stands =
    let line : Line = Does n (Bind key value) in
    let one : binds n (line ∷ lines) ≡ binds n lines + 1 = next_count (binds n lines) (binds-more n line lines) (is_bind-own n key value) in
    let none : unbinds n (line ∷ lines) ≡ unbinds n lines = same_count (unbinds-more n line lines) refl in
    record {
      requests = turned.requests ∙ (ap (λ k. k + 1) stands.requests ∙ sym one);
      turned = up_both turned.fails turned.turned stands.turned;
      fails = up_both turned.fails one_more stands.fails;
      frees = unbinds_as (binds n (line ∷ lines)) none (frees_none (binds n lines) (unbinds n lines) turned.frees one stands.frees);
      kept = λ other is. subst (NamesRefuse slabs) (same_Some refusal other (sym turned.last ∙ is)) fits;
    }

ledger_bind : (slabs n key value : ℕ) (IsFound : Refusal → Type 0) (Cause : Type 0) (lines : List Line) (done : Bool) (counts counts' : NameCounts) (old new : SeatLedger) → CountsBind done counts counts' → BindCounts slabs IsFound Cause done old new
    → NameLedgerStands slabs n lines counts.refused old → NameLedgerStands slabs n (Does n (Bind key value) ∷ lines) counts'.refused new
ledger_bind slabs n key value IsFound Cause lines true counts counts' old new is counted stands =
    ledger_got slabs n key value lines counts.refused counts'.refused old counted.between new (same_of (ap refused is)) counted.alloc counted.evicts stands
ledger_bind slabs n key value IsFound Cause lines false counts counts' old new is (inl turned) stands =
    ledger_refused slabs n key value lines counts.refused counts'.refused old new turned.refusal (ap refused is) turned.turned turned.fits stands
ledger_bind slabs n key value IsFound Cause lines false counts counts' old new is (inr given) stands =
    ledger_got slabs n key value lines counts.refused counts'.refused old given.between new (more_of (ap refused is)) given.alloc (inr given.back) stands

ledger_unbind : (slabs n key : ℕ) (lines : List Line) (done : Bool) (counts counts' : NameCounts) (old new : SeatLedger) → CountsUnbind done counts counts' → UnbindCounts done old new
    → NameLedgerStands slabs n lines counts.refused old → NameLedgerStands slabs n (Does n (Unbind key) ∷ lines) counts'.refused new
ledger_unbind slabs n key lines true counts counts' old new is freed stands =
    let line : Line = Does n (Unbind key) in
    let none : binds n (line ∷ lines) ≡ binds n lines = same_count (binds-more n line lines) refl in
    let one : unbinds n (line ∷ lines) ≡ unbinds n lines + 1 = next_count (unbinds n lines) (unbinds-more n line lines) (is_unbind-own n key) in
    let keeps = freed_keeps old new freed.0 freed.1 in
    record {
      requests = keeps.requests ∙ (stands.requests ∙ sym none);
      turned = up_bound keeps.fails keeps.turned stands.turned;
      fails = up_bound keeps.fails (ap refused is) stands.fails;
      frees = frees_other (binds n lines) (unbinds n lines) freed.1.frees none one stands.frees;
      kept = λ refusal at. stands.kept refusal (sym keeps.last ∙ at);
    }
ledger_unbind slabs n key lines false counts counts' old new is same stands =
    let line : Line = Does n (Unbind key) in
    let none : binds n (line ∷ lines) ≡ binds n lines = same_count (binds-more n line lines) refl in
    let one : unbinds n (line ∷ lines) ≡ unbinds n lines + 1 = next_count (unbinds n lines) (unbinds-more n line lines) (is_unbind-own n key) in
    record {
      requests = ap (λ (l : SeatLedger). l.requests) same ∙ (stands.requests ∙ sym none);
      turned = up_bound (ap (λ (l : SeatLedger). l.fails) same) (ap (λ (l : SeatLedger). l.turned) same) stands.turned;
      fails = up_bound (ap (λ (l : SeatLedger). l.fails) same) (ap refused is) stands.fails;
      frees = frees_still (binds n lines) (unbinds n lines) (ap (λ (l : SeatLedger). l.frees) same) none one stands.frees;
      kept = λ refusal at. stands.kept refusal (sym (ap (λ (l : SeatLedger). l.last) same) ∙ at);
    }

answer_refused : (found : Option ℕ) (counts counts' : NameCounts) → CountsAnswer found counts counts' → counts'.refused ≡ counts.refused
answer_refused (Some value) counts counts' is = ap refused is
answer_refused None counts counts' is = ap refused is

module _ {N H C S Part : Type 0} (names : NameGhosts N H C S Part) (cache : C) where
  abbrev slabs : ℕ
  slabs = (names.sizes_of cache).slabs

  -- a line that isn't of names
  named_quiet : (n : ℕ) (op : Op) (lines : List Line) (late late' : ℕ) (old new : NameWork N H C S Part) → is_look n (Does n op) ≡ false → is_bind n (Does n op) ≡ false → is_unbind n (Does n op) ≡ false
      → late ≤ late' → new ≡ old → NamesStand names cache n lines late old → NamesStand names cache n (Does n op ∷ lines) late' new
  named_quiet n op lines late late' old new no_look no_bind no_unbind later same stands =
      let line : Line = Does n op in
      let P : NameWork N H C S Part → Type 0 = NamesStand names cache n (line ∷ lines) late' in
      subst P (sym same) (record {
        seat = stands.seat;
        counts = counts_quiet n line lines late late' old.counts old.counts no_look no_bind no_unbind later refl stands.counts;
        ledger = if_some (names.counted old.seat) (λ ledger was. ledger_quiet slabs n line lines old.counts.refused old.counts.refused ledger no_bind no_unbind (same_of refl) was) stands.ledger;
      })

  -- the ledger after a look
  looked_ledger : (n key : ℕ) (lines : List Line) (old new : NameWork N H C S Part) → new.seat ≡ old.seat → new.counts.refused ≡ old.counts.refused
      → IfSome (names.counted old.seat) (NameLedgerStands slabs n lines old.counts.refused) → IfSome (names.counted new.seat) (NameLedgerStands slabs n (Does n (Look key) ∷ lines) new.counts.refused)
  looked_ledger n key lines old new same same_refused ledger =
      let line : Line = Does n (Look key) in
      let P : S → Type 0 = λ seat. IfSome (names.counted seat) (NameLedgerStands slabs n (line ∷ lines) new.counts.refused) in
      subst P (sym same) (if_some (names.counted old.seat) (λ it was. ledger_quiet slabs n line lines old.counts.refused new.counts.refused it refl refl (same_of same_refused) was) ledger)

  -- each count can be one more
  pub name_rooms : (n : ℕ) (lines : List Line) (late : ℕ) (name_work : NameWork N H C S Part) → length lines < 2 ^ 32 → NamesStand names cache n lines late name_work → HasNameRooms names name_work
  name_rooms n lines late name_work few stands =
      let looked = three_few few stands.counts.looks_add_up (looks-few n lines) in
      let tried = two_few few stands.counts.binds_add_up (binds-few n lines) in
      record {
        counts = record { hits = looked.0; misses = looked.1; late = looked.2; binds = tried.0; unbound = one_few few stands.counts.unbound (unbinds-few n lines); refused = tried.1 };
        ledger = if_some (names.counted name_work.seat) (λ ledger was. record {
          now = record { requests = room_of few was.requests (binds-few n lines); frees = frees_room few was.frees (binds-few n lines) (unbinds-few n lines) };
          later = next_room few was.requests (binds-few n lines);
        }) stands.ledger;
      }

module _ {N H C S Part : Type 0} {h : Ghosts H Part} (names : NameGhosts N H C S Part) (cache : C) where
  named_bind : (n key value : ℕ) (lines : List Line) (old new : LineState N H C S Part h) → BindsLine names cache old key value new → names.IsSeat cache new.name_work.seat
      → NamesStand names cache n lines old.worker.late old.name_work → NamesStand names cache n (Does n (Bind key value) ∷ lines) new.worker.late new.name_work
  named_bind n key value lines old new step seat stands = record {
    seat = seat;
    counts = counts_bind n key value lines old.worker.late new.worker.late step.done old.name_work.counts new.name_work.counts (same_of step.section.late) step.counts stands.counts;
    ledger = on_both (names.counted old.name_work.seat) (names.counted new.name_work.seat) step.ledger
        (λ before after counted was. ledger_bind (slabs names cache) n key value (names.IsFound cache) _ lines step.done old.name_work.counts new.name_work.counts before after step.counts counted was) stands.ledger;
  }

  named_unbind : (n key : ℕ) (lines : List Line) (old new : LineState N H C S Part h) → UnbindsLine names cache old key new → names.IsSeat cache new.name_work.seat
      → NamesStand names cache n lines old.worker.late old.name_work → NamesStand names cache n (Does n (Unbind key) ∷ lines) new.worker.late new.name_work
  named_unbind n key lines old new step seat stands = record {
    seat = seat;
    counts = counts_unbind n key lines old.worker.late new.worker.late step.done old.name_work.counts new.name_work.counts (same_of step.section.late) step.counts stands.counts;
    ledger = on_both (names.counted old.name_work.seat) (names.counted new.name_work.seat) step.ledger
        (λ before after counted was. ledger_unbind (slabs names cache) n key lines step.done old.name_work.counts new.name_work.counts before after step.counts counted was) stands.ledger;
  }

  named_look : (n key : ℕ) (lines : List Line) (old new : LineState N H C S Part h) → LooksLine names cache old key new → names.IsSeat cache new.name_work.seat
      → NamesStand names cache n lines old.worker.late old.name_work → NamesStand names cache n (Does n (Look key) ∷ lines) new.worker.late new.name_work
  named_look n key lines old new (inl step) seat stands = record {
    seat = seat;
    counts = counts_answer n key lines old.worker.late new.worker.late step.found old.name_work.counts new.name_work.counts (same_of step.section.late) step.counts stands.counts;
    ledger = looked_ledger names cache n key lines old.name_work new.name_work step.seat (answer_refused step.found old.name_work.counts new.name_work.counts step.counts) stands.ledger;
  }
  named_look n key lines old new (inr (inl step)) seat stands = record {
    seat = seat;
    counts = counts_answer n key lines old.worker.late new.worker.late step.found old.name_work.counts new.name_work.counts (same_of step.late) step.counts stands.counts;
    ledger = looked_ledger names cache n key lines old.name_work new.name_work step.seat (answer_refused step.found old.name_work.counts new.name_work.counts step.counts) stands.ledger;
  }
  named_look n key lines old new (inr (inr step)) seat stands = record {
    seat = seat;
    counts = counts_late n key lines old.worker.late new.worker.late old.name_work.counts new.name_work.counts step.late step.counts stands.counts;
    ledger = looked_ledger names cache n key lines old.name_work new.name_work step.seat (ap refused step.counts) stands.ledger;
  }

  -- a line of any kind
  pub named_step : (zones : List (CountedZone H Part h)) (n : ℕ) (op : Op) (lines : List Line) (old new : LineState N H C S Part h) → Changes names cache zones old op new → names.IsSeat cache new.name_work.seat
      → NamesStand names cache n lines old.worker.late old.name_work → NamesStand names cache n (Does n op ∷ lines) new.worker.late new.name_work
  named_step zones n (Bind key value) lines old new step seat stands = named_bind n key value lines old new step seat stands
  named_step zones n (Unbind key) lines old new step seat stands = named_unbind n key lines old new step seat stands
  named_step zones n (Look key) lines old new step seat stands = named_look n key lines old new step seat stands
  named_step zones n (Alloc zone slot arg reserve) lines old new step seat stands =
      named_quiet names cache n (Alloc zone slot arg reserve) lines old.worker.late new.worker.late old.name_work new.name_work refl refl refl (late_step zones (Alloc zone slot arg reserve) old.worker new.worker step.0) step.1 stands
  named_step zones n (Free slot) lines old new step seat stands =
      named_quiet names cache n (Free slot) lines old.worker.late new.worker.late old.name_work new.name_work refl refl refl (late_step zones (Free slot) old.worker new.worker step.0) step.1 stands
  named_step zones n Enter lines old new step seat stands =
      named_quiet names cache n Enter lines old.worker.late new.worker.late old.name_work new.name_work refl refl refl (late_step zones Enter old.worker new.worker step.0) step.1 stands
  named_step zones n Exit lines old new step seat stands =
      named_quiet names cache n Exit lines old.worker.late new.worker.late old.name_work new.name_work refl refl refl (late_step zones Exit old.worker new.worker step.0) step.1 stands
  named_step zones n (Prealloc zone items) lines old new step seat stands =
      named_quiet names cache n (Prealloc zone items) lines old.worker.late new.worker.late old.name_work new.name_work refl refl refl (late_step zones (Prealloc zone items) old.worker new.worker step.0) step.1 stands
  named_step zones n (Trim zone) lines old new step seat stands =
      named_quiet names cache n (Trim zone) lines old.worker.late new.worker.late old.name_work new.name_work refl refl refl (late_step zones (Trim zone) old.worker new.worker step.0) step.1 stands
  named_step zones n (Drain zone) lines old new step seat stands =
      named_quiet names cache n (Drain zone) lines old.worker.late new.worker.late old.name_work new.name_work refl refl refl (late_step zones (Drain zone) old.worker new.worker step.0) step.1 stands
  named_step zones n (DrainSeat zone) lines old new step seat stands =
      named_quiet names cache n (DrainSeat zone) lines old.worker.late new.worker.late old.name_work new.name_work refl refl refl (late_step zones (DrainSeat zone) old.worker new.worker step.0) step.1 stands
  named_step zones n Away lines old new step seat stands =
      named_quiet names cache n Away lines old.worker.late new.worker.late old.name_work new.name_work refl refl refl (same_of step.keeps.late) step.name_work stands
  named_step zones n Back lines old new step seat stands =
      named_quiet names cache n Back lines old.worker.late new.worker.late old.name_work new.name_work refl refl refl (same_of step.keeps.late) step.name_work stands
