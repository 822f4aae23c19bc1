-- A worker's ledger of one zone with one line of the worker more.
use Rattle.std.proofs.Common.{◌≡◌, ◌≢◌, ℕ, ◌+◌, ◌<◌, ◌≤◌, List, ◌∷◌, Bool, true, false, cond, Some, refl, sym, ap, ◌∙◌, subst, arith, eq-eqb}
use Rattle.std.proofs.lemmas.Bool.{ne_eqb, and_left, lt-ltb}
use Rattle.std.proofs.lemmas.Option.{same_Some}
use Rattle.std.specs.Prelude.{◌&&◌, ◌==◌, nat_lt}
use Rattle.trace_text.specs.declared.trace.Op.TheVariants.{Alloc, Free}
use Rattle.trace_text.specs.Lines.{Line, Does}
use Rattle.trace_text.specs.Reading.{held}
use Rattle.zone_stats.specs.declared.ledger.SeatLedger.{SeatLedger}
use Rattle.zone_stats.specs.declared.refusal.Refusal.{Refusal}
use Rattle.zone_stats.specs.declared.refusal.Refusal.TheVariants.{AtLimit, Reserved, Full, Init, Ctor}
use Rattle.zone_stats.specs.Ledger.{is_ctor}
use Rattle.zone_stats.specs.LedgerSteps.{CountsAlloc, CountsTurned, CountsCtor, CountsFree}
use Rattle.replay_worker.specs.Counting.{is_ask, is_ask_with_arg, is_ask_with, asked, argued, asked_with, freed}
use Rattle.replay_worker.specs.LedgerStands.{KeptFits, LedgerStands}
use Rattle.replay_worker.proofs.LineCounts.{asked-more, argued-more, asked_with-more, freed-more, is_ask-own, is_ask_with_arg-own, is_ask_with-own, is_free-own}

-- what is kept goes on fitting with more lines
kept_more : (Names : Refusal → Type 0) (n z : ℕ) (lines : List Line) (line : Line) (refusal : Refusal) → KeptFits Names n z lines refusal → KeptFits Names n z (line ∷ lines) refusal
kept_more Names n z lines line (Ctor code) kept = (kept.0, omega (arith, asked_with-more n z code line lines, kept.1))
kept_more Names n z lines line (AtLimit out limit) kept = kept
kept_more Names n z lines line (Reserved free reserve) kept = kept
kept_more Names n z lines line (Full slabs made) kept = kept
kept_more Names n z lines line (Init code) kept = kept

-- a line that is no request of the zone, and leaves its ledger as it was
pub LedgerStands-other : (Names : Refusal → Type 0) (n z : ℕ) (lines : List Line) (line : Line) (l : SeatLedger) → is_ask n z line ≡ false → is_ask_with_arg n z line ≡ false
    → LedgerStands Names n z lines l → LedgerStands Names n z (line ∷ lines) l
LedgerStands-other Names n z lines line l no_ask no_arg stands =
    let asks : asked n z (line ∷ lines) ≡ asked n z lines + 0 = asked-more n z line lines ∙ ap (λ b. asked n z lines + cond b 1 0) no_ask in
    let args : argued n z (line ∷ lines) ≡ argued n z lines + 0 = argued-more n z line lines ∙ ap (λ b. argued n z lines + cond b 1 0) no_arg in
    record {
      requests = omega (arith, asks, stands.requests);
      some_args = omega (arith, args, stands.some_args);
      all_args = omega (arith, args, stands.all_args);
      frees = omega (arith, freed-more n z line lines, stands.frees);
      kept = λ refusal is. kept_more Names n z lines line refusal (stands.kept refusal is);
    }

-- the worker requests an item of another zone
pub LedgerStands-other_zone : (Names : Refusal → Type 0) (n z w slot arg : ℕ) (reserve : Bool) (lines : List Line) (l : SeatLedger) → w ≢ z
    → LedgerStands Names n z lines l → LedgerStands Names n z (Does n (Alloc w slot arg reserve) ∷ lines) l
LedgerStands-other_zone Names n z w slot arg reserve lines l apart stands =
    LedgerStands-other Names n z lines (Does n (Alloc w slot arg reserve)) l
    (is_ask-own n z w slot arg reserve ∙ ne_eqb w z apart)
    (is_ask_with_arg-own n z w slot arg reserve ∙ and_left (w == z) (nat_lt 0 arg) (ne_eqb w z apart))
    stands

-- how the counts go on with a request of the zone
asks-more : (n z slot arg : ℕ) (reserve : Bool) (lines : List Line) → asked n z (Does n (Alloc z slot arg reserve) ∷ lines) ≡ asked n z lines + 1
asks-more n z slot arg reserve lines =
    asked-more n z (Does n (Alloc z slot arg reserve)) lines ∙ ap (λ b. asked n z lines + cond b 1 0) (is_ask-own n z z slot arg reserve ∙ eq-eqb z z refl)

args-more : (n z slot arg : ℕ) (reserve : Bool) (lines : List Line) → argued n z (Does n (Alloc z slot arg reserve) ∷ lines) ≡ argued n z lines + cond (nat_lt 0 arg) 1 0
args-more n z slot arg reserve lines =
    argued-more n z (Does n (Alloc z slot arg reserve)) lines
    ∙ ap (λ b. argued n z lines + cond b 1 0) (is_ask_with_arg-own n z z slot arg reserve ∙ ap (λ b. b && nat_lt 0 arg) (eq-eqb z z refl))

abbrev unit : Bool → ℕ
unit b = cond b 1 0

unit-le : (b : Bool) → cond b 1 0 ≤ 1
unit-le true = omega arith
unit-le false = omega arith

-- a request without an argument got an item
pub LedgerStands-served : (Names : Refusal → Type 0) (n z slot arg : ℕ) (reserve : Bool) (lines : List Line) (l l' : SeatLedger) → arg ≡ 0 → CountsAlloc l l'
    → LedgerStands Names n z lines l → LedgerStands Names n z (Does n (Alloc z slot arg reserve) ∷ lines) l'
LedgerStands-served Names n z slot arg reserve lines l l' accepted counted stands =
    let line : Line = Does n (Alloc z slot arg reserve) in
    let none : unit (nat_lt 0 arg) ≡ 0 = ap (λ a. unit (nat_lt 0 a)) accepted in
    record {
      requests = omega (arith, asks-more n z slot arg reserve lines, stands.requests, counted.requests);
      some_args = omega (arith, args-more n z slot arg reserve lines, none, stands.some_args, counted.fails, counted.turned);
      all_args = omega (arith, args-more n z slot arg reserve lines, none, stands.all_args, counted.fails);
      frees = omega (arith, freed-more n z line lines, stands.frees, counted.frees);
      kept = λ refusal is. kept_more Names n z lines line refusal (stands.kept refusal (sym counted.last ∙ is));
    }

-- the refusal of a fetch names its zone
kept_turned : (Names : Refusal → Type 0) (n z : ℕ) (lines : List Line) (refusal : Refusal) → is_ctor refusal ≡ false → Names refusal → KeptFits Names n z lines refusal
kept_turned Names n z lines (Ctor code) no_ctor names = absurd (let never : true ≡ false = no_ctor in cc)
kept_turned Names n z lines (AtLimit out limit) no_ctor names = names
kept_turned Names n z lines (Reserved free reserve) no_ctor names = names
kept_turned Names n z lines (Full slabs made) no_ctor names = names
kept_turned Names n z lines (Init code) no_ctor names = names

-- the fetch of a request was refused so
pub LedgerStands-turned : (Names : Refusal → Type 0) (n z slot arg : ℕ) (reserve : Bool) (lines : List Line) (l l' : SeatLedger) (why : Refusal) → is_ctor why ≡ false → Names why
    → CountsTurned l l' why → LedgerStands Names n z lines l → LedgerStands Names n z (Does n (Alloc z slot arg reserve) ∷ lines) l'
LedgerStands-turned Names n z slot arg reserve lines l l' why no_ctor names counted stands =
    let line : Line = Does n (Alloc z slot arg reserve) in
    let few = unit-le (nat_lt 0 arg) in
    record {
      requests = omega (arith, asks-more n z slot arg reserve lines, stands.requests, counted.requests);
      some_args = omega (arith, args-more n z slot arg reserve lines, few, stands.some_args, counted.fails, counted.turned);
      all_args = omega (arith, args-more n z slot arg reserve lines, few, stands.all_args, counted.fails);
      frees = omega (arith, freed-more n z line lines, stands.frees, counted.frees);
      kept = λ refusal is.
          let P : Refusal → Type 0 = KeptFits Names n z (line ∷ lines) in
          subst P (same_Some why refusal (sym counted.last ∙ is)) (kept_turned Names n z (line ∷ lines) why no_ctor names);
    }

-- `ctor` refused the item of a request with an argument
pub LedgerStands-dropped : (Names : Refusal → Type 0) (n z slot arg : ℕ) (reserve : Bool) (lines : List Line) (l l' : SeatLedger) → 0 < arg → CountsCtor l l' arg
    → LedgerStands Names n z lines l → LedgerStands Names n z (Does n (Alloc z slot arg reserve) ∷ lines) l'
LedgerStands-dropped Names n z slot arg reserve lines l l' some counted stands =
    let line : Line = Does n (Alloc z slot arg reserve) in
    let one : unit (nat_lt 0 arg) ≡ 1 = ap unit (lt-ltb 0 arg some) in
    let this : is_ask_with n z arg line ≡ true =
    is_ask_with-own n z arg z slot arg reserve ∙ (ap (λ b. b && (arg == arg)) (eq-eqb z z refl) ∙ eq-eqb arg arg refl) in
    let there : asked_with n z arg (line ∷ lines) ≡ asked_with n z arg lines + 1 =
    asked_with-more n z arg line lines ∙ ap (λ b. asked_with n z arg lines + cond b 1 0) this in
    let fits : KeptFits Names n z (line ∷ lines) (Ctor arg) = (some, omega (arith, there)) in
    record {
      requests = omega (arith, asks-more n z slot arg reserve lines, stands.requests, counted.requests);
      some_args = omega (arith, args-more n z slot arg reserve lines, one, stands.some_args, counted.fails, counted.turned);
      all_args = omega (arith, args-more n z slot arg reserve lines, one, stands.all_args, counted.fails);
      frees = omega (arith, freed-more n z line lines, stands.frees, counted.frees);
      kept = λ refusal is.
          let P : Refusal → Type 0 = KeptFits Names n z (line ∷ lines) in
          subst P (same_Some (Ctor arg) refusal (sym counted.last ∙ is)) fits;
    }

-- an item of the zone is freed
pub LedgerStands-freed : (Names : Refusal → Type 0) (n z slot : ℕ) (lines : List Line) (l l' : SeatLedger) (crossed : Bool) → held lines n slot ≡ Some z → CountsFree l l' crossed
    → LedgerStands Names n z lines l → LedgerStands Names n z (Does n (Free slot) ∷ lines) l'
LedgerStands-freed Names n z slot lines l l' crossed holds counted stands =
    let line : Line = Does n (Free slot) in
    let asks : asked n z (line ∷ lines) ≡ asked n z lines + 0 = asked-more n z line lines in
    let args : argued n z (line ∷ lines) ≡ argued n z lines + 0 = argued-more n z line lines in
    let this : freed n z (line ∷ lines) ≡ freed n z lines + 1 =
    freed-more n z line lines ∙ ap (λ b. freed n z lines + cond b 1 0) (is_free-own n z z slot lines holds ∙ eq-eqb z z refl) in
    record {
      requests = omega (arith, asks, stands.requests, counted.requests);
      some_args = omega (arith, args, stands.some_args, counted.fails, counted.turned);
      all_args = omega (arith, args, stands.all_args, counted.fails);
      frees = omega (arith, this, stands.frees, counted.frees);
      kept = λ refusal is. kept_more Names n z lines line refusal (stands.kept refusal (sym counted.last ∙ is));
    }
