-- Going over the lines of a text: what is kept from line to line, and what it gives in the end.
use Rattle.std.proofs.Common.{◌≡◌, ℕ, ◌+◌, ◌<◌, ◌≤◌, Bool, true, List, [], ◌∷◌, length, Ok, Err, refl, sym, ap, subst, ◌∙◌, arith, inl}
use Rattle.std.specs.Str.Lines.{lines}
use Rattle.trace_lines.specs.declared.refused.TraceKind.{TraceKind}
use Rattle.trace_lines.specs.declared.refused.LineRefused.{LineRefused}
use Rattle.trace_lines.specs.declared.refused.LineRefused.TheVariants as refusals
use Rattle.trace_lines.specs.declared.refused.TraceRefused.{TraceRefused}
use Rattle.trace_lines.specs.declared.refused.ParseRefused.TheVariants as texts
use Rattle.trace_lines.specs.TextLines.{TextLine, Test, after_earlier, spoken, is_ended, AreRight, IsRefusedAt}
use Rattle.trace_lines.specs.Taking.{TakesLine, ShowsText, at_line}

-- the lines before `rest` are right, there are so many, and the state is the one after them
pub record Follows {S : Type 0} (test : Test) (shows : S → List TextLine → Type 0) (text rest : List ℕ) (number : ℕ) (state : S) : Type 0 where
  pub earlier : List (List ℕ)
  pub whole : lines text ≡ after_earlier earlier (lines rest)
  pub right : AreRight test earlier
  pub number_is : number ≡ length earlier
  pub shown : shows state (spoken earlier)
  pub few : number + length rest ≤ length text

pub begins : {S : Type 0} (test : Test) (shows : S → List TextLine → Type 0) (text : List ℕ) (state : S) → shows state [] → Follows test shows text text 0 state
begins test shows text state shown = record { earlier = []; whole = refl; right = tt; number_is = refl; shown = shown; few = omega arith }

pub goes_on : {S : Type 0} (test : Test) (shows : S → List TextLine → Type 0) (text rest line behind : List ℕ) (number : ℕ) (old new : S) (done : Unit)
    → Follows test shows text rest number old → lines rest ≡ line ∷ lines behind → length behind < length rest → TakesLine test shows old (number + 1) line (Ok done) new
    → Follows test shows text behind (number + 1) new
goes_on test shows text rest line behind number old new done f cut shorter takes =
    let took = takes f.earlier (omega (arith, f.number_is)) f.shown in
    record {
      earlier = line ∷ f.earlier;
      whole = f.whole ∙ ap (after_earlier f.earlier) cut;
      right = (took.0, f.right);
      number_is = omega (arith, f.number_is);
      shown = took.1;
      few = omega (arith, f.few);
    }

stops_at : {S : Type 0} (test : Test) (shows : S → List TextLine → Type 0) (text rest line behind : List ℕ) (number : ℕ) (old new : S) (kind : TraceKind)
    → Follows test shows text rest number old → lines rest ≡ line ∷ lines behind → TakesLine test shows old (number + 1) line (Err (refusals.Kind kind)) new
    → IsRefusedAt test text (number + 1) kind
stops_at test shows text rest line behind number old new why f cut takes =
    inl (record {
      earlier = f.earlier;
      line = line;
      others = lines behind;
      whole = f.whole ∙ ap (after_earlier f.earlier) cut;
      right = f.right;
      number_is = omega (arith, f.number_is);
      wrong = takes f.earlier (omega (arith, f.number_is)) f.shown;
    })

pub stops : {S : Type 0} (test : Test) (shows : S → List TextLine → Type 0) (text rest line behind : List ℕ) (number : ℕ) (old new : S) (why : LineRefused) (refused : TraceRefused)
    → Follows test shows text rest number old → lines rest ≡ line ∷ lines behind → TakesLine test shows old (number + 1) line (Err why) new
    → at_line (number + 1) why ≡ texts.Trace refused → IsRefusedAt test text refused.line refused.kind
stops test shows text rest line behind number old new (refusals.Kind kind) refused f cut takes e =
    let is : record { line = number + 1; kind = kind } ≡ refused = cc in
    let P : TraceRefused → Type 0 = λ r. IsRefusedAt test text r.line r.kind in
    subst P is (stops_at test shows text rest line behind number old new kind f cut takes)
stops test shows text rest line behind number old new refusals.Memory refused f cut takes e = absurd cc

all_lines : {S : Type 0} (test : Test) (shows : S → List TextLine → Type 0) (text rest : List ℕ) (number : ℕ) (state : S) (f : Follows test shows text rest number state) → rest ≡ []
    → lines text ≡ after_earlier f.earlier []
all_lines test shows text rest number state f none = f.whole ∙ ap (λ (r : List ℕ). after_earlier f.earlier (lines r)) none

pub ends : {S : Type 0} (test : Test) (shows : S → List TextLine → Type 0) (text rest : List ℕ) (number : ℕ) (state : S) (ended : Bool)
    → Follows test shows text rest number state → rest ≡ [] → ((earlier : List TextLine) → shows state earlier → ended ≡ is_ended earlier) → ended ≡ true
    → ShowsText test shows text state
ends test shows text rest number state ended f none tells yes' = (
  spoken f.earlier,
  record { all = f.earlier; whole = all_lines test shows text rest number state f none; right = f.right; spoke_is = refl; ended = sym (tells (spoken f.earlier) f.shown) ∙ yes' },
  f.shown,
)
