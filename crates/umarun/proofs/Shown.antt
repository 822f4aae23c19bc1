-- What was written of a report is its text.
use Rattle.std.proofs.Common.{◌≡◌, List, ℕ, Option, Some, None, IsSome, refl, sym, subst}
use Rattle.std.specs.Prelude.{IfNone, IfSome}
use Rattle.command_line.specs.declared.command.Command.{Command}
use Rattle.command_line.specs.declared.command.Command.TheVariants.{Bulk}
use Rattle.umarun.specs.Summary.{summary_text}
use Rattle.umarun.specs.declared.replaying.AnyHall.{AnyHall}
use Rattle.umarun.specs.declared.fault.Fault.{Fault}
use Rattle.zone_stats.specs.declared.report.Report.{Report}

pub shown : (text_of : Report → List ℕ) (Shows : List ℕ → Type 0) (report : Option Report) (made : Report) (text : List ℕ) → report ≡ Some made → text ≡ text_of made
    → Shows text → IfSome report (λ r. Shows (text_of r))
shown text_of Shows report made text is same shows =
    let P : Option Report → Type 0 = λ o. IfSome o (λ r. Shows (text_of r)) in
    subst P (sym is) (subst Shows same shows)

pub shown_if : (text_of : Report → List ℕ) (Shows : List ℕ → Type 0) (fault : Option Fault) (report : Option Report) (made : Report) (text : List ℕ) → report ≡ Some made → text ≡ text_of made
    → IfNone fault (Shows text) → IfNone fault (IfSome report (λ r. Shows (text_of r)))
shown_if text_of Shows fault report made text is same shows =
    let P : Option Report → Type 0 = λ o. IfNone fault (IfSome o (λ r. Shows (text_of r))) in
    let Q : List ℕ → Type 0 = λ t. IfNone fault (Shows t) in
    subst P (sym is) (subst Q same shows)

-- what holds of a report and its hall
pub shown_both : (Holds : Report → AnyHall → Type 0) (report : Option Report) (hall : Option AnyHall) (made : Report) (ended : AnyHall) → report ≡ Some made → hall ≡ Some ended
    → Holds made ended → IfSome report (λ r. IfSome hall (λ h. Holds r h))
shown_both Holds report hall made ended reports leaves holds =
    let P : Option Report → Type 0 = λ o. IfSome o (λ r. IfSome hall (λ h. Holds r h)) in
    let Q : Option AnyHall → Type 0 = λ o. IfSome o (λ h. Holds made h) in
    subst P (sym reports) (subst Q (sym leaves) holds)

-- a command has one seed, one count of workers and one of steps
pub same_summary : (seed workers ops s w o : ℕ) → ◌≡◌ {A = Option Command} (Some (Bulk s w o)) (Some (Bulk seed workers ops)) → (report : Report) → summary_text seed workers ops report ≡ summary_text s w o report
same_summary seed workers ops s w o is report =
    let seeds : seed ≡ s = cc in
    let counts : workers ≡ w = cc in
    let steps : ops ≡ o = cc in
    rw (seeds, counts, steps) refl

-- no fault is none that is there
pub not_some : IsSome {T = Fault} None → ⊥
not_some i = cc
