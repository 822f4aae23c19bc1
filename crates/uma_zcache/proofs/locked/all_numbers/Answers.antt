use Rattle.std.proofs.Common.{◌≢◌, ◌-◌, ◌∙◌, ℕ, inl, inr, arith}
use Rattle.std.proofs.lemmas.Bool.Decides.{eqb_tells}
use Rattle.uma_zcache.proofs.Counts.{times_push_same, times_push_other}
use Rattle.uma_zcache.proofs.locked.all_numbers.Goals as goal

pub loop-passed-preserved : goal.loop-passed-preserved
loop-passed-preserved c =
    let at = c.loop-passed.invariant in
    let items = c.loop-passed.home.items in
    let y : ℕ = c.args.numbers - 1 - c.loop-passed.passed in
    record {
      listed = λ number below least. rw c.push_reserved.ensures.items (elim (eqb_tells y number) [
        | inl (is, same) ↦ times_push_same number items y same ∙ omega (arith, at.not_yet number (omega arith))
        | inr (is, other) ↦ times_push_other number items y other ∙ at.listed number below (omega arith)
      ]);
      not_yet = λ number early. rw c.push_reserved.ensures.items (let other : y ≢ number = λ e. omega arith in times_push_other number items y other ∙ at.not_yet number (omega arith));
      others = λ number past. rw c.push_reserved.ensures.items (let other : y ≢ number = λ e. omega arith in times_push_other number items y other ∙ at.others number past);
      len = omega arith;
      room = c.push_reserved.ensures.capacity ∙ at.room;
    }
