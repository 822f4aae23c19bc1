use Rattle.std.proofs.Common.{◌≡◌, ℕ, [], ap, ◌∙◌, sym, length, get_or, arith}
use Rattle.uma_seat.specs.Stack.{stack_of, stack_at}
use Rattle.uma_seat.specs.Row.{stacks_of}
use Rattle.uma_seat.proofs.RowSteps.{at_row, none_of, none_more}
use Rattle.uma_seat.proofs.rows.PlainRow.first_but.Goals as goal
use Rattle.uma_seat.proofs.rows.PlainRow.first_but.Goals.{else-domain-own-via-then-domain-own+else-len-ne0, else-domain-own-via-else-domain-own}

pub loop-domain-preserved : goal.loop-domain-preserved
loop-domain-preserved g c =
    let row = c.args.self.now in
    none_more (λ (k : ℕ). (stack_at (stacks_of row) k).items ≡ []) c.loop-domain.domain c.args.own c.loop-domain.invariant
    (λ other. elim c.else-domain-own.branch [
      | else-domain-own-via-then-domain-own+else-len-ne0 w ↦
          ap (λ s. s.items) (at_row stack_of row.buckets.items c.loop-domain.domain c.bucket-item.result (omega (arith, ap length c.deref-bucket-items.ensures.value)) (c.bucket-item.is ∙ ap (λ l. get_or l c.loop-domain.domain c.bucket-item.result) c.deref-bucket-items.ensures.value)) ∙ none_of _ (sym w.len.ensures.len ∙ w.if-len-ne0.false)
      | else-domain-own-via-else-domain-own w ↦ absurd (other w.if-domain-own.false)
    ])
