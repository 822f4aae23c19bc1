-- What was copied is the front of what was left.
use Rattle.std.proofs.Common.{rules, arith, Some, ap, drop, ◌∙◌, sym}
use Rattle.std.proofs.lemmas.Grind.{common_steps}
use Rattle.std.proofs.lemmas.List.{take_rest}
use Rattle.uma_io.proofs.Taking.{drop-split}
use Rattle.uma_io.proofs.source.MemSourceSource.read.Goals as goal

pub returns-clause-source : goal.returns-clause-source
returns-clause-source c =
    let rest = take_rest c.as_slice.result.now c.self.inside.given ∙ ap (drop c.self.inside.given) c.as_slice.ensures.value in
    let front = drop-split _ _ _ _ c.copy_front-given.new.to rest c.copy_front-given.ensures.copied in
    record {
      within = grind (arith, common_steps);
      takes = ap Some (ap (λ s. s.left) (sym c.self.view_is) ∙ front);
      ends = grind (arith, common_steps);
      unchanged = search rules;
      rose = search rules;
      never_falls = grind (arith, common_steps);
    }
