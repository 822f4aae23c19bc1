use Rattle.std.proofs.Common.{◌≡◌, ℕ, List, [], ◌∷◌, ◌++◌, replicate, ap, ◌∙◌, append_assoc, arith}
use Rattle.std.proofs.lemmas.List.{replicate_more}
use Rattle.zone_stats.proofs.table.push_spaces.Goals as goal

pub loop-preserved : goal.loop-preserved
loop-preserved c =
    let before = c.args.text.now.items in
    let n = c.loop.counter in
    c.in_ok-push.ensures.items
    ∙ ap (λ (text : List ℕ). text ++ 32 ∷ []) c.loop.invariant
    ∙ append_assoc before (replicate n 32) (32 ∷ [])
    ∙ ap (λ (spaces : List ℕ). before ++ spaces) (replicate_more n 32)

pub returns : goal.returns
returns c =
    let ended : c.loop.counter ≡ c.args.count = omega (arith, c.loop-test.false, c.loop.auto.counter-end) in
    c.loop.invariant ∙ ap (λ (n : ℕ). c.args.text.now.items ++ replicate n 32) ended
