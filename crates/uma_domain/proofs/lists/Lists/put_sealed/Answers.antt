use Rattle.std.proofs.Common.{◌≡◌, ◌+◌, ◌∷◌, ◌++◌, [], ◌∙◌, ap, sum_by, arith}
use Rattle.std.proofs.lemmas.List.Sums.{sum_by_push}
use Rattle.std.proofs.lemmas.List.Elements.{All-push, All-same}
use Rattle.uma_domain.specs.Identity.{key_identity}
use Rattle.uma_domain.specs.Listed.{IsSealedOf, sealed_len}
use Rattle.uma_domain.proofs.lists.Lists.put_sealed.Goals as goal

pub invariant_of-self-2-clause-sealed_here : goal.invariant_of-self-2-clause-sealed_here
invariant_of-self-2-clause-sealed_here g c =
    let lists = c.args.self.now in
    let here = IsSealedOf (key_identity lists.key.value) in
    All-same here _ _ (c.push_back_reserved.ensures.items ∙ ap (λ xs. xs ++ c.args.bucket ∷ []) c.reserve.ensures.items) (All-push here lists.sealed.items c.args.bucket lists.sealed_here c.requires)

pub invariant_of-self-2-clause-counted : goal.invariant_of-self-2-clause-counted
invariant_of-self-2-clause-counted g c =
    let lists = c.args.self.now in
    let more : sum_by sealed_len c.push_back_reserved.new.self.items ≡ sum_by sealed_len lists.sealed.items + sealed_len c.args.bucket =
    ap (sum_by sealed_len) (c.push_back_reserved.ensures.items ∙ ap (λ xs. xs ++ c.args.bucket ∷ []) c.reserve.ensures.items) ∙ sum_by_push sealed_len lists.sealed.items c.args.bucket in
    omega (arith, lists.counted, more, c.from.ensures, c.len.ensures.len, ap (λ w. w.count) c.moved_to-self.ensures)
