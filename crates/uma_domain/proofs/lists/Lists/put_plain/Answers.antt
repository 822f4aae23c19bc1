use Rattle.std.proofs.Common.{◌≡◌, ◌+◌, ◌∙◌, ap, sum_by, arith}
use Rattle.std.proofs.lemmas.List.Sums.{sum_by_push}
use Rattle.std.proofs.lemmas.List.Elements.{All-push, All-same}
use Rattle.uma_domain.specs.Identity.{key_identity}
use Rattle.uma_domain.specs.Listed.{IsPlainOf, plain_len}
use Rattle.uma_domain.proofs.lists.Lists.put_plain.Goals as goal

pub invariant_of-self-2-clause-plain_here : goal.invariant_of-self-2-clause-plain_here
invariant_of-self-2-clause-plain_here g c =
    let lists = c.args.self.now in
    let here = IsPlainOf (key_identity lists.key.value).home in
    All-same here _ _ c.in_default.ensures.items (All-push here lists.plain.items c.args.bucket lists.plain_here c.requires)

pub invariant_of-self-2-clause-counted : goal.invariant_of-self-2-clause-counted
invariant_of-self-2-clause-counted g c =
    let lists = c.args.self.now in
    let more : sum_by plain_len c.push_back.new.self.items ≡ sum_by plain_len lists.plain.items + plain_len c.args.bucket = ap (sum_by plain_len) c.in_default.ensures.items ∙ sum_by_push plain_len lists.plain.items c.args.bucket in
    omega (arith, lists.counted, more, c.from.ensures, c.len.ensures.len, ap (λ w. w.count) c.moved_to-self.ensures)
