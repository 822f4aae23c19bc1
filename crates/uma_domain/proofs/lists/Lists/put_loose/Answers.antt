use Rattle.std.proofs.Common.{◌≡◌, ◌+◌, ◌∙◌, ap, sum_by, arith}
use Rattle.std.proofs.lemmas.List.Sums.{sum_by_push}
use Rattle.std.proofs.lemmas.List.Elements.{All-push, All-same}
use Rattle.uma_domain.specs.Identity.{key_identity}
use Rattle.uma_domain.specs.Listed.{IsLooseOf, IsSealedOf, loose_len, sealed_len}
use Rattle.uma_domain.proofs.lists.Lists.put_loose.Goals as goal

pub invariant_of-self-2-clause-loose_here : goal.invariant_of-self-2-clause-loose_here
invariant_of-self-2-clause-loose_here g c =
    let lists = c.args.self.now in
    let here = IsLooseOf (key_identity lists.key.value).home in
    All-same here _ _ c.in_default.ensures.items (All-push here lists.loose.items c.args.bucket lists.loose_here c.requires)

pub invariant_of-self-2-clause-sealed_here : goal.invariant_of-self-2-clause-sealed_here
invariant_of-self-2-clause-sealed_here g c = All-same (IsSealedOf (key_identity c.args.self.now.key.value)) _ _ c.reserve.ensures.items c.args.self.now.sealed_here

pub invariant_of-self-2-clause-counted : goal.invariant_of-self-2-clause-counted
invariant_of-self-2-clause-counted g c =
    let lists = c.args.self.now in
    let more : sum_by loose_len c.push_back.new.self.items ≡ sum_by loose_len lists.loose.items + loose_len c.args.bucket = ap (sum_by loose_len) c.in_default.ensures.items ∙ sum_by_push loose_len lists.loose.items c.args.bucket in
    let same : sum_by sealed_len c.reserve.new.self.items ≡ sum_by sealed_len lists.sealed.items = ap (sum_by sealed_len) c.reserve.ensures.items in
    omega (arith, lists.counted, more, same, c.from.ensures, c.len.ensures.len, ap (λ w. w.count) c.moved_to-self.ensures)
