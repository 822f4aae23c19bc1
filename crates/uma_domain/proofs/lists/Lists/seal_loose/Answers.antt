use Rattle.std.proofs.Common.{◌≡◌, ◌+◌, ◌∙◌, ap, subst, sum_by, arith}
use Rattle.std.proofs.lemmas.List.Elements.{All-append, All-same}
use Rattle.std.proofs.lemmas.List.Sums.{sum_by-append}
use Rattle.smr_clock.specs.Belongs.{clock_id, view}
use Rattle.uma_domain.specs.Identity.{key_identity}
use Rattle.uma_domain.specs.Listed.{IsSealedOf, sealed_len}
use Rattle.uma_domain.specs.Tries.{Tries}
use Rattle.uma_domain.proofs.Kept.{no_more, tries_of, tries_sum}
use Rattle.uma_domain.proofs.lists.Lists.seal_loose.Goals as goal

pub seal_each-requires : goal.seal_each-requires
seal_each-requires g c =
    let lists = c.args.self.now in
    let few = no_more (key_identity lists.key.value).home lists.loose.items lists.loose_here in
    record {
      here = c.requires.pass;
      few = omega (arith, few, lists.loose.ok.0, lists.counted, lists.bounded.few, lists.bounded.below_greatest);
      room = lists.room;
    }

pub invariant_of-self-clause-loose_here : goal.invariant_of-self-clause-loose_here
invariant_of-self-clause-loose_here g c =
    let lists = c.args.self.now in
    let tried = c.seal_each.ensures.tried in
    let identity = key_identity lists.key.value in
    let tries = subst (λ id. Tries g.H.Host.copied id (view c.args.pass.now) lists.loose.items c.seal_each.new.loose.items tried.new (view c.seal_each.new.pass)) c.requires.here tried.tries in
    (tries_of identity g.H.Host.copied (view c.args.pass.now) lists.loose.items c.seal_each.new.loose.items tried.new (view c.seal_each.new.pass) tries lists.loose_here).0

pub invariant_of-self-clause-sealed_here : goal.invariant_of-self-clause-sealed_here
invariant_of-self-clause-sealed_here g c =
    let lists = c.args.self.now in
    let tried = c.seal_each.ensures.tried in
    let identity = key_identity lists.key.value in
    let tries = subst (λ id. Tries g.H.Host.copied id (view c.args.pass.now) lists.loose.items c.seal_each.new.loose.items tried.new (view c.seal_each.new.pass)) c.requires.here tried.tries in
    let new = (tries_of identity g.H.Host.copied (view c.args.pass.now) lists.loose.items c.seal_each.new.loose.items tried.new (view c.seal_each.new.pass) tries lists.loose_here).1 in
    All-same (IsSealedOf identity) _ _ tried.newest (All-append (IsSealedOf identity) lists.sealed.items tried.new lists.sealed_here new)

pub invariant_of-self-clause-counted : goal.invariant_of-self-clause-counted
invariant_of-self-clause-counted g c =
    let lists = c.args.self.now in
    let tried = c.seal_each.ensures.tried in
    let sum = tries_sum g.H.Host.copied (clock_id c.args.clock.now) (view c.args.pass.now) lists.loose.items c.seal_each.new.loose.items tried.new (view c.seal_each.new.pass) tried.tries in
    let more : sum_by sealed_len c.seal_each.new.sealed.items ≡ sum_by sealed_len lists.sealed.items + sum_by sealed_len tried.new = ap (sum_by sealed_len) tried.newest ∙ sum_by-append sealed_len lists.sealed.items tried.new in
    omega (arith, lists.counted, sum, more)
