use Rattle.std.proofs.Common.{ℕ, refl, subst, rules}
use Rattle.uma_domain.specs.Identity.{key_identity}
use Rattle.uma_domain.specs.Trim.{Trims}
use Rattle.uma_domain.proofs.Kept.{trim_of}
use Rattle.uma_domain.proofs.lists.Lists.take_trim.Goals as goal

pub invariant_of-self-2-clause-plain_here : goal.invariant_of-self-2-clause-plain_here
invariant_of-self-2-clause-plain_here g c =
    let lists = c.args.self.now in
    let left = c.take_candidates-left in
    (trim_of (key_identity lists.key.value) _ _ _ _ left.new.taken.items left.new.plain.items left.new.sealed.items left.ensures.trims lists.plain_here lists.sealed_here).1

pub invariant_of-self-2-clause-sealed_here : goal.invariant_of-self-2-clause-sealed_here
invariant_of-self-2-clause-sealed_here g c =
    let lists = c.args.self.now in
    let left = c.take_candidates-left in
    (trim_of (key_identity lists.key.value) _ _ _ _ left.new.taken.items left.new.plain.items left.new.sealed.items left.ensures.trims lists.plain_here lists.sealed_here).2

pub returns-clause-own : goal.returns-clause-own
returns-clause-own g c =
    let lists = c.args.self.now in
    let left = c.take_candidates-left in
    record {
      of_domain = (trim_of (key_identity lists.key.value) _ _ _ _ left.new.taken.items left.new.plain.items left.new.sealed.items left.ensures.trims lists.plain_here lists.sealed_here).0;
      unchanged = tt;
      loose = refl;
      missed = refl;
      identity = refl;
    }

pub returns-clause-trimmed : goal.returns-clause-trimmed
returns-clause-trimmed g c =
    let lists = c.args.self.now in
    let left = c.take_candidates-left in
    record {
      trims = subst (λ (floor : ℕ). Trims floor lists.working.count lists.plain.items lists.sealed.items left.new.taken.items left.new.plain.items left.new.sealed.items) c.set-floor.ensures left.ensures.trims;
      begins = search rules;
    }
