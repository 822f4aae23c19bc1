use Rattle.std.proofs.Common.{refl, arith, rules}
use Rattle.uma_domain.specs.Identity.{key_identity}
use Rattle.uma_domain.proofs.Kept.{trim_of, trims_all}
use Rattle.uma_domain.proofs.lists.Lists.take_all.Goals as goal

pub invariant_of-self-2-clause-plain_here : goal.invariant_of-self-2-clause-plain_here
invariant_of-self-2-clause-plain_here g c =
    let lists = c.args.self.now in
    let left = c.take_candidates-left in
    (trim_of (key_identity lists.key.value) _ _ _ _ left.new.taken.items left.new.plain.items left.new.sealed.items left.ensures.trims lists.plain_here lists.sealed_here).1

pub invariant_of-self-2-clause-sealed_here : goal.invariant_of-self-2-clause-sealed_here
invariant_of-self-2-clause-sealed_here g c =
    let lists = c.args.self.now in
    let left = c.take_candidates-left in
    (trim_of (key_identity lists.key.value) _ _ _ _ left.new.taken.items left.new.plain.items left.new.sealed.items left.ensures.trims lists.plain_here lists.sealed_here).2

pub returns-clause-own : goal.returns-clause-own
returns-clause-own g c =
    let lists = c.args.self.now in
    let left = c.take_candidates-left in
    record {
      of_domain = (trim_of (key_identity lists.key.value) _ _ _ _ left.new.taken.items left.new.plain.items left.new.sealed.items left.ensures.trims lists.plain_here lists.sealed_here).0;
      unchanged = tt;
      loose = refl;
      missed = refl;
      identity = refl;
    }

pub returns-clause-all : goal.returns-clause-all
returns-clause-all g c =
    let lists = c.args.self.now in
    let left = c.take_candidates-left in
    let all = trims_all lists.working.count lists.plain.items lists.sealed.items left.new.taken.items left.new.plain.items left.new.sealed.items left.ensures.trims (omega (arith, lists.counted)) in
    record { takes = all.0; none_left = all.1; goes_on = search rules }
