use Rattle.std.proofs.Common.{◌≡◌, [], sum_by, ap, arith, rules}
use Rattle.std.proofs.lemmas.Grind.{common_steps}
use Rattle.uma_keg.specs.Tallies.{ended_times}
use Rattle.uma_keg.proofs.EndedItems.{ended_with}
use Rattle.uma_keg.proofs.slabs.end_all.Goals as goal

pub loop-place-preserved : goal.loop-place-preserved
loop-place-preserved g c =
    record {
      sums = λ hook. grind (arith, common_steps);
      counts = λ hook. grind (arith, common_steps);
      ended = λ rest. c.loop-place.invariant.ended (ended_with (λ body gone. g.K.Hooks.leaves_fini c.args.hooks.now body 0 gone) c.loop-place.places.items c.pop.new.self.items c.in-Some.place c.in-Some.ensures.items c.end_one.ensures.ended rest);
      room = λ hook. grind (arith, common_steps);
    }

pub returns : goal.returns
returns g c =
    let none : c.loop-place.places.items ≡ [] = search rules in
    record {
      sums = search rules;
      counts = λ hook. omega (arith, c.loop-place.invariant.sums hook, c.loop-place.invariant.counts hook, ap (sum_by (ended_times hook)) none, c.args.places.ok.0);
      ended = search rules;
    }
