use Rattle.std.proofs.Common.{rules, ◌≡◌, Some, length, length-append, refl, sym, ap, ◌∙◌, arith}
use Rattle.std.proofs.lemmas.List.Elements.{All-pop}
use Rattle.uma_life.specs.Cached.{cached_table}
use Rattle.uma_bucket.specs.Bucket.{items_of}
use Rattle.uma_keg.specs.Keg.{table_in}
use Rattle.locked_keg.specs.Gives.{GivesAllBack}
use Rattle.locked_keg.proofs.Given.{gives_none, gives_one, gives_all, none_left, outs_back}
use Rattle.locked_keg.proofs.Kept.{same_keg, same_more}
use Rattle.locked_keg.proofs.locked_keg.give_each.Goals as goal

pub loop-init : goal.loop-init
loop-init g c = record {
  counted = omega arith;
  gives = gives_none c.args.keg.now c.args.hooks.now (items_of c.args.bucket.now);
  of_keg = c.requires;
  rights = refl;
  limits = λ zone. refl;
  fetches = λ zone. refl;
  buried = refl;
  same = same_keg c.args.keg.now;
}

pub give-requires : goal.give-requires
give-requires g c =
    let before = c.loop.invariant in
    let popped = All-pop (λ item. cached_table item ≡ table_in c.args.keg.now) (items_of c.loop.bucket) (items_of c.pop.new.self) (Some c.in-Some.item) c.in-Some.ensures.last before.of_keg in
    popped.1 ∙ sym before.same.table

pub loop-preserved : goal.loop-preserved
loop-preserved g c =
    let old = c.args.keg.now in
    let mid = c.loop.keg in
    let new = c.give.new.self in
    let before = c.loop.invariant in
    let one = c.give.ensures in
    let popped = All-pop (λ item. cached_table item ≡ table_in c.args.keg.now) (items_of c.loop.bucket) (items_of c.pop.new.self) (Some c.in-Some.item) c.in-Some.ensures.last before.of_keg in
    record {
      counted = omega (arith, before.counted, simp length-append at (ap length c.in-Some.ensures.last));
      gives = gives_one old mid new c.args.hooks.now (items_of c.args.bucket.now) (items_of c.loop.bucket) (items_of c.pop.new.self) c.in-Some.item before.gives c.in-Some.ensures.last one;
      of_keg = popped.0;
      rights = one.rights ∙ before.rights;
      limits = λ zone. one.limits zone ∙ before.limits zone;
      fetches = λ zone. one.fetches zone ∙ before.fetches zone;
      buried = one.buried ∙ before.buried;
      same = same_more old mid new before.same one.same;
    }

pub returns-clause-none_left : goal.returns-clause-none_left
returns-clause-none_left g c = none_left (items_of c.loop.bucket) (omega (arith, c.loop.invariant.counted, c.len-count.ensures.len))

pub returns-clause-given : goal.returns-clause-given
returns-clause-given g c =
    let old = c.args.keg.now in
    let items = items_of c.args.bucket.now in
    let end = c.loop.invariant in
    let gives : GivesAllBack old c.args.hooks.now items c.loop.keg = gives_all old c.loop.keg c.args.hooks.now items (items_of c.loop.bucket) end.gives (returns-clause-none_left g c) in
    record {
      count = search rules;
      gives = gives;
      outs = λ zone. outs_back old c.loop.keg c.args.hooks.now items zone gives;
      buried = end.buried;
      zones = record { rights = end.rights; limits = end.limits; fetches = end.fetches; same = end.same };
    }
