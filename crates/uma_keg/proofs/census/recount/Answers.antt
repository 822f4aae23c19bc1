use Rattle.std.proofs.Common.{rules, ◌≡◌, map, reverse, ap, ◌∙◌}
use Rattle.uma_keg.specs.Outside.{outside_table, outside_zones}
use Rattle.uma_keg.specs.Lent.{all_seen, seen_without}
use Rattle.uma_keg.proofs.TakenIn.{lent_counted, lent_outside}
use Rattle.uma_keg.proofs.census.recount.Goals as goal

pub returns-clause-recounted : goal.returns-clause-recounted
returns-clause-recounted g c =
    let table = outside_table c.args.outside.now in
    let is : reverse (map (seen_without table) c.take_in.new.taken.items) ≡ all_seen c.args.lives = (rw c.take_in.ensures.none_left at c.take_in.ensures.items) ∙ ap all_seen c.into_vec-items.ensures in
    record {
      items = search rules;
      were_outside = lent_outside table (outside_zones c.args.outside.now) (outside_zones c.take_in.new.outside) c.args.lives c.take_in.new.taken.items c.take_in.ensures.taken is;
      lent = λ zone. lent_counted table (outside_zones c.args.outside.now) (outside_zones c.take_in.new.outside) c.args.lives c.take_in.new.taken.items zone c.take_in.ensures.taken is;
    }
