use Rattle.std.proofs.Common.{rules, ◌∙◌, ap, map, sym, subst, refl, arith}
use Rattle.std.proofs.lemmas.Grind.{common_steps}
use Rattle.uma_bucket.specs.Freed.{freed_item, freed_ticket}
use Rattle.std.proofs.lemmas.List.Elements.{All-set}
use Rattle.uma_bucket.specs.Loose.{loose_tickets, loose_size}
use Rattle.uma_bucket.specs.Home.{AreHome}
use Rattle.uma_seat.specs.Stack.{loose_stack}
use Rattle.uma_seat.proofs.RowSteps.{same_stack, set_row, All-there, none_home}
use Rattle.uma_seat.proofs.rows.FreedRow.push_last.Goals as goal

pub returns : goal.returns
returns g c =
    let xs = c.args.self.now.buckets.items in
    record {
      stacks = set_row loose_stack xs c.args.domain c.replace-full.new.dest _ (ap loose_stack c.replace-full.ensures.after ∙ same_stack _ _ (loose_size c.args.spare) _ (ap (map freed_item) c.requires.empty) refl);
      full = grind (arith, common_steps);
      some = grind (arith, common_steps);
      home = λ home before here. c.push.ensures.home home (subst (λ bucket. AreHome home (loose_tickets bucket)) (sym c.replace-full.ensures.value) (All-there (λ bucket. AreHome home (loose_tickets bucket)) xs c.args.domain _ c.requires.within c.index_mut-bucket.ensures.value before)) here;
      row_home = λ home before.
          All-set (λ bucket. AreHome home (loose_tickets bucket)) xs c.args.domain c.replace-full.new.dest
          (subst (λ bucket. AreHome home (loose_tickets bucket)) (sym c.replace-full.ensures.after) (none_home freed_ticket home _ c.requires.empty)) before;
      len = search rules;
    }
