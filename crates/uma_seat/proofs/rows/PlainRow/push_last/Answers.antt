use Rattle.std.proofs.Common.{rules, ◌∙◌, ap, sym, subst, refl, arith}
use Rattle.std.proofs.lemmas.Grind.{common_steps}
use Rattle.uma_life.specs.Cached.{cached_ticket}
use Rattle.std.proofs.lemmas.List.Elements.{All-set}
use Rattle.uma_bucket.specs.Bucket.{tickets_of, size_of}
use Rattle.uma_bucket.specs.Home.{AreHome}
use Rattle.uma_seat.specs.Stack.{stack_of}
use Rattle.uma_seat.proofs.RowSteps.{same_stack, set_row, All-there, none_home}
use Rattle.uma_seat.proofs.rows.PlainRow.push_last.Goals as goal

pub returns : goal.returns
returns g c =
    let xs = c.args.self.now.buckets.items in
    record {
      stacks = set_row stack_of xs c.args.domain c.replace-full.new.dest _ (ap stack_of c.replace-full.ensures.after ∙ same_stack _ _ (size_of c.args.spare) _ c.requires.empty refl);
      full = grind (arith, common_steps);
      home = λ home before here. c.push.ensures.home home (subst (λ bucket. AreHome home (tickets_of bucket)) (sym c.replace-full.ensures.value) (All-there (λ bucket. AreHome home (tickets_of bucket)) xs c.args.domain _ c.requires.within c.index_mut-bucket.ensures.value before)) here;
      row_home = λ home before.
          All-set (λ bucket. AreHome home (tickets_of bucket)) xs c.args.domain c.replace-full.new.dest
          (subst (λ bucket. AreHome home (tickets_of bucket)) (sym c.replace-full.ensures.after) (none_home cached_ticket home _ c.requires.empty)) before;
      len = search rules;
    }
