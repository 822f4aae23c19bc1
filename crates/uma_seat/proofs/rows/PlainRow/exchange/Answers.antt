use Rattle.std.proofs.Common.{rules, ◌∙◌, ap, sym, subst, refl}
use Rattle.std.proofs.lemmas.List.Elements.{All-set}
use Rattle.uma_life.specs.Cached.{cached_ticket}
use Rattle.uma_bucket.specs.Bucket.{tickets_of, size_of}
use Rattle.uma_bucket.specs.Home.{AreHome}
use Rattle.uma_seat.specs.Stack.{stack_of}
use Rattle.uma_seat.proofs.RowSteps.{same_stack, at_row, set_row, All-there, none_home}
use Rattle.uma_seat.proofs.rows.PlainRow.exchange.Goals as goal

pub returns : goal.returns
returns g c =
    let xs = c.args.self.now.buckets.items in
    record {
      stacks = set_row stack_of xs c.args.domain c.swap.new.x _ (ap stack_of c.swap.ensures.x_after ∙ same_stack _ _ (size_of c.args.empty.now) _ c.requires.empty refl);
      taken = ap stack_of c.swap.ensures.y_after ∙ sym (at_row stack_of c.args.self.now.buckets.items c.args.domain _ c.requires.within c.index_mut-bucket.ensures.value);
      home = λ home before.
          subst (λ bucket. AreHome home (tickets_of bucket)) (sym c.swap.ensures.y_after)
          (All-there (λ bucket. AreHome home (tickets_of bucket)) c.args.self.now.buckets.items c.args.domain _ c.requires.within c.index_mut-bucket.ensures.value before);
      row_home = λ home before.
          All-set (λ bucket. AreHome home (tickets_of bucket)) c.args.self.now.buckets.items c.args.domain c.swap.new.x
          (subst (λ bucket. AreHome home (tickets_of bucket)) (sym c.swap.ensures.x_after) (none_home cached_ticket home _ c.requires.empty)) before;
      len = search rules;
    }
