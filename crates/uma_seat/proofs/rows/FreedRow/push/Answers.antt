use Rattle.std.proofs.Common.{rules, ◌∙◌, ap, map}
use Rattle.std.proofs.lemmas.List.{map-append}
use Rattle.uma_bucket.specs.Freed.{freed_item}
use Rattle.std.proofs.lemmas.List.Elements.{All-set}
use Rattle.uma_bucket.specs.Loose.{loose_tickets}
use Rattle.uma_bucket.specs.Home.{AreHome}
use Rattle.uma_seat.specs.Stack.{loose_stack}
use Rattle.uma_seat.proofs.RowSteps.{set_row, pushed, All-there}
use Rattle.uma_seat.proofs.rows.FreedRow.push.Goals as goal

pub returns : goal.returns
returns g c =
    let xs = c.args.self.now.buckets.items in
    record {
      stacks = set_row loose_stack xs c.args.domain c.push.new.self _ (pushed loose_stack xs c.args.domain _ c.push.new.self (freed_item c.args.item) c.requires.within c.index_mut-bucket.ensures.value (ap (map freed_item) c.push.ensures.items ∙ map-append freed_item _ _) c.push.ensures.size);
      home = λ home before here.
          All-set (λ bucket. AreHome home (loose_tickets bucket)) xs c.args.domain c.push.new.self
          (c.push.ensures.home home (All-there (λ bucket. AreHome home (loose_tickets bucket)) xs c.args.domain _ c.requires.within c.index_mut-bucket.ensures.value before) here) before;
      len = search rules;
    }
