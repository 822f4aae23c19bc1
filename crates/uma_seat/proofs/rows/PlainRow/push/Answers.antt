use Rattle.std.proofs.Common.{rules}
use Rattle.std.proofs.lemmas.List.Elements.{All-set}
use Rattle.uma_bucket.specs.Bucket.{tickets_of}
use Rattle.uma_bucket.specs.Home.{AreHome}
use Rattle.uma_seat.specs.Stack.{stack_of}
use Rattle.uma_seat.proofs.RowSteps.{set_row, pushed, All-there}
use Rattle.uma_seat.proofs.rows.PlainRow.push.Goals as goal

pub returns : goal.returns
returns g c =
    let xs = c.args.self.now.buckets.items in
    record {
      stacks = set_row stack_of xs c.args.domain c.push.new.self _ (pushed stack_of xs c.args.domain _ c.push.new.self c.args.item c.requires.within c.index_mut-bucket.ensures.value c.push.ensures.items c.push.ensures.size);
      home = λ home before here.
          All-set (λ bucket. AreHome home (tickets_of bucket)) xs c.args.domain c.push.new.self
          (c.push.ensures.home home (All-there (λ bucket. AreHome home (tickets_of bucket)) xs c.args.domain _ c.requires.within c.index_mut-bucket.ensures.value before) here) before;
      len = search rules;
    }
