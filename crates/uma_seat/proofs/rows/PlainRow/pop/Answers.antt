use Rattle.std.proofs.Common.{rules, arith}
use Rattle.std.proofs.lemmas.Grind.{common_steps}
use Rattle.std.proofs.lemmas.List.Elements.{All-set}
use Rattle.uma_bucket.specs.Bucket.{tickets_of}
use Rattle.uma_bucket.specs.Home.{AreHome}
use Rattle.uma_seat.specs.Stack.{stack_of}
use Rattle.uma_seat.proofs.RowSteps.{taken_at, All-there}
use Rattle.uma_seat.proofs.rows.PlainRow.pop.Goals as goal

pub returns : goal.returns
returns g c = record {
  some = grind (arith, common_steps);
  takes = taken_at stack_of c.args.self.now.buckets.items c.args.domain _ c.pop.new.self c.pop.result c.requires.within c.index_mut-bucket.ensures.value c.pop.ensures.last c.pop.ensures.size;
  home = λ home before. (c.pop.ensures.home home (All-there (λ bucket. AreHome home (tickets_of bucket)) c.args.self.now.buckets.items c.args.domain _ c.requires.within c.index_mut-bucket.ensures.value before)).1;
  row_home = λ home before.
      All-set (λ bucket. AreHome home (tickets_of bucket)) c.args.self.now.buckets.items c.args.domain c.pop.new.self
      (c.pop.ensures.home home (All-there (λ bucket. AreHome home (tickets_of bucket)) c.args.self.now.buckets.items c.args.domain _ c.requires.within c.index_mut-bucket.ensures.value before)).0 before;
  len = search rules;
}
