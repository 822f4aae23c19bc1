use Rattle.std.proofs.Common.{rules, ◌<◌, ◌+◌, ◌*◌, length, arith}
use Rattle.uma_bucket.specs.Shelved.{count_of, IsShelvedAt}
use Rattle.uma_seat.specs.ShelfSums.{times_shelved, deferred_shelved}
use Rattle.uma_seat.proofs.SumSteps.{widen, one_more_added, all_added, room_so_far, shelved_few}
use Rattle.uma_seat.proofs.rack.Rack.add_to.Goals as goal

pub add_shelved-requires : goal.add_shelved-requires
add_shelved-requires g c =
    let xs = c.args.self.now.shelf.items in
    let within : c.loop-at.at < length xs = omega (arith, c.args.self.now.shelf.ok.0, c.len-at-end.ensures, c.loop-at-test.true) in
    room_so_far times_shelved deferred_shelved IsShelvedAt xs c.args.sums.now c.loop-at.sums c.loop-at.at c.loop-at.invariant c.requires within (omega (arith, c.args.self.now.shelf.ok.0, c.args.self.now.few))

pub loop-at-preserved : goal.loop-at-preserved
loop-at-preserved g c =
    let xs = c.args.self.now.shelf.items in
    let within : c.loop-at.at < length xs = omega (arith, c.args.self.now.shelf.ok.0, c.len-at-end.ensures, c.loop-at-test.true) in
    one_more_added times_shelved deferred_shelved IsShelvedAt xs c.args.sums.now c.loop-at.sums c.add_shelved.new.sums c.loop-at.at c.index.result.now (count_of c.index.result.now) c.loop-at.invariant within
    c.index.ensures (shelved_few c.index.result.now) c.add_shelved.ensures.adds c.add_shelved.ensures.few c.add_shelved.ensures.balance

pub returns : goal.returns
returns g c = record {
  adds = all_added times_shelved deferred_shelved IsShelvedAt c.args.self.now.shelf.items c.args.sums.now c.loop-at.sums c.loop-at.at c.loop-at.invariant (omega (arith, c.args.self.now.shelf.ok.0, c.len-at-end.ensures, c.loop-at.auto.at-end, c.loop-at-test.false));
  few = λ count most. widen (count + 64 * c.loop-at.at) (count + 64 * length c.args.self.now.shelf.items) _ (omega (arith, c.args.self.now.shelf.ok.0, c.len-at-end.ensures, c.loop-at.auto.at-end)) (c.loop-at.invariant.few count most);
  balance = search rules;
}
