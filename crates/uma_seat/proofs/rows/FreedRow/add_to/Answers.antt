use Rattle.std.proofs.Common.{rules, ◌≡◌, ◌<◌, ◌+◌, ◌*◌, length, get_or, ap, ◌∙◌, arith}
use Rattle.uma_bucket.specs.Loose.{loose_items, loose_tickets}
use Rattle.uma_bucket.specs.Home.{AreHome}
use Rattle.uma_bucket.specs.Sums.{times_freed}
use Rattle.uma_seat.proofs.SumSteps.{widen, one_more_added, all_added, room_so_far, loose_few}
use Rattle.uma_seat.proofs.rows.FreedRow.add_to.Goals as goal

pub add_to-requires : goal.add_to-requires
add_to-requires g c =
    let xs = c.args.self.now.buckets.items in
    let within : c.loop-loose.loose-index < length xs = omega (arith, ap length c.deref-loose-items.ensures.value, c.loop-loose-test.true) in
    room_so_far (λ hook loose. times_freed hook (loose_items loose)) (λ loose. length (loose_items loose)) (λ home loose. AreHome home (loose_tickets loose)) xs c.args.sums.now c.loop-loose.sums c.loop-loose.loose-index c.loop-loose.invariant c.requires.room within c.requires.domains

pub loop-loose-preserved : goal.loop-loose-preserved
loop-loose-preserved g c =
    let xs = c.args.self.now.buckets.items in
    let item = c.loose-item.result in
    let within : c.loop-loose.loose-index < length xs = omega (arith, ap length c.deref-loose-items.ensures.value, c.loop-loose-test.true) in
    one_more_added (λ hook loose. times_freed hook (loose_items loose)) (λ loose. length (loose_items loose)) (λ home loose. AreHome home (loose_tickets loose)) xs c.args.sums.now c.loop-loose.sums c.add_to.new.sums c.loop-loose.loose-index item (length (loose_items item)) c.loop-loose.invariant within
    (c.loose-item.is ∙ ap (λ l. get_or l c.loop-loose.loose-index item) c.deref-loose-items.ensures.value) (loose_few item) c.add_to.ensures.adds c.add_to.ensures.few c.add_to.ensures.balance

pub returns : goal.returns
returns g c =
    let xs = c.args.self.now.buckets.items in
    let whole : c.loop-loose.loose-index ≡ length xs = omega (arith, ap length c.deref-loose-items.ensures.value, c.loop-loose.auto.loose-index-end, c.loop-loose-test.false) in
    record {
      adds = all_added (λ hook loose. times_freed hook (loose_items loose)) (λ loose. length (loose_items loose)) (λ home loose. AreHome home (loose_tickets loose)) xs c.args.sums.now c.loop-loose.sums c.loop-loose.loose-index c.loop-loose.invariant whole;
      few = λ count most. widen (count + 64 * c.loop-loose.loose-index) (count + 64 * length xs) _ (omega (arith, ap length c.deref-loose-items.ensures.value, c.loop-loose.auto.loose-index-end)) (c.loop-loose.invariant.few count most);
      balance = search rules;
    }
