use Rattle.std.proofs.Common.{rules, ◌≡◌, ◌<◌, ◌+◌, ◌*◌, ℕ, length, get_or, ap, ◌∙◌, subst, arith}
use Rattle.uma_bucket.specs.Bucket.{items_of, tickets_of}
use Rattle.uma_bucket.specs.Home.{AreHome}
use Rattle.uma_bucket.specs.Sums.{times_cached, Adds}
use Rattle.uma_seat.specs.Sums.{times_in_row}
use Rattle.uma_seat.proofs.SumSteps.{widen, zero_sum, one_more_added, all_added, room_so_far, bucket_few}
use Rattle.uma_seat.proofs.rows.PlainRow.add_to.Goals as goal

pub add_to-requires : goal.add_to-requires
add_to-requires g c =
    let xs = c.args.self.now.buckets.items in
    let within : c.loop-bucket.bucket-index < length xs = omega (arith, ap length c.deref-bucket-items.ensures.value, c.loop-bucket-test.true) in
    room_so_far (λ hook bucket. times_cached hook (items_of bucket)) (λ bucket. 0) (λ home bucket. AreHome home (tickets_of bucket)) xs c.args.sums.now c.loop-bucket.sums c.loop-bucket.bucket-index c.loop-bucket.invariant c.requires.room within c.requires.domains

pub loop-bucket-preserved : goal.loop-bucket-preserved
loop-bucket-preserved g c =
    let xs = c.args.self.now.buckets.items in
    let item = c.bucket-item.result in
    let within : c.loop-bucket.bucket-index < length xs = omega (arith, ap length c.deref-bucket-items.ensures.value, c.loop-bucket-test.true) in
    one_more_added (λ hook bucket. times_cached hook (items_of bucket)) (λ bucket. 0) (λ home bucket. AreHome home (tickets_of bucket)) xs c.args.sums.now c.loop-bucket.sums c.add_to.new.sums c.loop-bucket.bucket-index item (length (items_of item)) c.loop-bucket.invariant within
    (c.bucket-item.is ∙ ap (λ l. get_or l c.loop-bucket.bucket-index item) c.deref-bucket-items.ensures.value) (bucket_few item) c.add_to.ensures.adds c.add_to.ensures.few c.add_to.ensures.balance

pub returns : goal.returns
returns g c =
    let xs = c.args.self.now.buckets.items in
    let whole : c.loop-bucket.bucket-index ≡ length xs = omega (arith, ap length c.deref-bucket-items.ensures.value, c.loop-bucket.auto.bucket-index-end, c.loop-bucket-test.false) in
    record {
      adds =
          subst (λ (n : ℕ). Adds (λ hook. times_in_row hook c.args.self.now) n c.args.sums.now c.loop-bucket.sums) (zero_sum xs)
          (all_added (λ hook bucket. times_cached hook (items_of bucket)) (λ bucket. 0) (λ home bucket. AreHome home (tickets_of bucket)) xs c.args.sums.now c.loop-bucket.sums c.loop-bucket.bucket-index c.loop-bucket.invariant whole);
      few = λ count most. widen (count + 64 * c.loop-bucket.bucket-index) (count + 64 * length xs) _ (omega (arith, ap length c.deref-bucket-items.ensures.value, c.loop-bucket.auto.bucket-index-end)) (c.loop-bucket.invariant.few count most);
      balance = search rules;
    }
