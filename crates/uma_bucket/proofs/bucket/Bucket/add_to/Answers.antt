use Rattle.std.proofs.Common.{rules, ◌≡◌, ◌≤◌, ◌+◌, ◌*◌, ◌^◌, ℕ, length, arith, ap, sym, ◌∙◌, subst}
use Rattle.std.specs.List.{filter_map}
use Rattle.uma_life.specs.Sum.{sum_of}
use Rattle.uma_bucket.specs.Bucket.{items_of}
use Rattle.uma_bucket.specs.Room.{is_cached, cached_in}
use Rattle.uma_bucket.specs.Sums.{times_cached}
use Rattle.uma_bucket.proofs.Added.{adds_items, all_times, cached_times, more_of, still_balance_cached}
use Rattle.uma_bucket.proofs.Rooms.{count, cached_tests}
use Rattle.uma_bucket.proofs.Tallied.{cached_balance}
use Rattle.uma_bucket.proofs.bucket.Bucket.add_to.Goals as goal

pub add_tallies-requires : goal.add_tallies-requires
add_tallies-requires g c = record { room = search rules; few = search rules }

pub returns : goal.returns
returns g c =
    adds_items _ _ _ _ _ _
    (record {
      tally = λ hook. c.add_tallies.ensures.tally hook ∙ ap (λ (n : ℕ). sum_of c.args.sums.now.tally hook + n) (cached_times hook c.args.self.now.room.items c.args.self.now.kept.alike);
      deferred_too = c.add_tallies.ensures.deferred_too;
    })
    (λ adds most at.
    let bucket = c.args.self.now in
    more_of c.args.sums.now c.add_tallies.new.self (λ hook. times_cached hook (items_of bucket)) (length (items_of bucket)) 0 most adds
    (λ hook.
    let few = all_times hook bucket.room.items in
    let same : length (filter_map cached_in bucket.room.items) ≡ length bucket.room.items = count is_cached cached_in cached_tests bucket.room.items bucket.kept.alike in
    let times = cached_times hook bucket.room.items bucket.kept.alike in
    subst (λ (n : ℕ). times_cached hook (items_of bucket) ≤ n * 2 ^ 64) (sym same) (subst (λ (n : ℕ). n ≤ length bucket.room.items * 2 ^ 64) times few))
    (omega arith) at)
    (λ adds home homes before.
    let bucket = c.args.self.now in
    still_balance_cached home.zone c.args.sums.now c.add_tallies.new.self (λ hook. times_cached hook (items_of bucket)) adds
    (λ other small. cached_balance home other small (items_of bucket) homes) before)
