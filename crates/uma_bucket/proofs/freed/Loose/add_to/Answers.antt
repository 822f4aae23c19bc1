use Rattle.std.proofs.Common.{rules, ◌≡◌, ◌≤◌, ◌+◌, ◌*◌, ◌^◌, ℕ, length, arith, ap, sym, ◌∙◌, subst}
use Rattle.std.specs.List.{filter_map}
use Rattle.uma_life.specs.Sum.{sum_of}
use Rattle.uma_bucket.specs.Room.{is_freed, freed_in}
use Rattle.uma_bucket.specs.Loose.{loose_items}
use Rattle.uma_bucket.specs.Sums.{times_freed}
use Rattle.uma_bucket.proofs.Added.{adds_items, all_times, freed_times, more_of, still_balance}
use Rattle.uma_bucket.proofs.Rooms.{count, freed_tests}
use Rattle.uma_bucket.proofs.Tallied.{freed_balance}
use Rattle.uma_bucket.proofs.freed.Loose.add_to.Goals as goal

pub add_tallies-requires : goal.add_tallies-requires
add_tallies-requires g c = record { room = search rules; few = search rules }

pub returns : goal.returns
returns g c =
    adds_items _ _ _ _ _ _
    (record {
      tally = λ hook. c.add_tallies.ensures.tally hook ∙ ap (λ (n : ℕ). sum_of c.args.sums.now.tally hook + n) (freed_times hook c.args.self.now.room.items c.args.self.now.kept.alike);
      deferred_too = omega (arith, c.add_tallies.ensures.deferred_too, c.len.ensures.len, c.from.ensures);
    })
    (λ adds most at.
    let loose = c.args.self.now in
    more_of c.args.sums.now _ (λ hook. times_freed hook (loose_items loose)) (length (loose_items loose)) (length (loose_items loose)) most adds
    (λ hook.
    let few = all_times hook loose.room.items in
    let same : length (filter_map freed_in loose.room.items) ≡ length loose.room.items = count is_freed freed_in freed_tests loose.room.items loose.kept.alike in
    let times = freed_times hook loose.room.items loose.kept.alike in
    subst (λ (n : ℕ). times_freed hook (loose_items loose) ≤ n * 2 ^ 64) (sym same) (subst (λ (n : ℕ). n ≤ length loose.room.items * 2 ^ 64) times few))
    (omega arith) at)
    (λ adds home homes before.
    let loose = c.args.self.now in
    still_balance home.zone c.args.sums.now _ (λ hook. times_freed hook (loose_items loose)) (length (loose_items loose)) adds
    (λ other small. freed_balance home other small (loose_items loose) homes) before)
