-- an item at home adds less than 2^64 to a sum of the buried
use Rattle.std.proofs.Common.{◌≡◌, ◌<◌, ◌+◌, ◌*◌, ◌^◌, ℕ, refl, sym, subst, arith}
use Rattle.uma_life.specs.Sum.{sum_of}
use Rattle.uma_keg.specs.HomeItems.{item_at}
use Rattle.uma_keg.proofs.HomeSums.{totals_have_room}
use Rattle.uma_keg.proofs.keg.Keg.has_tally_room.Goals as goal

pub returns-then-are_below : goal.returns-then-are_below
returns-then-are_below g c =
    let keg = c.args.self.now in
    let counts = c.counts-cap in
    let below = c.if-are_below.ensures.0 refl in
    let items : keg.places.cap * keg.places.per_slab ≡ c.from.result = rw (sym counts.ensures.cap, sym counts.ensures.per_slab) (sym c.from.ensures) in (
      (λ _ hook.
          let Room : ℕ → Type 0 = λ n. sum_of keg.buried hook + n * 2 ^ 64 < 2 ^ 120 in
          totals_have_room (sum_of keg.buried hook) (keg.places.cap * keg.places.per_slab) (2 ^ 120) hook (item_at keg.home_items) (subst Room (sym items) (omega (arith, below hook)))),
      (λ _. c.if-are_below.true),
    )
