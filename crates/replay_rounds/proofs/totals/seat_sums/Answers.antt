use Rattle.std.proofs.Common.{refl}
use Rattle.std.proofs.lemmas.Option.{slice_get_read}
use Rattle.replay_rounds.proofs.Summed.{of_seat}
use Rattle.replay_rounds.proofs.totals.seat_sums.Goals as goal

pub returns : goal.returns
returns g c =
    let w = c.args.worker.now in
    let seat = c.index.result.now in
    of_seat c.args.place w seat c.sums.result (slice_get_read w.seats.items _ c.args.place seat refl c.requires c.index.ensures) c.sums.ensures.adds c.sums.ensures.few c.sums.ensures.balance
