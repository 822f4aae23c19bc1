use Rattle.std.proofs.lemmas.Result.{on_ok_weaker}
use Rattle.uma_seat.specs.Seat.{seat_domain}
use Rattle.replay_worker.specs.Requests.{BringsItems}
use Rattle.replay_worker.proofs.AtPlace.{brings_at, seat_at}
use Rattle.replay_worker.proofs.worker.Worker.prealloc.Goals as goal

pub bring-requires-clause-seat : goal.bring-requires-clause-seat
bring-requires-clause-seat g c =
    seat_at c.args.zones.now c.args.self.now.seats.items c.args.zone c.index-zones-place.result c.index.result.now c.requires.seats c.requires.zone c.index-zones-place.is c.index.ensures

pub returns : goal.returns
returns g c = record {
  brings = on_ok_weaker c.bring.result
      (λ (brings : BringsItems c.index-zones-place.result c.args.items (seat_domain c.index.result.now)).
      brings_at c.args.zones.now c.args.self.now c.args.zone c.args.items c.index-zones-place.result c.index.result.now c.requires.seats c.requires.zone c.index-zones-place.is c.index.ensures brings)
      c.bring.ensures;
}
