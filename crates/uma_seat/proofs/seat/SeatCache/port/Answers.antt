use Rattle.std.proofs.Common.{refl, sym}
use Rattle.std.proofs.lemmas.Option.{slice_get_read}
use Rattle.uma_seat.proofs.Same.{seat_same}
use Rattle.uma_seat.proofs.seat.SeatCache.port.Goals as goal

pub returns : goal.returns
returns g c = (
  (refl, λ w. seat_same _ _ refl refl refl refl refl refl refl refl refl),
  record {
    writes_back = tt;
    port = slice_get_read c.args.self.now.ports.items _ c.args.domain c.index_mut.result.now (sym c.args.self.now.one_port_each) c.requires c.index_mut.ensures.value;
  },
)
