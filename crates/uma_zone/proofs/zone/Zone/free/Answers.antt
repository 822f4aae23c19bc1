use Rattle.std.proofs.Common.{rules}
use Rattle.uma_zone.proofs.Seats.{still_of}
use Rattle.uma_zone.proofs.zone.Zone.free.Goals as goal

pub returns-clause-counted : goal.returns-clause-counted
returns-clause-counted g c =
    let done = c.free.ensures in
    record {
      seat = still_of c.args.self.now c.args.seat.now c.free.new.self done.same done.top done.misses done.ports done.fails c.requires.put.seat;
      ledger = search rules;
      fetches = search rules;
      same = search rules;
      top = search rules;
      misses = search rules;
    }
