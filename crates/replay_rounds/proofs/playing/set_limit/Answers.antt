use Rattle.std.proofs.Common.{refl}
use Rattle.std.proofs.lemmas.Option.{slice_get_read}
use Rattle.replay_rounds.proofs.playing.set_limit.Goals as goal

pub returns : goal.returns
returns g c =
    let zone = c.index-zones-place.result in
    record {
      zone = zone;
      at = slice_get_read c.args.zones.now _ c.args.place zone refl c.requires.place c.index-zones-place.is;
      former = c.set_max.result;
      sets = c.set_max.ensures.set;
    }

pub set_max-requires : goal.set_max-requires
set_max-requires g c = c.requires.limit
