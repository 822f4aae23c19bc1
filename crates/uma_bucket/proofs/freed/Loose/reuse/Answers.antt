use Rattle.std.proofs.Common.{ap, rules}
use Rattle.std.specs.List.{filter_map, list_all}
use Rattle.uma_bucket.specs.Room.{is_cached, cached_in, is_freed, freed_in}
use Rattle.uma_bucket.proofs.Rooms.{none_there, cached_tests}
use Rattle.uma_bucket.proofs.freed.Loose.reuse.Goals as goal

pub invariant_of-result : goal.invariant_of-result
invariant_of-result g c =
    let kept = c.args.bucket.kept in
    let empty = none_there is_cached cached_in cached_tests c.args.bucket.room.items kept.alike c.requires in
    record {
      kept = record {
        least = kept.least;
        most = kept.most;
        within = kept.within;
        taken_whole = kept.taken_whole;
        alike = ap (list_all is_freed) empty;
      };
    }

pub returns : goal.returns
returns g c = record { empty = ap (filter_map freed_in) (none_there is_cached cached_in cached_tests c.args.bucket.room.items c.args.bucket.kept.alike c.requires); size = search rules; place = search rules }
