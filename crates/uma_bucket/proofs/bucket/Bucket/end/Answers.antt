use Rattle.std.proofs.Common.{length, ap, ◌∙◌}
use Rattle.uma_bucket.specs.Room.{is_cached, cached_in}
use Rattle.uma_bucket.proofs.Rooms.{none_there, cached_tests}
use Rattle.uma_bucket.proofs.bucket.Bucket.end.Goals as goal

pub destroy_empty-requires : goal.destroy_empty-requires
destroy_empty-requires g c = c.args.self.room.ok.0 ∙ ap length (none_there is_cached cached_in cached_tests c.args.self.room.items c.args.self.kept.alike c.requires)
