use Rattle.std.proofs.Common.{rules, ◌∙◌, sym}
use Rattle.uma_bucket.specs.Room.{is_freed, freed_in}
use Rattle.uma_bucket.proofs.Rooms.{count, freed_tests}
use Rattle.uma_bucket.proofs.freed.Loose.len.Goals as goal

pub returns : goal.returns
returns g c = record { len = c.len.ensures ∙ c.args.self.now.room.ok.0 ∙ sym (count is_freed freed_in freed_tests _ c.args.self.now.kept.alike); within = search rules; most = search rules }
