use Rattle.std.proofs.Common.{refl, rules}
use Rattle.smr_clock.specs.Belongs.{view}
use Rattle.smr_deferred.proofs.Pacing.{goal_reaches}
use Rattle.smr_deferred.proofs.pace.Pace.advance.Goals as goal

pub returns-in-Ok-clause-advances : goal.returns-in-Ok-clause-advances
returns-in-Ok-clause-advances g c =
    record {
      asked = _;
      between = view c.advance.new.pass;
      asked_is = refl;
      advance = c.in-Ok.ensures.advanced;
      noted = c.note-note.ensures.notes;
      reached = goal_reaches _ _ _ _ c.requires.loaded c.in-Ok.ensures.advanced;
      moved_is = refl;
      refused_is = refl;
      numbers = c.answered.ensures;
      limit = refl;
    }

pub returns-in-Ok-clause-goes_on : goal.returns-in-Ok-clause-goes_on
returns-in-Ok-clause-goes_on g c = record { here = search rules; mine = search rules; stays = search rules; few = search rules }
