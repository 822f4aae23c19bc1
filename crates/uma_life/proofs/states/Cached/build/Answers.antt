use Rattle.std.proofs.Common.{refl, rules}
use Rattle.uma_life.proofs.Same.{cached_same}
use Rattle.uma_life.proofs.states.Cached.build.Goals as goal

pub returns-in-Err : goal.returns-in-Err
returns-in-Err g c =
    record {
      ticket = search rules;
      built = search rules;
      left = search rules;
      accepted = search rules;
      refused = search rules;
      unchanged = cached_same _ _ c.in-Err.ensures.unchanged refl;
    }
