use Rattle.std.proofs.Common.{refl, rules}
use Rattle.uma_life.proofs.Same.{stored_same}
use Rattle.uma_life.proofs.states.Stored.lend.Goals as goal

pub returns : goal.returns
returns g c =
    record {
      deed = search rules;
      domain = search rules;
      primary = search rules;
      entered = search rules;
      left = search rules;
      accepted = search rules;
      refused = search rules;
      unchanged = (stored_same _ _ c.in-Err.ensures.unchanged, refl);
    }
