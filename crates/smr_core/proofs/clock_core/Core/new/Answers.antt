-- The law holds where a core begins, since its numbers are in range.
use Rattle.std.proofs.Common.{rules, sym, subst}
use Rattle.smr_core.specs.CoreState.{CoreLaw}
use Rattle.smr_core.proofs.OpeningLemmas.{opening-law}
use Rattle.smr_core.proofs.clock_core.Core.new.Goals as goal

pub invariant_of-result : goal.invariant_of-result
invariant_of-result c = subst CoreLaw (sym c.in_ok-works.ensures) (opening-law c.in_ok-config.config c.in_ok-config.ensures.made.in_range)

pub returns-clause-opened : goal.returns-clause-opened
returns-clause-opened c =
    record {
      in_range = search rules;
      opened = search rules;
      law = subst CoreLaw (sym c.in_ok-works.ensures) (opening-law c.in_ok-config.config c.in_ok-config.ensures.made.in_range);
    }
