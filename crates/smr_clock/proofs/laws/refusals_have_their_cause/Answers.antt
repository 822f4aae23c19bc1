use Rattle.smr_clock.proofs.CompleteLemmas.{advances_with_room, says_yes_of_known, says_yes_of_no_section}
use Rattle.smr_clock.proofs.laws.refusals_have_their_cause.Goals as goal

pub returns : goal.returns
returns g c = record { advances = advances_with_room; known = says_yes_of_known; no_section = says_yes_of_no_section }
