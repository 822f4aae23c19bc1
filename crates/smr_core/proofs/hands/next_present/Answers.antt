-- The lowest bit of what is left of the word is the next seat.
use Rattle.std.proofs.Common.{◌∙◌}
use Rattle.smr_core.proofs.PresenceLemmas.{found-is-next}
use Rattle.smr_core.proofs.hands.next_present.Goals as goal

pub returns : goal.returns
returns c = c.min.ensures ∙ found-is-next c.args.config c.args.seats c.args.from c.if-from-config.false c.requires c.ranges.seats.fits
