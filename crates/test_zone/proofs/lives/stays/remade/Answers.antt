use Rattle.std.proofs.Common.{◌∙◌, ap₂}
use Rattle.deed_book.specs.Deed.{labelled}
use Rattle.test_zone.proofs.lives.stays.remade.Goals as goal

pub returns : goal.returns
returns c = λ i. record { deed = (c.of.ensures ∙ ap₂ labelled c.into_deed-deed.ensures.0 c.into_deed-deed.ensures.1) i }
