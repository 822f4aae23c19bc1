use Rattle.slab_bits.proofs.FirstPlaces.{places_of-first}
use Rattle.slab_bits.proofs.bits.Bits.first_n.Goals as goal

pub returns : goal.returns
returns c = rw (c.word_of_first.ensures, c.word_of_first-2.ensures, c.word_of_first-3.ensures, c.word_of_first-4.ensures) (places_of-first c.args.n c.requires)
