-- Own: the numbers that a list carries.
use Rattle.std.specs.Prelude.{slice_index}
use Rattle.smr_deferred.specs.declared.counts.Counts.{Counts}
use Rattle.smr_deferred.specs.Numbers.{Numbers}

abbrev pub numbers_in : Counts → Numbers
numbers_in counts =
    let ns = counts.tag.numbers in
    record { retired = slice_index ns 0; pushed = slice_index ns 1; answered = slice_index ns 2; since = slice_index ns 3 }
