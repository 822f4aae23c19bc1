use Rattle.name_cache.proofs.locked_row.rejoined.Goals as goal

pub invariant_of-result : goal.invariant_of-result
invariant_of-result c =
    let fits = c.requires.fits c.in_ok-entry.entry c.in-Some.item c.in_ok-entry.was c.in-Some.is in
    record { ours = fits.ours; numbered = fits.numbered; built = fits.built; of_origin = fits.of_origin }
