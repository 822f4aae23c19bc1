-- What a refused read took, after what was read before it.
use Rattle.std.proofs.lemmas.Result.{err_from_is_err_and}
use Rattle.uma_io.proofs.Taking.{Loses-more}
use Rattle.uma_io.proofs.reading.read_all.Goals as goal

pub returns-in_err-append_piece-clause-lost : goal.returns-in_err-append_piece-clause-lost
returns-in_err-append_piece-clause-lost g c =
    let before = c.loop-bytes.invariant in
    let same = err_from_is_err_and c.from_residual.result c.from_residual.ensures.1 in
    rw (same.1, same.2) (Loses-more _ _ _ _ _ _ _ c.loop-bytes.bytes.ok.0 before.within before.taken c.in_err-append_piece.ensures.lost)
