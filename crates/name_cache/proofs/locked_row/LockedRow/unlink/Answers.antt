use Rattle.std.proofs.Common.{is_some, sym, ap, ◌∙◌}
use Rattle.name_cache.specs.LockedRow.{row_identity}
use Rattle.name_cache.proofs.Linked.{fits_out, evicted_both}
use Rattle.name_cache.proofs.locked_row.LockedRow.unlink.Goals as goal

pub rejoined-requires : goal.rejoined-requires
rejoined-requires c =
    let was = c.args.self.now in
    let id = row_identity was in
    let out = c.unlink-out.ensures in
    record {
      both = ap is_some c.take.ensures.value ∙ was.paired ∙ evicted_both was.row.guest c.unlink-out.result out.evicted;
      fits = fits_out c.args.clock.now id.clock id.home was.row.guest c.unlink-out.result c.take.result c.requires.here.same_clock
          (λ guest item is kept. was.fits guest item is (sym c.take.ensures.value ∙ kept))
          out.other_here out.evicted;
    }
