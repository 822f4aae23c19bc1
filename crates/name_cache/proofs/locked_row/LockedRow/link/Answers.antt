use Rattle.std.proofs.Common.{◌≡◌, ◌∷◌, [], ℕ, None, is_some, refl, sym, ap, ◌∙◌}
use Rattle.name_rows.specs.Entries.{guest_of}
use Rattle.name_rows.specs.Guests.{content_of}
use Rattle.name_rows.specs.Linking.{row_record}
use Rattle.name_cache.specs.LockedRow.{row_identity}
use Rattle.name_cache.proofs.Linked.{fits_out, evicted_both, is_out}
use Rattle.name_cache.proofs.locked_row.LockedRow.link.Goals as goal

pub rejoined-requires : goal.rejoined-requires
rejoined-requires c =
    let was = c.args.self.now in
    let id = row_identity was in
    let out = c.link-version.ensures in
    record {
      both = ap is_some c.replace-item.ensures.value ∙ was.paired ∙ evicted_both was.row.guest c.link-version.result.1 out.evicted;
      fits = fits_out c.args.clock.now id.clock id.home was.row.guest c.link-version.result.1 c.replace-item.result c.requires.here.same_clock
          (λ guest item is kept. was.fits guest item is (sym c.replace-item.ensures.value ∙ kept))
          out.other_here out.evicted;
    }

pub returns : goal.returns
returns c =
    let was = c.args.self.now in
    let id = row_identity was in
    let made = c.link-version.ensures in
    let evicted = made.evicted in
    let both : is_some c.replace-item.result ≡ is_some c.link-version.result.1 =
    ap is_some c.replace-item.ensures.value ∙ was.paired ∙ evicted_both was.row.guest c.link-version.result.1 evicted in
    record {
      identity = refl;
      version = made.version.1 ∙ made.version.0;
      guest = made.guest;
      last = made.last ∙ ap (λ (n : ℕ). row_record was.row.number n (content_of (guest_of c.args.parts.entry)) None ∷ []) (sym made.version.1);
      evicted = is_out id.clock id.home was.row.guest c.link-version.result.1 c.replace-item.result c.rejoined.result evicted both
          (λ guest item is kept. was.fits guest item is (sym c.replace-item.ensures.value ∙ kept))
          c.rejoined.ensures.both c.rejoined.ensures.some;
    }
