-- The words of an entry whose record is held stand.
use Rattle.std.proofs.Common.{◌≡◌, sym, subst, ap, ◌∙◌}
use Rattle.name_rows.specs.declared.entry.EntryState.{EntryState}
use Rattle.name_rows.specs.declared.entry.Owned.{Owned}
use Rattle.name_rows.specs.Records.{owned_as}
use Rattle.name_rows.specs.NamesLaw.{StillHeld}
use Rattle.name_rows.specs.WordsStand.{HeldWordsStand}

pub held-words-stand : HeldWordsStand
held-words-stand a ws ps at h b held has content low =
    let k = (held.holds at h has).kept b content low in
    let fits = held.owners k.0 (owned_as b k.1) k.2 in
    record {
      key = fits.key;
      value = fits.value;
      unclean = λ other o mine same clean.
          let is : o ≡ owned_as b k.1 = (held.one_owner other k.0 o (owned_as b k.1) mine k.2 same).1 in
          subst (λ (s : EntryState). StillHeld h s) (sym (ap (λ (y : Owned). y.state) is) ∙ clean) k.3;
    }
