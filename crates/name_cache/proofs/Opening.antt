-- What names are made with is what a cache is made of.
use Rattle.std.proofs.Common.{◌≡◌, ℕ, [], ◌∷◌, None, length, ◌∙◌, sym, ap}
use Rattle.smr_clock.specs.declared.clock.Setup.{Setup}
use Rattle.smr_clock.specs.Belongs.{setup_of}
use Rattle.name_rows.specs.declared.making.Opened.{Opened}
use Rattle.name_rows.specs.Belongs.{IsNamesClock}
use Rattle.name_rows.specs.Linking.{row_record}
use Rattle.name_rows.specs.Opening.{AreOpenRows}
use Rattle.name_rows.specs.Roots.{IsRootOf}
use Rattle.name_cache.specs.Making.{IsOpened}

pub is_opened : (opened : Opened) (a : Setup) (version : ℕ) → setup_of opened.clock ≡ a → IsNamesClock opened.clock → length opened.rows ≡ a.plan.0 → AreOpenRows opened.clock version opened.rows → IsRootOf opened.clock opened.root → IsOpened opened
is_opened opened a version same names long rows root = record {
  names = names;
  all_rows = long ∙ ap (λ (s : Setup). s.plan.0) (sym same);
  rows = λ n row there.
      let open_row = rows n row there in
      let number : n ≡ row.number = sym open_row.1 in
      let from : version ≡ row.version = sym open_row.2 in
      record { here = open_row.0; numbered = open_row.1; empty = open_row.3; last = open_row.4 ∙ (λ k. row_record (number k) (from k) None None ∷ []) };
  root = root;
}
