-- What a row under its lock tells of its last record, and of its entry.
use Rattle.std.proofs.Common.{◌≡◌, ℕ, ◌≤◌, List, [], ◌∷◌, ◌++◌, map, ◌∙◌, sym, ap, subst, refl, inl, ⊎_elim, le_refl, Option, Some}
use Rattle.smr_clock.specs.declared.view.View.{View}
use Rattle.smr_clock.specs.Notes.{seat_knows}
use Rattle.name_rows.specs.declared.names.Part.{Part}
use Rattle.name_rows.specs.declared.names.Bound.{Bound}
use Rattle.name_rows.specs.declared.names.Record.{Record}
use Rattle.name_rows.specs.declared.names.RowView.{RowView}
use Rattle.name_rows.specs.Guests.{content_of}
use Rattle.name_rows.specs.Linking.{last_seen, last_told}
use Rattle.name_rows.specs.Records.{In}
use Rattle.name_rows.specs.Rows.{row_last}
use Rattle.name_rows.specs.Laws.{in_right, in_either}
use Rattle.name_rows.specs.Reading.{IsNewest}
use Rattle.name_rows.proofs.RowCalls.{seen_form}
use Rattle.name_cache.specs.LockedRow.{MeetsRow}
use Rattle.name_cache.specs.declared.locked_row.LockedRow.{LockedRow}
use Rattle.name_cache.proofs.Telling.{still_more}

-- the last record of the one row that a seat has
pub record IsLast (told : List Record) (version : ℕ) (content : Option Bound) : Type 0 where
  pub last : Record
  pub is_last : told ≡ last ∷ []
  pub version_is : last.version ≡ version
  pub content_is : last.content ≡ content

pub last_of : (rows : List RowView) (n version : ℕ) (content : Option Bound) → last_seen rows ≡ Some (n, version, content) → IsLast (last_told rows) version content
last_of rows n version content seen =
    let k = seen_form rows n version content seen in
    record { last = k.0; is_last = ap last_told k.2; version_is = k.3; content_is = k.4 }

-- the one record is of the row with this number
pub of_this : (told : List Record) (last : Record) (n : ℕ) → told ≡ last ∷ [] → map (λ (r : Record). r.row) told ≡ n ∷ [] → last.row ≡ n
of_this told last n is all = ap head_of (sym (ap (map (λ (r : Record). r.row)) is) ∙ all)
  where
    head_of : List ℕ → ℕ
    head_of [] = n
    head_of (x ∷ xs) = x

-- a pass that has met the row
pub has_met : (v w : View Part) (locked : LockedRow) → w.host.known ≡ v.host.known ++ row_last locked.row → ((r : Record) → In r v.host.known → r.row ≡ locked.row.number → r.version ≤ locked.row.version) → MeetsRow v locked w
has_met v w locked known newest =
    let k = last_of (seat_knows locked.row.seat).host.rows locked.row.number locked.row.version (content_of locked.row.guest) locked.row.seen in
    let own = of_this (row_last locked.row) k.last locked.row.number k.is_last locked.of_row in
    record {
      last = k.last;
      is_last = k.is_last;
      version = k.version_is;
      content = k.content_is;
      meets = record {
        knows = subst (λ (l : List Record). In k.last l) (sym known) (in_right v.host.known (row_last locked.row) k.last (subst (λ (l : List Record). In k.last l) (sym k.is_last) (inl refl)));
        of_row = own;
        newest = λ r i same. subst (λ (m : ℕ). r.version ≤ m) (sym k.version_is) (newest r i (same ∙ own));
      };
      newest = subst (λ (l : List Record). IsNewest l k.last) (sym known) (λ r i same. ⊎_elim (λ t. subst (λ (m : ℕ). r.version ≤ m) (sym k.version_is) (newest r t (same ∙ own))) (λ t. one_up k.last r (subst (λ (l : List Record). In r l) k.is_last t)) (in_either v.host.known (row_last locked.row) r i));
      still = still_more v w (row_last locked.row) known;
    }
  where
    one_up : (last : Record) (r : Record) → In r (last ∷ []) → r.version ≤ last.version
    one_up last r i = ⊎_elim (λ (e : last ≡ r). subst (λ (x : Record). x.version ≤ last.version) e (le_refl last.version)) (λ t. absurd t) i

version_in : List Record → ℕ
version_in [] = 0
version_in (r ∷ rs) = r.version

-- the one last record of a row has its version
pub row_told : (locked : LockedRow) (last : Record) → row_last locked.row ≡ last ∷ [] → last.version ≡ locked.row.version
unfolding last_of version_in
row_told locked last is =
    let k = last_of (seat_knows locked.row.seat).host.rows locked.row.number locked.row.version (content_of locked.row.guest) locked.row.seen in
    ap version_in (sym is ∙ k.is_last) ∙ k.version_is
