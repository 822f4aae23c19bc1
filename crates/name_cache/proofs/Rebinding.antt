-- How a row that is met, rewritten and met again comes out.
use Rattle.std.proofs.Common.{◌≡◌, ◌<◌, ◌+◌, ◌^◌, ℕ, List, [], ◌∷◌, Option, Some, None, ◌∙◌, sym, ap, subst, refl}
use Rattle.std.proofs.lemmas.Option.{none-some, same_Some}
use Rattle.smr_clock.specs.declared.view.View.{View}
use Rattle.uma_life.specs.Life.{Life}
use Rattle.uma_life.specs.Ticket.{ticket_no}
use Rattle.name_rows.specs.declared.root.Guest.{Guest}
use Rattle.name_rows.specs.declared.names.Part.{Part}
use Rattle.name_rows.specs.declared.names.Bound.{Bound}
use Rattle.name_rows.specs.declared.names.Record.{Record}
use Rattle.name_rows.specs.Entries.{OnWords, entry_life, guest_of}
use Rattle.name_rows.specs.Guests.{bound_of, content_of}
use Rattle.name_rows.specs.Linking.{row_record}
use Rattle.name_rows.specs.Ripening.{StampsAt}
use Rattle.name_rows.specs.Rows.{row_last, key_in, value_in, pair_in}
use Rattle.name_cache.specs.declared.locked_row.LockedRow.{LockedRow}
use Rattle.name_cache.specs.declared.parts.EntryParts.{EntryParts}
use Rattle.name_cache.specs.declared.binding.Receipt.{Receipt}
use Rattle.name_cache.specs.LinkedItem.{guest_life}
use Rattle.name_cache.specs.LockedRow.{row_identity, IsSameRow, MeetsRow, IsOut, IsStamped, IsOutStamped, BindsInRow, UnbindsInRow}
use Rattle.name_cache.specs.Known.{Meets}
use Rattle.name_cache.specs.RowKey.{Identity}
use Rattle.name_cache.proofs.Items.{guest_lives}
use Rattle.name_cache.proofs.Outs.{out_stamped, stamped_words}
use Rattle.name_cache.proofs.Telling.{meets_to}

pub same_number : (was is : LockedRow) → row_identity is ≡ row_identity was → is.row.number ≡ was.row.number
same_number was is same = is.number ∙ ap (λ (i : Identity). i.number) same ∙ sym was.number

-- a row that is met again and again is the same
pub same_row : (locked : LockedRow) → IsSameRow locked locked
same_row locked = record { last = refl; version = refl; guest = refl; linked = refl }

-- who has met a row has met it as it was left
pub met_too : (v v' : View Part) (was is : LockedRow) → row_identity is ≡ row_identity was → IsSameRow was is → MeetsRow v was v' → MeetsRow v is v'
met_too v v' was is id same met = record {
  last = met.last;
  is_last = same.last ∙ met.is_last;
  version = met.version ∙ sym same.version;
  content = met.content ∙ ap content_of (sym same.guest);
  meets = subst (λ (n : ℕ). Meets v n met.last v') (sym (same_number was is id)) met.meets;
  newest = met.newest;
  still = met.still;
}

-- the guest of a row that binds the key to the value
pub named_guest : (guest : Option Guest) (key value : ℕ) → key_in guest ≡ Some key → value_in guest ≡ Some value → (g : Guest) × (guest ≡ Some g) × (g.key ≡ key) × (g.value ≡ value)
named_guest None key value key_is value_is = absurd (none-some key key_is)
named_guest (Some g) key value key_is value_is = (g, refl, same_Some g.key key key_is, same_Some g.value value value_is)

head_same : (a b : Record) → a ∷ [] ≡ b ∷ [] → a ≡ b
head_same a b is = ap head is
  where
    head : List Record → Record
    head [] = a
    head (x ∷ xs) = x

-- old is the row as it was locked, and one the same after the pass met it, in the view v1
module _ (v v1 : View Part) (old one : LockedRow) (met : MeetsRow v old v1) (same : IsSameRow old one) (id : row_identity one ≡ row_identity old) where
  abbrev pub row_is : one.row.number ≡ old.row.number
  row_is = same_number old one id

  pub version_met : one.row.version ≡ met.last.version
  version_met = same.version ∙ sym met.version

  pub met_at : (row : ℕ) → row ≡ one.row.number → Meets v row met.last v1
  met_at row is = subst (λ (n : ℕ). Meets v n met.last v1) (sym (is ∙ row_is)) met.meets

  -- two is the row with its next record, and three the same after the pass met it again
  module _ (v2 : View Part) (two three : LockedRow) (id2 : row_identity two ≡ row_identity one) (version : two.row.version ≡ one.row.version + 1) (met2 : MeetsRow v1 two v2) (same2 : IsSameRow two three)
      (receipt : Receipt) (row_named : receipt.row ≡ one.row.number) (version_named : receipt.version ≡ three.row.version) where
    next_is : receipt.version ≡ met.last.version + 1
    next_is = version_named ∙ same2.version ∙ version ∙ ap (λ (n : ℕ). n + 1) version_met

    both_met : Meets v receipt.row met.last v2
    both_met = meets_to v v1 v2 receipt.row met.last (met_at receipt.row row_named) met2.still

    at_row : met2.last.row ≡ receipt.row
    at_row = met2.meets.of_row ∙ same_number one two id2 ∙ sym row_named

    at_version : met2.last.version ≡ receipt.version
    at_version = met2.version ∙ sym (version_named ∙ same2.version)

    pub binds_in_row : (key value : ℕ) (parts written : EntryParts) (raw out : Option EntryParts) → written.ticket ≡ parts.ticket → (g : Guest) × (guest_of written.entry ≡ Some g) × (g.key ≡ key) × (g.value ≡ value)
        → two.row.guest ≡ guest_of written.entry → one.row.version + 2 < 2 ^ 44 → IsOut (row_identity one).clock (row_identity one).home one.row.guest raw → IsStamped raw out
        → BindsInRow (record { entry = ticket_no parts.ticket; key = key; value = value }) v old receipt out three v2
    binds_in_row key value parts written raw out ticket named guest low was is =
        let g = named.0 in
        let life : entry_life written.entry ≡ guest_life g = guest_lives written.entry written.entry.words g named.1 written.entry.numbered in
        let no : g.no ≡ ticket_no parts.ticket = ap (λ (l : Life). l.no) (sym life) ∙ written.numbered ∙ ap ticket_no ticket in
        let bound : bound_of g ≡ record { entry = ticket_no parts.ticket; key = key; value = value } = λ k. record { entry = no k; key = named.2 k; value = named.3 k } in
        record {
          before = met.last;
          met = both_met;
          row = row_named ∙ row_is;
          was_last = met.is_last;
          next = next_is;
          low = subst (λ (n : ℕ). n + 2 < 2 ^ 44) version_met low;
          knows = record {
            at = met2.last;
            knows = met2.meets.knows;
            of_row = at_row;
            version = at_version;
            newest = met2.newest;
            binds = met2.content ∙ ap content_of (guest ∙ named.1) ∙ ap (λ (b : Bound). Some b) bound;
          };
          is_last = same2.last ∙ met2.is_last;
          out_before = subst (λ (c : Option Bound). IsOutStamped c out) (ap content_of same.guest ∙ sym met.content) (out_stamped (row_identity one).clock (row_identity one).home one.row.guest raw out was is);
        }

    pub unbinds_in_row : (key value : ℕ) (raw out : EntryParts) → key_in one.row.guest ≡ Some key → value_in one.row.guest ≡ Some value → two.row.guest ≡ None
        → row_last two.row ≡ row_record one.row.number (one.row.version + 1) None (pair_in one.row.guest) ∷ [] → IsOut (row_identity one).clock (row_identity one).home one.row.guest (Some raw)
        → OnWords StampsAt raw.entry.words out.entry.words → UnbindsInRow key value v old receipt out three v2
    unbinds_in_row key value raw out key_is value_is guest last was stamps =
        let named = named_guest one.row.guest key value key_is value_is in
        let g = named.0 in
        let there : IsOut (row_identity one).clock (row_identity one).home (Some g) (Some raw) =
        subst (λ (o : Option Guest). IsOut (row_identity one).clock (row_identity one).home o (Some raw)) named.1 was in
        let stamped = stamped_words raw.entry raw.entry.words out.entry.words g there.0 stamps in
        let took : pair_in one.row.guest ≡ Some (key, value) = ap pair_in named.1 ∙ (λ k. Some (named.2 k, named.3 k)) in
        record {
          before = met.last;
          met = both_met;
          was_last = met.is_last;
          row = row_named ∙ row_is;
          next = next_is;
          bound = bound_of g;
          content = met.content ∙ ap content_of (sym same.guest ∙ named.1);
          key_bound = named.2;
          value_bound = named.3;
          knows = record {
            at = met2.last;
            knows = met2.meets.knows;
            of_row = at_row;
            version = at_version;
            newest = met2.newest;
            empty = met2.content ∙ ap content_of guest;
            took = ap (λ (r : Record). r.took) (head_same met2.last (row_record one.row.number (one.row.version + 1) None (pair_in one.row.guest)) (sym met2.is_last ∙ last)) ∙ took;
          };
          is_last = same2.last ∙ met2.is_last;
          goal = stamped.0;
          stamped = stamped.1;
        }
