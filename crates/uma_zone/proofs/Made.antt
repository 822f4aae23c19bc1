-- A new keg, and the key of its lock.
use Rattle.std.proofs.Common.{◌≡◌, ℕ, Option, Some, None, sym, ap, ◌∙◌}
use Rattle.deed_book.specs.Deed.{BookId}
use Rattle.deed_book.specs.Book.{book_table}
use Rattle.uma_domain.specs.Identity.{home_of}
use Rattle.uma_slabs.specs.Places.{KegPlaces, domain_at, IsNew}
use Rattle.uma_keg.specs.declared.keg.Keg.{Keg}
use Rattle.uma_keg.specs.Keg.{places_in, table_in, rights_in, size_in, reserve_in, IsSameKeg}
use Rattle.locked_keg.specs.declared.locked_keg.KegKey.{KegKey}
use Rattle.locked_keg.specs.Key.{key_numbers, key_rights, IsKeyOf}
use Rattle.locked_keg.specs.Rule.{HasDomainsBelow}

not_both : {X : Type 0} (o : Option X) (x : X) → o ≡ None → o ≡ Some x → ⊥
not_both o x none at = absurd (cc)

-- it has no slab
pub no_slabs : (old new : KegPlaces) (places most domains : ℕ) → new ≡ old → IsNew places most old → HasDomainsBelow domains new
no_slabs old new places most domains same is = record {
  each = λ index domain at. absurd (not_both (domain_at old index) domain (is.absent index) (ap (λ (k : KegPlaces). domain_at k index) (sym same) ∙ at));
}

-- the key of the lock over what the keg became names the keg
pub key_of : {T K : Type 0} {g h : _} (keg old new : Keg T K g h) (domains : ℕ) (key lock : KegKey) → lock ≡ key → IsKeyOf new domains key → IsSameKeg old new → old ≡ keg → IsKeyOf keg domains lock
key_of keg old new domains key lock same of kept is = record {
  numbers = ap key_numbers same ∙ of.numbers ∙ kept.table ∙ ap table_in is;
  rights = ap key_rights same ∙ of.rights ∙ kept.rights_table ∙ ap (λ (k : Keg _ _ _ _). book_table (rights_in k)) is;
  size = ap (λ (k : KegKey). k.size) same ∙ of.size ∙ kept.size ∙ ap size_in is;
  cap = ap (λ (k : KegKey). k.cap) same ∙ of.cap ∙ kept.cap ∙ ap (λ (k : Keg _ _ _ _). (places_in k).cap) is;
  reserve = ap (λ (k : KegKey). k.reserve) same ∙ of.reserve ∙ kept.reserve ∙ ap reserve_in is;
  domains_kept = ap (λ (k : KegKey). k.domains) same ∙ of.domains_kept;
}

pub same_home : (t u : BookId) (m n d e : ℕ) → t ≡ u → m ≡ n → d ≡ e → home_of t m d ≡ home_of u n e
same_home t u m n d e p q r = cc
