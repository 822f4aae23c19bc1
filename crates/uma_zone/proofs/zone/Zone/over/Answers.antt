use Rattle.deed_book.specs.Book.{book_table}
use Rattle.deed_book.specs.Deed.{deed_table, no_of}
use Rattle.deed_book.specs.FailShare.{share_table}
use Rattle.deed_book.specs.declared.deed.Deed.{Deed}
use Rattle.keyed_lock.specs.KeyedLock.{lock_key}
use Rattle.locked_keg.specs.Ends.{fetch_cause}
use Rattle.locked_keg.specs.FailBooks.{table_at}
use Rattle.locked_keg.specs.Key.{key_rights, key_fails, IsKeyOf}
use Rattle.locked_keg.specs.LockedKeg.{keg_in, fails_in}
use Rattle.std.proofs.Common.{rules, ◌≡◌, List, [], ◌∷◌, ◌++◌, map, Some, refl, sym, ap, ◌∙◌}
use Rattle.std.proofs.lemmas.List.Elements.{All-pop, All-weaker}
use Rattle.std.specs.Arc.{arc_value}
use Rattle.uma_bucket.specs.Home.{Home}
use Rattle.uma_keg.specs.Keg.{places_in, rights_in}
use Rattle.uma_zone.proofs.Made.{no_slabs, key_of, same_home}
use Rattle.uma_zone.proofs.Rights.{split_last, below_eight}
use Rattle.uma_zone.proofs.zone.Zone.over.Goals as goal
use Rattle.uma_zone.specs.Right.{right_table}
use Rattle.uma_zone.specs.declared.right.KeptRight.{KeptRight}

pub keep_rights-requires : goal.keep_rights-requires
keep_rights-requires g c =
    let rest = c.pop.new.self.items in
    let numbered : map no_of (rest ++ c.in-Some.right ∷ []) ≡ 7 ∷ 6 ∷ 5 ∷ 4 ∷ 3 ∷ 2 ∷ 1 ∷ 0 ∷ [] = ap (map no_of) (sym {A = List Deed} c.in-Some.ensures.items) ∙ c.requires.numbered in
    record {
      of_keg = (All-pop (λ (right : Deed). deed_table right ≡ book_table (rights_in c.args.keg)) c.args.rights.items c.pop.new.self.items (Some c.in-Some.right) c.in-Some.ensures.items c.requires.of_keg).0;
      below = below_eight no_of rest (split_last no_of rest c.in-Some.right (7 ∷ 6 ∷ 5 ∷ 4 ∷ 3 ∷ 2 ∷ 1 ∷ []) 0 numbered).1;
    }

pub add_zone-index-requires : goal.add_zone-index-requires
add_zone-index-requires g c =
    (All-pop (λ (right : Deed). deed_table right ≡ book_table (rights_in c.args.keg)) c.args.rights.items c.pop.new.self.items (Some c.in-Some.right) c.in-Some.ensures.items c.requires.of_keg).1
    ∙ ap (λ (keg : _). book_table (rights_in keg)) (sym c.in_ok-keg.ensures.keg)

pub lock_up-requires : goal.lock_up-requires
lock_up-requires g c = record {
  per_slab = search rules;
  domains = no_slabs (places_in c.args.keg) _ _ _ c.args.set.domains (c.add_zone-index.ensures.unmoved.places ∙ ap places_in c.in_ok-keg.ensures.keg) c.requires.new;
  listed = record {
    each = λ zone. c.add_zone-index.ensures.causes zone ∙ c.in_ok-keg.ensures.listed.each zone ∙ ap (map fetch_cause) (sym (c.add_zone-index.ensures.fetches zone));
  };
}

-- the key of the lock names the keg
key_is : (g : _) (c : goal.After-of g) → IsKeyOf c.args.keg c.args.set.domains (lock_key (arc_value c.in-Ok.keg))
key_is g c =
    key_of c.args.keg (keg_in c.in_ok-keg.keg) (keg_in c.add_zone-index.new.self) c.args.set.domains (lock_key c.in_ok-lock_up.field-0) (lock_key (arc_value c.in-Ok.keg)) (ap lock_key c.in-Ok.ensures.ok)
    c.in_ok-lock_up.ensures.key c.add_zone-index.ensures.same c.in_ok-keg.ensures.keg

first : (g : _) (c : goal.After-of g) → (no_of c.in-Some.right ≡ 0) × (map no_of c.pop.new.self.items ≡ 7 ∷ 6 ∷ 5 ∷ 4 ∷ 3 ∷ 2 ∷ 1 ∷ [])
first g c = split_last no_of c.pop.new.self.items c.in-Some.right (7 ∷ 6 ∷ 5 ∷ 4 ∷ 3 ∷ 2 ∷ 1 ∷ []) 0 (ap (map no_of) (sym {A = List Deed} c.in-Some.ensures.items) ∙ c.requires.numbered)

pub invariant_of-result-clause-home : goal.invariant_of-result-clause-home
invariant_of-result-clause-home g c =
    let key = key_is g c in
    c.in_ok-domains.ensures.home
    ∙ same_home _ _ _ _ _ _ (ap book_table c.numbers.ensures ∙ sym key.numbers) (sym (c.add_zone-index.ensures.index ∙ (first g c).0)) (sym key.domains_kept)

pub invariant_of-result-clause-was_added : goal.invariant_of-result-clause-was_added
invariant_of-result-clause-was_added g c =
    let index = c.add_zone-index.result.0 in
    let added = c.add_zone-index.ensures in
    ap (λ (lock : _). key_fails (lock_key lock) index) c.in-Ok.ensures.ok
    ∙ c.in_ok-lock_up.ensures.fails index
    ∙ added.tables index
    ∙ ap (table_at (fails_in c.in_ok-keg.keg)) added.index
    ∙ added.share_mine
    ∙ ap (λ (share : _). Some (share_table share)) (sym c.of.ensures)

pub invariant_of-result-clause-rights_of_keg : goal.invariant_of-result-clause-rights_of_keg
invariant_of-result-clause-rights_of_keg g c =
    let key = key_is g c in
    All-weaker (λ (right : KeptRight). right_table right ≡ book_table (rights_in c.args.keg)) (λ (right : KeptRight). right_table right ≡ key_rights (lock_key (arc_value c.in-Ok.keg))) (λ right of. of ∙ sym key.rights) c.in_ok-rights.rights.items c.in_ok-rights.ensures.of_keg

pub returns : goal.returns
returns g c =
    let of : IsKeyOf c.args.keg c.args.set.domains (lock_key (arc_value c.in-Ok.keg)) =
    key_of c.args.keg (keg_in c.in_ok-keg.keg) (keg_in c.add_zone-index.new.self) c.args.set.domains (lock_key c.in_ok-lock_up.field-0) (lock_key (arc_value c.in-Ok.keg)) (ap lock_key c.in-Ok.ensures.ok)
    c.in_ok-lock_up.ensures.key c.add_zone-index.ensures.same c.in_ok-keg.ensures.keg in
    let numbers = split_last no_of c.pop.new.self.items c.in-Some.right (7 ∷ 6 ∷ 5 ∷ 4 ∷ 3 ∷ 2 ∷ 1 ∷ []) 0 (ap (map no_of) (sym {A = List Deed} c.in-Some.ensures.items) ∙ c.requires.numbered) in
    record {
      made = record {
        index = c.add_zone-index.ensures.index ∙ numbers.0;
        same_clock = c.in_ok-domains.ensures.clock;
        size_kept = of.size;
        cap = of.cap ∙ c.requires.new.cap;
        reserve = of.reserve ∙ c.requires.reserve;
        bucket = refl;
        limit = refl;
        domains = c.in_ok-domains.ensures.count;
        smr = c.in_ok-domains.ensures.smr;
        hooks_kept = refl;
        rights = c.in_ok-rights.ensures.numbers ∙ numbers.1;
      };
      book = ap (λ (home : Home). home.book) c.in_ok-domains.ensures.home ∙ ap book_table c.numbers.ensures;
    }
