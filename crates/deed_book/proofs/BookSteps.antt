-- Each step keeps the law of the book.
use Rattle.std.proofs.Common.{◌≡◌, ◌≢◌, ◌⊎◌, ℕ, zero, suc, List, [], ◌∷◌, ◌++◌, length, set, Option, Some, None, sym, refl, ap, ◌∙◌, subst, inl, inr, ⊎_elim}
use Rattle.std.specs.Prelude.{slice_get}
use mathlib.Core.Option.{some, some-injective, some-ne-none}
use lib.ListN.{get_elem?}
use Rattle.atomic_table.specs.Table.{State, Me, Allows, Splits, Joins, keeps}
use Rattle.atomic_table.proofs.Lists.{at_set, at_longer, set_else}
use Rattle.deed_book.specs.declared.book.View.{View}
use Rattle.deed_book.specs.Views.{book_view, deed_view, spent, spelled_by, naming, unnamed, named_deed, accepting, putting_home}
use Rattle.deed_book.specs.BookLaw.{IsOutside, HasDeed, BookLaw, PutsHome}
use Rattle.deed_book.proofs.Lists.{set_there, here_after_snoc, slice_get-set_here, slice_get-set_else}

-- the book's view in the law is that of the first seat
same_book : (views : List View) (v : View) (law : BookLaw views) → get_elem? views 0 ≡ some v → law.book ≡ v
same_book views v law at = some-injective law.book v (sym law.first ∙ at)

-- a deed after a change of one seat is that seat's new one, or was another seat's before
deed_after : (views : List View) (i : ℕ) (w : View) (seat : ℕ) (d : ℕ × ℕ) → HasDeed (set views i w) seat d → ((seat ≡ i) × (w.deed ≡ Some d)) ⊎ ((seat ≢ i) × HasDeed views seat d)
deed_after views i w seat d h =
    ⊎_elim (λ t. inl (t.0, ap (λ (u : View). u.deed) t.1 ∙ h.2)) (λ t. inr (t.0, (h.0, t.1, h.2))) (at_set views i seat w h.0 h.1)

pub opens : (zones : List (Option ℕ)) → BookLaw (book_view zones ∷ [])
opens zones =
    record {
      book = book_view zones;
      first = refl;
      outside = λ seat d h. absurd (nobody seat d h);
      apart = λ seat other d e h k same. absurd (nobody seat d h);
      named_outside = λ d e. absurd (cc);
      named_apart = λ n seat d e h. absurd (cc);
    }
  where
    nobody : (seat : ℕ) (d : ℕ × ℕ) → HasDeed (book_view zones ∷ []) seat d → ⊥
    nobody zero d h = let is : book_view zones ≡ h.0 = some-injective (book_view zones) h.0 h.1 in let none : None ≡ Some d = ap (λ (u : View). u.deed) is ∙ h.2 in absurd (cc)
    nobody (suc seat) d h = some-ne-none h.0 (sym h.1)

-- a number at home has no deed
at_home : (views : List View) (zones : List (Option ℕ)) (number : ℕ) → BookLaw views → get_elem? views 0 ≡ some (book_view zones) → slice_get zones number ≡ Some None → (seat : ℕ) (d : ℕ × ℕ) → HasDeed views seat d → (slice_get zones d.0 ≡ Some (Some d.1)) × (d.0 ≢ number)
at_home views zones number law at home seat d h =
    let out : slice_get zones d.0 ≡ Some (Some d.1) = subst (λ (b : View). IsOutside b.zones d) (same_book views (book_view zones) law at) (law.outside seat d h) in
    (out, λ same. let both : Some (Some d.1) ≡ Some None = sym out ∙ ap (slice_get zones) same ∙ home in absurd (cc))

names : (views : List View) (zones : List (Option ℕ)) (deed : ℕ × ℕ) → BookLaw views → get_elem? views 0 ≡ some (book_view zones) → slice_get zones deed.0 ≡ Some None → BookLaw (set views 0 (naming (book_view zones) deed))
names views zones deed law at home =
    let w = naming (book_view zones) deed in
    let before : (seat : ℕ) (d : ℕ × ℕ) → HasDeed (set views 0 w) seat d → HasDeed views seat d =
    λ seat d h. ⊎_elim (λ (t : (seat ≡ 0) × (None ≡ Some d)). let none = t.1 in absurd (cc)) (λ t. t.1) (deed_after views 0 w seat d h) in
    record {
      book = w;
      first = set_there views 0 w (book_view zones) at;
      outside = λ seat d h. let was = at_home views zones deed.0 law at home seat d (before seat d h) in slice_get-set_else zones deed.0 d.0 (Some deed.1) was.1 ∙ was.0;
      apart = λ seat other d e h k same. law.apart seat other d e (before seat d h) (before other e k) same;
      named_outside = λ d is. subst (λ (n : ℕ × ℕ). slice_get (set zones deed.0 (Some deed.1)) n.0 ≡ Some (Some n.1)) (let e : Some deed ≡ Some d = is in cc) (slice_get-set_here zones deed.0 (Some deed.1) None home);
      named_apart = λ n seat d is h. let e : Some deed ≡ Some n = is in let same : deed ≡ n = cc in λ number. (at_home views zones deed.0 law at home seat d (before seat d h)).1 (number ∙ sym (ap (λ (x : ℕ × ℕ). x.0) same));
    }

pub naming_allowed : (slots id : ℕ) (me : Me (Unit {0}) View) (zones : List (Option ℕ)) (word : ℕ)
    → id ≡ 0 → me ≡ (book_view zones, []) → slice_get zones (spelled_by word).0 ≡ Some None
    → Allows (λ (s : State (Unit {0}) View). BookLaw s.views) slots id me 0 (λ _. word) (λ _ after. after ≡ (naming me.0 (spelled_by word), me.1))
naming_allowed slots id me zones word first knows home s law counted at small =
    let view : me.0 ≡ book_view zones = ap (λ (m : Me (Unit {0}) View). m.0) knows in
    let at' : get_elem? s.views 0 ≡ some (book_view zones) = ap (get_elem? s.views) (sym first) ∙ at ∙ ap some view in
    let kept = names s.views zones (spelled_by word) law at' home in (
      naming me.0 (spelled_by word),
      keeps,
      tt,
      subst (λ (x : ℕ × View). BookLaw (set s.views x.0 (naming x.1 (spelled_by word)))) (λ i. (sym first i, sym view i)) kept,
      refl,
    )

-- the deed is split off
splits : (views : List View) (v : View) → BookLaw views → get_elem? views 0 ≡ some v → BookLaw (set views 0 (unnamed v) ++ named_deed v ∷ [])
splits views v law at =
    let left = set views 0 (unnamed v) in
    let all = left ++ named_deed v ∷ [] in
    let is = same_book views v law at in
    let old : (seat : ℕ) (d : ℕ × ℕ) → HasDeed left seat d → HasDeed views seat d =
    λ seat d h. ⊎_elim (λ (t : (seat ≡ 0) × (v.deed ≡ Some d)). (v, ap (get_elem? views) t.0 ∙ at, t.1)) (λ t. t.1) (deed_after views 0 (unnamed v) seat d h) in
    let cases : (seat : ℕ) (d : ℕ × ℕ) → HasDeed all seat d → HasDeed views seat d ⊎ ((seat ≡ length left) × (law.book.named ≡ Some d)) =
    λ seat d h. ⊎_elim
    (λ (was : get_elem? left seat ≡ some h.0). inl (old seat d (h.0, was, h.2)))
    (λ (new : (seat ≡ length left) × (named_deed v ≡ h.0)). inr (new.0, ap (λ (u : View). u.named) is ∙ ap (λ (u : View). u.deed) new.1 ∙ h.2))
    (here_after_snoc left (named_deed v) h.0 seat h.1) in
    record {
      book = unnamed v;
      first = at_longer left (named_deed v ∷ []) 0 (unnamed v) (set_there views 0 (unnamed v) v at);
      outside = λ seat d h. subst (λ (b : View). IsOutside b.zones d) is (⊎_elim (law.outside seat d) (λ new. law.named_outside d new.1) (cases seat d h));
      apart = λ seat other d e h k same. ⊎_elim
          (λ (was : HasDeed views seat d). ⊎_elim
          (λ (was' : HasDeed views other e). law.apart seat other d e was was' same)
          (λ new. absurd (law.named_apart e seat d new.1 was same))
          (cases other e k))
          (λ new. ⊎_elim
          (λ (was : HasDeed views other e). absurd (law.named_apart d other e new.1 was (sym same)))
          (λ new'. new.0 ∙ sym new'.0)
          (cases other e k))
          (cases seat d h);
      named_outside = λ d e. absurd (cc);
      named_apart = λ n seat d e h. absurd (cc);
    }

pub splitting_allowed : (id : ℕ) (v : View) → id ≡ 0 → Splits (λ (s : State (Unit {0}) View). BookLaw s.views) id v (unnamed v) (named_deed v)
splitting_allowed id v first s law at =
    subst (λ (i : ℕ). BookLaw (set s.views i (unnamed v) ++ named_deed v ∷ [])) (sym first) (splits s.views v law (ap (get_elem? s.views) (sym first) ∙ at))

-- a deed is joined into the book's seat
accepts : (views : List View) (v : View) (other : ℕ) (w : View) → BookLaw views → get_elem? views 0 ≡ some v → other ≢ 0 → get_elem? views other ≡ some w
    → BookLaw (set (set views 0 (accepting v w)) other spent)
accepts views v other w law at apart there =
    let both = set views 0 (accepting v w) in
    let is = same_book views v law at in
    let cases : (seat : ℕ) (d : ℕ × ℕ) → HasDeed (set both other spent) seat d → ((seat ≡ 0) × HasDeed views other d) ⊎ ((seat ≢ other) × HasDeed views seat d) =
    λ seat d h. ⊎_elim
    (λ (t : (seat ≡ other) × (None ≡ Some d)). let none = t.1 in absurd (cc))
    (λ (t : (seat ≢ other) × HasDeed both seat d). ⊎_elim
    (λ (u : (seat ≡ 0) × (w.deed ≡ Some d)). inl (u.0, (w, there, u.1)))
    (λ u. inr (t.0, u.1))
    (deed_after views 0 (accepting v w) seat d t.1))
    (deed_after both other spent seat d h) in
    record {
      book = accepting v w;
      first = set_else both other 0 spent (λ e. apart (sym e)) ∙ set_there views 0 (accepting v w) v at;
      outside = λ seat d h. subst (λ (b : View). IsOutside b.zones d) is (⊎_elim (λ t. law.outside other d t.1) (λ t. law.outside seat d t.1) (cases seat d h));
      apart = λ seat seat' d e h k same. ⊎_elim
          (λ (t : (seat ≡ 0) × HasDeed views other d). ⊎_elim
          (λ (u : (seat' ≡ 0) × HasDeed views other e). t.0 ∙ sym u.0)
          (λ (u : (seat' ≢ other) × HasDeed views seat' e). absurd (u.0 (sym (law.apart other seat' d e t.1 u.1 same))))
          (cases seat' e k))
          (λ (t : (seat ≢ other) × HasDeed views seat d). ⊎_elim
          (λ (u : (seat' ≡ 0) × HasDeed views other e). absurd (t.0 (law.apart seat other d e t.1 u.1 same)))
          (λ (u : (seat' ≢ other) × HasDeed views seat' e). law.apart seat seat' d e t.1 u.1 same)
          (cases seat' e k))
          (cases seat d h);
      named_outside = λ d e. subst (λ (b : View). IsOutside b.zones d) is (law.named_outside d (ap (λ (b : View). b.named) is ∙ e));
      named_apart = λ n seat d e h. let named = ap (λ (b : View). b.named) is ∙ e in ⊎_elim (λ t. law.named_apart n other d named t.1) (λ t. law.named_apart n seat d named t.1) (cases seat d h);
    }

pub accepting_allowed : (id : ℕ) (v : View) (other : ℕ) (w : View) → id ≡ 0 → Joins (λ (s : State (Unit {0}) View). BookLaw s.views) id v other w (accepting v w) spent
accepting_allowed id v other w first s law at apart there =
    let apart' : other ≢ 0 = λ e. apart (e ∙ sym first) in
    let there' = set_else s.views id other (accepting v w) apart in
    subst (λ (i : ℕ). BookLaw (set (set s.views i (accepting v w)) other spent)) (sym first)
    (accepts s.views v other w law (ap (get_elem? s.views) (sym first) ∙ at) apart' (sym there' ∙ there))

-- a deed that the book took in: its number is outside, and can be put home
puts_home : (views : List View) (v : View) (deed : ℕ × ℕ) → BookLaw views → get_elem? views 0 ≡ some v → v.deed ≡ Some deed
    → IsOutside v.zones deed × BookLaw (set views 0 (putting_home v deed))
puts_home views v deed law at has =
    let w = putting_home v deed in
    let is = same_book views v law at in
    let mine : HasDeed views 0 deed = (v, at, has) in
    let out : IsOutside v.zones deed = subst (λ (b : View). IsOutside b.zones deed) is (law.outside 0 deed mine) in
    let others : (seat : ℕ) (d : ℕ × ℕ) → HasDeed (set views 0 w) seat d → (seat ≢ 0) × HasDeed views seat d =
    λ seat d h. ⊎_elim (λ (t : (seat ≡ 0) × (None ≡ Some d)). let none = t.1 in absurd (cc)) (λ t. t) (deed_after views 0 w seat d h) in
    let stays : (d : ℕ × ℕ) → IsOutside law.book.zones d → d.0 ≢ deed.0 → IsOutside w.zones d =
    λ d was other. slice_get-set_else v.zones deed.0 d.0 None other ∙ subst (λ (b : View). IsOutside b.zones d) is was in (
      out,
      record {
        book = w;
        first = set_there views 0 w v at;
        outside = λ seat d h. let o = others seat d h in stays d (law.outside seat d o.1) (λ same. o.0 (law.apart seat 0 d deed o.1 mine same));
        apart = λ seat seat' d e h k same. law.apart seat seat' d e (others seat d h).1 (others seat' e k).1 same;
        named_outside = λ d e. let named = ap (λ (b : View). b.named) is ∙ e in stays d (law.named_outside d named) (λ same. law.named_apart d 0 deed named mine (sym same));
        named_apart = λ n seat d e h. law.named_apart n seat d (ap (λ (b : View). b.named) is ∙ e) (others seat d h).1;
      },
    )

pub putting_home_allowed : (slots id : ℕ) (me : Me (Unit {0}) View) (deed : ℕ × ℕ) → id ≡ 0 → me.0.deed ≡ Some deed → me.1 ≡ []
    → Allows (λ (s : State (Unit {0}) View). BookLaw s.views) slots id me 0 (λ n. n) (λ _ after. PutsHome me.0 after)
putting_home_allowed slots id me deed first has empty s law counted at small =
    let at' = ap (get_elem? s.views) (sym first) ∙ at in
    let kept = puts_home s.views me.0 deed law at' has in (
      putting_home me.0 deed,
      keeps,
      tt,
      subst (λ (i : ℕ). BookLaw (set s.views i (putting_home me.0 deed))) (sym first) kept.1,
      λ d is. let e : Some deed ≡ Some d = sym has ∙ is in let same : deed ≡ d = cc in
          let home : (x : ℕ × ℕ) → Me (Unit {0}) View = λ x. (putting_home me.0 x, []) in
          let after : Me (Unit {0}) View = (putting_home me.0 deed, me.1) in
          let told : IsOutside me.0.zones deed × (after ≡ home deed) = (kept.0, λ i. (putting_home me.0 deed, empty i)) in
          subst (λ (x : ℕ × ℕ). IsOutside me.0.zones x × (after ≡ home x)) same told,
    )

-- what the book's seat knows once a deed was accepted and put home
pub accepted : (zones : List (Option ℕ)) (deed : ℕ × ℕ) (mine theirs joined after : Me (Unit {0}) View)
    → mine ≡ (book_view zones, []) → theirs ≡ (deed_view deed, []) → joined ≡ (accepting mine.0 theirs.0, mine.1) → PutsHome joined.0 after
    → IsOutside zones deed × (after ≡ (book_view (set zones deed.0 None), []))
accepted zones deed mine theirs joined after mine-is theirs-is joined-is home =
    let start : Me (Unit {0}) View = (accepting (book_view zones) (deed_view deed), []) in
    let is : joined ≡ start = joined-is ∙ (λ i. (accepting (mine-is i).0 (theirs-is i).0, (mine-is i).1)) in
    let told : PutsHome start.0 after = subst (λ (m : Me (Unit {0}) View). PutsHome m.0 after) is home in
    told deed refl
