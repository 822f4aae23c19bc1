-- The zones of the first lines, with one zone more.
use Rattle.std.proofs.Common.{◌≡◌, ◌≢◌, ℕ, ◌+◌, ◌<◌, ◌≤◌, List, [], ◌∷◌, ◌++◌, ◌⊎◌, None, Some, inl, inr, refl, sym, ap, ◌∙◌, subst, length, take, get_or}
use Rattle.std.proofs.lemmas.List.{length_push, length-set, length-take-le, take_all}
use Rattle.std.proofs.lemmas.List.Elements.{All-push}
use Rattle.std.proofs.lemmas.Option.{none-some, same_Some, slice_get_read, slice_get_within}
use Rattle.std.specs.Prelude.{slice_get, slice_set}
use Rattle.smr_clock.specs.declared.clock.Clock.{Clock}
use Rattle.smr_clock.specs.declared.host.Host.{Ghosts}
use Rattle.smr_clock.specs.Belongs.{clock_id}
use Rattle.uma_bucket.specs.Home.{Home}
use Rattle.locked_keg.specs.declared.locked_keg.KegKey.{KegKey}
use Rattle.locked_keg.specs.Key.{key_numbers}
use Rattle.uma_zone.specs.Domains.{domains_clock, domains_smr, domain_count}
use Rattle.trace_text.specs.declared.trace.Head.{Head}
use Rattle.trace_text.specs.declared.trace.ZoneHead.{ZoneHead}
use Rattle.trace_text.specs.Valid.{HeadFits, sharer_count}
use Rattle.uma_zone.specs.Making.{IsSameZone}
use Rattle.uma_zone.specs.Zone.{zone_key, zone_index, zone_home, zone_clock, zone_rights}
use Rattle.replay_worker.specs.Items.{CountedZone}
use Rattle.replay_worker.proofs.Belongs.{some_within}
use Rattle.replay_rounds.specs.Kegs.{rights_after}
use Rattle.replay_rounds.specs.Zones.{AreZones, IsZoneOf}
use Rattle.replay_rounds.specs.ZonesSoFar.{with_lines, cut, IsFirst, IsFurther}
use Rattle.replay_rounds.proofs.HeadFacts.{IsAlike, alike_of, earlier_lines, few_sharers, secondary_fits}
use Rattle.replay_rounds.proofs.KegLists.{Earlier, count_primary, count_parent, count_other, count_behind, index_none, index_before, index_last, right_given, right_left, at_of_take, take_next}
use Rattle.replay_rounds.proofs.Lists.{pushed_both, before_pushed, written, All_there, All_get, below_all, at_most, behind_all}

module _ {H Part : Type 0} {h : Ghosts H Part} where
  -- a zone's book is the one that its key names
  book_of : (zone : CountedZone H Part h) → (zone_home zone).book ≡ key_numbers (zone_key zone)
  book_of zone = ap (λ (h : Home). h.book) zone.home

  of_one_keg : (a b : CountedZone H Part h) → zone_key a ≡ zone_key b → (zone_key a ≡ zone_key b) × ((zone_home a).book ≡ (zone_home b).book)
  of_one_keg a b same = (same, book_of a ∙ ap key_numbers same ∙ sym (book_of b))

  -- a line more behind leaves a zone's number
  zone_before : (lines : List ZoneHead) (more : ZoneHead) (domains z : ℕ) (line : ZoneHead) (zone : CountedZone H Part h) → z < length lines → IsZoneOf lines domains z line zone → IsZoneOf (lines ++ more ∷ []) domains z line zone
  zone_before lines more domains z line zone below was = record {
    numbers = was.numbers;
    index = was.index ∙ sym (index_before lines more z line (at_most below));
  }

  first_is : (head : Head) (clock : Clock H Part) (lines : List ZoneHead) (z : ℕ) (line : ZoneHead) (zone : CountedZone H Part h) → line.parent ≡ None → IsFirst (clock_id clock) head.domains line zone
      → IsZoneOf lines head.domains z line zone
  first_is head clock lines z line zone is_primary made = record {
    numbers = made.numbers;
    index = made.index ∙ sym (index_none lines z line is_primary);
  }

  -- what is so of a line and a zone is so of their equals
  is_at : (lines : List ZoneHead) (domains z : ℕ) (line l : ZoneHead) (zone y : CountedZone H Part h) → line ≡ l → zone ≡ y → IsZoneOf lines domains z line zone → IsZoneOf lines domains z l y
  is_at lines domains z line l zone y same_line same_zone is =
      let L : ZoneHead → Type 0 = λ v. IsZoneOf lines domains z v zone in
      let Z : CountedZone H Part h → Type 0 = λ v. IsZoneOf lines domains z l v in
      subst Z same_zone (subst L same_line is)

parent_of : (a b : ZoneHead) → a ≡ b → a.parent ≡ b.parent
parent_of a b same = ap (λ (v : ZoneHead). v.parent) same

module _ {H Part : Type 0} {h : Ghosts H Part} where
  pub add_first : (head : Head) (clock : Clock H Part) (lines : List ZoneHead) (zones : List (CountedZone H Part h)) (line : ZoneHead) (zone : CountedZone H Part h)
      → Earlier lines → AreZones (with_lines lines head) clock zones → line.parent ≡ None → IsFirst (clock_id clock) head.domains line zone
      → AreZones (with_lines (lines ++ line ∷ []) head) clock (zones ++ zone ∷ [])
  add_first head clock lines zones line zone earlier are is_primary made = record {
    count = length_push zones zone ∙ ap (λ n. n + 1) are.count ∙ sym (length_push lines line);
    each = λ z l y at_line at_zone. elim (pushed_both lines zones line zone z l y are.count at_line at_zone) [
      | inl last ↦ is_at (lines ++ line ∷ []) head.domains z line l zone y last.1 last.2 (first_is head clock (lines ++ line ∷ []) z line zone is_primary made)
      | inr before ↦ zone_before lines line head.domains z l y before.0 (are.each z l y before.1 before.2)
    ];
    of_clock = All-push (λ (y : CountedZone H Part h). clock_id clock ≡ zone_clock y) zones zone are.of_clock (sym made.same_clock);
    shares = λ z parent l y primary at_line is_parent at_zone at_primary. elim (pushed_both lines zones line zone z l y are.count at_line at_zone) [
      | inl last ↦ absurd (none-some parent (sym is_primary ∙ parent_of line l last.1 ∙ is_parent))
      | inr before ↦
          let below = subst (λ (n : ℕ). parent < n) (sym are.count) (below_all (earlier z l parent before.1 is_parent) before.0) in
          are.shares z parent l y primary before.1 is_parent before.2 (before_pushed zones zone parent primary below at_primary)
    ];
    rights = λ z l y at_line is_none at_zone. elim (pushed_both lines zones line zone z l y are.count at_line at_zone) [
      | inl last ↦
          let no_sharer : sharer_count (lines ++ line ∷ []) z ≡ 0 = count_primary lines line z is_primary ∙ count_behind lines z earlier (behind_all last.0) in
          ap zone_rights (sym last.2) ∙ made.rights ∙ ap rights_after (sym no_sharer)
      | inr before ↦ are.rights z l y before.1 is_none before.2 ∙ ap rights_after (sym (count_primary lines line z is_primary))
    ];
  }

  -- ---- a secondary zone

  same_self : (zone : CountedZone H Part h) → IsSameZone zone zone
  same_self zone = record { same_key = refl; domains = refl; index = refl; bucket = refl; limit = refl; hooks_kept = refl; added = refl }

  -- a zone that is as another but for its rights has its numbers
  zone_same : (lines : List ZoneHead) (domains z : ℕ) (line : ZoneHead) (old new : CountedZone H Part h) → IsSameZone old new → IsZoneOf lines domains z line old → IsZoneOf lines domains z line new
  zone_same lines domains z line old new same was = record {
    numbers = record {
      size = ap (λ (k : KegKey). k.size) same.same_key ∙ was.numbers.size;
      cap = ap (λ (k : KegKey). k.cap) same.same_key ∙ was.numbers.cap;
      reserve = ap (λ (k : KegKey). k.reserve) same.same_key ∙ was.numbers.reserve;
      bucket = same.bucket ∙ was.numbers.bucket;
      limit = same.limit ∙ was.numbers.limit;
      smr = ap domains_smr same.domains ∙ was.numbers.smr;
      domain_count = ap domain_count same.domains ∙ was.numbers.domain_count;
    };
    index = same.index ∙ was.index;
  }

  -- What stood at a place of the zones before the one at place `p` gave a right: a zone that is the same but for its rights.
  record Was (zones : List (CountedZone H Part h)) (p : ℕ) (given : CountedZone H Part h) (z : ℕ) (now : CountedZone H Part h) : Type 0 where
    pub old : CountedZone H Part h
    pub at : slice_get zones z ≡ Some old
    pub same : IsSameZone old now
    pub which : ((z ≡ p) × (given ≡ now)) ⊎ ((z ≢ p) × (old ≡ now))

  was_at : (zones : List (CountedZone H Part h)) (p : ℕ) (old new : CountedZone H Part h) → slice_get zones p ≡ Some old → IsSameZone old new → (z : ℕ) (y : CountedZone H Part h) → slice_get (slice_set zones p new) z ≡ Some y → Was zones p new z y
  was_at zones p old new at_old same z y at = elim (written zones p new z y at) [
    | inl here ↦
        let Z : ℕ → Type 0 = λ i. slice_get zones i ≡ Some old in
        let Y : CountedZone H Part h → Type 0 = λ v. IsSameZone old v in
        record { old = old; at = subst Z (sym here.0) at_old; same = subst Y here.1 same; which = inl here }
    | inr other ↦ record { old = y; at = other.1; same = same_self y; which = inr (other.0, refl) }
  ]

  -- the right that was given for it, and those that are left
  given_right : (head : Head) (clock : Clock H Part) (lines : List ZoneHead) (zones : List (CountedZone H Part h)) (p : ℕ) (line primary : ZoneHead) (old new zone : CountedZone H Part h)
      → AreZones (with_lines lines head) clock zones → slice_get lines p ≡ Some primary → primary.parent ≡ None → slice_get zones p ≡ Some old → IsFurther line old new zone
      → (zone_index zone ≡ sharer_count lines p + 1) × (zone_rights new ≡ rights_after (sharer_count lines p + 1))
  given_right head clock lines zones p line primary old new zone are at_primary is_primary at_old made =
      right_given (sharer_count lines p) (zone_rights new) (zone_index zone) (sym (are.rights p primary old at_primary is_primary at_old) ∙ made.right)

  further_is : (head : Head) (lines : List ZoneHead) (p : ℕ) (line primary : ZoneHead) (old new zone : CountedZone H Part h) → line.parent ≡ Some p → IsAlike line primary → IsZoneOf lines head.domains p primary old
      → IsFurther line old new zone → zone_index zone ≡ sharer_count lines p + 1 → IsZoneOf (lines ++ line ∷ []) head.domains (length lines) line zone
  further_is head lines p line primary old new zone is_parent alike is_old made index = record {
    numbers = record {
      size = ap (λ (k : KegKey). k.size) made.same_key ∙ is_old.numbers.size ∙ sym alike.1;
      cap = ap (λ (k : KegKey). k.cap) made.same_key ∙ is_old.numbers.cap ∙ sym alike.2;
      reserve = ap (λ (k : KegKey). k.reserve) made.same_key ∙ is_old.numbers.reserve ∙ sym alike.3;
      bucket = made.bucket;
      limit = made.limit;
      smr = made.smr;
      domain_count = made.domain_count ∙ is_old.numbers.domain_count;
    };
    index = index ∙ sym (index_last lines line p is_parent);
  }

  pub add_further : (head : Head) (clock : Clock H Part) (lines : List ZoneHead) (zones : List (CountedZone H Part h)) (p : ℕ) (line primary : ZoneHead) (old new zone : CountedZone H Part h)
      → Earlier lines → AreZones (with_lines lines head) clock zones → line.parent ≡ Some p → p < length lines → slice_get lines p ≡ Some primary → IsAlike line primary
      → slice_get zones p ≡ Some old → IsFurther line old new zone → AreZones (with_lines (lines ++ line ∷ []) head) clock (slice_set zones p new ++ zone ∷ [])
  add_further head clock lines zones p line primary old new zone earlier are is_parent below_p at_primary alike at_old made =
      let all = lines ++ line ∷ [] in
      let kept = slice_set zones p new in
      let count : length kept ≡ length lines = length-set zones p new ∙ are.count in
      let right = given_right head clock lines zones p line primary old new zone are at_primary alike.0 at_old made in
      let was = was_at zones p old new at_old made.same in
      let OfClock : CountedZone H Part h → Type 0 = λ y. clock_id clock ≡ zone_clock y in
      record {
        count = length_push kept zone ∙ ap (λ n. n + 1) count ∙ sym (length_push lines line);
        each = λ z l y at_line at_zone. elim (pushed_both lines kept line zone z l y count at_line at_zone) [
          | inl last ↦
              let here = further_is head lines p line primary old new zone is_parent alike (are.each p primary old at_primary at_old) made right.0 in
              is_at all head.domains z line l zone y last.1 last.2 (subst (λ (i : ℕ). IsZoneOf all head.domains i line zone) (sym last.0) here)
          | inr before ↦
              let w = was z y before.2 in
              zone_before lines line head.domains z l y before.0 (zone_same lines head.domains z l w.old y w.same (are.each z l w.old before.1 w.at))
        ];
        of_clock = All-push OfClock kept zone
            (All_there OfClock kept (λ z y at. let w = was z y at in All_get OfClock zones z w.old are.of_clock w.at ∙ ap domains_clock (sym w.same.domains)))
            (All_get OfClock zones p old are.of_clock at_old ∙ sym made.same_clock);
        shares = λ z parent l y first at_line has_parent at_zone at_first. elim (pushed_both lines kept line zone z l y count at_line at_zone) [
          | inl last ↦
              let same_place : p ≡ parent = same_Some p parent (sym is_parent ∙ parent_of line l last.1 ∙ has_parent) in
              let at_p = subst (λ (i : ℕ). slice_get (kept ++ zone ∷ []) i ≡ Some first) (sym same_place) at_first in
              let w = was p first (before_pushed kept zone p first (subst (λ (n : ℕ). p < n) (sym count) below_p) at_p) in
              let same_old : old ≡ w.old = same_Some old w.old (sym at_old ∙ w.at) in
              of_one_keg y first (ap zone_key (sym last.2) ∙ made.same_key ∙ ap zone_key same_old ∙ sym w.same.same_key)
          | inr before ↦
              let below = below_all (earlier z l parent before.1 has_parent) before.0 in
              let w = was z y before.2 in
              let v = was parent first (before_pushed kept zone parent first (subst (λ (n : ℕ). parent < n) (sym count) below) at_first) in
              of_one_keg y first (w.same.same_key ∙ (are.shares z parent l w.old v.old before.1 has_parent w.at v.at).0 ∙ sym v.same.same_key)
        ];
        rights = λ z l y at_line is_none at_zone. elim (pushed_both lines kept line zone z l y count at_line at_zone) [
          | inl last ↦ absurd (none-some p (sym is_none ∙ sym (parent_of line l last.1) ∙ is_parent))
          | inr before ↦
              let w = was z y before.2 in
              elim w.which [
                | inl here ↦
                    ap zone_rights (sym here.1) ∙ right.1 ∙ ap rights_after (sym (count_parent lines line p is_parent)) ∙ ap (λ (i : ℕ). rights_after (sharer_count all i)) (sym here.0)
                | inr other ↦ ap zone_rights (sym other.1) ∙ are.rights z l w.old before.1 is_none w.at ∙ ap rights_after (sym (count_other lines line z p is_parent (λ same. other.0 (sym same))))
              ]
        ];
      }

  -- ---- over a head that fits

  -- one line more of a head, and its zone
  line_more : (head : Head) (clock : Clock H Part) (place : ℕ) (line : ZoneHead) (zones after : List (CountedZone H Part h)) → slice_get head.zones place ≡ Some line → after ≡ zones
      → AreZones (with_lines (take place head.zones ++ line ∷ []) head) clock zones → AreZones (cut (place + 1) head) clock after
  line_more head clock place line zones after at same are =
      let L : List ZoneHead → Type 0 = λ lines. AreZones (with_lines lines head) clock after in
      let Z : List (CountedZone H Part h) → Type 0 = λ list. AreZones (with_lines (take place head.zones ++ line ∷ []) head) clock list in
      subst L (sym (take_next head.zones place line at)) (subst Z (sym same) are)

  pub first_more : (head : Head) (clock : Clock H Part) (place : ℕ) (line : ZoneHead) (zones after : List (CountedZone H Part h)) (zone : CountedZone H Part h)
      → HeadFits head → slice_get head.zones place ≡ Some line → line.parent ≡ None → AreZones (cut place head) clock zones → IsFirst (clock_id clock) head.domains line zone
      → after ≡ zones ++ zone ∷ [] → AreZones (cut (place + 1) head) clock after
  first_more head clock place line zones after zone fits at is_primary are made same =
      line_more head clock place line (zones ++ zone ∷ []) after at same
      (add_first head clock (take place head.zones) zones line zone (earlier_lines head place fits) are is_primary made)

  -- The parent of a line among the zones so far.
  record HasParent (head : Head) (place parent : ℕ) (line : ZoneHead) (zones : List (CountedZone H Part h)) (old : CountedZone H Part h) : Type 0 where
    pub below : parent < length (take place head.zones)
    pub primary : ZoneHead
    pub at_primary : slice_get (take place head.zones) parent ≡ Some primary
    pub alike : IsAlike line primary
    pub at_old : slice_get zones parent ≡ Some old
    pub few : sharer_count (take place head.zones) parent + 1 < 8

  parent_there : (head : Head) (clock : Clock H Part) (place parent : ℕ) (line : ZoneHead) (zones : List (CountedZone H Part h)) (old : CountedZone H Part h)
      → HeadFits head → slice_get head.zones place ≡ Some line → line.parent ≡ Some parent → AreZones (cut place head) clock zones → old ≡ get_or zones parent old → HasParent head place parent line zones old
  parent_there head clock place parent line zones old fits at is are is_old =
      let within = slice_get_within head.zones place line at in
      let earlier = (secondary_fits head place line parent fits at is).earlier in
      let below = subst (λ (n : ℕ). parent < n) (sym (length-take-le place head.zones (at_most within))) earlier in
      let there = some_within (take place head.zones) parent below in
      record {
        below = below;
        primary = there.0;
        at_primary = there.1;
        alike = alike_of head place line parent there.0 fits at is (at_of_take place head.zones parent there.0 there.1);
        at_old = slice_get_read zones (length zones) parent old refl (subst (λ (n : ℕ). parent < n) (sym are.count) below) is_old;
        few = few_sharers head place line parent fits at is (below_all earlier within);
      }

  -- a secondary zone's parent is a primary one
  pub parent_index : (head : Head) (clock : Clock H Part) (place parent : ℕ) (line : ZoneHead) (zones : List (CountedZone H Part h)) (old : CountedZone H Part h)
      → HeadFits head → slice_get head.zones place ≡ Some line → line.parent ≡ Some parent → AreZones (cut place head) clock zones → old ≡ get_or zones parent old → zone_index old ≡ 0
  parent_index head clock place parent line zones old fits at is are is_old =
      let there = parent_there head clock place parent line zones old fits at is are is_old in
      (are.each parent there.primary old there.at_primary there.at_old).index ∙ index_none (take place head.zones) parent there.primary there.alike.0

  -- and has a right left
  pub parent_right : (head : Head) (clock : Clock H Part) (place parent : ℕ) (line : ZoneHead) (zones : List (CountedZone H Part h)) (old : CountedZone H Part h)
      → HeadFits head → slice_get head.zones place ≡ Some line → line.parent ≡ Some parent → AreZones (cut place head) clock zones → old ≡ get_or zones parent old → zone_rights old ≡ [] → ⊥
  parent_right head clock place parent line zones old fits at is are is_old none =
      let there = parent_there head clock place parent line zones old fits at is are is_old in
      right_left (sharer_count (take place head.zones) parent) there.few (sym (are.rights parent there.primary old there.at_primary there.alike.0 there.at_old) ∙ none)

  pub further_more : (head : Head) (clock : Clock H Part) (place parent : ℕ) (line : ZoneHead) (zones after : List (CountedZone H Part h)) (old new zone : CountedZone H Part h)
      → HeadFits head → slice_get head.zones place ≡ Some line → line.parent ≡ Some parent → AreZones (cut place head) clock zones → old ≡ get_or zones parent old → IsFurther line old new zone
      → after ≡ slice_set zones parent new ++ zone ∷ [] → AreZones (cut (place + 1) head) clock after
  further_more head clock place parent line zones after old new zone fits at is are is_old made same =
      let there = parent_there head clock place parent line zones old fits at is are is_old in
      line_more head clock place line (slice_set zones parent new ++ zone ∷ []) after at same
      (add_further head clock (take place head.zones) zones parent line there.primary old new zone (earlier_lines head place fits) are is there.below there.at_primary there.alike there.at_old made)

  -- with all lines they are the zones of the head
  pub all_lines : (head : Head) (clock : Clock H Part) (place : ℕ) (zones : List (CountedZone H Part h)) → length head.zones ≤ place → AreZones (cut place head) clock zones → AreZones head clock zones
  all_lines head clock place zones past are = subst (λ (lines : List ZoneHead). AreZones (with_lines lines head) clock zones) (take_all place head.zones past) are
