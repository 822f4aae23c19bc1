-- Each item in a slot is at home in its zone, which stands on a line: so the items of a keg's zones are of its book, and each zone's have their own number.
use Rattle.std.proofs.Common.{◌≡◌, ℕ, ◌<◌, ◌≤◌, inl, inr, Bool, true, false, cond, List, Option, Some, None, length, refl, sym, ap, ◌∙◌, subst, arith}
use Rattle.std.specs.Prelude.{◌==◌, slice_get}
use Rattle.std.proofs.lemmas.Bool.{eq-eqb, ne_eqb, cases_eq, cases_Bool}
use Rattle.std.proofs.lemmas.Option.{same_Some, slice_get_within}
use Rattle.smr_clock.specs.declared.clock.Clock.{Clock}
use Rattle.smr_clock.specs.declared.host.Host.{Ghosts}
use Rattle.uma_life.specs.Live.{live_table, live_zone}
use Rattle.uma_bucket.specs.Home.{Home}
use Rattle.uma_zone.specs.Zone.{zone_home, zone_index}
use Rattle.trace_text.specs.declared.trace.Head.{Head}
use Rattle.trace_text.specs.declared.trace.ZoneHead.{ZoneHead}
use Rattle.trace_text.specs.Valid.{HeadFits, sharer_count}
use Rattle.replay_worker.specs.declared.worker.Held.{Held}
use Rattle.replay_worker.specs.declared.worker.Worker.{Worker}
use Rattle.replay_worker.specs.Items.{CountedZone}
use Rattle.replay_worker.specs.Worker.{IsHeld}
use Rattle.replay_worker.proofs.Belongs.{some_within}
use Rattle.replay_rounds.specs.Kegs.{index_of, keg_place}
use Rattle.replay_rounds.specs.Zones.{AreZones}
use Rattle.replay_rounds.proofs.HeadFacts.{secondary_fits}
use Rattle.replay_rounds.proofs.KegLists.{index_none}
use Rattle.replay_rounds.specs.Lending.{AllFit}
use Rattle.replay_rounds.specs.Slots.{in_keg}
use Rattle.replay_rounds.proofs.Sums.{CountsAs, EachOf, LentIs}
use Rattle.replay_rounds.proofs.ZoneNumbers.{OfKeg, first, second, of_keg, in_keg_from, in_keg_is, numbers_differ, number_most}

below_as : (k m n : ℕ) → k < m → m ≡ n → k < n
below_as k m n below same = omega arith

module _ {H Part : Type 0} {h : Ghosts H Part} where
  -- the line of an item's zone
  line_of : (head : Head) (clock : Clock H Part) (zones : List (CountedZone H Part h)) (it : Held) → AreZones head clock zones → IsHeld zones it → (line : ZoneHead) × (slice_get head.zones it.zone ≡ Some line)
  line_of head clock zones it are held = some_within head.zones it.zone (below_as it.zone (length zones) (length head.zones) (slice_get_within zones it.zone held.zone held.at) are.count)

  -- a zone's items have its own number
  home_zone : (zone : CountedZone H Part h) → (zone_home zone).zone ≡ zone_index zone
  home_zone zone = ap (λ (home : Home). home.zone) zone.home

  held_zone : (zones : List (CountedZone H Part h)) (it : Held) (held : IsHeld zones it) → live_zone it.item ≡ zone_index held.zone
  held_zone zones it held = held.home.1 ∙ home_zone held.zone

  -- ---- of the keg's book

  book_by : (head : Head) (clock : Clock H Part) (zones : List (CountedZone H Part h)) (p z : ℕ) (line : ZoneHead) (zone primary : CountedZone H Part h) → AreZones head clock zones → slice_get zones p ≡ Some primary → slice_get head.zones z ≡ Some line → slice_get zones z ≡ Some zone → OfKeg p z line
      → (zone_home zone).book ≡ (zone_home primary).book
  book_by head clock zones p z line zone primary are at_primary at_line at_zone (first none is) =
      let P : ℕ → Type 0 = λ k. slice_get zones k ≡ Some zone in
      ap (λ (zone : CountedZone H Part h). (zone_home zone).book) (same_Some zone primary (sym (subst P is at_zone) ∙ at_primary))
  book_by head clock zones p z line zone primary are at_primary at_line at_zone (second shares) = (are.shares z p line zone primary at_line shares at_zone at_primary).1

  lent_book : (head : Head) (clock : Clock H Part) (zones : List (CountedZone H Part h)) (p : ℕ) (primary : CountedZone H Part h) (it : Held) → AreZones head clock zones → slice_get zones p ≡ Some primary → IsHeld zones it
      → LentIs (λ item. live_table item ≡ (zone_home primary).book) (in_keg head.zones p) it
  lent_book head clock zones p primary it are at_primary held is =
      let line = line_of head clock zones it are held in
      held.home.0 ∙ book_by head clock zones p it.zone line.0 held.zone primary are at_primary line.1 held.at (of_keg p it.zone line.0 (in_keg_from head.zones p it.zone line.0 line.1 is))

  pub lent_books : (head : Head) (clock : Clock H Part) (zones : List (CountedZone H Part h)) (workers : List (Worker H Part h)) (p : ℕ) (primary : CountedZone H Part h) → AreZones head clock zones → AllFit zones clock workers → slice_get zones p ≡ Some primary
      → EachOf (LentIs (λ item. live_table item ≡ (zone_home primary).book) (in_keg head.zones p)) workers
  lent_books head clock zones workers p primary are fits at_primary n w at slot it holds = lent_book head clock zones p primary it are at_primary ((fits n w at).slots slot it holds)

  -- ---- counted in one zone

  same_zone : (zones : List (CountedZone H Part h)) (y z : ℕ) (one two : CountedZone H Part h) → y ≡ z → slice_get zones y ≡ Some one → slice_get zones z ≡ Some two → one ≡ two
  same_zone zones y z one two same at_one at_two =
      let P : ℕ → Type 0 = λ k. slice_get zones k ≡ Some one in
      same_Some one two (sym (subst P same at_one) ∙ at_two)

counts_own : (of : ℕ → Bool) (y z number index : ℕ) → y ≡ z → of y ≡ true → number ≡ index → cond (of y) (number == index) false ≡ (y == z)
counts_own of y z number index same lent is = (λ i. cond (lent i) (eq-eqb number index is i) false) ∙ sym (eq-eqb y z same)

counts_none : (of : ℕ → Bool) (y z number index : ℕ) → (y ≡ z → ⊥) → of y ≡ false → cond (of y) (number == index) false ≡ (y == z)
counts_none of y z number index apart kept = ap (λ b. cond b (number == index) false) kept ∙ sym (ne_eqb y z apart)

counts_other : (of : ℕ → Bool) (y z number index : ℕ) → (y ≡ z → ⊥) → of y ≡ true → (number ≡ index → ⊥) → cond (of y) (number == index) false ≡ (y == z)
counts_other of y z number index apart lent differ = (λ i. cond (lent i) (ne_eqb number index differ i) false) ∙ sym (ne_eqb y z apart)

module _ {H Part : Type 0} {h : Ghosts H Part} where
  lent_number : (head : Head) (clock : Clock H Part) (zones : List (CountedZone H Part h)) (p z : ℕ) (line : ZoneHead) (zone : CountedZone H Part h) (it : Held) → AreZones head clock zones → slice_get head.zones z ≡ Some line → keg_place z line ≡ p → slice_get zones z ≡ Some zone → IsHeld zones it
      → CountsAs (in_keg head.zones p) z (zone_index zone) it
  lent_number head clock zones p z line zone it are at_line of_it at_zone held =
      let own = line_of head clock zones it are held in
      let of = in_keg head.zones p in
      let number = held_zone zones it held in
      elim (cases_eq it.zone z) [
        | inl same ↦
            let P : ℕ → Type 0 = λ k. of k ≡ true in
            counts_own of it.zone z (live_zone it.item) (zone_index zone) same (subst P (sym same) (in_keg_is head.zones p z line at_line of_it)) (number ∙ ap (λ (zone : CountedZone H Part h). zone_index zone) (same_zone zones it.zone z held.zone zone same held.at at_zone))
        | inr apart ↦ elim (cases_Bool (of it.zone)) [
          | inl lent ↦
              let differ = numbers_differ head.zones p it.zone z own.0 line apart own.1 at_line (in_keg_from head.zones p it.zone own.0 own.1 lent) of_it in
              let one = (are.each it.zone own.0 held.zone own.1 held.at).index in
              let two = (are.each z line zone at_line at_zone).index in
              counts_other of it.zone z (live_zone it.item) (zone_index zone) apart lent (λ is. differ (sym one ∙ sym number ∙ is ∙ two))
          | inr kept ↦ counts_none of it.zone z (live_zone it.item) (zone_index zone) apart kept
        ]
      ]

  pub lent_numbers : (head : Head) (clock : Clock H Part) (zones : List (CountedZone H Part h)) (workers : List (Worker H Part h)) (p z : ℕ) (line : ZoneHead) (zone : CountedZone H Part h) → AreZones head clock zones → AllFit zones clock workers
      → slice_get head.zones z ≡ Some line → keg_place z line ≡ p → slice_get zones z ≡ Some zone → EachOf (CountsAs (in_keg head.zones p) z (zone_index zone)) workers
  lent_numbers head clock zones workers p z line zone are fits at_line of_it at_zone n w at slot it holds = lent_number head clock zones p z line zone it are at_line of_it at_zone ((fits n w at).slots slot it holds)

-- ---- a zone's number is below 8

before : (p z n : ℕ) → p < z → z < n → p < n
before p z n one two = omega arith

not_more : (m n : ℕ) → m ≤ n → n < 8 → m < 8
not_more m n one two = omega arith

eight_by : (head : Head) (z : ℕ) (line : ZoneHead) (o : Option ℕ) → line.parent ≡ o → HeadFits head → slice_get head.zones z ≡ Some line → index_of head.zones z line < 8
eight_by head z line None is fits at =
    let P : ℕ → Type 0 = λ n. n < 8 in
    subst P (sym (index_none head.zones z line is)) (omega arith)
eight_by head z line (Some p) is fits at =
    let earlier : p < z = (secondary_fits head z line p fits at is).earlier in
    let within : z < length head.zones = slice_get_within head.zones z line at in
    not_more (index_of head.zones z line) (sharer_count head.zones p) (number_most head.zones p z line at is) (fits.most_of_a_keg p (before p z (length head.zones) earlier within))

pub number_below_eight : (head : Head) (z : ℕ) (line : ZoneHead) → HeadFits head → slice_get head.zones z ≡ Some line → index_of head.zones z line < 8
number_below_eight head z line fits at = eight_by head z line line.parent refl fits at

module _ {H Part : Type 0} {h : Ghosts H Part} where
  pub below_eight : (head : Head) (clock : Clock H Part) (zones : List (CountedZone H Part h)) (z : ℕ) (line : ZoneHead) (zone : CountedZone H Part h) → HeadFits head → AreZones head clock zones → slice_get head.zones z ≡ Some line → slice_get zones z ≡ Some zone → zone_index zone < 8
  below_eight head clock zones z line zone fits are at_line at_zone =
      let P : ℕ → Type 0 = λ n. n < 8 in
      subst P (sym (are.each z line zone at_line at_zone).index) (number_below_eight head z line fits at_line)
