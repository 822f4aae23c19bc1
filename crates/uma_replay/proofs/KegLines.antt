-- The lines of the kegs, zone after zone.
use Rattle.std.proofs.Common.{◌≡◌, ℕ, ◌+◌, ◌<◌, List, [], ◌∷◌, ◌++◌, true, false, length, Option, None, Some, get_or, is_none, is_some, refl, sym, ap, ◌∙◌, subst, arith}
use Rattle.std.proofs.lemmas.Bool.{false≢true, true≢false}
use Rattle.std.proofs.lemmas.List.Sums.{count_by_more_no, count_by_more_yes}
use Rattle.std.proofs.lemmas.Option.{same_Some, slice_get-get_or, some_pair_parts}
use Rattle.std.specs.Prelude.{slice_get}
use Rattle.trace_text.specs.declared.trace.ZoneHead.{ZoneHead}
use Rattle.uma_keg.specs.declared.census.Census.{Census}
use Rattle.uma_keg.specs.Census.{census_outs}
use Rattle.uma_life.specs.declared.tally.TallySum.{TallySum}
use Rattle.zone_stats.specs.declared.report.KegLine.{KegLine}
use Rattle.replay_rounds.specs.Kegs.{primaries}
use Rattle.uma_replay.specs.Reporting.{AreKegs, AreKegsTo, IsKegAt, is_primary, keg_line, keg_number}
use Rattle.uma_replay.proofs.Primaries.{keg_at, keg_within, number_all}
use Rattle.uma_replay.proofs.Pushed.{ArePushed, ArePushed-more}

-- the zone at the place, as the code reads it
abbrev pub IsRead : List ZoneHead → ℕ → ZoneHead → Type 0
IsRead heads place head = head ≡ get_or heads place head

read_at : (heads : List ZoneHead) (place : ℕ) (head : ZoneHead) → place < length heads → IsRead heads place head → slice_get heads place ≡ Some head
read_at heads place head below is = slice_get-get_or heads place head below ∙ ap Some (sym is)

no_parent : (o : Option ℕ) → is_some o ≡ false → o ≡ None
no_parent None is = refl
no_parent (Some parent) is = absurd (true≢false is)

not_primary : (o : Option ℕ) → is_some o ≡ true → is_none o ≡ false
not_primary None is = absurd (false≢true is)
not_primary (Some parent) is = refl

pub keg_bound : (heads : List ZoneHead) (place k count : ℕ) (head : ZoneHead) → place < length heads → IsRead heads place head → is_some head.parent ≡ false
    → k ≡ keg_number heads place → count ≡ length (primaries heads 0) → k < count
keg_bound heads place k count head below is own same all =
    let within : keg_number heads place < length (primaries heads 0) = keg_within heads place head (read_at heads place head below is) (no_parent head.parent own) in
    omega (arith, within, same, all)

pub kegs_same : (heads : List ZoneHead) (censuses : List Census) (tallies : List TallySum) (place : ℕ) (lines : List KegLine) (head : ZoneHead) → place < length heads → IsRead heads place head
    → is_some head.parent ≡ true → AreKegsTo heads censuses tallies place lines → AreKegsTo heads censuses tallies (place + 1) lines
kegs_same heads censuses tallies place lines head below is over so_far =
    let not : is_primary (get_or heads place head) ≡ false = ap is_primary (sym is) ∙ not_primary head.parent over in
    record { count = so_far.count ∙ sym (count_by_more_no is_primary heads place head below not); each = so_far.each }

pub kegs_more : (heads : List ZoneHead) (censuses : List Census) (tallies : List TallySum) (place : ℕ) (lines : List KegLine) (head : ZoneHead) (census : Census) (tally : TallySum) (line : KegLine)
    → place < length heads → IsRead heads place head → is_some head.parent ≡ false → AreKegsTo heads censuses tallies place lines
    → slice_get censuses (length lines) ≡ Some census → slice_get tallies (length lines) ≡ Some tally → line ≡ keg_line head.name census tally → length (census_outs census) ≡ 8
    → AreKegsTo heads censuses tallies (place + 1) (lines ++ line ∷ [])
kegs_more heads censuses tallies place lines head census tally line below is own so_far at_census at_tally is_line eight =
    let none : head.parent ≡ None = no_parent head.parent own in
    let at : slice_get heads place ≡ Some head = read_at heads place head below is in
    let primary : is_primary (get_or heads place head) ≡ true = ap is_primary (sym is) ∙ ap is_none none in
    let before : ArePushed (IsKegAt heads censuses tallies) (keg_number heads place) lines = record { size = so_far.count; each = so_far.each } in
    let here : slice_get (primaries heads 0) (keg_number heads place) ≡ Some (place, head) = keg_at heads place head at none in
    let C : ℕ → Type 0 = λ k. slice_get censuses k ≡ Some census in
    let D : ℕ → Type 0 = λ k. slice_get tallies k ≡ Some tally in
    let census_at : slice_get censuses (keg_number heads place) ≡ Some census = subst C so_far.count at_census in
    let tally_at : slice_get tallies (keg_number heads place) ≡ Some tally = subst D so_far.count at_tally in
    let last : IsKegAt heads censuses tallies (keg_number heads place) line = record {
      is = λ p h c t at_h at_c at_t.
          let same_head : head ≡ h = (some_pair_parts place p head h (sym here ∙ at_h)).1 in
          let same_census : census ≡ c = same_Some census c (sym census_at ∙ at_c) in
          let same_tally : tally ≡ t = same_Some tally t (sym tally_at ∙ at_t) in
          is_line ∙ (ap (λ (h : ZoneHead). keg_line h.name census tally) same_head ∙ (ap (λ c. keg_line h.name c tally) same_census ∙ ap (λ t. keg_line h.name c t) same_tally));
      eight = λ c at_c. let P : Census → Type 0 = λ c. length (census_outs c) ≡ 8 in subst P (same_Some census c (sym census_at ∙ at_c)) eight;
    } in
    let pushed : ArePushed (IsKegAt heads censuses tallies) (keg_number heads place + 1) (lines ++ line ∷ []) = ArePushed-more (IsKegAt heads censuses tallies) (keg_number heads place) lines line before last in
    record { count = pushed.size ∙ sym (count_by_more_yes is_primary heads place head below primary); each = pushed.each }

-- the same, with the sums as the code reads them
pub kegs_read : (heads : List ZoneHead) (censuses : List Census) (tallies : List TallySum) (place k : ℕ) (lines : List KegLine) (head : ZoneHead) (census : Census) (d : TallySum) (line : KegLine)
    → place < length heads → IsRead heads place head → is_some head.parent ≡ false → AreKegsTo heads censuses tallies place lines → k ≡ length lines
    → length censuses ≡ length (primaries heads 0) → length tallies ≡ length (primaries heads 0)
    → census ≡ get_or censuses k census → line ≡ keg_line head.name census (get_or tallies k d) → length (census_outs census) ≡ 8
    → AreKegsTo heads censuses tallies (place + 1) (lines ++ line ∷ [])
kegs_read heads censuses tallies place k lines head census d line below is own so_far here all_censuses all_tallies is_census is_line eight =
    let in_censuses : k < length censuses = keg_bound heads place k (length censuses) head below is own (here ∙ so_far.count) all_censuses in
    let in_tallies : k < length tallies = keg_bound heads place k (length tallies) head below is own (here ∙ so_far.count) all_tallies in
    let C : ℕ → Type 0 = λ n. slice_get censuses n ≡ Some census in
    let D : ℕ → Type 0 = λ n. slice_get tallies n ≡ Some (get_or tallies k d) in
    kegs_more heads censuses tallies place lines head census (get_or tallies k d) line below is own so_far
    (subst C here (slice_get-get_or censuses k census in_censuses ∙ ap Some (sym is_census))) (subst D here (slice_get-get_or tallies k d in_tallies)) is_line eight

pub kegs_all : (heads : List ZoneHead) (censuses : List Census) (tallies : List TallySum) (place : ℕ) (lines : List KegLine) → place ≡ length heads → AreKegsTo heads censuses tallies place lines
    → AreKegs heads censuses tallies lines
kegs_all heads censuses tallies place lines all so_far = record { count = so_far.count ∙ (ap (keg_number heads) all ∙ number_all heads 0); each = so_far.each }
