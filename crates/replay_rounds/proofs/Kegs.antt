-- One keg after another, in the order of the primary zones' lines.
use Rattle.std.proofs.Common.{◌≡◌, ℕ, suc, ◌+◌, ◌<◌, ◌≤◌, inl, inr, List, [], ◌∷◌, ◌++◌, Bool, true, false, Some, refl, sym, ap, ◌∙◌, subst, arith, length, take, take_all, get_or, is_some, le_refl}
use Rattle.std.proofs.lemmas.List.{length-append, length-take-le, take_more}
use Rattle.std.proofs.lemmas.Option.{none-some, slice_get_within}
use Rattle.std.specs.Prelude.{slice_get, if◌then◌else◌}
use Rattle.smr_clock.specs.declared.host.Host.{Ghosts}
use Rattle.trace_text.specs.declared.trace.Head.{Head}
use Rattle.trace_text.specs.declared.trace.ZoneHead.{ZoneHead}
use Rattle.uma_keg.specs.declared.census.Census.{Census}
use Rattle.uma_life.specs.declared.tally.TallySum.{TallySum}
use Rattle.uma_bucket.specs.declared.shelved.Sums.{Sums}
use Rattle.replay_worker.specs.declared.worker.Worker.{Worker}
use Rattle.replay_worker.specs.Items.{CountedZone}
use Rattle.replay_rounds.specs.Kegs.{primaries}
use Rattle.replay_rounds.proofs.Lists.{pushed}
use Rattle.replay_rounds.specs.Taking.{TakesKeg, TakesKegs}

here : (z : ℕ) → z + 0 ≡ z
here z = omega arith

shift : (z n : ℕ) → z + 1 + n ≡ z + suc n
shift z n = omega arith

none_and : (n : ℕ) → 0 + n ≡ n
none_and n = omega arith

up_to : (a b : ℕ) → a < b → a ≤ b
up_to a b less = omega arith

not_itself : (k n : ℕ) → k ≡ n → k < n → ⊥
not_itself k n same below = omega arith

one_longer : (a b c : ℕ) → a ≡ b → c ≡ b + 1 → a + 1 ≡ c
one_longer a b c p q = omega arith

if_append : {X : Type 0} (b : Bool) (x : X) (l more t : List X) → more ≡ l ++ t → (if b then more else (x ∷ more)) ≡ (if b then l else (x ∷ l)) ++ t
if_append true x l more t same = same
if_append false x l more t same = ap (λ m. x ∷ m) same

if_same : {X : Type 0} (b : Bool) (x : X) (l more : List X) → more ≡ l → (if b then more else (x ∷ more)) ≡ (if b then l else (x ∷ l))
if_same true x l more same = same
if_same false x l more same = ap (λ m. x ∷ m) same

-- a primary zone's line at the end
primary_last : (lines : List ZoneHead) (line : ZoneHead) (z : ℕ) → is_some line.parent ≡ false → primaries (lines ++ line ∷ []) z ≡ primaries lines z ++ (z + length lines, line) ∷ []
primary_last [] line z is = ap (λ (b : Bool). if b then primaries [] (z + 1) else ((z, line) ∷ primaries [] (z + 1))) is ∙ ap (λ (n : ℕ). (n, line) ∷ []) (sym (here z))
primary_last (head ∷ lines) line z is =
    if_append (is_some head.parent) (z, head) (primaries lines (z + 1)) (primaries (lines ++ line ∷ []) (z + 1)) ((z + suc (length lines), line) ∷ [])
    (primary_last lines line (z + 1) is ∙ ap (λ (n : ℕ). primaries lines (z + 1) ++ (n, line) ∷ []) (shift z (length lines)))

-- a secondary zone's
second_last : (lines : List ZoneHead) (line : ZoneHead) (z : ℕ) → is_some line.parent ≡ true → primaries (lines ++ line ∷ []) z ≡ primaries lines z
second_last [] line z is = ap (λ (b : Bool). if b then primaries [] (z + 1) else ((z, line) ∷ primaries [] (z + 1))) is
second_last (head ∷ lines) line z is = if_same (is_some head.parent) (z, head) (primaries lines (z + 1)) (primaries (lines ++ line ∷ []) (z + 1)) (second_last lines line (z + 1) is)

module _ {H Part : Type 0} {h : Ghosts H Part} (head : Head) (zones : List (CountedZone H Part h)) (workers : List (Worker H Part h)) (sums : List Sums) where
  -- the same by other names
  pub kegs_same : (lines : List ZoneHead) (a b : List Census) (s t : List TallySum) → b ≡ a → t ≡ s → TakesKegs head zones workers sums lines a s → TakesKegs head zones workers sums lines b t
  kegs_same lines a b s t censuses tallies so =
      let P : List Census → Type 0 = λ l. TakesKegs head zones workers sums lines l t in
      let Q : List TallySum → Type 0 = λ l. TakesKegs head zones workers sums lines a l in
      subst P (sym censuses) (subst Q (sym tallies) so)

  no_kegs : TakesKegs head zones workers sums [] [] []
  no_kegs = record { censuses_count = refl; tallies_count = refl; each = λ k p line census tally at is_census is_tally. absurd (none-some census is_census) }

  pub kegs_none : (censuses : List Census) (tallies : List TallySum) → censuses ≡ [] → tallies ≡ [] → TakesKegs head zones workers sums [] censuses tallies
  kegs_none censuses tallies no_census no_tally = kegs_same [] [] censuses [] tallies no_census no_tally no_kegs

  -- the kegs of as many primary zones, by another list of lines
  kegs_as : (lines more : List ZoneHead) (censuses : List Census) (tallies : List TallySum) → primaries more 0 ≡ primaries lines 0 → TakesKegs head zones workers sums lines censuses tallies → TakesKegs head zones workers sums more censuses tallies
  kegs_as lines more censuses tallies same so = record {
    censuses_count = so.censuses_count ∙ ap length (sym same);
    tallies_count = so.tallies_count ∙ ap length (sym same);
    each = λ k p line census tally at. (let P : List (ℕ × ZoneHead) → Type 0 = λ l. slice_get l k ≡ Some (p, line) in so.each k p line census tally (subst P same at));
  }

  kegs_with : (lines more : List ZoneHead) (censuses : List Census) (tallies : List TallySum) (z : ℕ) (line : ZoneHead) (census : Census) (tally : TallySum) → primaries more 0 ≡ primaries lines 0 ++ (z, line) ∷ []
      → TakesKeg head zones workers sums z census tally → TakesKegs head zones workers sums lines censuses tallies → TakesKegs head zones workers sums more (censuses ++ census ∷ []) (tallies ++ tally ∷ [])
  kegs_with lines more censuses tallies z line census tally same takes so = record {
    censuses_count = length-append censuses (census ∷ []) ∙ one_longer (length censuses) (length (primaries lines 0)) (length (primaries more 0)) so.censuses_count (ap length same ∙ length-append (primaries lines 0) ((z, line) ∷ []));
    tallies_count = length-append tallies (tally ∷ []) ∙ one_longer (length tallies) (length (primaries lines 0)) (length (primaries more 0)) so.tallies_count (ap length same ∙ length-append (primaries lines 0) ((z, line) ∷ []));
    each = λ k p l c t at is_c is_t.
        let P : List (ℕ × ZoneHead) → Type 0 = λ m. slice_get m k ≡ Some (p, l) in
        elim (pushed (primaries lines 0) (z, line) k (p, l) (subst P same at)) [
          | inl last ↦ elim (pushed censuses census k c is_c) [
            | inl c_last ↦ elim (pushed tallies tally k t is_t) [
              | inl t_last ↦
                  let Q : ℕ → Type 0 = λ n. TakesKeg head zones workers sums n c t in
                  let R : Census → Type 0 = λ n. TakesKeg head zones workers sums z n t in
                  let S : TallySum → Type 0 = λ n. TakesKeg head zones workers sums z census n in
                  subst Q (λ i. (last.1 i).0) (subst R c_last.1 (subst S t_last.1 takes))
              | inr t_before ↦ absurd (not_itself k (length tallies) (last.0 ∙ sym so.tallies_count) (slice_get_within tallies k t t_before))
            ]
            | inr c_before ↦ absurd (not_itself k (length censuses) (last.0 ∙ sym so.censuses_count) (slice_get_within censuses k c c_before))
          ]
          | inr before ↦ elim (pushed censuses census k c is_c) [
            | inl c_last ↦ absurd (not_itself k (length (primaries lines 0)) (c_last.0 ∙ so.censuses_count) (slice_get_within (primaries lines 0) k (p, l) before))
            | inr c_before ↦ elim (pushed tallies tally k t is_t) [
              | inl t_last ↦ absurd (not_itself k (length (primaries lines 0)) (t_last.0 ∙ so.tallies_count) (slice_get_within (primaries lines 0) k (p, l) before))
              | inr t_before ↦ so.each k p l c t before c_before t_before
            ]
          ]
        ];
  }

  -- one line more
  pub kegs_second : (lines : List ZoneHead) (i : ℕ) (line : ZoneHead) (censuses : List Census) (tallies : List TallySum) → i < length lines → line ≡ get_or lines i line → is_some line.parent ≡ true
      → TakesKegs head zones workers sums (take i lines) censuses tallies → TakesKegs head zones workers sums (take (i + 1) lines) censuses tallies
  kegs_second lines i line censuses tallies below is second so =
      let same = ap (λ (l : List ZoneHead). primaries l 0) (take_more lines i line below ∙ ap (λ (h : ZoneHead). take i lines ++ h ∷ []) (sym is)) ∙ second_last (take i lines) line 0 second in
      kegs_as (take i lines) (take (i + 1) lines) censuses tallies same so

  pub kegs_primary : (lines : List ZoneHead) (i : ℕ) (line : ZoneHead) (censuses : List Census) (tallies : List TallySum) (census : Census) (tally : TallySum) → i < length lines → line ≡ get_or lines i line → is_some line.parent ≡ false
      → TakesKeg head zones workers sums i census tally → TakesKegs head zones workers sums (take i lines) censuses tallies → TakesKegs head zones workers sums (take (i + 1) lines) (censuses ++ census ∷ []) (tallies ++ tally ∷ [])
  kegs_primary lines i line censuses tallies census tally below is primary takes so =
      let same =
      ap (λ (l : List ZoneHead). primaries l 0) (take_more lines i line below ∙ ap (λ (h : ZoneHead). take i lines ++ h ∷ []) (sym is)) ∙ primary_last (take i lines) line 0 primary
      ∙ ap (λ (n : ℕ). primaries (take i lines) 0 ++ (n, line) ∷ []) (none_and (length (take i lines)) ∙ length-take-le i lines (up_to i (length lines) below))
      in
      kegs_with (take i lines) (take (i + 1) lines) censuses tallies i line census tally same takes so

  pub kegs_all : (lines whole : List ZoneHead) (i : ℕ) (censuses : List Census) (tallies : List TallySum) → i ≡ length lines → lines ≡ whole → TakesKegs head zones workers sums (take i lines) censuses tallies → TakesKegs head zones workers sums whole censuses tallies
  kegs_all lines whole i censuses tallies all same so =
      let P : List ZoneHead → Type 0 = λ l. TakesKegs head zones workers sums l censuses tallies in
      subst P (ap (λ (n : ℕ). take n lines) all ∙ take_all (length lines) lines (le_refl (length lines)) ∙ same) so
