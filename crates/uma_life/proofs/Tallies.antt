-- Each hook takes the counts of a word to those of the word with the hook appended, and so they agree with the trail.
use Rattle.std.proofs.Common.{◌≡◌, ◌<◌, ◌==◌, ◌%◌, ◌^◌, ◌+◌, ◌≢◌, ℕ, zero, suc, true, false, cond, List, [], ◌∷◌, ◌++◌, refl, sym, ◌∙◌, ap, subst, arith, eq-eqb, slice_set, slice_index_or, append-nil, add-zero}
use Rattle.std.specs.Prelude.{count_by}
use Rattle.std.proofs.Math.Nat.{mod-add-mod}
use Rattle.std.proofs.lemmas.List.{append_assoc}
use Rattle.std.proofs.lemmas.List.Sums.{sum_by_push}
use Rattle.std.proofs.lemmas.Bool.Decides.{nat_tests}
use Rattle.uma_life.specs.declared.tally.BodyPhase.{BodyPhase}
use Rattle.uma_life.specs.declared.tally.BodyPhase.TheVariants.{Raw}
use Rattle.uma_life.specs.declared.tally.ZoneTally.{ZoneTally}
use Rattle.uma_life.specs.declared.tally.Tally.{Tally}
use Rattle.uma_life.specs.Life.{raw_life, no_counts}
use Rattle.uma_life.specs.Hook.{Hook, KegInit, ZoneInit, Ctor, Dtor, ZoneFini, KegFini, MayPass, HasItsZone, last_phase, raised, tally_after, after}
use Rattle.uma_life.specs.Trail.{OnTrail}
use Rattle.uma_life.specs.Word.{IsLifeSoFar, is_hook, times_in, zone_counts_in, by_zone, tally_in, phase_behind, life_of_word}
use Rattle.uma_life.proofs.Passing.{on_trail-after, on_trail-raw}
use Rattle.uma_life.proofs.Words.{CanPassFrom, can_pass-prefix, may_come_last}

-- counts of a word with a hook appended

times_more : (word : List Hook) (hook other : Hook) → is_hook hook other ≡ true → raised (times_in word hook) ≡ times_in (word ++ other ∷ []) hook
times_more word hook other same =
    mod-add-mod (count_by (is_hook hook) word) (2 ^ 64) 1
    ∙ ap (λ b. (count_by (is_hook hook) word + cond b 1 0) % 2 ^ 64) (sym same)
    ∙ ap (λ n. n % 2 ^ 64) (sym (sum_by_push (λ h. cond (is_hook hook h) 1 0) word other))

times_same : (word : List Hook) (hook other : Hook) → is_hook hook other ≡ false → times_in word hook ≡ times_in (word ++ other ∷ []) hook
times_same word hook other differs =
    let before : ℕ = count_by (is_hook hook) word in
    ap (λ n. n % 2 ^ 64) (sym (sum_by_push (λ h. cond (is_hook hook h) 1 0) word other ∙ ap (λ b. before + cond b 1 0) differs ∙ add-zero before))

-- a zone's counts, where the hook that is appended raises none of them
counts_same : (word : List Hook) (zone : ℕ) (other : Hook) → is_hook (ZoneInit zone) other ≡ false → is_hook (Ctor zone) other ≡ false → is_hook (Dtor zone) other ≡ false → is_hook (ZoneFini zone) other ≡ false → zone_counts_in word zone ≡ zone_counts_in (word ++ other ∷ []) zone
counts_same word zone other init ctor dtor fini = λ i. record {
  inits = times_same word (ZoneInit zone) other init i;
  ctors = times_same word (Ctor zone) other ctor i;
  dtors = times_same word (Dtor zone) other dtor i;
  finis = times_same word (ZoneFini zone) other fini i;
}

-- reads and writes of a list by zones

pub get_by_zone : (f : ℕ → ZoneTally) (zone : ℕ) → zone < 8 → slice_index_or (by_zone f) zone no_counts ≡ f zone
get_by_zone f zero small = refl
get_by_zone f (suc zero) small = refl
get_by_zone f (suc (suc zero)) small = refl
get_by_zone f (suc (suc (suc zero))) small = refl
get_by_zone f (suc (suc (suc (suc zero)))) small = refl
get_by_zone f (suc (suc (suc (suc (suc zero))))) small = refl
get_by_zone f (suc (suc (suc (suc (suc (suc zero)))))) small = refl
get_by_zone f (suc (suc (suc (suc (suc (suc (suc zero))))))) small = refl
get_by_zone f (suc (suc (suc (suc (suc (suc (suc (suc zone)))))))) small = absurd (omega arith)

pub set_by_zone : (f g : ℕ → ZoneTally) (zone : ℕ) (counts : ZoneTally) → zone < 8 → counts ≡ g zone → ((other : ℕ) → other ≢ zone → f other ≡ g other) → slice_set (by_zone f) zone counts ≡ by_zone g
set_by_zone f g zero counts small here others = λ i. here i ∷ others 1 (λ e. absurd (omega arith)) i ∷ others 2 (λ e. absurd (omega arith)) i ∷ others 3 (λ e. absurd (omega arith)) i ∷ others 4 (λ e. absurd (omega arith)) i ∷ others 5 (λ e. absurd (omega arith)) i ∷ others 6 (λ e. absurd (omega arith)) i ∷ others 7 (λ e. absurd (omega arith)) i ∷ []
set_by_zone f g (suc zero) counts small here others = λ i. others 0 (λ e. absurd (omega arith)) i ∷ here i ∷ others 2 (λ e. absurd (omega arith)) i ∷ others 3 (λ e. absurd (omega arith)) i ∷ others 4 (λ e. absurd (omega arith)) i ∷ others 5 (λ e. absurd (omega arith)) i ∷ others 6 (λ e. absurd (omega arith)) i ∷ others 7 (λ e. absurd (omega arith)) i ∷ []
set_by_zone f g (suc (suc zero)) counts small here others = λ i. others 0 (λ e. absurd (omega arith)) i ∷ others 1 (λ e. absurd (omega arith)) i ∷ here i ∷ others 3 (λ e. absurd (omega arith)) i ∷ others 4 (λ e. absurd (omega arith)) i ∷ others 5 (λ e. absurd (omega arith)) i ∷ others 6 (λ e. absurd (omega arith)) i ∷ others 7 (λ e. absurd (omega arith)) i ∷ []
set_by_zone f g (suc (suc (suc zero))) counts small here others = λ i. others 0 (λ e. absurd (omega arith)) i ∷ others 1 (λ e. absurd (omega arith)) i ∷ others 2 (λ e. absurd (omega arith)) i ∷ here i ∷ others 4 (λ e. absurd (omega arith)) i ∷ others 5 (λ e. absurd (omega arith)) i ∷ others 6 (λ e. absurd (omega arith)) i ∷ others 7 (λ e. absurd (omega arith)) i ∷ []
set_by_zone f g (suc (suc (suc (suc zero)))) counts small here others = λ i. others 0 (λ e. absurd (omega arith)) i ∷ others 1 (λ e. absurd (omega arith)) i ∷ others 2 (λ e. absurd (omega arith)) i ∷ others 3 (λ e. absurd (omega arith)) i ∷ here i ∷ others 5 (λ e. absurd (omega arith)) i ∷ others 6 (λ e. absurd (omega arith)) i ∷ others 7 (λ e. absurd (omega arith)) i ∷ []
set_by_zone f g (suc (suc (suc (suc (suc zero))))) counts small here others = λ i. others 0 (λ e. absurd (omega arith)) i ∷ others 1 (λ e. absurd (omega arith)) i ∷ others 2 (λ e. absurd (omega arith)) i ∷ others 3 (λ e. absurd (omega arith)) i ∷ others 4 (λ e. absurd (omega arith)) i ∷ here i ∷ others 6 (λ e. absurd (omega arith)) i ∷ others 7 (λ e. absurd (omega arith)) i ∷ []
set_by_zone f g (suc (suc (suc (suc (suc (suc zero)))))) counts small here others = λ i. others 0 (λ e. absurd (omega arith)) i ∷ others 1 (λ e. absurd (omega arith)) i ∷ others 2 (λ e. absurd (omega arith)) i ∷ others 3 (λ e. absurd (omega arith)) i ∷ others 4 (λ e. absurd (omega arith)) i ∷ others 5 (λ e. absurd (omega arith)) i ∷ here i ∷ others 7 (λ e. absurd (omega arith)) i ∷ []
set_by_zone f g (suc (suc (suc (suc (suc (suc (suc zero))))))) counts small here others = λ i. others 0 (λ e. absurd (omega arith)) i ∷ others 1 (λ e. absurd (omega arith)) i ∷ others 2 (λ e. absurd (omega arith)) i ∷ others 3 (λ e. absurd (omega arith)) i ∷ others 4 (λ e. absurd (omega arith)) i ∷ others 5 (λ e. absurd (omega arith)) i ∷ others 6 (λ e. absurd (omega arith)) i ∷ here i ∷ []
set_by_zone f g (suc (suc (suc (suc (suc (suc (suc (suc zone)))))))) counts small here others = absurd (omega arith)

differs : (m n : ℕ) → m ≢ n → (m == n) ≡ false
differs m n apart = grind (arith, nat_tests)

-- the tally of a word with a hook appended

zoneinit_zones : (word : List Hook) (zone : ℕ) → zone < 8 → (tally_after (ZoneInit zone) (tally_in word)).zones ≡ by_zone (zone_counts_in (word ++ ZoneInit zone ∷ []))
zoneinit_zones word zone small =
    set_by_zone (zone_counts_in word) (zone_counts_in (word ++ ZoneInit zone ∷ [])) zone _ small
    (ap (λ (counts : ZoneTally). record counts { inits = raised counts.inits }) (get_by_zone (zone_counts_in word) zone small) ∙ λ i. record {
      inits = times_more word (ZoneInit zone) (ZoneInit zone) (eq-eqb zone zone refl) i;
      ctors = times_same word (Ctor zone) (ZoneInit zone) refl i;
      dtors = times_same word (Dtor zone) (ZoneInit zone) refl i;
      finis = times_same word (ZoneFini zone) (ZoneInit zone) refl i;
    })
    (λ other apart. counts_same word other (ZoneInit zone) (differs other zone apart) refl refl refl)

ctor_zones : (word : List Hook) (zone : ℕ) → zone < 8 → (tally_after (Ctor zone) (tally_in word)).zones ≡ by_zone (zone_counts_in (word ++ Ctor zone ∷ []))
ctor_zones word zone small =
    set_by_zone (zone_counts_in word) (zone_counts_in (word ++ Ctor zone ∷ [])) zone _ small
    (ap (λ (counts : ZoneTally). record counts { ctors = raised counts.ctors }) (get_by_zone (zone_counts_in word) zone small) ∙ λ i. record {
      inits = times_same word (ZoneInit zone) (Ctor zone) refl i;
      ctors = times_more word (Ctor zone) (Ctor zone) (eq-eqb zone zone refl) i;
      dtors = times_same word (Dtor zone) (Ctor zone) refl i;
      finis = times_same word (ZoneFini zone) (Ctor zone) refl i;
    })
    (λ other apart. counts_same word other (Ctor zone) refl (differs other zone apart) refl refl)

dtor_zones : (word : List Hook) (zone : ℕ) → zone < 8 → (tally_after (Dtor zone) (tally_in word)).zones ≡ by_zone (zone_counts_in (word ++ Dtor zone ∷ []))
dtor_zones word zone small =
    set_by_zone (zone_counts_in word) (zone_counts_in (word ++ Dtor zone ∷ [])) zone _ small
    (ap (λ (counts : ZoneTally). record counts { dtors = raised counts.dtors }) (get_by_zone (zone_counts_in word) zone small) ∙ λ i. record {
      inits = times_same word (ZoneInit zone) (Dtor zone) refl i;
      ctors = times_same word (Ctor zone) (Dtor zone) refl i;
      dtors = times_more word (Dtor zone) (Dtor zone) (eq-eqb zone zone refl) i;
      finis = times_same word (ZoneFini zone) (Dtor zone) refl i;
    })
    (λ other apart. counts_same word other (Dtor zone) refl refl (differs other zone apart) refl)

zonefini_zones : (word : List Hook) (zone : ℕ) → zone < 8 → (tally_after (ZoneFini zone) (tally_in word)).zones ≡ by_zone (zone_counts_in (word ++ ZoneFini zone ∷ []))
zonefini_zones word zone small =
    set_by_zone (zone_counts_in word) (zone_counts_in (word ++ ZoneFini zone ∷ [])) zone _ small
    (ap (λ (counts : ZoneTally). record counts { finis = raised counts.finis }) (get_by_zone (zone_counts_in word) zone small) ∙ λ i. record {
      inits = times_same word (ZoneInit zone) (ZoneFini zone) refl i;
      ctors = times_same word (Ctor zone) (ZoneFini zone) refl i;
      dtors = times_same word (Dtor zone) (ZoneFini zone) refl i;
      finis = times_more word (ZoneFini zone) (ZoneFini zone) (eq-eqb zone zone refl) i;
    })
    (λ other apart. counts_same word other (ZoneFini zone) refl refl refl (differs other zone apart))

tally_more : (word : List Hook) (hook : Hook) → HasItsZone hook → tally_after hook (tally_in word) ≡ tally_in (word ++ hook ∷ [])
tally_more word KegInit has = λ i. record {
  keg_inits = times_more word KegInit KegInit refl i;
  keg_finis = times_same word KegFini KegInit refl i;
  zones = by_zone (λ zone. counts_same word zone KegInit refl refl refl refl i);
}
tally_more word (ZoneInit zone) has = λ i. record {
  keg_inits = times_same word KegInit (ZoneInit zone) refl i;
  keg_finis = times_same word KegFini (ZoneInit zone) refl i;
  zones = zoneinit_zones word zone has.1 i;
}
tally_more word (Ctor zone) has = λ i. record {
  keg_inits = times_same word KegInit (Ctor zone) refl i;
  keg_finis = times_same word KegFini (Ctor zone) refl i;
  zones = ctor_zones word zone has i;
}
tally_more word (Dtor zone) has = λ i. record {
  keg_inits = times_same word KegInit (Dtor zone) refl i;
  keg_finis = times_same word KegFini (Dtor zone) refl i;
  zones = dtor_zones word zone has i;
}
tally_more word (ZoneFini zone) has = λ i. record {
  keg_inits = times_same word KegInit (ZoneFini zone) refl i;
  keg_finis = times_same word KegFini (ZoneFini zone) refl i;
  zones = zonefini_zones word zone has.1 i;
}
tally_more word KegFini has = λ i. record {
  keg_inits = times_same word KegInit KegFini refl i;
  keg_finis = times_more word KegFini KegFini refl i;
  zones = by_zone (λ zone. counts_same word zone KegFini refl refl refl refl i);
}

-- the phase of a word with a hook appended
phase_more : (phase : BodyPhase) (word : List Hook) (hook : Hook) → phase_behind phase (word ++ hook ∷ []) ≡ last_phase hook
phase_more phase [] hook = refl
phase_more phase (first ∷ word) hook = phase_more (last_phase first) word hook

on_trail-behind : (done word : List Hook) → OnTrail (phase_behind Raw done) (tally_in done) → CanPassFrom (phase_behind Raw done) word → OnTrail (phase_behind Raw (done ++ word)) (tally_in (done ++ word))
on_trail-behind done [] on_trail can =
    let P : List Hook → Type 0 = λ w. OnTrail (phase_behind Raw w) (tally_in w) in
    subst P (sym (append-nil done)) on_trail
on_trail-behind done (hook ∷ word) on_trail can =
    let next : List Hook = done ++ hook ∷ [] in
    let At : BodyPhase → Type 0 = λ p. OnTrail p (tally_in done) in
    let passed : OnTrail (last_phase hook) (tally_after hook (tally_in done)) = on_trail-after hook (tally_in done) can.0 (subst At can.1 on_trail) in
    let Q : Tally → Type 0 = λ t. OnTrail (last_phase hook) t in
    let R : BodyPhase → Type 0 = λ p. OnTrail p (tally_in next) in
    let S : BodyPhase → Type 0 = λ p. CanPassFrom p word in
    let P : List Hook → Type 0 = λ w. OnTrail (phase_behind Raw w) (tally_in w) in
    let here : R (phase_behind Raw next) = subst R (sym (phase_more Raw done hook)) (subst Q (tally_more done hook can.0) passed) in
    subst P (append_assoc done (hook ∷ []) word) (on_trail-behind next word here (subst S (sym (phase_more Raw done hook)) can.2))

pub counts_agree : (number : ℕ) (word : List Hook) → IsLifeSoFar word → let life = life_of_word number word in OnTrail life.phase life.tally
counts_agree number word so_far = on_trail-behind [] word on_trail-raw (can_pass-prefix word so_far)

pub begins : (number : ℕ) → life_of_word number [] ≡ raw_life number
begins number = refl

pub goes_on : (number : ℕ) (word : List Hook) (hook : Hook) → IsLifeSoFar (word ++ hook ∷ []) → MayPass hook (life_of_word number word) × (after hook (life_of_word number word) ≡ life_of_word number (word ++ hook ∷ []))
goes_on number word hook so_far =
    let may = may_come_last Raw word hook (can_pass-prefix (word ++ hook ∷ []) so_far) in (
      record { zone = may.0; phase = may.1 },
      λ i. record {
        no = number;
        phase = sym (phase_more Raw word hook) i;
        tally = tally_more word hook may.0 i;
      },
    )
