-- The words that an item can pass are the prefixes of whole lives. Phases alone decide which hook may come next.
use Rattle.std.proofs.Common.{◌≡◌, ◌<◌, ◌≤◌, ◌==◌, ℕ, zero, suc, Bool, true, false, cond, List, [], ◌∷◌, ◌++◌, refl, sym, ◌∙◌, ap, subst, arith}
use Rattle.std.specs.Prelude.{◌↔◌, flat_map}
use Rattle.std.proofs.lemmas.List.{append_assoc}
use Rattle.std.proofs.lemmas.Bool.Decides.{nat_tests}
use Rattle.uma_life.specs.declared.tally.BodyPhase.{BodyPhase}
use Rattle.uma_life.specs.declared.tally.BodyPhase.TheVariants.{Raw, Kept, Zoned, Built, Gone}
use Rattle.uma_life.specs.Life.{Life, raw_life}
use Rattle.uma_life.specs.Hook.{Hook, KegInit, ZoneInit, Ctor, Dtor, ZoneFini, KegFini, HasItsZone, base_phase, first_phase, last_phase, after}
use Rattle.uma_life.specs.Word.{CanPass, Stay, builds, stay_word, IsLifeSoFar, phase_behind}

-- what CanPass says, of phases
abbrev pub CanPassFrom : BodyPhase → List Hook → Type 0
CanPassFrom phase [] = Unit {0}
CanPassFrom phase (hook ∷ word) = HasItsZone hook × (phase ≡ first_phase hook) × CanPassFrom (last_phase hook) word

pub by_phases : (life : Life) (word : List Hook) → CanPass life word → CanPassFrom life.phase word
by_phases life [] can = tt
by_phases life (hook ∷ word) can = (can.0.zone, can.0.phase, by_phases (after hook life) word can.1)

pub of_phases : (life : Life) (word : List Hook) → CanPassFrom life.phase word → CanPass life word
of_phases life [] can = tt
of_phases life (hook ∷ word) can = (record { zone = can.0; phase = can.1 }, of_phases (after hook life) word can.2)

-- a prefix of a word that can be passed can be passed
can_pass-front : (phase : BodyPhase) (word rest : List Hook) → CanPassFrom phase (word ++ rest) → CanPassFrom phase word
can_pass-front phase [] rest can = tt
can_pass-front phase (hook ∷ word) rest can = (can.0, can.1, can_pass-front (last_phase hook) word rest can.2)

-- a whole life can be passed

can_pass-builds : (zone times : ℕ) (rest : List Hook) → zone < 8 → CanPassFrom (base_phase zone) rest → CanPassFrom (base_phase zone) (builds zone times ++ rest)
can_pass-builds zone zero rest small can = can
can_pass-builds zone (suc times) rest small can = (small, refl, (small, refl, can_pass-builds zone times rest small can))

can_pass-primary : (zone times : ℕ) (rest : List Hook) → (zone == 0) ≡ true → zone < 8 → CanPassFrom Kept rest → CanPassFrom Kept (builds zone times ++ rest)
can_pass-primary zone times rest primary small can =
    let base : base_phase zone ≡ Kept = ap (λ b. cond b Kept (Zoned zone)) primary in
    let P : BodyPhase → Type 0 = λ p. CanPassFrom p (builds zone times ++ rest) in
    let Q : BodyPhase → Type 0 = λ p. CanPassFrom p rest in
    subst P base (can_pass-builds zone times rest small (subst Q (sym base) can))

can_pass-secondary : (zone times : ℕ) (rest : List Hook) → (zone == 0) ≡ false → zone < 8 → CanPassFrom Kept rest → CanPassFrom Kept ((ZoneInit zone ∷ builds zone times ++ ZoneFini zone ∷ []) ++ rest)
can_pass-secondary zone times rest primary small can =
    let base : base_phase zone ≡ Zoned zone = ap (λ b. cond b Kept (Zoned zone)) primary in
    let above : 1 ≤ zone = grind (arith, nat_tests) in
    let P : BodyPhase → Type 0 = λ p. CanPassFrom p (builds zone times ++ ZoneFini zone ∷ rest) in
    let Q : BodyPhase → Type 0 = λ p. CanPassFrom p (ZoneFini zone ∷ rest) in
    let fini : Q (Zoned zone) = ((above, small), refl, can) in
    let all : P (Zoned zone) = subst P base (can_pass-builds zone times (ZoneFini zone ∷ rest) small (subst Q (sym base) fini)) in
    let R : List Hook → Type 0 = λ w. CanPassFrom Kept (ZoneInit zone ∷ w) in
    subst R (sym (append_assoc (builds zone times) (ZoneFini zone ∷ []) rest)) ((above, small), refl, all)

can_pass-stay_at : (is_primary : Bool) (zone times : ℕ) (rest : List Hook) → (zone == 0) ≡ is_primary → zone < 8 → CanPassFrom Kept rest → CanPassFrom Kept (cond is_primary (builds zone times) (ZoneInit zone ∷ builds zone times ++ ZoneFini zone ∷ []) ++ rest)
can_pass-stay_at true zone times rest primary small can = can_pass-primary zone times rest primary small can
can_pass-stay_at false zone times rest primary small can = can_pass-secondary zone times rest primary small can

can_pass-stays : (stays : List Stay) → CanPassFrom Kept (flat_map stay_word stays ++ KegFini ∷ [])
can_pass-stays [] = (tt, refl, tt)
can_pass-stays (stay ∷ stays) =
    let P : List Hook → Type 0 = λ w. CanPassFrom Kept w in
    subst P (sym (append_assoc (stay_word stay) (flat_map stay_word stays) (KegFini ∷ [])))
    (can_pass-stay_at (stay.zone == 0) stay.zone stay.times (flat_map stay_word stays ++ KegFini ∷ []) refl stay.in_range (can_pass-stays stays))

pub can_pass-prefix : (word : List Hook) → IsLifeSoFar word → CanPassFrom Raw word
can_pass-prefix word (stays, rest, whole) =
    let P : List Hook → Type 0 = λ w. CanPassFrom Raw w in
    can_pass-front Raw word rest (subst P (sym whole) (tt, refl, can_pass-stays stays))

-- what can be passed is the front of what is left of a whole life

-- what is left from Kept on
abbrev FromKept : List Hook → Type 0
FromKept left = (stays : List Stay) × (left ≡ flat_map stay_word stays ++ KegFini ∷ [])

-- what is left from Zoned on
abbrev FromZoned : ℕ → List Hook → Type 0
FromZoned zone left = (times : ℕ) × (after_stay : List Hook) × (left ≡ builds zone times ++ ZoneFini zone ∷ after_stay) × FromKept after_stay

abbrev FromBase : Bool → ℕ → List Hook → Type 0
FromBase true zone left = FromKept left
FromBase false zone left = FromZoned zone left

abbrev Finishes : BodyPhase → List Hook → Type 0
Finishes Raw left = (kept : List Hook) × (left ≡ KegInit ∷ kept) × FromKept kept
Finishes Kept left = FromKept left
Finishes (Zoned zone) left = FromZoned zone left
Finishes (Built zone) left = (base : List Hook) × (left ≡ Dtor zone ∷ base) × FromBase (zone == 0) zone base
Finishes Gone left = left ≡ []

to_base : (is_primary : Bool) (zone : ℕ) (left : List Hook) → Finishes (cond is_primary Kept (Zoned zone)) left → FromBase is_primary zone left
to_base true zone left finishes = finishes
to_base false zone left finishes = finishes

some_end_from_base : (is_primary : Bool) (zone : ℕ) → (left : List Hook) × FromBase is_primary zone left
some_end_from_base true zone = (KegFini ∷ [], ([], refl))
some_end_from_base false zone = (ZoneFini zone ∷ KegFini ∷ [], (0, (KegFini ∷ []), refl, ([], refl)))

some_end : (phase : BodyPhase) → (left : List Hook) × Finishes phase left
some_end Raw = (KegInit ∷ KegFini ∷ [], (KegFini ∷ [], refl, ([], refl)))
some_end Kept = (KegFini ∷ [], ([], refl))
some_end (Zoned zone) = some_end_from_base false zone
some_end (Built zone) = let e = some_end_from_base (zone == 0) zone in (Dtor zone ∷ e.0, (e.0, refl, e.1))
some_end Gone = ([], refl)

regrouped : (stay stays : List Hook) (fini end : Hook) → ((stay ++ fini ∷ []) ++ stays) ++ end ∷ [] ≡ stay ++ fini ∷ (stays ++ end ∷ [])
regrouped stay stays fini end = simp append_assoc

kept_with_stay : (zone : ℕ) (left : List Hook) → (1 ≤ zone) × (zone < 8) → FromZoned zone left → FromKept (ZoneInit zone ∷ left)
kept_with_stay zone left in_range (n, behind, is_left, (stays, is_behind)) =
    let secondary : (zone == 0) ≡ false = grind (arith, nat_tests) in
    let stay : Stay = record { zone = zone; times = n; in_range = in_range.1 } in
    let in_zone : List Hook = ZoneInit zone ∷ builds zone n ++ ZoneFini zone ∷ [] in
    let is_stay : stay_word stay ≡ in_zone = ap (λ b. cond b (builds zone n) in_zone) secondary in
    let others : List Hook = flat_map stay_word stays in (
      stay ∷ stays,
      ap (λ w. ZoneInit zone ∷ w) (is_left ∙ ap (λ w. builds zone n ++ ZoneFini zone ∷ w) is_behind ∙ sym (regrouped (builds zone n) others (ZoneFini zone) KegFini))
          ∙ sym (ap (λ w. w ++ others ++ KegFini ∷ []) is_stay),
    )

base_with_build : (is_primary : Bool) (zone : ℕ) (left : List Hook) → (zone == 0) ≡ is_primary → zone < 8 → FromBase is_primary zone left → Finishes (cond is_primary Kept (Zoned zone)) (Ctor zone ∷ Dtor zone ∷ left)
base_with_build true zone left primary small (stays, is_left) =
    let stay : Stay = record { zone = zone; times = suc zero; in_range = small } in
    let once : List Hook = builds zone (suc zero) in
    let is_stay : stay_word stay ≡ once = ap (λ b. cond b once (ZoneInit zone ∷ once ++ ZoneFini zone ∷ [])) primary in
    let others : List Hook = flat_map stay_word stays in
    (stay ∷ stays, ap (λ w. Ctor zone ∷ Dtor zone ∷ w) is_left ∙ sym (ap (λ w. w ++ others ++ KegFini ∷ []) is_stay))
base_with_build false zone left primary small (n, behind, is_left, kept) = (suc n, behind, ap (λ w. Ctor zone ∷ Dtor zone ∷ w) is_left, kept)

finishes_with : (hook : Hook) (left : List Hook) → HasItsZone hook → Finishes (last_phase hook) left → Finishes (first_phase hook) (hook ∷ left)
finishes_with KegInit left has finishes = (left, refl, finishes)
finishes_with (ZoneInit zone) left has finishes = kept_with_stay zone left has finishes
finishes_with (Ctor zone) left has (base, is_left, finishes) =
    let P : List Hook → Type 0 = λ w. Finishes (base_phase zone) (Ctor zone ∷ w) in
    subst P (sym is_left) (base_with_build (zone == 0) zone base refl has finishes)
finishes_with (Dtor zone) left has finishes = (left, refl, to_base (zone == 0) zone left finishes)
finishes_with (ZoneFini zone) left has finishes = (0, left, refl, finishes)
finishes_with KegFini left has finishes = ([], ap (λ w. KegFini ∷ w) finishes)

can_be_finished : (phase : BodyPhase) (word : List Hook) → CanPassFrom phase word → (rest : List Hook) × Finishes phase (word ++ rest)
can_be_finished phase [] can = some_end phase
can_be_finished phase (hook ∷ word) can =
    let (rest, finishes) = can_be_finished (last_phase hook) word can.2 in
    let P : BodyPhase → Type 0 = λ p. Finishes p (hook ∷ word ++ rest) in
    (rest, subst P (sym can.1) (finishes_with hook (word ++ rest) can.0 finishes))

prefix-can_pass : (word : List Hook) → CanPassFrom Raw word → IsLifeSoFar word
prefix-can_pass word can =
    let (rest, (kept, is_all, (stays, is_kept))) = can_be_finished Raw word can in
    (stays, rest, is_all ∙ ap (λ w. KegInit ∷ w) is_kept)

-- the hook that comes last may come there
pub may_come_last : (phase : BodyPhase) (word : List Hook) (hook : Hook) → CanPassFrom phase (word ++ hook ∷ []) → HasItsZone hook × (phase_behind phase word ≡ first_phase hook)
may_come_last phase [] hook can = (can.0, can.1)
may_come_last phase (first ∷ word) hook can = may_come_last (last_phase first) word hook can.2

pub words_are_prefixes : (number : ℕ) (word : List Hook) → CanPass (raw_life number) word ↔ IsLifeSoFar word
words_are_prefixes number word =
    (λ can. prefix-can_pass word (by_phases (raw_life number) word can), λ so_far. of_phases (raw_life number) word (can_pass-prefix word so_far))
