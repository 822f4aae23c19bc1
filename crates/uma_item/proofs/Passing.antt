-- Each hook takes the counts that an item derives to those that it derives after the hook.
use Rattle.std.proofs.Common.{◌≡◌, ◌≢◌, ◌<◌, ◌-◌, ◌==◌, ℕ, Option, Some, Bool, true, false, cond, List, [], ◌∷◌, length, refl, sym, ◌∙◌, ap, arith, slice_set, slice_index_or, eq-eqb, inl, inr}
use Rattle.std.proofs.lemmas.Bool.{ne_eqb}
use Rattle.std.proofs.lemmas.Bool.Decides.{eqb_tells}
use Rattle.std.proofs.lemmas.List.{get_or-set_same, get_or-set_other}
use Rattle.uma_life.specs.declared.tally.BodyPhase.{BodyPhase}
use Rattle.uma_life.specs.declared.tally.BodyPhase.TheVariants.{Kept, Zoned, Built}
use Rattle.uma_life.specs.declared.tally.ZoneTally.{ZoneTally}
use Rattle.uma_life.specs.Life.{no_counts}
use Rattle.uma_life.specs.Hook.{Ctor, Dtor, ZoneInit, ZoneFini, raised, base_phase, tally_after}
use Rattle.uma_life.specs.Trail.{open_stays, open_builds, keg_inits_by, keg_finis_by}
use Rattle.uma_life.specs.Word.{by_zone}
use Rattle.uma_life.proofs.Tallies.{get_by_zone, set_by_zone}
use Rattle.uma_item.specs.declared.item.StayCounts.{StayCounts}
use Rattle.uma_item.specs.Counts.{less, no_stays, stay_at, refusal_of_stay, KeepsItsStays, counts_with, counts_by, tally_by}

-- a count less one, and then one more, is the count
raised-less : (count : ℕ) → raised (less count 1) ≡ less count 0
raised-less count = omega arith

less-raised : (count : ℕ) → less (raised count) 1 ≡ less count 0
less-raised count = omega arith

-- the zones after a change of one zone's counts
changed : (f g : ℕ → ZoneTally) (change : ZoneTally → ZoneTally) (zone : ℕ) → zone < 8 → change (f zone) ≡ g zone → ((other : ℕ) → other ≢ zone → f other ≡ g other) → slice_set (by_zone f) zone (change (slice_index_or (by_zone f) zone no_counts)) ≡ by_zone g
changed f g change zone small here others = set_by_zone f g zone (change (slice_index_or (by_zone f) zone no_counts)) small (ap change (get_by_zone f zone small) ∙ here) others

-- what holds of both phases of an item that isn't built
unbuilt : {A : Type 0} (f : BodyPhase → A) (a : A) (zone : ℕ) → f Kept ≡ a → f (Zoned zone) ≡ a → f (base_phase zone) ≡ a
unbuilt f a zone kept zoned =
    let by : (is_primary : Bool) → f (cond is_primary Kept (Zoned zone)) ≡ a = elim [ true ↦ kept | false ↦ zoned ] in
    by (zone == 0)

no_builds : (zone other : ℕ) → open_builds (base_phase zone) other ≡ 0
no_builds zone other = unbuilt (λ phase. open_builds phase other) 0 zone refl refl

-- a build is in the stay that it began in
pub stays_kept : (zone other : ℕ) → open_stays (Built zone) other ≡ open_stays (base_phase zone) other
stays_kept zone other =
    let nothing : (same : Bool) → ◌≡◌ {A = ℕ} (cond same 0 0) 0 = elim [ true ↦ refl | false ↦ refl ] in
    let kept : (is_primary : Bool) → cond (zone == other) (cond is_primary 0 1) 0 ≡ open_stays (cond is_primary Kept (Zoned zone)) other =
    elim [ true ↦ nothing (zone == other) | false ↦ refl ] in
    kept (zone == 0)

-- the counts of the zones that a build is not of
apart : (zone other ctors : ℕ) (stays : List StayCounts) → other ≢ zone → counts_by (Built zone) ctors stays other ≡ counts_by (base_phase zone) ctors stays other
apart zone other ctors stays differs =
    let no : (zone == other) ≡ false = ne_eqb zone other (λ e. differs (sym e)) in
    let builds : open_builds (Built zone) other ≡ open_builds (base_phase zone) other = ap (λ b. cond b 1 0) no ∙ sym (no_builds zone other) in
    λ i. counts_with (other == 0) (builds i) (stays_kept zone other i) ctors (stay_at stays other)

built_here : (zone : ℕ) → open_builds (Built zone) zone ≡ 1
built_here zone = ap (λ b. cond b 1 0) (eq-eqb zone zone refl)

-- a dtor raises the dtors of its zone
over : (is_primary : Bool) (stays ctors : ℕ) (stay : StayCounts) → (let counts = counts_with is_primary 1 stays ctors stay in record counts { dtors = raised counts.dtors }) ≡ counts_with is_primary 0 stays ctors stay
over true stays ctors stay = λ i. record { inits = 0; ctors = ctors; dtors = raised-less ctors i; finis = 0 }
over false stays ctors stay = λ i. record { inits = stay.inits; ctors = stay.ctors; dtors = raised-less stay.ctors i; finis = less stay.inits stays }

ends_here : (zone ctors : ℕ) (stays : List StayCounts) → (let counts = counts_by (Built zone) ctors stays zone in record counts { dtors = raised counts.dtors }) ≡ counts_by (base_phase zone) ctors stays zone
ends_here zone ctors stays =
    let stay : StayCounts = stay_at stays zone in
    let change : ZoneTally → ZoneTally = λ counts. record counts { dtors = raised counts.dtors } in
    (λ i. change (counts_with (zone == 0) (built_here zone i) (open_stays (Built zone) zone) ctors stay))
    ∙ over (zone == 0) (open_stays (Built zone) zone) ctors stay
    ∙ (λ i. counts_with (zone == 0) (sym (no_builds zone zone) i) (stays_kept zone zone i) ctors stay)

pub dtor-tally : (zone ctors : ℕ) (stays : List StayCounts) → zone < 8 → tally_by (base_phase zone) ctors stays ≡ tally_after (Dtor zone) (tally_by (Built zone) ctors stays)
dtor-tally zone ctors stays within =
    let change : ZoneTally → ZoneTally = λ counts. record counts { dtors = raised counts.dtors } in
    sym (λ i. record {
      keg_inits = sym (unbuilt keg_inits_by 1 zone refl refl) i;
      keg_finis = sym (unbuilt keg_finis_by 0 zone refl refl) i;
      zones = changed (counts_by (Built zone) ctors stays) (counts_by (base_phase zone) ctors stays) change zone within (ends_here zone ctors stays) (λ other differs. apart zone other ctors stays differs) i;
    })

-- a ctor raises the ctors of its zone, and the zone's dtors stay

begun_in_stay : (stays ctors : ℕ) (stay : StayCounts) → (let counts = counts_with false 0 stays ctors stay in record counts { ctors = raised counts.ctors }) ≡ counts_with false 1 stays ctors (record stay { ctors = raised stay.ctors })
begun_in_stay stays ctors stay = λ i. record { inits = stay.inits; ctors = raised stay.ctors; dtors = sym (less-raised stay.ctors) i; finis = less stay.inits stays }

-- in the primary zone

-- in a secondary zone, whose kept counts change

others_stay : (phase next : BodyPhase) (zone other ctors : ℕ) (stays : List StayCounts) (stay : StayCounts) → zone ≢ 0 → other ≢ zone → open_builds phase other ≡ open_builds next other → open_stays phase other ≡ open_stays next other → counts_by phase ctors stays other ≡ counts_by next ctors (slice_set stays (zone - 1) stay) other
others_stay phase next zone other ctors stays stay secondary differs builds same_stays =
    let after : List StayCounts = slice_set stays (zone - 1) stay in
    (λ i. counts_with (other == 0) (builds i) (same_stays i) ctors (stay_at stays other))
    ∙ elim (eqb_tells other 0) [
      | inl primary ↦
          (λ i. counts_with (primary.0 i) (open_builds next other) (open_stays next other) ctors (stay_at stays other))
          ∙ (λ i. counts_with (sym primary.0 i) (open_builds next other) (open_stays next other) ctors (stay_at after other))
      | inr not_primary ↦
          (λ i. counts_with (other == 0) (open_builds next other) (open_stays next other) ctors (sym (get_or-set_other stays (zone - 1) (other - 1) stay no_stays (λ e. differs (let p : other ≢ 0 = not_primary.1 in omega arith))) i))
    ]

here_stay : (phase : BodyPhase) (zone ctors : ℕ) (stays : List StayCounts) (stay : StayCounts) → zone ≢ 0 → zone - 1 < length stays → counts_with false (open_builds phase zone) (open_stays phase zone) ctors stay ≡ counts_by phase ctors (slice_set stays (zone - 1) stay) zone
here_stay phase zone ctors stays stay secondary within =
    λ i. counts_with (sym (ne_eqb zone 0 secondary) i) (open_builds phase zone) (open_stays phase zone) ctors (sym (get_or-set_same stays (zone - 1) stay no_stays within) i)

pub ctor_tally-staying : (zone ctors : ℕ) (stays : List StayCounts) → zone < 8 → zone ≢ 0 → zone - 1 < length stays → (let stay = stay_at stays zone in tally_by (Built zone) ctors (slice_set stays (zone - 1) (record stay { ctors = raised stay.ctors })) ≡ tally_after (Ctor zone) (tally_by (Zoned zone) ctors stays))
ctor_tally-staying zone ctors stays small secondary within =
    let stay : StayCounts = stay_at stays zone in
    let raised_stay : StayCounts = record stay { ctors = raised stay.ctors } in
    let change : ZoneTally → ZoneTally = λ counts. record counts { ctors = raised counts.ctors } in
    let kept : (other : ℕ) → open_stays (Zoned zone) other ≡ open_stays (Built zone) other = λ other. λ i. cond (zone == other) (cond (sym (ne_eqb zone 0 secondary) i) 0 1) 0 in
    let here : change (counts_by (Zoned zone) ctors stays zone) ≡ counts_by (Built zone) ctors (slice_set stays (zone - 1) raised_stay) zone =
    (λ i. change (counts_with (ne_eqb zone 0 secondary i) 0 (open_stays (Zoned zone) zone) ctors stay))
    ∙ begun_in_stay (open_stays (Zoned zone) zone) ctors stay
    ∙ (λ i. counts_with false (sym (built_here zone) i) (kept zone i) ctors raised_stay)
    ∙ here_stay (Built zone) zone ctors stays raised_stay secondary within in
    sym (λ i. record {
      keg_inits = 1;
      keg_finis = 0;
      zones = changed (counts_by (Zoned zone) ctors stays) (counts_by (Built zone) ctors (slice_set stays (zone - 1) raised_stay)) change zone small here (λ other differs. others_stay (Zoned zone) (Built zone) zone other ctors stays raised_stay secondary differs (sym (ap (λ b. cond b 1 0) (ne_eqb zone other (λ e. differs (sym e))))) (kept other)) i;
    })

pub enter_tally : (zone ctors : ℕ) (stays : List StayCounts) → zone < 8 → zone ≢ 0 → zone - 1 < length stays → (let stay = stay_at stays zone in tally_by (Zoned zone) ctors (slice_set stays (zone - 1) (record stay { inits = raised stay.inits })) ≡ tally_after (ZoneInit zone) (tally_by Kept ctors stays))
enter_tally zone ctors stays small secondary within =
    let stay : StayCounts = stay_at stays zone in
    let raised_stay : StayCounts = record stay { inits = raised stay.inits } in
    let change : ZoneTally → ZoneTally = λ counts. record counts { inits = raised counts.inits } in
    let come : change (counts_with false 0 0 ctors stay) ≡ counts_with false 0 1 ctors raised_stay =
    λ i. record { inits = raised stay.inits; ctors = stay.ctors; dtors = less stay.ctors 0; finis = sym (less-raised stay.inits) i } in
    let here : change (counts_by Kept ctors stays zone) ≡ counts_by (Zoned zone) ctors (slice_set stays (zone - 1) raised_stay) zone =
    (λ i. change (counts_with (ne_eqb zone 0 secondary i) 0 0 ctors stay))
    ∙ come
    ∙ (λ i. counts_with false 0 (sym (ap (λ b. cond b 1 0) (eq-eqb zone zone refl)) i) ctors raised_stay)
    ∙ here_stay (Zoned zone) zone ctors stays raised_stay secondary within in
    sym (λ i. record {
      keg_inits = 1;
      keg_finis = 0;
      zones = changed (counts_by Kept ctors stays) (counts_by (Zoned zone) ctors (slice_set stays (zone - 1) raised_stay)) change zone small here (λ other differs. others_stay Kept (Zoned zone) zone other ctors stays raised_stay secondary differs refl (sym (ap (λ b. cond b 1 0) (ne_eqb zone other (λ e. differs (sym e)))))) i;
    })

pub leave_tally : (zone ctors : ℕ) (stays : List StayCounts) → zone < 8 → zone ≢ 0 → tally_by Kept ctors stays ≡ tally_after (ZoneFini zone) (tally_by (Zoned zone) ctors stays)
leave_tally zone ctors stays small secondary =
    let change : ZoneTally → ZoneTally = λ counts. record counts { finis = raised counts.finis } in
    let stay : StayCounts = stay_at stays zone in
    let gone : change (counts_with false 0 1 ctors stay) ≡ counts_with false 0 0 ctors stay =
    λ i. record { inits = stay.inits; ctors = stay.ctors; dtors = less stay.ctors 0; finis = raised-less stay.inits i } in
    let here : change (counts_by (Zoned zone) ctors stays zone) ≡ counts_by Kept ctors stays zone =
    (λ i. change (counts_with (ne_eqb zone 0 secondary i) 0 (cond (eq-eqb zone zone refl i) 1 0) ctors stay))
    ∙ gone
    ∙ (λ i. counts_with (sym (ne_eqb zone 0 secondary) i) 0 0 ctors stay) in
    sym (λ i. record {
      keg_inits = 1;
      keg_finis = 0;
      zones = changed (counts_by (Zoned zone) ctors stays) (counts_by Kept ctors stays) change zone small here (λ other differs. (λ j. counts_with (other == 0) 0 (cond (ne_eqb zone other (λ e. differs (sym e)) j) 1 0) ctors (stay_at stays other))) i;
    })

-- an item that isn't built in its secondary zone keeps the counts of its stays
pub staying : (phase : BodyPhase) (zone : ℕ) (stays : List StayCounts) → KeepsItsStays phase stays → zone ≢ 0 → phase ≡ base_phase zone → length stays ≡ 7
staying phase zone stays keeps secondary base =
    let zoned : phase ≡ Zoned zone = base ∙ (λ i. cond (ne_eqb zone 0 secondary i) Kept (Zoned zone)) in
    keeps zone (ap (λ p. open_stays p zone) zoned ∙ ap (λ b. cond b 1 0) (eq-eqb zone zone refl))

-- an item that keeps the counts of its stays refuses a secondary zone just where its data is refused
pub refusal-kept : (zone : ℕ) (stays : List StayCounts) (refused : Option ℕ) → zone ≢ 0 → length stays ≡ 7 → refusal_of_stay (zone == 0) stays refused ≡ refused
refusal-kept zone [] refused secondary seven = absurd (omega arith)
refusal-kept zone (stay ∷ more) refused secondary seven = λ i. refusal_of_stay (ne_eqb zone 0 secondary i) (stay ∷ more) refused

-- and one that doesn't refuses with its own code
pub refusal-unkept : (zone : ℕ) (stays : List StayCounts) (refused : Option ℕ) → zone ≢ 0 → stays ≡ [] → refusal_of_stay (zone == 0) stays refused ≡ Some 255
refusal-unkept zone stays refused secondary none = λ i. refusal_of_stay (ne_eqb zone 0 secondary i) (none i) refused
