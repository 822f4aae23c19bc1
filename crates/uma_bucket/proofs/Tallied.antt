-- The sums of the items' tallies agree with the items' lives.
use Rattle.std.proofs.Common.{◌≡◌, ◌<◌, ◌+◌, ◌*◌, ◌^◌, ◌%◌, ◌==◌, ℕ, Bool, true, false, cond, List, [], ◌∷◌, length, map, inl, inr, refl, sym, ap, ◌∙◌, subst, arith}
use native.Mathlib.Nat.{mod-add-mod, add-mod-mod}
use Rattle.std.specs.List.{sum_by}
use Rattle.std.proofs.lemmas.Bool.{cases_lt}
use Rattle.std.proofs.lemmas.List.{get_or_past}
use Rattle.std.proofs.lemmas.List.Elements.{All-head, All-tail}
use Rattle.std.proofs.lemmas.List.Sums.{sum_by-cons}
use Rattle.uma_life.specs.declared.tally.BodyPhase.{BodyPhase}
use Rattle.uma_life.specs.declared.tally.BodyPhase.TheVariants.{Raw, Kept, Zoned, Built, Gone}
use Rattle.uma_life.specs.declared.tally.Tally.{Tally}
use Rattle.uma_life.specs.declared.states.Cached.{Cached}
use Rattle.uma_life.specs.declared.states.Ticket.{Ticket}
use Rattle.uma_life.specs.Cached.{cached_body, cached_ticket, cached_zone}
use Rattle.uma_life.specs.Hook.{Hook, KegInit, ZoneInit, Ctor, Dtor, ZoneFini, KegFini, counts_of}
use Rattle.uma_life.specs.Life.{no_counts}
use Rattle.uma_life.specs.Sum.{times_of, AreCounts}
use Rattle.uma_life.specs.Ticket.{ticket_zone}
use Rattle.uma_life.specs.Trail.{ShowsSame, OnTrail, keg_inits_by, keg_finis_by, open_builds}
use Rattle.uma_bucket.specs.declared.freed.Freed.{Freed}
use Rattle.uma_bucket.specs.Freed.{freed_tally, freed_ticket}
use Rattle.uma_bucket.specs.Home.{Home, IsHome, AreHome}
use Rattle.uma_bucket.specs.Sums.{times_cached, times_freed}

-- ---- each count of a trail is one of 64 bits

inits_few : (phase : BodyPhase) → keg_inits_by phase < 2 ^ 64
inits_few Raw = omega arith
inits_few Kept = omega arith
inits_few (Zoned zone) = omega arith
inits_few (Built zone) = omega arith
inits_few Gone = omega arith

finis_few : (phase : BodyPhase) → keg_finis_by phase < 2 ^ 64
finis_few Raw = omega arith
finis_few Kept = omega arith
finis_few (Zoned zone) = omega arith
finis_few (Built zone) = omega arith
finis_few Gone = omega arith

trail_counts : (phase : BodyPhase) (tally : Tally) → OnTrail phase tally → (zone : ℕ) → AreCounts (counts_of tally zone)
trail_counts phase tally trail zone = elim (cases_lt zone 8) [
  | inl within ↦ trail.counts zone within
  | inr past ↦ rw (get_or_past tally.zones zone no_counts (rw trail.eight_zones past)) (record { inits = omega arith; ctors = omega arith; dtors = omega arith; finis = omega arith })
]

pub trail_times : (phase : BodyPhase) (tally : Tally) → OnTrail phase tally → (hook : Hook) → times_of tally hook < 2 ^ 64
trail_times phase tally trail KegInit = let few = inits_few phase in omega (arith, trail.keg_inits)
trail_times phase tally trail (ZoneInit zone) = (trail_counts phase tally trail zone).inits
trail_times phase tally trail (Ctor zone) = (trail_counts phase tally trail zone).ctors
trail_times phase tally trail (Dtor zone) = (trail_counts phase tally trail zone).dtors
trail_times phase tally trail (ZoneFini zone) = (trail_counts phase tally trail zone).finis
trail_times phase tally trail KegFini = let few = finis_few phase in omega (arith, trail.keg_finis)

-- ---- ctors and dtors

pub both_show : (a b c d : ℕ) → ShowsSame a b → ShowsSame c d → ShowsSame (a + c) (b + d)
both_show a b c d first second =
    sym (mod-add-mod a (2 ^ 64) c) ∙ ap (λ m. (m + c) % 2 ^ 64) first ∙ mod-add-mod b (2 ^ 64) c
    ∙ sym (add-mod-mod b c (2 ^ 64)) ∙ ap (λ m. (b + m) % 2 ^ 64) second ∙ add-mod-mod b d (2 ^ 64)

-- what ctors of a zone exceed dtors by, for one item
record Exceeds {A : Type 0} (tally : A → Tally) (ticket : A → Ticket) (extra : ℕ → ℕ → ℕ) : Type 0 where
  each : (x : A) (other : ℕ) → other < 8 → ShowsSame (times_of (tally x) (Ctor other)) (times_of (tally x) (Dtor other) + extra (ticket_zone (ticket x)) other)

module _ {A : Type 0} (tally : A → Tally) (ticket : A → Ticket) (extra : ℕ → ℕ → ℕ) (exceeds : Exceeds tally ticket extra) (home : Home) (other : ℕ) (small : other < 8) where
  ctors : List A → ℕ
  ctors xs = sum_by (λ x. times_of (tally x) (Ctor other)) xs

  dtors : List A → ℕ
  dtors xs = sum_by (λ x. times_of (tally x) (Dtor other)) xs

  all_exceed : (xs : List A) → AreHome home (map ticket xs) → ShowsSame (ctors xs) (dtors xs + length xs * extra home.zone other)
  unfolding ctors dtors
  all_exceed [] homes = let none : 0 + 0 * extra home.zone other ≡ 0 = omega arith in ap (λ (n : ℕ). n % 2 ^ 64) (sym none)
  all_exceed (x ∷ xs) homes =
      let e = extra home.zone other in
      let zone : ticket_zone (ticket x) ≡ home.zone = (All-head (IsHome home) (ticket x) (map ticket xs) homes).1 in
      let here : ShowsSame (times_of (tally x) (Ctor other)) (times_of (tally x) (Dtor other) + e) =
      subst (λ (z : ℕ). ShowsSame (times_of (tally x) (Ctor other)) (times_of (tally x) (Dtor other) + extra z other)) zone (exceeds.each x other small) in
      let rest : ShowsSame (sum_by (λ x. times_of (tally x) (Ctor other)) xs) (sum_by (λ x. times_of (tally x) (Dtor other)) xs + length xs * e) = all_exceed xs (All-tail (IsHome home) (ticket x) (map ticket xs) homes) in
      let up : sum_by (λ x. times_of (tally x) (Ctor other)) (x ∷ xs) ≡ times_of (tally x) (Ctor other) + sum_by (λ x. times_of (tally x) (Ctor other)) xs = sum_by-cons (λ x. times_of (tally x) (Ctor other)) x xs in
      let down : sum_by (λ x. times_of (tally x) (Dtor other)) (x ∷ xs) ≡ times_of (tally x) (Dtor other) + sum_by (λ x. times_of (tally x) (Dtor other)) xs = sum_by-cons (λ x. times_of (tally x) (Dtor other)) x xs in
      let all = both_show _ _ _ _ here rest in
      let total : times_of (tally x) (Dtor other) + e + (sum_by (λ x. times_of (tally x) (Dtor other)) xs + length xs * e) ≡ sum_by (λ x. times_of (tally x) (Dtor other)) (x ∷ xs) + length (x ∷ xs) * e = omega (arith, down) in
      ap (λ (n : ℕ). n % 2 ^ 64) up ∙ all ∙ ap (λ (n : ℕ). n % 2 ^ 64) total

none_open : (b : Bool) (zone other : ℕ) → open_builds (cond b Kept (Zoned zone)) other ≡ 0
none_open true zone other = refl
none_open false zone other = refl

deferred_there : (b : Bool) (n : ℕ) → n * cond b 1 0 ≡ cond b n 0
deferred_there true n = omega arith
deferred_there false n = omega arith

module _ {T : Type 0} {g : _} where
  cached_exceed : Exceeds {A = Cached T g} (λ item. (g.life (cached_body item)).tally) cached_ticket (λ zone other. 0)
  cached_exceed =
      record {
        each = λ item other small.
            item.at.trail.builds other small
            ∙ ap (λ (n : ℕ). (times_of (g.life (cached_body item)).tally (Dtor other) + n) % 2 ^ 64) (none_open (cached_zone item == 0) (cached_zone item) other);
      }

  freed_exceed : Exceeds {A = Freed T g} freed_tally freed_ticket (λ zone other. cond (zone == other) 1 0)
  freed_exceed = record { each = λ item other small. item.live.at.trail.builds other small }

  pub cached_balance : (home : Home) (other : ℕ) → other < 8 → (items : List (Cached T g)) → AreHome home (map cached_ticket items) → ShowsSame (times_cached (Ctor other) items) (times_cached (Dtor other) items)
  unfolding ctors dtors
  cached_balance home other small items homes =
      all_exceed _ cached_ticket (λ zone other. 0) cached_exceed home other small items homes
      ∙ ap (λ (n : ℕ). n % 2 ^ 64) (let none : times_cached (Dtor other) items + length items * 0 ≡ times_cached (Dtor other) items = omega arith in none)

  pub freed_balance : (home : Home) (other : ℕ) → other < 8 → (items : List (Freed T g)) → AreHome home (map freed_ticket items) → ShowsSame (times_freed (Ctor other) items) (times_freed (Dtor other) items + cond (home.zone == other) (length items) 0)
  unfolding ctors dtors
  freed_balance home other small items homes =
      all_exceed freed_tally freed_ticket (λ zone other. cond (zone == other) 1 0) freed_exceed home other small items homes
      ∙ ap (λ (n : ℕ). (times_freed (Dtor other) items + n) % 2 ^ 64) (deferred_there (home.zone == other) (length items))
