-- A list with one base more, or one less, wherever that stands in it.
use Rattle.std.proofs.Common.{◌≡◌, ◌≢◌, ◌+◌, ◌==◌, ℕ, suc, cond, List, [], ◌∷◌, ◌++◌, All, refl, sym, ap, ◌∙◌, inl, inr, arith, eq-eqb}
use Rattle.std.specs.Prelude.{Contains}
use Rattle.std.proofs.lemmas.Bool.Decides.{eqb_tells}
use Rattle.std.proofs.lemmas.List.Sums.{sum_by-append}
use Rattle.vmem_arena.specs.TakenBases.{HasOneMore}
use Rattle.uma_zcache.specs.Bases.{times, Has, Gains, Loses}
use Rattle.uma_zcache.proofs.Counts.{one_yes, one_no, times_cons}

times_append : (b : ℕ) (xs ys : List ℕ) → times b (xs ++ ys) ≡ times b xs + times b ys
times_append b xs ys = sum_by-append (λ x. cond (x == b) 1 0) xs ys

one_more : (without with_it : List ℕ) (base b : ℕ) → HasOneMore without base with_it → times b with_it ≡ times b (base ∷ without)
one_more without with_it base b more =
    let here : times b with_it ≡ times b more.lower + times b (base ∷ more.higher) = ap (times b) more.more ∙ times_append b more.lower (base ∷ more.higher) in
    let there : times b without ≡ times b more.lower + times b more.higher = ap (times b) more.fewer ∙ times_append b more.lower more.higher in
    omega (arith, here, there, times_cons b base more.higher, times_cons b base without)

none_there : (base : ℕ) (xs : List ℕ) → All (λ other. other ≢ base) xs → times base xs ≡ 0
none_there base [] all = refl
none_there base (x ∷ xs) all =
    let first : x ≢ base = all 0 x (omega arith) in
    let rest : times base xs ≡ 0 = none_there base xs (λ i d below. all (suc i) d (omega (arith, below))) in
    elim (eqb_tells x base) [
      | inl (is, same) ↦ absurd (first same)
      | inr (is, other) ↦ omega (arith, times_cons base x xs, one_no (x == base) is, rest)
    ]

pub gains : (old new : List ℕ) (base : ℕ) → HasOneMore old base new → Gains old base new
gains old new base more = record { was_not = none_there base old more.new; each = λ b. one_more old new base b more }

pub loses : (old new : List ℕ) (base : ℕ) → HasOneMore new base old → Loses old base new
loses old new base more = record {
  was = omega (arith, one_more new old base base more, times_cons base base new, one_yes (base == base) (eq-eqb base base refl));
  each = λ b. sym (one_more new old base b more);
}

-- what is in a list has a place in it
pub contains : (xs : List ℕ) (base : ℕ) → Has xs base → Contains xs base
contains [] base has = absurd (omega (arith, has))
contains (x ∷ xs) base has =
    elim (eqb_tells x base) [
      | inl (is, same) ↦ (0, omega arith, same)
      | inr (is, other) ↦
          let rest : Has xs base = omega (arith, has, times_cons base x xs, one_no (x == base) is) in
          let there = contains xs base rest in
          (suc there.0, omega (arith, there.1), there.2)
    ]
