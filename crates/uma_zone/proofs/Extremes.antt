-- The least and the greatest count since a trim.
use Rattle.std.proofs.Common.{◌≡◌, ◌≤◌, ℕ, min, max, List, [], ◌∷◌, ◌++◌, fold, inl, inr, refl, sym, subst, arith}
use Rattle.std.specs.List.{Contains}
use Rattle.std.proofs.lemmas.Bool.{cases_lt}
use Rattle.std.proofs.lemmas.List.{append-nil, append_assoc}
use Rattle.std.proofs.lemmas.List.Elements.{All-weaker, All-push, All-nil, Contains-append_left, Contains-push, All-contains}
use Rattle.smr_clock.specs.declared.host.Host.{Ghosts as HostGhosts}
use Rattle.uma_life.specs.declared.hooks.Body.{Ghosts}
use Rattle.uma_domain.specs.declared.lists.Working.{Working}
use Rattle.uma_domain.specs.Working.{after, begun}
use Rattle.uma_zone.specs.WorkingLaw.{Move, counts_after, counted, since_trim, IsLeast, IsGreatest, TellsExtremes, IsFarthest, CountsMoves}

least_more : (n m : ℕ) (ns : List ℕ) → IsLeast n ns → IsLeast (min n m) (ns ++ m ∷ [])
least_more n m ns was = elim (cases_lt n m) [
  | inl less ↦
      let is : min n m ≡ n = omega (arith, less) in
      record {
        one = subst (λ (k : ℕ). Contains (ns ++ m ∷ []) k) (sym is) (Contains-append_left ns (m ∷ []) n was.one);
        below = All-push (λ k. min n m ≤ k) ns m (All-weaker (λ k. n ≤ k) (λ k. min n m ≤ k) (λ k le. omega (arith, is, le)) ns was.below) (omega (arith, is, less));
      }
  | inr more ↦
      let is : min n m ≡ m = omega (arith, more) in
      record {
        one = subst (λ (k : ℕ). Contains (ns ++ m ∷ []) k) (sym is) (Contains-push ns m);
        below = All-push (λ k. min n m ≤ k) ns m (All-weaker (λ k. n ≤ k) (λ k. min n m ≤ k) (λ k le. omega (arith, is, more, le)) ns was.below) (omega (arith, is));
      }
]

greatest_more : (n m : ℕ) (ns : List ℕ) → IsGreatest n ns → IsGreatest (max n m) (ns ++ m ∷ [])
greatest_more n m ns was = elim (cases_lt n m) [
  | inl less ↦
      let is : max n m ≡ m = omega (arith, less) in
      record {
        one = subst (λ (k : ℕ). Contains (ns ++ m ∷ []) k) (sym is) (Contains-push ns m);
        above = All-push (λ k. k ≤ max n m) ns m (All-weaker (λ k. k ≤ n) (λ k. k ≤ max n m) (λ k le. omega (arith, is, less, le)) ns was.above) (omega (arith, is));
      }
  | inr more ↦
      let is : max n m ≡ n = omega (arith, more) in
      record {
        one = subst (λ (k : ℕ). Contains (ns ++ m ∷ []) k) (sym is) (Contains-append_left ns (m ∷ []) n was.one);
        above = All-push (λ k. k ≤ max n m) ns m (All-weaker (λ k. k ≤ n) (λ k. k ≤ max n m) (λ k le. omega (arith, is, le)) ns was.above) (omega (arith, is, more));
      }
]

extremes_of : (working : Working) (counts seen : List ℕ) → IsLeast working.least seen → IsGreatest working.greatest seen
    → IsLeast (fold after working counts).least (seen ++ counts) × IsGreatest (fold after working counts).greatest (seen ++ counts)
extremes_of working [] seen least greatest = (subst (IsLeast working.least) (sym (append-nil seen)) least, subst (IsGreatest working.greatest) (sym (append-nil seen)) greatest)
extremes_of working (count ∷ counts) seen least greatest =
    let rest = extremes_of (after working count) counts (seen ++ count ∷ []) (least_more working.least count seen least) (greatest_more working.greatest count seen greatest) in
    let same : (seen ++ count ∷ []) ++ counts ≡ seen ++ count ∷ counts = append_assoc seen (count ∷ []) counts in
    (subst (IsLeast (fold after (after working count) counts).least) same rest.0, subst (IsGreatest (fold after (after working count) counts).greatest) same rest.1)

-- what is counted over moves depends on how many were listed after each alone
counts_alone : (working : Working) (moves : List Move) → fold counted working moves ≡ fold after working (counts_after working.count moves)
counts_alone working [] = refl
counts_alone working (move ∷ moves) = counts_alone (counted working move) moves

pub tells_extremes : TellsExtremes
tells_extremes start moves =
    let here : Contains (start ∷ []) start = Contains-push [] start in
    let low = All-push (λ k. start ≤ k) [] start (All-nil (λ k. start ≤ k)) (omega arith) in
    let high = All-push (λ k. k ≤ start) [] start (All-nil (λ k. k ≤ start)) (omega arith) in
    let counts = counts_after start moves in
    let both = extremes_of (begun start) counts (start ∷ []) (record { one = here; below = low }) (record { one = here; above = high }) in
    subst (λ (w : Working). IsLeast w.least (start ∷ counts) × IsGreatest w.greatest (start ∷ counts)) (sym (counts_alone (begun start) moves)) both

pub is_farthest : IsFarthest
is_farthest start moves one other of_one of_other =
    let both = tells_extremes start moves in
    let all = start ∷ counts_after start moves in
    let low = All-contains (λ k. (since_trim start moves).least ≤ k) all other both.0.below of_other in
    let high = All-contains (λ k. k ≤ (since_trim start moves).greatest) all one both.1.above of_one in
    omega (arith, low, high)

pub counts_moves : {T H P : Type 0} {g : Ghosts T} {h : HostGhosts H P} → CountsMoves T H P g h
counts_moves = record {
  puts_plain = λ domain bucket put. put.counted;
  puts_loose = λ domain bucket put. put.counted;
  puts_sealed = λ domain bucket put. put.counted;
  takes_plain = λ domain bucket take. take.counted;
  takes_ripe = λ domain ripe take. take.counted;
}
