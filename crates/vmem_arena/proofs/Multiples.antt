-- Multiples of the quantum.
use Rattle.std.proofs.Math.Nat.{add-mod, mod-mod, zero-mod}
use Rattle.std.proofs.Common.{◌≡◌, ℕ, ◌+◌, ◌-◌, ◌%◌, ◌≤◌, ap, sym, ◌∙◌, arith}

pub mod-add : (q a b : ℕ) → a % q ≡ 0 → b % q ≡ 0 → (a + b) % q ≡ 0
mod-add q a b h g = add-mod a b q ∙ rw (h, g) (zero-mod q)

pub mod-sub : (q a b : ℕ) → a % q ≡ 0 → b % q ≡ 0 → b ≤ a → (a - b) % q ≡ 0
mod-sub q a b h g l =
    let whole : (a - b) + b ≡ a = omega arith in
    let e : a % q ≡ ((a - b) % q + b % q) % q = ap (λ n. n % q) (sym whole) ∙ add-mod (a - b) b q in
    let f = rw (g, h) at e in
    let k : 0 ≡ (a - b) % q % q = f ∙ ap (λ n. n % q) (let z : (a - b) % q + 0 ≡ (a - b) % q = omega arith in z) in
    sym (k ∙ mod-mod (a - b) q)
