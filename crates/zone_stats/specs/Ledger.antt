-- The law of a seat's ledger (own).
use Rattle.std.specs.Prelude.{◌≡◌, ℕ, ◌+◌, ◌<◌, ◌≤◌, Bool, true, false, Option, IsTrue, IsSome, ◌↔◌, not}
use Rattle.std.specs.Option.{ForSome}
use Rattle.zone_stats.specs.declared.refusal.Refusal.{Refusal}
use Rattle.zone_stats.specs.declared.refusal.Refusal.TheVariants.{Ctor}

-- the refusal came of the zone's `ctor`, after the item had been taken
abbrev pub is_ctor : Refusal → Bool
is_ctor (Ctor code) = true
is_ctor _ = false

-- what holds of every ledger
pub record LedgerLaw (requests allocs fails turned frees cross : ℕ) (last : Option Refusal) : Type 0 where
  -- each request got an item or failed
  pub answered : requests ≡ allocs + fails
  -- those turned away are among the fails
  pub turned_failed : turned ≤ fails
  -- those of another domain are among the frees
  pub crossed : cross ≤ frees
  -- a refusal is kept exactly where a request failed
  pub kept : IsSome last ↔ (0 < fails)
  -- a kept refusal of `ctor` is a fail that wasn't turned away
  pub kept_ctor : ForSome last (λ refusal. IsTrue (is_ctor refusal) → turned < fails)
  -- any other kept refusal turned a request away
  pub kept_turned : ForSome last (λ refusal. IsTrue (not (is_ctor refusal)) → 0 < turned)
