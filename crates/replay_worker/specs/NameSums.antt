-- How often the entries of the names passed each hook (own).
use Rattle.std.specs.Prelude.{◌≤◌, ◌<◌, ◌+◌, ◌==◌, ℕ, cond}
use Rattle.uma_life.specs.Hook.{Ctor, Dtor}
use Rattle.uma_life.specs.Sum.{sum_of}
use Rattle.uma_life.specs.Trail.{ShowsSame}
use Rattle.uma_bucket.specs.declared.shelved.Sums.{Sums}

-- In the zone of entries, the first of its keg, ctors exceed dtors by the deferred entries and so many linked ones; in each other zone they are equal. The counts of items wrap, so this is modulo 2^64.
abbrev pub BalanceLinked : ℕ → Sums → Type 0
BalanceLinked linked sums =
    (zone : ℕ) → zone < 8 → ShowsSame (sum_of sums.tally (Ctor zone)) (sum_of sums.tally (Dtor zone) + cond (0 == zone) (sums.deferred + linked) 0)

-- the sums of what the domains list and the rows link, at most one entry a row
pub record HasLinked (rows : ℕ) (sums : Sums) : Type 0 where
  pub linked : ℕ
  pub few : linked ≤ rows
  pub balance : BalanceLinked linked sums
