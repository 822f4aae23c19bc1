-- Own: the sums of what buckets hold, and how they agree with the items' lives.
use Rattle.std.specs.Prelude.{◌≡◌, ◌+◌, ◌*◌, ◌^◌, ◌<◌, ◌≤◌, ◌==◌, ℕ, cond, List, Vec, vec_len}
use Rattle.std.specs.declared.alloc.Global.{Global}
use Rattle.std.specs.List.{sum_by}
use Rattle.uma_life.specs.declared.states.Cached.{Cached}
use Rattle.uma_life.specs.declared.states.Outside.{Outside}
use Rattle.uma_life.specs.declared.states.Ticket.{Ticket}
use Rattle.uma_life.specs.Cached.{cached_body}
use Rattle.uma_life.specs.Hook.{Hook, Ctor, Dtor}
use Rattle.uma_life.specs.Sum.{times_of, sum_of, no_sums}
use Rattle.uma_life.specs.Trail.{ShowsSame}
use Rattle.uma_bucket.specs.declared.freed.Freed.{Freed}
use Rattle.uma_bucket.specs.declared.shelved.Sums.{Sums}
use Rattle.uma_bucket.specs.Freed.{freed_tally}
use Rattle.uma_bucket.specs.Home.{Home, AreHome}

-- the sums of no item
abbrev pub nothing_held : Sums
nothing_held = record { tally = no_sums; deferred = 0 }

-- how often cached items passed a hook
abbrev pub times_cached : {T : Type 0} {g : _} → Hook → List (Cached T g) → ℕ
times_cached {g = g} hook items = sum_by (λ item. times_of (g.life (cached_body item)).tally hook) items

-- how often freed items passed a hook
abbrev pub times_freed : {T : Type 0} {g : _} → Hook → List (Freed T g) → ℕ
times_freed hook items = sum_by (λ item. times_of (freed_tally item) hook) items

-- The sums after those of items that passed each hook so often were added, so many of them deferred.
pub record Adds (times : Hook → ℕ) (deferred : ℕ) (was is : Sums) : Type 0 where
  pub tally : (hook : Hook) → sum_of is.tally hook ≡ sum_of was.tally hook + times hook
  pub deferred_too : is.deferred ≡ was.deferred + deferred

-- what the sums of at most so many items can be
pub record AreOfAtMost (count : ℕ) (sums : Sums) : Type 0 where
  pub tally : (hook : Hook) → sum_of sums.tally hook ≤ count * 2 ^ 64
  pub deferred : sums.deferred ≤ count

-- The sums of items of one zone: there the ctors exceed the dtors by the deferred items, and in each other zone they are equal. The counts of items wrap, so this is modulo 2^64.
abbrev pub Balance : ℕ → Sums → Type 0
Balance zone sums =
    (other : ℕ) → other < 8 → ShowsSame (sum_of sums.tally (Ctor other)) (sum_of sums.tally (Dtor other) + cond (zone == other) sums.deferred 0)

-- ---- what calls answer

-- the sums of no item are those of any count of items, and of any zone
pub record IsNothing (sums : Sums) : Type 0 where
  pub none : sums ≡ nothing_held
  pub few : (count : ℕ) → AreOfAtMost count sums
  pub balance : (zone : ℕ) → Balance zone sums

-- The sums of other items were added.
pub record Joins (was others is : Sums) : Type 0 where
  pub adds : Adds (sum_of others.tally) others.deferred was is
  pub few : (count more : ℕ) → AreOfAtMost count was → AreOfAtMost more others → AreOfAtMost (count + more) is
  pub balance : (zone : ℕ) → Balance zone was → Balance zone others → Balance zone is

-- So many items with these tickets were added, which passed each hook so often, so many of them deferred.
pub record AddsItems (times : Hook → ℕ) (deferred items : ℕ) (tickets : List Ticket) (was is : Sums) : Type 0 where
  pub adds : Adds times deferred was is
  pub few : (count : ℕ) → AreOfAtMost count was → AreOfAtMost (count + items) is
  pub balance : (home : Home) → AreHome home tickets → Balance home.zone was → Balance home.zone is

-- the items that lie in a room may be added: they are few
pub record MayAdd {T : Type 0} {g : _} (sums : Sums) (items : Vec (Outside T g) Global) : Type 0 where
  pub room : AreOfAtMost (2 ^ 62) sums
  pub few : vec_len items ≤ 64
