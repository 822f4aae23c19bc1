-- What the lines of names count of a worker (own).
use Rattle.std.specs.Prelude.{◌≡◌, ◌+◌, ◌<◌, ◌^◌, ℕ, Bool, true, false, Option, Some, None}
use Rattle.replay_worker.specs.declared.name_work.NameCounts.{NameCounts}

abbrev pub no_counts : NameCounts
no_counts = record { hits = 0; misses = 0; late = 0; binds = 0; unbound = 0; refused = 0 }

-- each can be one more
pub record CountsFew (counts : NameCounts) : Type 0 where
  pub hits : counts.hits < 2 ^ 62
  pub misses : counts.misses < 2 ^ 62
  pub late : counts.late < 2 ^ 62
  pub binds : counts.binds < 2 ^ 62
  pub unbound : counts.unbound < 2 ^ 62
  pub refused : counts.refused < 2 ^ 62

-- a bind more, or a refused one
abbrev pub CountsBind : Bool → NameCounts → NameCounts → Type 0
CountsBind true old new = new ≡ record old { binds = old.binds + 1 }
CountsBind false old new = new ≡ record old { refused = old.refused + 1 }

-- where it took the key out, an unbind more
abbrev pub CountsUnbind : Bool → NameCounts → NameCounts → Type 0
CountsUnbind true old new = new ≡ record old { unbound = old.unbound + 1 }
CountsUnbind false old new = new ≡ old

-- a hit more, or a miss
abbrev pub CountsAnswer : Option ℕ → NameCounts → NameCounts → Type 0
CountsAnswer (Some value) old new = new ≡ record old { hits = old.hits + 1 }
CountsAnswer None old new = new ≡ record old { misses = old.misses + 1 }

-- a late look more
abbrev pub CountsLate : NameCounts → NameCounts → Type 0
CountsLate old new = new ≡ record old { late = old.late + 1 }
