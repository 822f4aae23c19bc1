-- How an arena is kept: its ranges in order of base, the free ones of them in order of size too, and a spare node for each
-- taken one.
use Rattle.std.specs.Prelude.{◌≡◌, ℕ, ◌≤◌, Bool, not, ◌&&◌, List, vec_len}
use Rattle.vmem_arena.specs.declared.arena.Arena.TheInside.{Inside}
use Rattle.vmem_arena.specs.declared.free.Fit.{Fit}
use Rattle.vmem_arena.specs.declared.free.Range.{Range}
use Rattle.vmem_arena.specs.Fits.{passing}
use Rattle.vmem_arena.specs.Tags.{Tags, free_total}
use Rattle.vmem_arena.specs.TagsLaw.{TagsLaw}

abbrev pub tags_of : Inside → Tags
tags_of a = record { quantum = a.quantum; ranges = a.by_base }

abbrev pub fit_of : Range → Fit
fit_of r = record { size = r.size; base = r.base }

-- how many of the free ranges pass a test by size and base
abbrev pub free_passing : (Fit → Bool) → List Range → ℕ
free_passing test ranges = passing (λ r. not r.taken && test (fit_of r)) ranges

abbrev pub taken_count : List Range → ℕ
taken_count ranges = passing (λ r. r.taken) ranges

pub record IsKept (a : Inside) : Type 0 where
  pub law : TagsLaw (tags_of a)
  pub free : (test : Fit → Bool) → passing test a.free.by_size ≡ free_passing test a.by_base
  pub spares : taken_count a.by_base ≤ vec_len a.free.spares
  pub total : a.free_total ≡ free_total a.by_base
