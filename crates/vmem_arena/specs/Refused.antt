-- Why an arena's calls are refused. A test that stands first is answered first; memory is wanting only where all tests pass.
use Rattle.std.specs.Prelude.{◌≡◌, ℕ, ◌^◌, ◌<◌, ◌≤◌}
use Rattle.std.specs.Int.{next_multiple_of}
use Rattle.vmem_arena.specs.declared.free.Span.{Span}
use Rattle.vmem_arena.specs.declared.arena.AddRefused.{AddRefused}
use Rattle.vmem_arena.specs.declared.arena.AddRefused.TheVariants as add
use Rattle.vmem_arena.specs.declared.arena.ArenaRefused.{ArenaRefused}
use Rattle.vmem_arena.specs.declared.arena.ArenaRefused.TheVariants as arena
use Rattle.vmem_arena.specs.declared.arena.TakeRefused.{TakeRefused}
use Rattle.vmem_arena.specs.declared.arena.TakeRefused.TheVariants as take
use Rattle.vmem_arena.specs.Tags.{Tags, greatest_free}
use Rattle.vmem_arena.specs.TagsLaw.{IsQuantum}
use Rattle.vmem_arena.specs.Add.{IsSpanShape, IsFirstMet, MeetsNone}

-- no arena has this quantum, or memory is wanting
abbrev pub IsArenaRefusedFor : ℕ → ArenaRefused → Type 0
IsArenaRefusedFor q (arena.Quantum refused) = (refused ≡ q) × (IsQuantum q → ⊥)
IsArenaRefusedFor q arena.Memory = IsQuantum q

-- a span that can be added: it has the shape of one, and meets none
pub record IsAddable (t : Tags) (span : Span) : Type 0 where
  pub shape : IsSpanShape t.quantum span
  pub apart : MeetsNone span t.ranges

-- the span has a shape that no span has, or else it meets one, or memory is wanting
abbrev pub IsAddRefusedFor : Tags → Span → AddRefused → Type 0
IsAddRefusedFor t span (add.Shape base size) = (record { base = base; size = size } ≡ span) × (IsSpanShape t.quantum span → ⊥)
IsAddRefusedFor t span (add.Overlap base size) = IsSpanShape t.quantum span × IsFirstMet t.ranges span (record { base = base; size = size })
IsAddRefusedFor t span add.Memory = IsAddable t span

-- a size that can be asked for
pub record IsTakeSize (size : ℕ) : Type 0 where
  pub some : 0 < size
  pub most : size ≤ 2 ^ 62

-- some free range holds the size, rounded up to the quantum
abbrev pub SomeFit : Tags → ℕ → Type 0
SomeFit t size = next_multiple_of size t.quantum ≤ greatest_free t.ranges

-- the size can't be asked for, or else no free range is as large, or memory is wanting
abbrev pub IsTakeRefusedFor : Tags → ℕ → TakeRefused → Type 0
IsTakeRefusedFor t size (take.Size refused) = (refused ≡ size) × (IsTakeSize size → ⊥)
IsTakeRefusedFor t size (take.NoFit rounded greatest) =
    IsTakeSize size × (rounded ≡ next_multiple_of size t.quantum) × (greatest ≡ greatest_free t.ranges) × (greatest < rounded)
IsTakeRefusedFor t size take.Memory = IsTakeSize size × SomeFit t size
