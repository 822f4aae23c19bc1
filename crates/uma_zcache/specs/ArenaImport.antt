-- Own: what contracts see of an importer of ranges.
use Rattle.std.specs.Prelude.{◌≡◌, ◌<◌, ◌⊎◌, ◌^◌, ℕ, List, []}
use Rattle.std.specs.Int.{next_multiple_of}
use Rattle.vmem_arena.specs.Tags.{Tags, greatest_free}
use Rattle.vmem_arena.specs.TakenBases.{taken_bases}
use Rattle.uma_zcache.specs.declared.import.ArenaImport.{ArenaImport}

-- its arena, and the size of the ranges that it takes
abbrev pub import_tags : ArenaImport → Tags
import_tags import = import.arena

abbrev pub import_size : ArenaImport → ℕ
import_size import = import.size

-- the bases that are outside: those of the taken ranges
abbrev pub import_outside : ArenaImport → List ℕ
import_outside import = taken_bases (import_tags import).ranges

-- it gives none where no free range is as large as its size, rounded up to the quantum
abbrev pub LacksRange : ArenaImport → ℕ → ℕ → Type 0
LacksRange import size greatest =
    (size ≡ next_multiple_of (import_size import) (import_tags import).quantum) × (greatest ≡ greatest_free (import_tags import).ranges) × (greatest < size)

-- no importer takes ranges of this size
abbrev pub HasNoSize : ℕ → Type 0
HasNoSize size = (size ≡ 0) ⊎ (2 ^ 62 < size)

-- it takes ranges of this size of this arena, and has taken none
pub record IsNewImport (tags : Tags) (quantity : ℕ) (import : ArenaImport) : Type 0 where
  pub arena : import_tags import ≡ tags
  pub size : import_size import ≡ quantity
  pub outside : import_outside import ≡ []
