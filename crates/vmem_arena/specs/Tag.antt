-- What is kept at a base, as a range.
use Rattle.std.specs.Prelude.{ℕ, List, map}
use Rattle.vmem_arena.specs.declared.free.Range.{Range}
use Rattle.vmem_arena.specs.declared.free.Tag.{Tag}

abbrev pub range_of : ℕ × Tag → Range
range_of e = record { base = e.0; size = e.1.size; taken = e.1.taken; span = e.1.span }

abbrev pub ranges_of : List (ℕ × Tag) → List Range
ranges_of es = map range_of es
