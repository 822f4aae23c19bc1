-- Own: what contracts see of a reader and of its section.
use Rattle.std.specs.Prelude.{◌≡◌, ℕ}
use Rattle.smr_core.specs.ClockState.{IsInSection}
use Rattle.smr_clock.specs.Belongs.{clock_id, holder}
use Rattle.uma.specs.declared.pool.Pool.{Pool}
use Rattle.uma.specs.declared.reader.Reader.{Reader}
use Rattle.uma.specs.declared.reader.Section.{Section}

-- The reader is in a section with its mark: the write sequence as it was entered.
abbrev pub IsOpen : Section → Type 0
IsOpen section = (mark : ℕ) × IsInSection (holder section.reader.now.pass) mark

module _ {T K : Type 0} {g k : _} where
  -- the reader is one of this pool
  abbrev pub IsReaderOf : Pool T K g k → Reader → Type 0
  IsReaderOf pool reader = clock_id reader.clock.now ≡ clock_id pool.clock
