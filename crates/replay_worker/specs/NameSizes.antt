-- The sizes of who keeps the names of a trace (own).
use Rattle.std.specs.Prelude.{ℕ}
use Rattle.trace_text.specs.declared.trace.Head.{Head}
use Rattle.trace_text.specs.declared.trace.NamesHead.{NamesHead}

-- its rows, the slabs that its zone of entries may have, the items of a bucket, and its memory domains
pub record NameSizes : Type 0 where
  pub rows : ℕ
  pub slabs : ℕ
  pub bucket : ℕ
  pub domains : ℕ

-- those of a trace with this names line
abbrev pub sizes_for : Head → NamesHead → NameSizes
sizes_for head line = record { rows = line.rows; slabs = line.slabs; bucket = line.bucket; domains = head.domains }
