-- What contracts see of a source over a reader, or a sink into a writer, of the standard library (own).
use Rattle.std.specs.Prelude.{ℕ}

pub record StdStream (T : Type 0) : Type 0 where
  -- the reader or the writer
  pub inner : T
  -- how many of its calls failed; the count stands still at `u64::MAX`
  pub faults : ℕ
