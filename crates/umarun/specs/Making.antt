-- What the command `gen` writes (own).
use Rattle.std.specs.Prelude.{ℕ, List}
use Rattle.trace_text.specs.Limits.{IsWithin}
use Rattle.trace_gen.specs.Header.{made_trace}
use Rattle.trace_print.specs.CanonicalText.{canonical_text}

-- the canonical text of the trace that these numbers give
unfoldable pub made_text : ℕ → ℕ → ℕ → List ℕ
made_text seed workers ops = canonical_text (made_trace seed workers ops)

-- numbers of which a trace can be made
pub record MayMake (workers ops : ℕ) : Type 0 where
  pub few_workers : IsWithin 1 16 workers
  pub few_ops : IsWithin 1 50000 ops
