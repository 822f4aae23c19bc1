-- The tests of a line look only at the slots and workers that it names, and these are in range where the line was read.
use Rattle.std.proofs.Common.{◌≡◌, ℕ, Bool, List, refl}
use Rattle.trace_text.specs.declared.trace.ZoneHead.{ZoneHead}
use Rattle.trace_text.specs.declared.trace_reading.parsed_line.ParsedLine.{ParsedLine}
use Rattle.trace_text.specs.Grammar.{conflict, finds_filled, finds_empty, finds_open, finds_closed, finds_away, finds_there}

-- two readings of the slots and workers agree on those that a line names
pub record AgreeOn (s : ParsedLine) (a b : ℕ → ℕ → Bool) (p q u v : ℕ → Bool) : Type 0 where
  pub filled : finds_filled a s ≡ finds_filled b s
  pub empty : finds_empty a s ≡ finds_empty b s
  pub opened : finds_open p s ≡ finds_open q s
  pub closed : finds_closed p s ≡ finds_closed q s
  pub away : finds_away u s ≡ finds_away v s
  pub there : finds_there u s ≡ finds_there v s

pub same_conflict : (c n : Bool) (zones : List ZoneHead) (a b : ℕ → ℕ → Bool) (p q u v : ℕ → Bool) (s : ParsedLine) → AgreeOn s a b p q u v → conflict c n zones a p u s ≡ conflict c n zones b q v s
same_conflict c n zones a b p q u v s same = rw (same.filled, same.empty, same.opened, same.closed, same.away, same.there) refl
