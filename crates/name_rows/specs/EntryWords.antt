-- When an entry has words, and which.
use Rattle.std.specs.Prelude.{ℕ, Bool, true, false, Option, Some, None}
use Rattle.uma_life.specs.declared.tally.BodyPhase.{BodyPhase}
use Rattle.uma_life.specs.declared.tally.BodyPhase.TheVariants.{Raw, Kept, Zoned, Built, Gone}
use Rattle.name_rows.specs.declared.words.Words.{Words}

-- the number of the entry whose words they are
abbrev pub words_no : ℕ → Option Words → ℕ
words_no number None = number
words_no number (Some w) = w.kept.entry

-- an entry may be without words before its first hook, and after its last
abbrev pub may_lack_words : BodyPhase → Bool
may_lack_words Raw = true
may_lack_words Kept = false
may_lack_words (Zoned zone) = false
may_lack_words (Built zone) = false
may_lack_words Gone = true

abbrev pub is_worded : BodyPhase → Option Words → Bool
is_worded phase None = may_lack_words phase
is_worded phase (Some w) = true
