-- When an advance may not be refused, and when a poll may not say no. Each follows from what a refusal, or a no, tells.
use Rattle.std.specs.Prelude.{◌≡◌, ℕ, ◌+◌, ◌-◌, ◌^◌, ◌<◌, ◌≤◌, ◌⊎◌, List, All}
use Rattle.smr_seq.specs.Reading.{low}
use Rattle.smr_core.specs.declared.turns.FoundWord.{FoundWord}
use Rattle.smr_clock.specs.declared.view.View.{View}
use Rattle.smr_clock.specs.declared.polls.AdvanceRefused.{AdvanceRefused}
use Rattle.smr_clock.specs.declared.polls.AdvanceRefused.TheVariants.{TooFar, Spent}
use Rattle.smr_clock.specs.Advances.{AdvanceIsRefused}
use Rattle.smr_clock.specs.Polls.{SaysNo}

-- the write sequence that the refused advance loaded
abbrev pub write_loaded : AdvanceRefused → ℕ
write_loaded (Spent write) = write
write_loaded (TooFar read write) = write

-- No advance is refused where two more than the write sequence that it loads is in range, and above what the pass knew of the read sequence by at most the window.
abbrev pub AdvancesWithRoom : Type 0 → Type 0
AdvancesWithRoom P =
    (v v' : View P) (refused : AdvanceRefused) → AdvanceIsRefused v refused v'
    → write_loaded refused + 2 < 2 ^ 63 → write_loaded refused + 2 - v.holder.floor ≤ v.setup.config.window → ⊥

-- No poll says no of a goal that its note knew to be expired, and that is less than 2^31 below the write sequence that the poll loads.
abbrev pub SaysYesOfKnown : Type 0 → Type 0
SaysYesOfKnown P =
    (v v' : View P) (goal : ℕ) → goal ≤ v.holder.seen → SaysNo v (low goal) v' → v'.memory.last.write - goal < 2 ^ 31 → goal ≤ v.holder.floor → ⊥

-- no word is that of an enter
abbrev pub NoneEntered : List FoundWord → Type 0
NoneEntered found = All (λ f. f.word ≡ 0) found

-- No poll says no that found no word of an enter, and whose exchange moved the read sequence to its least mark, or found it at the write sequence that the poll had loaded.
abbrev pub SaysYesOfNoSection : Type 0 → Type 0
SaysYesOfNoSection P =
    (v v' : View P) (tag : ℕ) → SaysNo v tag v' → NoneEntered v'.memory.last.found
    → (v'.memory.last.value ≡ v'.memory.last.least) ⊎ (v'.memory.last.value ≡ v'.memory.last.write) → ⊥

-- all of these
pub record RefusalsHaveTheirCause (P : Type 0) : Type 0 where
  pub advances : AdvancesWithRoom P
  pub known : SaysYesOfKnown P
  pub no_section : SaysYesOfNoSection P
