-- A word without `-` in front is no flag to clap: it names a command, or goes to the next place.
use Rattle.std.proofs.Common.{◌≡◌, ◌∙◌, ℕ, false, cond, List, [], ◌∷◌, None, refl, ap, ap₂}
use Rattle.std.specs.Option.{option_map_or}
use Rattle.std.specs.Str.{bytes_eq}
use Rattle.clap.specs.Words.{Rule, Shape, Text}
use Rattle.clap.specs.Faults.{other_fault, flag_word_fault, bundle_fault, step_fault, turn_fault, word_fault}
use Rattle.clap.specs.Kinds.{Kinds, or_else}
use Rattle.clap.specs.Lexer.{long_of, short_of}
use Rattle.clap.specs.Walk.{Held, Names, Step, Walk, after_step, arg_by_index, idle, long_or_other, short_or_plain, subcommand_met, subcommand_or_other, to_positional, trailing, value, walk_from, walked, word_met}
use Rattle.command_line.specs.Reading.{is_option}

-- the word is neither `--`, nor a long flag, nor a bundle of short ones
pub record IsPlain (word : Text) : Type 0 where
  pub no_end : bytes_eq word (45 ∷ 45 ∷ []) ≡ false
  pub no_long : long_of word ≡ None
  pub no_short : short_of word ≡ None

pub is_plain : (word : Text) → is_option word ≡ false → IsPlain word
is_plain [] plain = record { no_end = refl; no_long = refl; no_short = refl }
is_plain (byte ∷ more) plain = record { no_end = rw plain refl; no_long = rw plain refl; no_short = rw plain refl }

-- the walk before a word, where nothing waits
abbrev pub walk_at : Held → ℕ → Walk
walk_at h position = record (walk_from h) { position = position }

module _ (names : Names) (word : Text) (plain : IsPlain word) (unmet : subcommand_met names idle word ≡ None) where
  is_value : (c : List Rule) (h : Held) (position : ℕ) → word_met c names false idle position word h ≡ (h, value)
  is_value c h position =
      ap (λ met. subcommand_or_other c met idle position word h) unmet
      ∙ ap (λ is_end. cond is_end (h, trailing position) (long_or_other c idle word (long_of word) h)) plain.no_end
      ∙ ap (λ long. long_or_other c idle word long h) plain.no_long
      ∙ ap (λ short. short_or_plain c idle word short h) plain.no_short

  pub walked_to : (c : List Rule) (h : Held) (position : ℕ) → walked c names (walk_at h position) word ≡ to_positional c (arg_by_index c position) word (walk_at h position) h
  unfolding walked
  walked_to c h position = ap (λ (met : Held × Step). after_step c word (walk_at h position) met.0 met.1) (is_value c h position)

  no_fault : (s : Shape) (h : Held) → word_fault s names false idle word h ≡ []
  no_fault s h =
      ap (λ met. other_fault s met word h) unmet
      ∙ ap (λ is_end. cond is_end [] (flag_word_fault s.rules s.args_override_self (long_of word) word h)) plain.no_end
      ∙ ap (λ long. flag_word_fault s.rules s.args_override_self long word h) plain.no_long
      ∙ ap (λ short. option_map_or (λ flags. bundle_fault s.rules s.args_override_self flags h) short []) plain.no_short

  pub turn_at : (s : Shape) (h : Held) (position : ℕ) → turn_fault s names (walk_at h position) word ≡ step_fault s position h value
  turn_at s h position = ap₂ (λ (word : Kinds) (met : Held × Step). or_else word (step_fault s position met.0 met.1)) (no_fault s h) (is_value s.rules h position)
