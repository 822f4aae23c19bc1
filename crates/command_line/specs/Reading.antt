-- How a list of words is read (own).
use Rattle.std.specs.Prelude.{List, [], ◌∷◌, ◌==◌, ℕ, Bool, false, Option, Some}
use Rattle.clap.specs.declared.error.kind.ErrorKind.{ErrorKind}
use Rattle.clap.specs.declared.error.kind.ErrorKind.TheVariants as kind
use Rattle.command_line.specs.Commands.{command_named, command_numbered}
use Rattle.command_line.specs.declared.command.Command.{Command}
use Rattle.command_line.specs.declared.refused.WordsRefused.{WordsRefused}
use Rattle.command_line.specs.declared.refused.WordsRefused.TheVariants.{Usage, Memory}

-- the word begins with `-` (45)
abbrev pub is_option : List ℕ → Bool
is_option [] = false
is_option (byte ∷ more) = byte == 45

-- what clap's refusal is here: memory was wanting, or the words are no command
abbrev pub words_refused : ErrorKind → WordsRefused
words_refused kind.OutOfMemory = Memory
words_refused _ = Usage

-- the command of a name with the words SEED, WORKERS and OPS, where they are there
abbrev pub command_met : List ℕ → Option (List ℕ) → Option (List ℕ) → Option (List ℕ) → Option Command
command_met name (Some seed) (Some workers) (Some ops) = command_numbered name seed workers ops
command_met name _ _ _ = command_named name
