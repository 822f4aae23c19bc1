-- What clap is told of the words: four commands, two with three words behind them, and nothing that clap adds (own).
use Rattle.std.specs.Prelude.{true, codes}
use Rattle.clap.specs.Words.{App, Rule, Shape, Text, new_app, new_rule, with_rule, with_subcommand}
use Rattle.clap.specs.Simple.{new_shape, on_top}

-- a word that has to be there
abbrev pub positional : Text → Rule
positional id = record (new_rule id) { required = true }

-- a command with SEED, WORKERS and OPS
abbrev pub numbered : Text → Shape
numbered name = (with_rule (with_rule (with_rule (new_app name) (positional (codes "seed"))) (positional (codes "workers"))) (positional (codes "ops"))).top

-- the program, whose words begin behind its name, without flags or a command for help
abbrev pub bare : App
bare = on_top (λ s. record s {
  no_binary_name = true;
  disable_help_flag = true;
  disable_help_subcommand = true;
  subcommand_required = true;
}) (new_app (codes "umarun"))

abbrev pub grammar : App
grammar = with_subcommand (with_subcommand (with_subcommand (with_subcommand bare (new_shape (codes "replay"))) (new_shape (codes "steps"))) (numbered (codes "gen"))) (numbered (codes "bulk"))
