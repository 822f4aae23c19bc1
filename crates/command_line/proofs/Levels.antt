-- What clap makes of the first word: it names a command, which has the words behind it, or it is refused.
use Rattle.std.proofs.Common.{◌≡◌, ◌∙◌, false, List, [], ◌∷◌, Option, Some, None, refl, sym, ap, ap₂}
use Rattle.std.specs.Prelude.{find, fold, is_some, option_map}
use Rattle.std.specs.Option.{option_map_or}
use Rattle.clap.proofs.FaultLemmas.{stopped_fault}
use Rattle.clap.proofs.OnLiterals.{clap_on_literals}
use Rattle.clap.proofs.WalkLemmas.{walk_stopped}
use Rattle.clap.specs.Faults.{entered_fault, level_fault, turn_fault, walk_fault}
use Rattle.clap.specs.Kinds.{Kinds, or_else}
use Rattle.clap.specs.Simple.{entered, label_of, names_of, rows_at}
use Rattle.clap.specs.Walk.{Names, Walk, answers_to, idle, nothing_held, rows_after, subcommand_met, walk, walked}
use Rattle.clap.specs.Words.{App, Shape, Text, built, fault_of, subcommand_of}
use Rattle.clap.specs.declared.error.kind.ErrorKind.TheVariants.{InvalidSubcommand, MissingSubcommand, UnknownArgument}
use Rattle.command_line.proofs.Numbered.{level_is, rest_fault}
use Rattle.command_line.proofs.PlainWords.{IsPlain, turn_at, walk_at}
use Rattle.command_line.specs.Grammar.{grammar}

-- the program as clap builds it
abbrev pub program : App
program = built grammar

abbrev pub names : Names
names = names_of program

abbrev start : Walk
start = walk_at nothing_held 1

-- the walk has met a command, and the words behind its name
abbrev pub met : Text → List Text → Walk
met name rest = record start { stopped = Some (name, rest) }

pub no_words : fault_of grammar [] ≡ MissingSubcommand ∷ []
unfolding clap_on_literals
no_words = refl

pub unnamed : (word : Text) (rest : List Text) → IsPlain word → subcommand_met names idle word ≡ None → fault_of grammar (word ∷ rest) ≡ UnknownArgument ∷ InvalidSubcommand ∷ []
unfolding walk_fault
unnamed word rest plain unmet =
    level_is program.top names (word ∷ rest) _ _ (UnknownArgument ∷ InvalidSubcommand ∷ []) _
    (ap (λ (found : Kinds). or_else found (walk_fault program.top names (walked [] names start word) rest)) (turn_at names word plain unmet program.top nothing_held 1)) refl

module _ (name : Text) (leaf : Shape) (rest : List Text) (goes : walked [] names start name ≡ met name []) (found : find (λ s. answers_to name (label_of s)) program.subs ≡ Some leaf) where
  walk_is : walk [] names nothing_held (name ∷ rest) ≡ met name rest
  walk_is = ap (λ (w : Walk). fold (walked [] names) w rest) goes ∙ sym (walk_stopped [] names start name [] rest)

  abbrev stop : Option (Text × List Text)
  stop = (walk [] names nothing_held (name ∷ rest)).stopped

  stop_is : stop ≡ Some (name, rest)
  stop_is = ap (λ (w : Walk). w.stopped) walk_is

  walk_passes : turn_fault program.top names start name ≡ [] → walk_fault program.top names start (name ∷ rest) ≡ []
  unfolding walk_fault
  walk_passes turn = ap₂ or_else turn (ap (λ (w : Walk). walk_fault program.top names w rest) goes) ∙ stopped_fault program.top names start (name, []) rest

  -- the faults of the command, in which the words behind its name end
  abbrev faults_at : Option Shape → Kinds
  faults_at at =
      or_else (option_map_or (λ s. level_fault s [] nothing_held rest false []) at [])
      (rest_fault program.top nothing_held (is_some (option_map (λ s. rows_at s rest) at)))

  abbrev faults_of : Option (Text × List Text) → Kinds
  faults_of at = or_else (entered_fault program at) (rest_fault program.top nothing_held (is_some (entered program at)))

  pub named : turn_fault program.top names start name ≡ [] → fault_of grammar (name ∷ rest) ≡ or_else (level_fault leaf [] nothing_held rest false []) []
  unfolding clap_on_literals
  named turn =
      level_is program.top names (name ∷ rest) (is_some (entered program stop)) (entered_fault program stop) [] (met name rest) (walk_passes turn) walk_is
      ∙ ap faults_of stop_is ∙ ap faults_at found

  pub entered_is : subcommand_of grammar (name ∷ rest) ≡ Some (leaf.name, rows_after leaf.rules [] rest)
  entered_is = ap (entered program) stop_is ∙ ap (option_map (λ s. rows_at s rest)) found
