-- A list with a word that begins with `-` is no command.
use Rattle.std.proofs.Common.{◌∙◌, sym, string_bytes, map}
use Rattle.clap.proofs.WalkLemmas.{list_any-map}
use Rattle.command_line.proofs.Options.{none_with_option}
use Rattle.command_line.specs.Reading.{is_option}
use Rattle.command_line.proofs.reading.command_in.Goals as goal

pub returns-then-has_option-clause-usage : goal.returns-then-has_option-clause-usage
returns-then-has_option-clause-usage c = λ usage.
    none_with_option (map string_bytes c.args.words.now) (sym (list_any-map is_option string_bytes c.args.words.now) ∙ sym c.has_option.ensures ∙ c.if-has_option.true)
