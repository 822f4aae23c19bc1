-- What clap answers is what the words are.
use Rattle.std.proofs.Common.{◌∙◌, sym, map, string_bytes}
use Rattle.clap.proofs.WalkLemmas.{list_any-map}
use Rattle.clap.specs.Matches.{found_of}
use Rattle.clap.specs.Words.{app_of, kind_of}
use Rattle.command_line.proofs.Answered.{command_where_ok, meets_where_ok, met_is, none_where_err, none_where_usage, usage_from}
use Rattle.command_line.specs.Commands.{command_of}
use Rattle.command_line.specs.Reading.{is_option}
use Rattle.command_line.proofs.reading.plain_command.Goals as goal

pub returns-in_err-matches-clause-usage : goal.returns-in_err-matches-clause-usage
returns-in_err-matches-clause-usage c = λ usage.
    let kind = kind_of c.in_err-matches.field-0.0 in
    let plain = sym (list_any-map is_option string_bytes c.args.words.now) ∙ c.requires in
    none_where_err (app_of c.in_ok-grammar.grammar) (map string_bytes c.args.words.now) c.in_ok-grammar.ensures plain kind c.in_err-matches.ensures.kinds
    (usage_from c.from_residual-in_err-matches.result kind c.from_residual-in_err-matches.ensures.1 usage)

pub returns-clause-command : goal.returns-clause-command
returns-clause-command c =
    let app = app_of c.in_ok-grammar.grammar in
    let words = map string_bytes c.args.words.now in
    let plain = sym (list_any-map is_option string_bytes c.args.words.now) ∙ c.requires in
    let meets = meets_where_ok app words c.in_ok-grammar.ensures plain c.in_ok-matches.ensures.kinds in
    let is = met_is app words c.in_ok-grammar.ensures meets c.in_ok-matches.matches c.in-Some.name.now (found_of c.in-Some.found.now) c.in_ok-matches.ensures.matches
    c.in-Some.ensures.name c.in-Some.ensures.rows in
    command_where_ok (command_of words) c.met.result c.ok_or.result (is ∙ sym c.met.ensures.is) c.ok_or.ensures.value

pub returns-clause-usage : goal.returns-clause-usage
returns-clause-usage c =
    let app = app_of c.in_ok-grammar.grammar in
    let words = map string_bytes c.args.words.now in
    let plain = sym (list_any-map is_option string_bytes c.args.words.now) ∙ c.requires in
    let meets = meets_where_ok app words c.in_ok-grammar.ensures plain c.in_ok-matches.ensures.kinds in
    let is = met_is app words c.in_ok-grammar.ensures meets c.in_ok-matches.matches c.in-Some.name.now (found_of c.in-Some.found.now) c.in_ok-matches.ensures.matches
    c.in-Some.ensures.name c.in-Some.ensures.rows in
    none_where_usage (command_of words) c.met.result c.ok_or.result (is ∙ sym c.met.ensures.is) c.ok_or.ensures.value
