-- What is told to clap is the grammar, step by step.
use Rattle.std.proofs.Common.{◌≡◌, ◌∙◌, ap, ap₂}
use Rattle.std.proofs.lemmas.Result.{IfOk-weaker}
use Rattle.clap.specs.Words.{App, app_of, with_subcommand}
use Rattle.clap.specs.Simple.{app_of_fields, on_top}
use Rattle.std.proofs.Common.{true}
use Rattle.command_line.specs.Grammar.{bare}
use Rattle.command_line.proofs.grammar.grammar.Goals as goal

pub returns : goal.returns
returns c =
    let named_is : app_of c.no_binary_name.result ≡ on_top (λ s. record s { no_binary_name = true }) (app_of c.new.result) = ap app_of_fields c.no_binary_name.ensures in
    let flagged_is : app_of c.disable_help_flag.result ≡ on_top (λ s. record s { disable_help_flag = true }) (app_of c.no_binary_name.result) = ap app_of_fields c.disable_help_flag.ensures in
    let unhelped_is : app_of c.disable_help_subcommand.result ≡ on_top (λ s. record s { disable_help_subcommand = true }) (app_of c.disable_help_flag.result) = ap app_of_fields c.disable_help_subcommand.ensures in
    let required_is : app_of c.subcommand_required.result ≡ on_top (λ s. record s { subcommand_required = true }) (app_of c.disable_help_subcommand.result) = ap app_of_fields c.subcommand_required.ensures in
    let bare_is : app_of c.subcommand_required.result ≡ bare =
    required_is ∙ ap (on_top (λ s. record s { subcommand_required = true }))
    (unhelped_is ∙ ap (on_top (λ s. record s { disable_help_subcommand = true }))
    (flagged_is ∙ ap (on_top (λ s. record s { disable_help_flag = true }))
    (named_is ∙ ap (on_top (λ s. record s { no_binary_name = true })) c.new.ensures.app))) in
    let with_replay = c.in_ok-subcommand.ensures.shape c.new-2.ensures.local ∙ ap₂ with_subcommand bare_is (ap (λ (a : App). a.top) c.new-2.ensures.app) in
    let with_steps = c.in_ok-subcommand-2.ensures.shape c.new-3.ensures.local ∙ ap₂ with_subcommand with_replay (ap (λ (a : App). a.top) c.new-3.ensures.app) in
    let with_gen = c.in_ok-subcommand-3.ensures.shape c.in_ok-numbered.ensures.local ∙ ap₂ with_subcommand with_steps c.in_ok-numbered.ensures.shape in
    IfOk-weaker c.subcommand-4.result _ _ (λ made added. added.shape c.in_ok-numbered-2.ensures.local ∙ ap₂ with_subcommand with_gen c.in_ok-numbered-2.ensures.shape) c.subcommand-4.ensures
