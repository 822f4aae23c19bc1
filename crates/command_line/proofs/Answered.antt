-- What an answer of clap says of the words.
use Rattle.std.proofs.Common.{◌≡◌, ◌∙◌, ◌⊎◌, true, false, List, [], Option, Some, None, refl, sym, ap, subst, inl, inr, codes}
use Rattle.std.specs.Prelude.{option_map, unwrap_or, Box, Result, Ok, Err, IfOk, IsErrAnd, ok_or}
use Rattle.std.specs.Box.{box_value}
use Rattle.std.specs.List.{list_any}
use Rattle.clap.proofs.OnLiterals.{clap_on_literals}
use Rattle.clap.proofs.WalkLemmas.{first_value-rows}
use Rattle.clap.specs.Faults.{fault_of, is_simple_and_free}
use Rattle.clap.specs.Matches.{first_value, subcommand_name_of}
use Rattle.clap.specs.Simple.{subcommand_rows, subcommand_rows_of}
use Rattle.clap.specs.Kinds.{IsAmong}
use Rattle.clap.specs.Walk.{rows_of}
use Rattle.clap.specs.Words.{App, HasMatchesOf, Row, Text, first_of, is_simple, subcommand_of}
use Rattle.clap.specs.declared.error.kind.ErrorKind.{ErrorKind}
use Rattle.clap.specs.declared.error.kind.ErrorKind.TheVariants.{OutOfMemory}
use Rattle.clap.specs.declared.parser.matches.ArgMatches.{ArgMatches}
use Rattle.clap.specs.declared.parser.matches.ArgMatches.TheViews.{out-ArgMatches, out-SubCommand}
use Rattle.clap.specs.declared.parser.matches.Found.{Found}
use Rattle.clap.specs.declared.parser.matches.SubCommand.{SubCommand}
use Rattle.command_line.proofs.Read.{Meets, command_at, reads}
use Rattle.command_line.specs.Commands.{command_of}
use Rattle.command_line.specs.Grammar.{grammar}
use Rattle.command_line.specs.Reading.{command_met, is_option, words_refused}
use Rattle.command_line.specs.declared.command.Command.{Command}
use Rattle.command_line.specs.declared.refused.WordsRefused.{WordsRefused}
use Rattle.command_line.specs.declared.refused.WordsRefused.TheVariants.{Usage}

free : is_simple_and_free grammar ≡ true
unfolding clap_on_literals
free = refl

simple : is_simple grammar ≡ true
unfolding clap_on_literals
simple = refl

module _ (app : App) (words : List Text) (is : app ≡ grammar) (plain : list_any is_option words ≡ false) where
  -- where clap takes the words, it meets a command
  pub meets_where_ok : (is_simple_and_free app ≡ true → fault_of app words ≡ []) → Meets words
  meets_where_ok ok = elim (reads words plain) [
    | inl meets ↦ meets
    | inr misses ↦ absurd (misses.fails (sym (ap (λ a. fault_of a words) is) ∙ ok (ap is_simple_and_free is ∙ free)))
  ]

  -- where clap refuses the words, but for want of memory, they are no command
  pub none_where_err : (kind : ErrorKind) → (is_simple_and_free app ≡ true → (kind ≡ OutOfMemory) ⊎ IsAmong kind (fault_of app words)) → words_refused kind ≡ Usage → command_of words ≡ None
  none_where_err kind err usage = elim (reads words plain) [
    | inr misses ↦ misses.is
    | inl meets ↦ elim (err (ap is_simple_and_free is ∙ free)) [
      | inl memory ↦ let bad : words_refused OutOfMemory ≡ Usage = sym (ap words_refused memory) ∙ usage in absurd cc
      | inr among ↦ let bad : IsAmong kind [] = subst (IsAmong kind) (ap (λ a. fault_of a words) is ∙ meets.free) among in absurd bad
    ]
  ]

name_of : {Z : Type 0} (met : Option (Box SubCommand Z)) → option_map (λ b. (out-SubCommand (box_value b)).name.now) met ≡ option_map (λ p. p.0) (subcommand_rows met)
name_of None = refl
name_of (Some b) = refl

inside : {A : Type 0} (a b : A) → Some a ≡ Some b → a ≡ b
inside a b is = ap (λ o. unwrap_or o a) is

module _ (app : App) (words : List Text) (is : app ≡ grammar) (meets : Meets words) (matches : ArgMatches) (name : Text) (found : Found) where
  pub met_is : HasMatchesOf app words matches → Some name ≡ subcommand_name_of matches → Some (rows_of found) ≡ option_map (λ p. p.1) (subcommand_rows (out-ArgMatches matches).subcommand)
      → command_of words ≡ command_met name (first_value found (codes "seed")) (first_value found (codes "workers")) (first_value found (codes "ops"))
  met_is has named rows =
      let met : subcommand_rows_of matches ≡ Some (meets.name, meets.rows) = (has (ap is_simple is ∙ simple)).1 ∙ ap (λ a. subcommand_of a words) is ∙ meets.met in
      let name_is : meets.name ≡ name = inside meets.name name (sym (named ∙ name_of (out-ArgMatches matches).subcommand ∙ ap (option_map (λ (p : Text × List Row). p.0)) met)) in
      let rows_are : meets.rows ≡ rows_of found = inside meets.rows (rows_of found) (sym (rows ∙ ap (option_map (λ (p : Text × List Row). p.1)) met)) in
      meets.is ∙ ap (λ n. command_at n meets.rows) name_is ∙ ap (command_at name) rows_are
      ∙ ap (λ seed. command_met name seed (first_of (codes "workers") (rows_of found)) (first_of (codes "ops") (rows_of found))) (sym (first_value-rows found (codes "seed")))
      ∙ ap (λ workers. command_met name (first_value found (codes "seed")) workers (first_of (codes "ops") (rows_of found))) (sym (first_value-rows found (codes "workers")))
      ∙ ap (λ ops. command_met name (first_value found (codes "seed")) (first_value found (codes "workers")) ops) (sym (first_value-rows found (codes "ops")))

-- ---- what goes out

pub usage_from : (answer : Result Command WordsRefused) (kind : ErrorKind) → IsErrAnd answer (λ refused. refused ≡ words_refused kind) → answer ≡ Err Usage → words_refused kind ≡ Usage
usage_from (Ok command) kind gives usage = absurd gives
usage_from (Err refused) kind gives usage = let same : refused ≡ Usage = cc in sym gives ∙ same

module _ (wanted found : Option Command) (answer : Result Command WordsRefused) (same : wanted ≡ found) (is : answer ≡ ok_or found Usage) where
  pub command_where_ok : IfOk answer (λ command. wanted ≡ Some command)
  command_where_ok = subst (λ r. IfOk r (λ command. wanted ≡ Some command)) (sym is) (ok_at found same)
    where
      ok_at : (o : Option Command) → wanted ≡ o → IfOk (ok_or o Usage) (λ command. wanted ≡ Some command)
      ok_at (Some command) at = at
      ok_at None at = tt

  pub none_where_usage : answer ≡ Err Usage → wanted ≡ None
  none_where_usage usage = none_at found same (sym is ∙ usage)
    where
      none_at : (o : Option Command) → wanted ≡ o → ok_or o Usage ≡ Err Usage → wanted ≡ None
      none_at (Some command) at err = absurd cc
      none_at None at err = at
