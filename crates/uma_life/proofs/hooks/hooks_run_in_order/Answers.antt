use Rattle.uma_life.proofs.Words.{words_are_prefixes}
use Rattle.uma_life.proofs.Tallies.{counts_agree, begins, goes_on}
use Rattle.uma_life.proofs.hooks.hooks_run_in_order.Goals as goal

pub returns : goal.returns
returns c = record {
  words = words_are_prefixes;
  agree = counts_agree;
  begins = begins;
  goes_on = goes_on;
}
