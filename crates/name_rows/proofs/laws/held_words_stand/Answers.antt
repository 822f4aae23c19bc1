use Rattle.name_rows.proofs.WordsStandLemmas.{held-words-stand}
use Rattle.name_rows.proofs.laws.held_words_stand.Goals as goal

pub returns : goal.returns
returns c = held-words-stand
