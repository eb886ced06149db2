use Rattle.run_options.proofs.AsWords.{as_words}
use Rattle.run_options.proofs.laws.list_is_as_words.Goals as goal

pub returns : goal.returns
returns c = as_words
