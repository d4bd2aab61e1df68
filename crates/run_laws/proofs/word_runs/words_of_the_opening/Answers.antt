use Rattle.run_laws.proofs.word_runs.OpenedWords.{opened_words}
use Rattle.run_laws.proofs.word_runs.words_of_the_opening.Goals as goal

pub returns : goal.returns
returns c = record { holds = λ files. opened_words files }
