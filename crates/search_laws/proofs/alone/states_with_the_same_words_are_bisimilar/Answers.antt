use Rattle.search_laws.proofs.SameWords.{same_words_bisimilar}
use Rattle.search_laws.proofs.alone.states_with_the_same_words_are_bisimilar.Goals as goal

pub returns : goal.returns
returns c = record { holds = same_words_bisimilar }
