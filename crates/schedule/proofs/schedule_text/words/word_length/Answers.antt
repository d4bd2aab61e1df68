use Rattle.std.proofs.Common.{sym, ◌∙◌}
use Rattle.schedule.proofs.schedule_text.WordLaws.{word_ends, word_goes_on, word_is_last}
use Rattle.schedule.proofs.schedule_text.words.word_length.Goals as goal

pub returns-then-ends_word-clause-parts : goal.returns-then-ends_word-clause-parts
returns-then-ends_word-clause-parts c = word_ends c.args.bytes.now c.word.at c.word-test.true c.requires.begins (sym c.ends_word.ensures ∙ c.if-ends_word.true) c.word.invariant

pub word-preserved : goal.word-preserved
word-preserved c = word_goes_on c.args.bytes.now c.word.at c.word-test.true (sym c.ends_word.ensures ∙ c.if-ends_word.false) c.word.invariant

pub returns-clause-parts : goal.returns-clause-parts
returns-clause-parts c = word_is_last c.args.bytes.now c.word.at c.requires.some c.word-test.false c.word.auto.at-end c.word.invariant
