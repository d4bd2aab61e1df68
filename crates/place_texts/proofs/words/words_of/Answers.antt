use Rattle.std.proofs.Common.{drop}
use Rattle.schedule.specs.schedule_text.Text.{text_words}
use Rattle.place_texts.specs.Reading.{texts}
use Rattle.place_texts.proofs.Bytes.{all_read, none_left}
use Rattle.place_texts.proofs.words.words_of.Goals as goal

pub returns : goal.returns
returns c =
    all_read c.bytes.comment c.bytes.word.items (drop c.bytes.at c.args.text.now) (text_words c.args.text.now) (texts c.bytes.words.items) (texts c.end_word.new.words.items)
    (none_left c.args.text.now c.bytes.at c.bytes-test.false (c.bytes.auto.at-end c.front-start.ensures.within)) c.bytes.invariant.spelled c.in_ok-end_word.ensures.ended
