use Rattle.std.proofs.Common.{sym, ◌∙◌}
use Rattle.place_texts.specs.Reading.{texts}
use Rattle.place_texts.proofs.Bytes.{passed, blank, begins, lengthened}
use Rattle.place_texts.proofs.words.read_byte.Goals as goal

pub returns-then-comment : goal.returns-then-comment
returns-then-comment c = passed c.args.comment c.args.word.now.items c.args.bytes.now (texts c.args.words.now.items) c.requires c.if-comment.true

pub returns-then-is_blank : goal.returns-then-is_blank
returns-then-is_blank c =
    blank c.args.comment c.args.word.now.items c.end_word.new.word.items c.args.bytes.now (texts c.args.words.now.items) (texts c.end_word.new.words.items) c.requires c.if-comment.false
    (sym c.is_blank.ensures ∙ c.if-is_blank.true) c.in_ok-end_word.ensures.ended c.in_ok-end_word.ensures.none

pub returns-then-begins_comment : goal.returns-then-begins_comment
returns-then-begins_comment c =
    begins c.args.comment c.args.word.now.items c.end_word-then-begins_comment.new.word.items c.args.bytes.now (texts c.args.words.now.items) (texts c.end_word-then-begins_comment.new.words.items)
    c.requires c.if-comment.false (sym c.is_blank.ensures ∙ c.if-is_blank.false) (sym c.begins_comment.ensures ∙ c.if-begins_comment.true)
    c.in_ok-end_word-2.ensures.ended c.in_ok-end_word-2.ensures.none

pub returns : goal.returns
returns c =
    lengthened c.args.comment c.args.word.now.items c.push.new.self.items c.args.bytes.now (texts c.args.words.now.items) c.requires c.if-comment.false
    (sym c.is_blank.ensures ∙ c.if-is_blank.false) (sym c.begins_comment.ensures ∙ c.if-begins_comment.false) c.in_ok-push.ensures.items
