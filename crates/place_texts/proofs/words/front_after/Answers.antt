use Rattle.std.proofs.Common.{◌∙◌, sym}
use Rattle.schedule.proofs.schedule_text.WordLaws.{comment_goes_on, front_begins, front_ends, front_is_blank}
use Rattle.place_texts.proofs.words.front_after.Goals as goal

pub returns-then-comment-clause-goes_on : goal.returns-then-comment-clause-goes_on
returns-then-comment-clause-goes_on c = comment_goes_on c.args.bytes.now c.args.comment c.requires c.if-comment.true

pub returns-then-is_blank-clause-goes_on : goal.returns-then-is_blank-clause-goes_on
returns-then-is_blank-clause-goes_on c = front_is_blank c.args.bytes.now c.args.comment c.requires c.if-comment.false (sym c.is_blank.ensures ∙ c.if-is_blank.true)

pub returns-then-begins_front_comment-clause-goes_on : goal.returns-then-begins_front_comment-clause-goes_on
returns-then-begins_front_comment-clause-goes_on c = front_begins c.args.bytes.now c.args.comment c.requires c.if-comment.false (sym c.is_blank.ensures ∙ c.if-is_blank.false) (sym c.begins_front_comment.ensures ∙ c.if-begins_front_comment.true)

pub returns-clause-ends : goal.returns-clause-ends
returns-clause-ends c = λ _. front_ends c.args.bytes.now c.args.comment c.requires c.if-comment.false (sym c.is_blank.ensures ∙ c.if-is_blank.false) (sym c.begins_front_comment.ensures ∙ c.if-begins_front_comment.false)
