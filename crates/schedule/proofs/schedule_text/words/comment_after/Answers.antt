use Rattle.std.proofs.Common.{◌∙◌, sym}
use Rattle.schedule.proofs.schedule_text.WordLaws.{blank_first, comment_first, comment_stands}
use Rattle.schedule.proofs.schedule_text.words.comment_after.Goals as goal

pub returns-then-comment-clause-goes_on : goal.returns-then-comment-clause-goes_on
returns-then-comment-clause-goes_on c = comment_stands c.args.bytes.now c.args.comment c.requires c.if-comment.true

pub returns-then-is_blank-clause-goes_on : goal.returns-then-is_blank-clause-goes_on
returns-then-is_blank-clause-goes_on c = blank_first c.args.bytes.now c.args.comment c.requires c.if-comment.false (sym c.is_blank.ensures ∙ c.if-is_blank.true)

pub returns-then-begins_comment-clause-goes_on : goal.returns-then-begins_comment-clause-goes_on
returns-then-begins_comment-clause-goes_on c = comment_first c.args.bytes.now c.args.comment c.requires c.if-comment.false (sym c.is_blank.ensures ∙ c.if-is_blank.false) (sym c.begins_comment.ensures ∙ c.if-begins_comment.true)
