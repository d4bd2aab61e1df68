use Rattle.std.proofs.Common.{drop, refl, ap, ◌∙◌}
use Rattle.model.specs.Operands.{words}
use Rattle.model.specs.Frames.{frame_with}
use Rattle.machine_state.proofs.invocations.Pushing.{overflows, waits, lacks, forbidden, done, first_shown}
use Rattle.machine_state.proofs.invocations.frames.first_call.Goals as goal

-- src/frames.rt:69:9
pub returns-then-frame_count-frames : goal.returns-then-frame_count-frames
returns-then-frame_count-frames c = λ trees p bounds inflated world s own shows method body is.
    overflows trees p bounds inflated world c.args.shared.now s c.args.thread c.args.frames c.args.stack.now own own shows (frame_with words method c.args.arguments.now c.args.callee.entered body)
    c.frame_count.result c.frame_count.ensures c.if-frame_count-frames.true

-- src/frames.rt:72:9
pub returns-then-not-may_begin : goal.returns-then-not-may_begin
returns-then-not-may_begin c = λ trees p bounds inflated world s own shows method body is.
    waits trees p bounds inflated world c.args.shared.now s c.args.thread c.args.frames c.args.stack.now own own shows (frame_with words method c.args.arguments.now c.args.callee.entered body)
    c.frame_count.result c.frame_count.ensures c.if-frame_count-frames.false c.if-not-may_begin.ensures

-- src/frames.rt:74:5
pub returns-in_err-first_call : goal.returns-in_err-first_call
returns-in_err-first_call c = λ trees p bounds inflated world s own shows method body is.
    lacks trees p bounds inflated world c.args.shared.now s c.args.thread c.args.frames c.args.stack.now own own shows (frame_with words method c.args.arguments.now c.args.callee.entered body)
    c.frame_count.result c.frame_count.ensures c.if-frame_count-frames.false c.if-not-may_begin.ensures refl c.from_residual.result c.from_residual.ensures.1 c.first_call.new.self c.in_err-first_call.ensures.err

-- src/frames.rt:56:1
pub returns-in-Ok : goal.returns-in-Ok
returns-in-Ok c = λ trees p bounds inflated world s own shows method body is.
    done trees p bounds inflated world c.args.shared.now s c.args.thread c.args.frames c.args.stack.now own own shows (frame_with words method c.args.arguments.now c.args.callee.entered body)
    c.frame_count.result c.frame_count.ensures c.if-frame_count-frames.false c.if-not-may_begin.ensures c.requires.there c.enter_for.new.shared c.first_call.new.self c.in-Ok.ensures
    (first_shown trees p c.args.stack.now c.first_call.new.self own shows c.args.callee method body is c.args.arguments.now c.in_ok-first_call.ensures.ok)

-- src/frames.rt:56:1
pub returns-in-Err : goal.returns-in-Err
returns-in-Err c = λ trees p bounds inflated world s own shows method body is.
    forbidden trees p bounds inflated world c.args.shared.now s c.args.thread c.args.frames c.args.stack.now own own shows (frame_with words method c.args.arguments.now c.args.callee.entered body)
    c.frame_count.result c.frame_count.ensures c.if-frame_count-frames.false c.if-not-may_begin.ensures c.in-Err.refusal c.enter_for.new.shared c.drop_top.new.self c.in-Err.ensures (c.drop_top.ensures ∙ ap (drop 1) c.in_ok-first_call.ensures.ok)
