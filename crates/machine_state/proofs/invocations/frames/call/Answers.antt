use Rattle.std.proofs.Common.{rules, ◌≡◌, ◌∷◌, take, drop, reverse, refl, ap, ◌∙◌}
use Rattle.std.specs.Prelude.{min}
use Rattle.thread_stacks.specs.Stacks.{called, operands_on, taken_back}
use Rattle.thread_stacks.proofs.Undone.{undone}
use Rattle.model.specs.Operands.{words}
use Rattle.model.specs.State.{Invocation}
use Rattle.model.specs.Frames.{frame_with, at_call}
use Rattle.machine_state.proofs.invocations.Pushing.{overflows, waits, lacks, forbidden, done, calls_shown}
use Rattle.machine_state.proofs.invocations.frames.call.Goals as goal

pub returns-then-frame_count-frames : goal.returns-then-frame_count-frames
returns-then-frame_count-frames c = λ trees p bounds inflated world s frame rest shows method body is.
    overflows trees p bounds inflated world c.args.shared.now s c.args.thread c.args.frames c.args.stack.now (Invocation frame ∷ rest) (Invocation (at_call frame (drop c.args.parameters frame.place.slots.stack)) ∷ rest) shows
    (frame_with words method (reverse (take c.args.parameters frame.place.slots.stack)) c.args.callee.entered body)
    c.frame_count.result c.frame_count.ensures c.if-frame_count-frames.true

pub returns-then-not-may_begin : goal.returns-then-not-may_begin
returns-then-not-may_begin c = λ trees p bounds inflated world s frame rest shows method body is.
    waits trees p bounds inflated world c.args.shared.now s c.args.thread c.args.frames c.args.stack.now (Invocation frame ∷ rest) (Invocation (at_call frame (drop c.args.parameters frame.place.slots.stack)) ∷ rest) shows
    (frame_with words method (reverse (take c.args.parameters frame.place.slots.stack)) c.args.callee.entered body)
    c.frame_count.result c.frame_count.ensures c.if-frame_count-frames.false c.if-not-may_begin.ensures

pub returns-in_err-call : goal.returns-in_err-call
returns-in_err-call c = λ trees p bounds inflated world s frame rest shows method body is.
    lacks trees p bounds inflated world c.args.shared.now s c.args.thread c.args.frames c.args.stack.now (Invocation frame ∷ rest) (Invocation (at_call frame (drop c.args.parameters frame.place.slots.stack)) ∷ rest) shows
    (frame_with words method (reverse (take c.args.parameters frame.place.slots.stack)) c.args.callee.entered body)
    c.frame_count.result c.frame_count.ensures c.if-frame_count-frames.false c.if-not-may_begin.ensures refl c.from_residual.result c.from_residual.ensures.1 c.call.new.self c.in_err-call.ensures.err

pub returns-in-Ok : goal.returns-in-Ok
returns-in-Ok c = λ trees p bounds inflated world s frame rest shows method body is.
    done trees p bounds inflated world c.args.shared.now s c.args.thread c.args.frames c.args.stack.now (Invocation frame ∷ rest) (Invocation (at_call frame (drop c.args.parameters frame.place.slots.stack)) ∷ rest) shows
    (frame_with words method (reverse (take c.args.parameters frame.place.slots.stack)) c.args.callee.entered body)
    c.frame_count.result c.frame_count.ensures c.if-frame_count-frames.false c.if-not-may_begin.ensures c.requires.there c.enter_for.new.shared c.call.new.self c.in-Ok.ensures
    (calls_shown trees p c.args.stack.now c.call.new.self frame rest shows c.args.callee method body is c.args.parameters c.in_ok-call.ensures.ok)

pub returns-in-Err : goal.returns-in-Err
returns-in-Err c =
    let least : c.min-taken.result ≡ min c.args.parameters (operands_on c.args.stack.now) = search rules in
    λ trees p bounds inflated world s frame rest shows method body is.
    forbidden trees p bounds inflated world c.args.shared.now s c.args.thread c.args.frames c.args.stack.now (Invocation frame ∷ rest) (Invocation (at_call frame (drop c.args.parameters frame.place.slots.stack)) ∷ rest) shows
    (frame_with words method (reverse (take c.args.parameters frame.place.slots.stack)) c.args.callee.entered body)
    c.frame_count.result c.frame_count.ensures c.if-frame_count-frames.false c.if-not-may_begin.ensures c.in-Err.refusal c.enter_for.new.shared c.take_back.new.self c.in-Err.ensures
    (c.take_back.ensures
    ∙ ap (taken_back c.min-taken.result) c.in_ok-call.ensures.ok
    ∙ ap (λ k. taken_back k (called c.args.callee c.args.parameters c.args.stack.now)) least
    ∙ undone c.args.callee c.args.parameters c.args.stack.now)
