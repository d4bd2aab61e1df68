use Rattle.std.proofs.Common.{ap, subst, ◌∙◌, ◌<◌, ◌≤◌, arith}
use Rattle.machine_state.specs.invocations.Entering.{may_begin}
use Rattle.machine_threads.proofs.waiting_instructions.Enabled.{overflows, entering_is, may_is, count_is}
use Rattle.machine_threads.proofs.waiting_instructions.methods.code_standing.Goals as goal

pub returns-then-frame_count-frames : goal.returns-then-frame_count-frames
returns-then-frame_count-frames c = λ trees p bounds world own rest frame represents shows there entered.
    overflows trees c.args.frames c.args.thread world world own rest frame (subst (λ n. c.args.frames ≤ n) (count_is trees p c.args.stack.now own shows c.frame_count.result c.frame_count.ensures) c.if-frame_count-frames.true)

pub returns-then-may_begin : goal.returns-then-may_begin
returns-then-may_begin c = λ trees p bounds world own rest frame represents shows there entered.
    entering_is trees c.args.frames c.args.thread world own rest frame (subst (λ n. n < c.args.frames) (count_is trees p c.args.stack.now own shows c.frame_count.result c.frame_count.ensures) c.if-frame_count-frames.false)
    ∙ ap (may_begin world c.args.thread) entered
    ∙ may_is trees p bounds world c.args.shared.now represents c.args.thread c.args.entered c.may_begin.result (c.may_begin.ensures there)
    ∙ c.if-may_begin.true

pub returns : goal.returns
returns c = λ trees p bounds world own rest frame represents shows there entered. (
  entering_is trees c.args.frames c.args.thread world own rest frame (subst (λ n. n < c.args.frames) (count_is trees p c.args.stack.now own shows c.frame_count.result c.frame_count.ensures) c.if-frame_count-frames.false)
      ∙ ap (may_begin world c.args.thread) entered
      ∙ may_is trees p bounds world c.args.shared.now represents c.args.thread c.args.entered c.may_begin.result (c.may_begin.ensures there)
      ∙ c.if-may_begin.false,
  overflows trees 0 c.args.thread world world own rest frame (omega arith),
)
