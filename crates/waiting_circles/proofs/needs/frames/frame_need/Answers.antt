use Rattle.std.proofs.Common.{◌<◌, ◌≤◌, option_map, ap, subst, ◌∙◌}
use Rattle.search_laws.specs.Waits.{MonitorOf}
use Rattle.waiting_circles.proofs.needs.Framed.{count_is, full, room}
use Rattle.waiting_circles.proofs.needs.frames.frame_need.Goals as goal

pub returns-then-frame_count-frames : goal.returns-then-frame_count-frames
returns-then-frame_count-frames c = λ trees p own shows t world.
    full trees c.args.frames t world own c.args.entered
    (subst (λ n. c.args.frames ≤ n) (count_is trees p c.args.stack.now own shows c.frame_count.result c.frame_count.ensures) c.if-frame_count-frames.true)

pub returns-in-Some : goal.returns-in-Some
returns-in-Some c = λ trees p own shows t world.
    room trees c.args.frames t world own c.args.entered
    (subst (λ n. n < c.args.frames) (count_is trees p c.args.stack.now own shows c.frame_count.result c.frame_count.ensures) c.if-frame_count-frames.false)
    ∙ ap (option_map MonitorOf) c.in-Some.is

pub returns-in-None : goal.returns-in-None
returns-in-None c = λ trees p own shows t world.
    room trees c.args.frames t world own c.args.entered
    (subst (λ n. n < c.args.frames) (count_is trees p c.args.stack.now own shows c.frame_count.result c.frame_count.ensures) c.if-frame_count-frames.false)
    ∙ ap (option_map MonitorOf) c.in-None.is
