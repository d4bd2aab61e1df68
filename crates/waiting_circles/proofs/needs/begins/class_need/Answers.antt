use Rattle.std.proofs.Common.{None}
use Rattle.waiting_circles.proofs.needs.Classes.{ready_class, held_class, new_class, failed_class}
use Rattle.waiting_circles.proofs.needs.begins.class_need.Goals as goal

pub returns-in-Held : goal.returns-in-Held
returns-in-Held c = λ trees p bounds world program r class at frames.
    held_class trees frames c.args.thread world None class c.args.class at (c.in-Held.ensures trees p bounds world program r class at)

pub returns-in-Ready : goal.returns-in-Ready
returns-in-Ready c = λ trees p bounds world program r class at frames.
    ready_class trees frames c.args.thread world None class (c.in-Ready.ensures trees p bounds world program r class at)

pub returns-in-New : goal.returns-in-New
returns-in-New c = λ trees p bounds world program r class at frames.
    new_class trees frames c.args.thread world None class (c.in-New.ensures trees p bounds world program r class at)

pub returns-in-Failed : goal.returns-in-Failed
returns-in-Failed c = λ trees p bounds world program r class at frames.
    failed_class trees frames c.args.thread world None class (c.in-Failed.ensures trees p bounds world program r class at)
