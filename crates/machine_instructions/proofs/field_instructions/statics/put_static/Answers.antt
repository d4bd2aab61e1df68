use Rattle.std.proofs.Common.{sym, Ok}
use Rattle.thread_stacks.specs.Stacks.{shown_frame}
use Rattle.machine_instructions.proofs.leaving.Left.{placed}
use Rattle.machine_instructions.proofs.field_instructions.StaticSlots.{put_static_done}
use Rattle.machine_instructions.proofs.field_instructions.statics.put_static.Goals as goal

pub returns-in-Some : goal.returns-in-Some
returns-in-Some c = λ p class t frames trees bounds inflated state frame rest code site meaning is.
    let out = c.leave_nothing.ensures (shown_frame c.in-Some.frame) c.in-Some.ensures in
    placed is frames (Ok c.leave_nothing.result) _ c.leave_nothing.new.stack _ out.is
    (put_static_done trees p bounds inflated t c.args.shared.now c.args.stack.now state frame rest code site meaning c.args.of class c.args.slot is (shown_frame c.in-Some.frame) c.in-Some.ensures frames
    c.operand.result c.kept-word.result
    (sym c.operand.ensures)
    c.kept-word.ensures
    c.set_static.new.statics c.set_static.ensures
    out.frame c.leave_nothing.result out.leaves)
