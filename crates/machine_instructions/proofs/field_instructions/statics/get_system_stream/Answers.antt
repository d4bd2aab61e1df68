use Rattle.thread_stacks.specs.Stacks.{shown_frame}
use Rattle.machine_instructions.proofs.leaving.Left.{placed}
use Rattle.machine_instructions.proofs.field_instructions.StaticSlots.{get_system_stream_done}
use Rattle.machine_instructions.proofs.field_instructions.statics.get_system_stream.Goals as goal

pub returns-in-Some : goal.returns-in-Some
returns-in-Some c = λ p t shared frames trees bounds inflated state frame rest code site meaning is.
    let out = c.leave.ensures (shown_frame c.in-Some._frame) c.in-Some.ensures in
    placed is frames c.leave.result _ c.leave.new.stack _ out.is
    (get_system_stream_done trees p bounds inflated t shared c.args.stack.now state frame rest code site meaning c.args.word is (shown_frame c.in-Some._frame) c.in-Some.ensures frames
    out.frame c.leave.result out.leaves)
