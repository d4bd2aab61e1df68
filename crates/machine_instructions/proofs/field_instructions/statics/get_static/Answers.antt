use Rattle.std.proofs.Common.{ap, slice_index, ◌∙◌}
use Rattle.thread_stacks.specs.Stacks.{shown_frame}
use Rattle.machine_instructions.proofs.leaving.Left.{placed}
use Rattle.machine_instructions.proofs.field_instructions.StaticSlots.{get_static_done}
use Rattle.machine_instructions.proofs.field_instructions.statics.get_static.Goals as goal

pub returns-in-Some : goal.returns-in-Some
returns-in-Some c = λ p class t frames trees bounds inflated state frame rest code site meaning is.
    let out = c.leave.ensures (shown_frame c.in-Some._frame) c.in-Some.ensures in
    placed is frames c.leave.result _ c.leave.new.stack _ out.is
    (get_static_done trees p bounds inflated t c.args.shared.now c.args.stack.now state frame rest code site meaning class c.args.slot is (shown_frame c.in-Some._frame) c.in-Some.ensures frames
    c.static_word.result (c.static_word.ensures ∙ ap (λ l. slice_index l c.args.slot) c.deref.ensures.value)
    out.frame c.leave.result out.leaves)
