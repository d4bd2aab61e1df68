use Rattle.std.proofs.Common.{refl}
use Rattle.thread_stacks.specs.Stacks.{shown_frame}
use Rattle.machine_instructions.proofs.leaving.Left.{placed}
use Rattle.machine_instructions.proofs.type_instructions.Events.{is_top}
use Rattle.machine_instructions.proofs.type_instructions.Testing.{instance}
use Rattle.machine_instructions.proofs.type_instructions.casts.instance_of.Goals as goal

pub returns : goal.returns
returns c = λ t frames trees bounds inflated state frame rest code site meaning is.
    let out = c.leave.ensures (shown_frame c.in-Some.frame) c.in-Some.ensures in
    placed is frames c.leave.result _ c.leave.new.stack _ out.is
    (instance is frames c.operand.result _ (is_top is _ c.in-Some.ensures) c.operand.ensures _ c.args.of is.stands.linked.0 is.stands.linked.1 refl
    c.instance_bit-bit.result c.instance_bit-bit.ensures _ c.leave.result out.leaves)
