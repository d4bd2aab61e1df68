use Rattle.std.proofs.Common.{refl, subst, sym, Ok}
use Rattle.machine_instructions.specs.type_instructions.Words.{TestsWord}
use Rattle.machine_state.specs.declared.answers.Effect.TheVariants as effect
use Rattle.machine_state.specs.declared.answers.MachineException.TheVariants as exception
use Rattle.thread_stacks.specs.Stacks.{shown_frame}
use Rattle.machine_instructions.proofs.leaving.Left.{placed}
use Rattle.machine_instructions.proofs.type_instructions.Events.{is_top, unchanged}
use Rattle.machine_instructions.proofs.type_instructions.Testing.{casts, not_cast}
use Rattle.machine_instructions.proofs.type_instructions.casts.check_cast.Goals as goal

pub returns-then-may_be : goal.returns-then-may_be
returns-then-may_be c = λ t frames trees bounds inflated state frame rest code site meaning is.
    let out = c.leave_nothing.ensures (shown_frame c.in-Some.frame) c.in-Some.ensures in
    placed is frames (Ok c.leave_nothing.result) c.args.shared.now c.leave_nothing.new.stack _ out.is
    (casts is frames c.operand.result _ (is_top is _ c.in-Some.ensures) c.operand.ensures _ c.args.of is.stands.linked.0 is.stands.linked.1 refl
    (subst (TestsWord c.args.program.now c.args.shared.now.heap.objects c.operand.result c.args.of) c.if-may_be.true c.may_be.ensures) _ c.leave_nothing.result out.leaves)

pub returns-else-may_be : goal.returns-else-may_be
returns-else-may_be c = λ t frames trees bounds inflated state frame rest code site meaning is.
    placed is frames (Ok (effect.Raises exception.ClassCast)) c.args.shared.now c.args.stack.now _ (sym (unchanged is (shown_frame c.in-Some.frame) (is_top is _ c.in-Some.ensures)))
    (not_cast is frames c.operand.result _ (is_top is _ c.in-Some.ensures) c.operand.ensures _ c.args.of is.stands.linked.0 is.stands.linked.1
    (subst (TestsWord c.args.program.now c.args.shared.now.heap.objects c.operand.result c.args.of) c.if-may_be.false c.may_be.ensures))
