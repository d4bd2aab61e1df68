use Rattle.std.proofs.Common.{◌<◌, ◌^◌, rules}
use Rattle.thread_stacks.specs.Stacks.{shown_frame}
use Rattle.machine_instructions.proofs.leaving.Left.{placed}
use Rattle.machine_instructions.proofs.type_instructions.Events.{is_top}
use Rattle.machine_instructions.proofs.type_instructions.Making.{makes_array}
use Rattle.machine_instructions.proofs.type_instructions.arrays.make_array.Goals as goal

pub returns : goal.returns
returns c = λ p t frames trees bounds inflated state frame rest code site meaning instruction is type array means next shows.
    let few : c.operand-length.result < 2 ^ 31 = search rules in
    let out = c.leave_new_on_top.ensures (shown_frame c.in-Some.frame) c.in-Some.ensures in
    placed is frames c.leave_new_on_top.result _ c.leave_new_on_top.new.stack _ out.is
    (makes_array is type array means frames c.operand-length.result _ (is_top is _ c.in-Some.ensures) c.operand-length.ensures few next c.args.kind shows
    c.leave_new_on_top.new.heap _ c.leave_new_on_top.result out.leaves)
