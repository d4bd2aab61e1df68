use Rattle.std.proofs.Common.{None, refl}
use Rattle.class_tree.specs.View.{file_of}
use Rattle.thread_stacks.specs.Stacks.{shown_frame}
use Rattle.next_accesses.proofs.accessing_calls.Instructions.{by_virtual, by_special, by_static, by_interface, by_other}
use Rattle.next_accesses.proofs.accessing_calls.called_by.Goals as goal

pub returns-in-Virtual : goal.returns-in-Virtual
returns-in-Virtual c =
    by_virtual c.args.tables.now.linked.now c.args.program.now c.args.heap.now.objects (shown_frame c.args.frame.now).operands (file_of c.args.file.now) c.virtual_in.result c.args.instruction c.in-Invoke.invocation c.in-Invoke.index c.in-Invoke.is
    c.in-Virtual.is c.virtual_in.ensures

pub returns-in-Special : goal.returns-in-Special
returns-in-Special c =
    by_special c.args.tables.now.linked.now c.args.program.now c.args.heap.now.objects (shown_frame c.args.frame.now).operands (file_of c.args.file.now) c.special_in.result c.args.instruction c.in-Invoke.invocation c.in-Invoke.index c.in-Invoke.is
    c.in-Special.is c.special_in.ensures

pub returns-in-Static : goal.returns-in-Static
returns-in-Static c =
    by_static c.args.tables.now.linked.now c.args.program.now c.args.heap.now.objects (shown_frame c.args.frame.now).operands (file_of c.args.file.now) None c.args.instruction c.in-Invoke.invocation c.in-Invoke.index c.in-Invoke.is
    c.in-Static.is refl

pub returns-in-InvokeInterface : goal.returns-in-InvokeInterface
returns-in-InvokeInterface c =
    by_interface c.args.tables.now.linked.now c.args.program.now c.args.heap.now.objects (shown_frame c.args.frame.now).operands (file_of c.args.file.now) c.interface_in.result c.args.instruction c.in-InvokeInterface.index _ _ c.in-InvokeInterface.is
    c.interface_in.ensures

pub returns-in_default : goal.returns-in_default
returns-in_default c =
    by_other c.args.tables.now.linked.now c.args.program.now c.args.heap.now.objects (shown_frame c.args.frame.now).operands (file_of c.args.file.now) None c.args.instruction refl
    (λ v index e. c.in_default.not-Invoke v index e) (λ index count last e. c.in_default.not-InvokeInterface index count last e)
