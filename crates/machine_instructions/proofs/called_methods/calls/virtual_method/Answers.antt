use Rattle.machine_instructions.proofs.called_methods.Selecting.{virtual, missing}
use Rattle.machine_instructions.proofs.called_methods.calls.virtual_method.Goals as goal

pub returns-in-Some : goal.returns-in-Some
returns-in-Some c = virtual c.args.program.now c.args.heap.now.objects c.args.object c.in-Some.kind c.in-Some.ensures c.class_of_kind.result c.class_of_kind.ensures c.args.place c.select_virtual.result c.select_virtual.ensures

pub returns-in-None : goal.returns-in-None
returns-in-None c = λ trees program heap shows named callee selection receiver there assignable. missing c.args.program.now c.args.heap.now.objects c.args.object trees heap shows receiver there c.in-None.ensures
