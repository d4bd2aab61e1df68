use Rattle.machine_instructions.proofs.called_methods.Selecting.{interface, missing}
use Rattle.machine_instructions.proofs.called_methods.calls.interface_method.Goals as goal

pub returns-in-Some : goal.returns-in-Some
returns-in-Some c = interface c.args.program.now c.args.heap.now.objects c.args.object c.in-Some.kind c.in-Some.ensures c.class_of_kind.result c.class_of_kind.ensures c.args.selector c.select_interface.result c.select_interface.ensures

pub returns-in-None : goal.returns-in-None
returns-in-None c = λ trees program heap shows named callee selection receiver there. absurd (missing c.args.program.now c.args.heap.now.objects c.args.object trees heap shows receiver there c.in-None.ensures)
