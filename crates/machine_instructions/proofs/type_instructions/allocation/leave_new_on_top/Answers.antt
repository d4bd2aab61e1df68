use Rattle.std.proofs.Common.{◌+◌, refl, arith}
use Rattle.machine_instructions.proofs.type_instructions.Made.{made_on_top, not_made_by}
use Rattle.machine_instructions.proofs.type_instructions.allocation.leave_new_on_top.Goals as goal

pub returns : goal.returns
returns c =
    made_on_top c.args.kind c.args.cells c.args.cells c.args.heap.now c.allocate.new.heap c.in_ok-reference.reference (c.in_ok-reference.reference + 1) c.next_place-next.result
    c.args.stack.now c.set_top.new.self c.go_on.new.self c.in_ok-reference.ensures (omega arith) c.next_place-next.ensures
    c.set_top.ensures c.go_on.ensures

pub returns-in_err-reference : goal.returns-in_err-reference
returns-in_err-reference c =
    not_made_by c.from_residual.result c.in_err-reference.field-0.0 c.args.kind c.args.cells c.args.cells 1 c.args.heap.now c.allocate.new.heap c.args.stack.now c.args.stack.now
    c.from_residual.ensures.1 c.in_err-reference.ensures refl
