use Rattle.std.proofs.Common.{◌+◌, arith}
use Rattle.heap.specs.declared.kind.ObjectKind.TheVariants as kind
use Rattle.machine_instructions.proofs.type_instructions.Made.{made_over, not_made, no_room, unput}
use Rattle.machine_instructions.proofs.type_instructions.allocation.leave_new.Goals as goal

pub returns-in_err-replace : goal.returns-in_err-replace
returns-in_err-replace c =
    no_room c.from_residual.result (kind.Instance c.args.class) c.args.fields c.args.cells 0 c.args.heap.now c.args.stack.now c.replace.new.self c.from_residual.ensures.1 c.in_err-replace.ensures.err

pub returns-in-Ok : goal.returns-in-Ok
returns-in-Ok c =
    made_over (kind.Instance c.args.class) c.args.fields c.args.cells c.args.heap.now c.alloc_object.new.self c.in-Ok.reference (c.in-Ok.reference + 1) c.next_place-next.result
    c.args.stack.now c.replace.new.self c.set_top.new.self c.go_on.new.self c.in-Ok.ensures (omega arith) c.next_place-next.ensures
    c.in_ok-replace.ensures.ok c.set_top.ensures c.go_on.ensures

pub returns-in-Err : goal.returns-in-Err
returns-in-Err c =
    not_made c.in-Err.refusal c.into.result (kind.Instance c.args.class) c.args.fields c.args.cells 0 c.args.heap.now c.alloc_object.new.self c.args.stack.now c.pop.new.self
    c.into.ensures c.in-Err.ensures (unput c.args.stack.now c.replace.new.self c.pop.new.self c.in_ok-replace.ensures.ok c.pop.ensures)
