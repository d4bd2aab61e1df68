use Rattle.std.proofs.Common.{refl}
use Rattle.machine_instructions.proofs.thread_methods.FilledTexts.{done, undone}
use Rattle.machine_instructions.proofs.thread_methods.text_writes.become_text.Goals as goal

pub returns-in_err-fill_string : goal.returns-in_err-fill_string
returns-in_err-fill_string c = λ trees p bounds inflated t state frame rest called offset is units there frames.
    undone trees p bounds inflated t c.args.shared.now c.args.stack.now state frame rest called c.args.operands c.args.next offset is frames c.args.under c.args.units.now units there
    c.in_err-fill_string.field-0.0 c.fill_string.new.heap c.in_err-fill_string.ensures.err c.from_residual.result c.from_residual.ensures.1

pub returns : goal.returns
returns c = λ trees p bounds inflated t state frame rest called offset is units there frames.
    done trees p bounds inflated t c.args.shared.now c.args.stack.now state frame rest called c.args.operands c.args.next offset is frames c.args.under c.args.units.now units there
    c.object.result c.object.ensures c.fill_string.new.heap c.in_ok-fill_string.ensures.ok c.in_ok-fill_string.ensures.cells c.go_on.new.stack c.go_on.ensures
