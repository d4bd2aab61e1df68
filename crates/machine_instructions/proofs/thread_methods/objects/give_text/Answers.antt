use Rattle.std.proofs.Common.{◌<◌, ◌^◌, rules}
use Rattle.machine_instructions.proofs.thread_methods.TextCalls.{makes, unmade}
use Rattle.machine_instructions.proofs.thread_methods.objects.give_text.Goals as goal

pub returns-in_err-add_string : goal.returns-in_err-add_string
returns-in_err-add_string c = λ trees p bounds inflated t state frame rest called offset is units some frames.
    unmade trees p bounds inflated t c.args.shared.now c.args.stack.now state frame rest called c.args.operands c.args.next offset is frames c.args.text.now units some
    c.add_string.new.heap c.in_err-add_string.field-0.0 c.in_err-add_string.ensures.err c.from_residual.result c.from_residual.ensures.1

pub returns : goal.returns
returns c = λ trees p bounds inflated t state frame rest called offset is units some frames.
    let added = c.in_ok-add_string.ensures in
    let fits : c.len-word.result < 2 ^ 32 = search (rules, c.len-word.type_inv) in
    makes trees p bounds inflated t c.args.shared.now c.args.stack.now state frame rest called c.args.operands c.args.next offset is frames c.args.text.now units some
    c.add_string.new.heap added.ok added.opened added.objects added.cells c.len-word.result c.len-word.ensures.objects fits
    c.answer.result c.answer.new.stack c.answer.ensures
