use Rattle.std.proofs.Common.{◌<◌, ◌^◌, rules}
use Rattle.machine_instructions.proofs.thread_methods.Copies.{makes, raises, unmade}
use Rattle.machine_instructions.proofs.thread_methods.clones.clone.Goals as goal

pub returns-in_default : goal.returns-in_default
returns-in_default c = λ t trees bounds inflated state frame rest offset is frames.
    raises trees c.args.program.now bounds inflated t c.args.shared.now c.args.stack.now state frame rest c.args.operands c.args.next offset is frames c.classes_are_read.ensures.holds
    c.object-object.result c.object-object.ensures c.in_default.ensures

pub returns-in_err-copy : goal.returns-in_err-copy
returns-in_err-copy c = λ t trees bounds inflated state frame rest offset is frames.
    unmade trees c.args.program.now bounds inflated t c.args.shared.now c.args.stack.now state frame rest c.args.operands c.args.next offset is frames c.classes_are_read.ensures.holds
    c.object-object.result c.object-object.ensures c.in-Some.cells c.in-Some.ensures c.copy.new.heap c.in_err-copy.field-0.0 c.in_err-copy.ensures.err c.from_residual.result c.from_residual.ensures.1

pub returns : goal.returns
returns c = λ t trees bounds inflated state frame rest offset is frames.
    let fits : c.len-word.result < 2 ^ 32 = search (rules, c.len-word.type_inv) in
    makes trees c.args.program.now bounds inflated t c.args.shared.now c.args.stack.now state frame rest c.args.operands c.args.next offset is frames c.classes_are_read.ensures.holds
    c.object-object.result c.object-object.ensures c.in-Some.cells c.in-Some.ensures c.copy.new.heap c.in_ok-copy.ensures.ok c.len-word.result c.len-word.ensures.objects fits
    c.answer.result c.answer.new.stack c.answer.ensures
