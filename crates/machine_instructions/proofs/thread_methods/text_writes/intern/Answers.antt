use Rattle.std.proofs.Common.{◌≡◌, ◌++◌, ◌∷◌, [], arith, Some, None, refl, sym, ap, subst, ◌∙◌}
use Rattle.model.specs.declared.text_method.TextMethod.TheVariants as asks
use Rattle.model.specs.TextMethods.{StandsFor, if_there}
use Rattle.machine_instructions.specs.thread_methods.TextWrites.{standing_in}
use Rattle.machine_instructions.proofs.thread_methods.InternCalls.{gives_found, gives_receiver, lacks_row}
use Rattle.machine_instructions.proofs.thread_methods.TextWriteCalls.{raises_null, text_read}
use Rattle.machine_instructions.proofs.thread_methods.text_writes.intern.Goals as goal

pub returns-in_default : goal.returns-in_default
returns-in_default c = λ t trees bounds inflated state frame rest offset is frames.
    let p = c.args.program.now in
    let none = c.in_default.ensures ∙ text_read trees p bounds inflated t c.args.shared.now c.args.stack.now state frame rest asks.Intern c.args.operands c.args.next offset is frames 0 (omega arith) in
    raises_null trees p bounds inflated t c.args.shared.now c.args.stack.now state frame rest asks.Intern c.args.operands c.args.next offset is frames (ap (λ o. if_there o StandsFor) (sym none))

pub returns-in-Some-standing_for : goal.returns-in-Some-standing_for
returns-in-Some-standing_for c = λ t trees bounds inflated state frame rest offset is frames.
    gives_found trees c.args.program.now bounds inflated t c.args.shared.now c.args.stack.now state frame rest c.args.operands c.args.next offset is frames c.in-Some.text.now c.in-Some.ensures
    c.in-Some-standing_for.string (c.in-Some-standing_for.ensures ∙ ap (λ l. standing_in c.args.program.now c.args.shared.now.heap.objects l c.in-Some.text.now) c.deref.ensures.value)
    c.word_of-word.result c.word_of-word.ensures.there c.answer.result c.answer.new.stack c.answer.ensures

pub returns-in_err-spare-in-None : goal.returns-in_err-spare-in-None
returns-in_err-spare-in-None c = λ t trees bounds inflated state frame rest offset is frames.
    lacks_row trees c.args.program.now bounds inflated t c.args.shared.now c.args.stack.now state frame rest c.args.operands c.args.next offset is frames c.in-Some.text.now c.in-Some.ensures
    (c.in-None.ensures ∙ ap (λ l. standing_in c.args.program.now c.args.shared.now.heap.objects l c.in-Some.text.now) c.deref.ensures.value)
    c.from_residual.result c.from_residual.ensures.1

pub returns-in_ok-spare-in-None : goal.returns-in_ok-spare-in-None
returns-in_ok-spare-in-None c = λ t trees bounds inflated state frame rest offset is frames.
    gives_receiver trees c.args.program.now bounds inflated t c.args.shared.now c.args.stack.now state frame rest c.args.operands c.args.next offset is frames c.in-Some.text.now c.in-Some.ensures
    (c.in-None.ensures ∙ ap (λ l. standing_in c.args.program.now c.args.shared.now.heap.objects l c.in-Some.text.now) c.deref.ensures.value)
    c.object.result c.object.ensures c.add.new.items c.add.ensures c.operand-word.result c.operand-word.ensures c.answer-in-None.result c.answer-in-None.new.stack c.answer-in-None.ensures
