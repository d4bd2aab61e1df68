use Rattle.std.proofs.Common.{suc, ap, ◌∙◌, arith}
use Rattle.model.specs.Worlds.{thread_at}
use Rattle.linked_code.specs.declared.method.BuiltInMethod.TheVariants as method
use Rattle.machine_instructions.proofs.thread_methods.Calls.{answered, row_is}
use Rattle.machine_instructions.proofs.thread_methods.lives.current_thread.Goals as goal

pub returns : goal.returns
returns c = λ p trees bounds inflated state frame rest offset is frames.
    answered trees p bounds inflated c.args.thread c.args.shared.now c.args.stack.now state frame rest method.ThreadCurrentThread c.args.operands c.args.next offset is
    c.reference.result (suc (thread_at state.world c.args.thread).object)
    (c.reference.ensures ∙ omega arith ∙ ap suc (c.object-object.ensures ∙ row_is trees p bounds inflated c.args.thread c.args.shared.now c.args.stack.now state frame rest method.ThreadCurrentThread c.args.operands c.args.next offset is (λ row. row.object)))
    c.answer.result c.answer.new.stack c.answer.ensures
