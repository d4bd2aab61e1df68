use Rattle.model.specs.BuiltInMethods.{bit, object_of}
use Rattle.model.specs.Operands.{words}
use Rattle.model.specs.Worlds.{is_interrupted}
use Rattle.std.proofs.Common.{take, ap, ◌∙◌}
use Rattle.run_laws.specs.word_operands.Receivers.{is_any}
use Rattle.linked_code.specs.declared.method.BuiltInMethod.TheVariants as method
use Rattle.machine_instructions.proofs.thread_methods.Calls.{answered, says}
use Rattle.machine_instructions.proofs.thread_methods.lives.ask_interrupted.Goals as goal

pub returns : goal.returns
returns c = λ t p trees bounds inflated state frame rest offset is frames.
    answered trees p bounds inflated t c.args.shared.now c.args.stack.now state frame rest method.ThreadIsInterrupted c.args.operands c.args.next offset is
    c.word_of.result (bit (is_interrupted state.world (object_of words (take c.args.operands frame.place.slots.stack) 0)))
    (c.word_of.ensures ∙ ap bit (says trees p bounds inflated t c.args.shared.now c.args.stack.now state frame rest method.ThreadIsInterrupted c.args.operands c.args.next offset is is_any is.arguments c.object.result c.object.ensures (λ world object. is_interrupted world object) c.is_interrupted-interrupted.result (c.is_interrupted-interrupted.ensures state.world)))
    c.answer.result c.answer.new.stack c.answer.ensures
