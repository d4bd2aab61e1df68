use Rattle.std.proofs.Common.{ℕ, false, length, refl, ap, ◌∙◌}
use Rattle.std.proofs.lemmas.List.{length-set}
use Rattle.model.specs.BuiltInMethods.{bit}
use Rattle.model.specs.State.{WorldOf}
use Rattle.model.specs.Worlds.{thread_at, with_interrupted}
use Rattle.linked_code.specs.declared.method.BuiltInMethod.TheVariants as method
use Rattle.machine_state.proofs.entries.Changing.{threads_shown}
use Rattle.machine_instructions.proofs.thread_methods.Calls.{passed, lacks, row_is}
use Rattle.machine_instructions.proofs.thread_methods.lives.take_interrupted.Goals as goal

pub returns : goal.returns
returns c = λ p trees bounds inflated state frame rest offset is frames.
    let new = record c.args.shared.now { threads = c.set_interrupted.new.threads } in
    passed trees p bounds inflated c.args.thread c.args.shared.now c.args.stack.now state frame rest method.ThreadInterrupted c.args.operands c.args.next offset is c.in_ok-done.done
    c.word_of.result (bit (thread_at state.world c.args.thread).interrupted)
    (c.word_of.ensures ∙ ap bit (c.interrupted-interrupted.ensures ∙ row_is trees p bounds inflated c.args.thread c.args.shared.now c.args.stack.now state frame rest method.ThreadInterrupted c.args.operands c.args.next offset is (λ row. row.interrupted)))
    c.answer.new.stack c.in_ok-done.ensures
    (with_interrupted state.world c.args.thread false) new
    (threads_shown trees p bounds state.world c.args.shared.now new is.lent.represents (λ world. with_interrupted world c.args.thread false) c.set_interrupted.ensures refl)
    refl refl
    (ap (λ (w : WorldOf ℕ). length w.threads) (c.set_interrupted.ensures.world state.world) ∙ length-set c.args.shared.now.threads.threads c.args.thread _)

pub returns-in_err-done : goal.returns-in_err-done
returns-in_err-done c = λ p trees bounds inflated state frame rest offset is frames.
    lacks trees p bounds inflated c.args.thread c.args.shared.now c.args.stack.now state frame rest method.ThreadInterrupted c.args.operands c.args.next offset is
    c.word_of.result c.in_err-done.field-0.0 c.answer.new.stack c.in_err-done.ensures
    (with_interrupted state.world c.args.thread false) (bit (thread_at state.world c.args.thread).interrupted) c.from_residual.result c.from_residual.ensures.1
