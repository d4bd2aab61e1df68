use Rattle.std.proofs.Common.{take, sym, subst, ⊎_elim}
use Rattle.run_laws.specs.word_operands.Receivers.{is_any}
use Rattle.machine_instructions.specs.thread_methods.Called.{AreArguments, DoesCall}
use Rattle.machine_instructions.proofs.thread_methods.There.{receiver_there, statuses_within, thread_there}
use Rattle.machine_instructions.proofs.thread_methods.called.run_unpicked.Goals as goal

-- src/called.rt
pub wait-requires-clause-started : goal.wait-requires-clause-started
wait-requires-clause-started c = let r = c.requires in (thread_there r.trees r.p r.bounds r.inflated c.args.thread c.args.shared.now c.args.stack.now r.state r.frame r.rest _ c.args.operands c.args.next r.offset r.is).0

pub notify-requires : goal.notify-requires
notify-requires c = let r = c.requires in
    receiver_there r.trees r.p r.bounds r.inflated c.args.thread c.args.shared.now c.args.stack.now r.state r.frame r.rest _ c.args.operands c.args.next r.offset r.is is_any
    (subst (AreArguments r.trees r.state.world.heap (take c.args.operands r.frame.place.slots.stack)) c.in-ObjectNotify.is r.is.arguments)

pub notify_all-requires : goal.notify_all-requires
notify_all-requires c = let r = c.requires in
    receiver_there r.trees r.p r.bounds r.inflated c.args.thread c.args.shared.now c.args.stack.now r.state r.frame r.rest _ c.args.operands c.args.next r.offset r.is is_any
    (subst (AreArguments r.trees r.state.world.heap (take c.args.operands r.frame.place.slots.stack)) c.in-ObjectNotifyAll.is r.is.arguments)

pub interrupt-requires : goal.interrupt-requires
interrupt-requires c = let r = c.requires in statuses_within r.trees r.p r.bounds r.inflated c.args.thread c.args.shared.now c.args.stack.now r.state r.frame r.rest _ c.args.operands c.args.next r.offset r.is

pub current_thread-requires : goal.current_thread-requires
current_thread-requires c = let r = c.requires in (thread_there r.trees r.p r.bounds r.inflated c.args.thread c.args.shared.now c.args.stack.now r.state r.frame r.rest _ c.args.operands c.args.next r.offset r.is).1

pub returns-in-Construct : goal.returns-in-Construct
returns-in-Construct c =
    ⊎_elim
    (λ is. subst (λ m. DoesCall c.args.program.now m c.args.operands c.args.next (record { thread = c.args.thread; pick = 0 }) c.pass.result c.args.shared.now c.args.shared.now c.args.stack.now c.pass.new.stack)
    (sym is) (c.pass.ensures.construct c.args.shared.now c.args.thread c.args.program.now))
    (λ is. subst (λ m. DoesCall c.args.program.now m c.args.operands c.args.next (record { thread = c.args.thread; pick = 0 }) c.pass.result c.args.shared.now c.args.shared.now c.args.stack.now c.pass.new.stack)
    (sym is) (c.pass.ensures.yields c.args.shared.now c.args.thread c.args.program.now))
    c.in-Construct.is

pub returns-in-ObjectClone : goal.returns-in-ObjectClone
returns-in-ObjectClone c =
    subst (λ m. DoesCall c.args.program.now m c.args.operands c.args.next (record { thread = c.args.thread; pick = 0 }) c.clone.result c.args.shared.now c.clone.new.shared c.args.stack.now c.clone.new.stack)
    (sym c.in-ObjectClone.is) (c.clone.ensures c.args.thread)

pub returns-in-ThreadNames : goal.returns-in-ThreadNames
returns-in-ThreadNames c =
    subst (λ m. DoesCall c.args.program.now m c.args.operands c.args.next (record { thread = c.args.thread; pick = 0 }) c.name_call.result c.args.shared.now c.name_call.new.shared c.args.stack.now c.name_call.new.stack)
    (sym c.in-ThreadNames.is) (c.name_call.ensures c.args.thread c.args.program.now)

pub returns-in-StringWrites : goal.returns-in-StringWrites
returns-in-StringWrites c =
    subst (λ m. DoesCall c.args.program.now m c.args.operands c.args.next (record { thread = c.args.thread; pick = 0 }) c.write_call.result c.args.shared.now c.write_call.new.shared c.args.stack.now c.write_call.new.stack)
    (sym c.in-StringWrites.is) (c.write_call.ensures c.args.thread)

pub returns-in-ObjectWait : goal.returns-in-ObjectWait
returns-in-ObjectWait c =
    subst (λ m. DoesCall c.args.program.now m c.args.operands c.args.next (record { thread = c.args.thread; pick = 0 }) c.wait.result c.args.shared.now c.wait.new.shared c.args.stack.now c.wait.new.stack)
    (sym c.in-ObjectWait.is) (c.wait.ensures c.args.program.now)

pub returns-in-ThreadStart : goal.returns-in-ThreadStart
returns-in-ThreadStart c =
    subst (λ m. DoesCall c.args.program.now m c.args.operands c.args.next (record { thread = c.args.thread; pick = 0 }) c.start.result c.args.shared.now c.start.new.shared c.args.stack.now c.start.new.stack)
    (sym c.in-ThreadStart.is) (c.start.ensures c.args.thread c.args.program.now)

pub returns-in-ThreadInterrupt : goal.returns-in-ThreadInterrupt
returns-in-ThreadInterrupt c =
    subst (λ m. DoesCall c.args.program.now m c.args.operands c.args.next (record { thread = c.args.thread; pick = 0 }) c.interrupt.result c.args.shared.now c.interrupt.new.shared c.args.stack.now c.interrupt.new.stack)
    (sym c.in-ThreadInterrupt.is) (c.interrupt.ensures c.args.thread c.args.program.now)

pub returns-in-ThreadIsInterrupted : goal.returns-in-ThreadIsInterrupted
returns-in-ThreadIsInterrupted c =
    subst (λ m. DoesCall c.args.program.now m c.args.operands c.args.next (record { thread = c.args.thread; pick = 0 }) c.ask_interrupted.result c.args.shared.now c.args.shared.now c.args.stack.now c.ask_interrupted.new.stack)
    (sym c.in-ThreadIsInterrupted.is) (c.ask_interrupted.ensures c.args.thread c.args.program.now)

pub returns-in-ThreadInterrupted : goal.returns-in-ThreadInterrupted
returns-in-ThreadInterrupted c =
    subst (λ m. DoesCall c.args.program.now m c.args.operands c.args.next (record { thread = c.args.thread; pick = 0 }) c.take_interrupted.result c.args.shared.now c.take_interrupted.new.shared c.args.stack.now c.take_interrupted.new.stack)
    (sym c.in-ThreadInterrupted.is) (c.take_interrupted.ensures c.args.program.now)

pub returns-in-ThreadCurrentThread : goal.returns-in-ThreadCurrentThread
returns-in-ThreadCurrentThread c =
    subst (λ m. DoesCall c.args.program.now m c.args.operands c.args.next (record { thread = c.args.thread; pick = 0 }) c.current_thread.result c.args.shared.now c.args.shared.now c.args.stack.now c.current_thread.new.stack)
    (sym c.in-ThreadCurrentThread.is) (c.current_thread.ensures c.args.program.now)

pub returns-in-ThreadJoin : goal.returns-in-ThreadJoin
returns-in-ThreadJoin c =
    subst (λ m. DoesCall c.args.program.now m c.args.operands c.args.next (record { thread = c.args.thread; pick = 0 }) c.join.result c.args.shared.now c.args.shared.now c.args.stack.now c.join.new.stack)
    (sym c.in-ThreadJoin.is) (c.join.ensures c.args.program.now)

pub returns-in-ThreadIsAlive : goal.returns-in-ThreadIsAlive
returns-in-ThreadIsAlive c =
    subst (λ m. DoesCall c.args.program.now m c.args.operands c.args.next (record { thread = c.args.thread; pick = 0 }) c.ask_alive.result c.args.shared.now c.args.shared.now c.args.stack.now c.ask_alive.new.stack)
    (sym c.in-ThreadIsAlive.is) (c.ask_alive.ensures c.args.thread c.args.program.now)

pub returns-in-PrintStreamPrints : goal.returns-in-PrintStreamPrints
returns-in-PrintStreamPrints c =
    subst (λ m. DoesCall c.args.program.now m c.args.operands c.args.next (record { thread = c.args.thread; pick = 0 }) c.print.result c.args.shared.now c.print.new.shared c.args.stack.now c.print.new.stack)
    (sym c.in-PrintStreamPrints.is) (c.print.ensures c.args.thread c.args.program.now)

pub returns-in-StringAnswers : goal.returns-in-StringAnswers
returns-in-StringAnswers c =
    subst (λ m. DoesCall c.args.program.now m c.args.operands c.args.next (record { thread = c.args.thread; pick = 0 }) c.answer_call.result c.args.shared.now c.answer_call.new.shared c.args.stack.now c.answer_call.new.stack)
    (sym c.in-StringAnswers.is) (c.answer_call.ensures c.args.thread c.args.program.now)

pub returns-in-StringBuilderBuilds : goal.returns-in-StringBuilderBuilds
returns-in-StringBuilderBuilds c =
    subst (λ m. DoesCall c.args.program.now m c.args.operands c.args.next (record { thread = c.args.thread; pick = 0 }) c.build.result c.args.shared.now c.build.new.shared c.args.stack.now c.build.new.stack)
    (sym c.in-StringBuilderBuilds.is) (c.build.ensures c.args.thread)

pub returns-in-ConstructWithMessage : goal.returns-in-ConstructWithMessage
returns-in-ConstructWithMessage c =
    subst (λ m. DoesCall c.args.program.now m c.args.operands c.args.next (record { thread = c.args.thread; pick = 0 }) c.set_message.result c.args.shared.now c.set_message.new.shared c.args.stack.now c.set_message.new.stack)
    (sym c.in-ConstructWithMessage.is) (c.set_message.ensures c.args.thread c.args.program.now)

pub returns-in-ConstructWithCause : goal.returns-in-ConstructWithCause
returns-in-ConstructWithCause c =
    subst (λ m. DoesCall c.args.program.now m c.args.operands c.args.next (record { thread = c.args.thread; pick = 0 }) c.set_cause.result c.args.shared.now c.set_cause.new.shared c.args.stack.now c.set_cause.new.stack)
    (sym c.in-ConstructWithCause.is) (c.set_cause.ensures c.args.thread c.args.program.now)

pub returns-in-ObjectAnswers : goal.returns-in-ObjectAnswers
returns-in-ObjectAnswers c =
    subst (λ m. DoesCall c.args.program.now m c.args.operands c.args.next (record { thread = c.args.thread; pick = 0 }) c.answer_call-in-ObjectAnswers.result c.args.shared.now c.answer_call-in-ObjectAnswers.new.shared c.args.stack.now c.answer_call-in-ObjectAnswers.new.stack)
    (sym c.in-ObjectAnswers.is) (c.answer_call-in-ObjectAnswers.ensures c.args.thread)
