use Rattle.std.proofs.Common.{take, drop, refl, sym, ap, subst}
use Rattle.model.specs.BuiltInMethods.{built_in_does}
use Rattle.model.specs.Operands.{words}
use Rattle.model.specs.Step.{enabled_if, become}
use Rattle.run_laws.specs.word_operands.Receivers.{is_any}
use Rattle.linked_code.specs.Methods.{built_in_of}
use Rattle.machine_instructions.specs.thread_methods.Called.{AreArguments, DoesCall}
use Rattle.machine_instructions.proofs.thread_methods.There.{receiver_there}
use Rattle.machine_instructions.proofs.thread_methods.Unpicked.{not_notify}
use Rattle.machine_instructions.proofs.thread_methods.called.run_built_in.Goals as goal

pub returns-then-pick-eq0 : goal.returns-then-pick-eq0
returns-then-pick-eq0 c =
    subst (λ n. DoesCall c.args.program.now c.args.method c.args.operands c.args.next (record { thread = c.args.event.thread; pick = n }) c.run_unpicked.result c.args.shared.now c.run_unpicked.new.shared c.args.stack.now c.run_unpicked.new.stack)
    (sym c.if-pick-eq0.true) c.run_unpicked.ensures

pub notify-requires : goal.notify-requires
notify-requires c = let r = c.requires in
    receiver_there r.trees r.p r.bounds r.inflated c.args.event.thread c.args.shared.now c.args.stack.now r.state r.frame r.rest _ c.args.operands c.args.next r.offset r.is is_any
    (subst (AreArguments r.trees r.state.world.heap (take c.args.operands r.frame.place.slots.stack)) c.in-ObjectNotify.is r.is.arguments)

pub returns-in_default : goal.returns-in_default
returns-in_default c = λ trees bounds inflated state frame rest offset is frames. (
  ap (λ b. enabled_if b (become words trees frames c.args.event.thread state.world frame rest
      (built_in_does words trees (built_in_of c.args.method) offset c.args.event state.world frame.place.slots (take c.args.operands frame.place.slots.stack) (drop c.args.operands frame.place.slots.stack))))
      (not_notify c.args.method c.in_default.not-ObjectNotify c.args.event c.if-pick-eq0.false state.world (take c.args.operands frame.place.slots.stack)),
  record { shared = refl; stack = refl },
)
