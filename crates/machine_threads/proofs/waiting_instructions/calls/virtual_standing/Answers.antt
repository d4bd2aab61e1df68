use Rattle.std.proofs.Common.{◌+◌, refl, sym, ap}
use Rattle.model.specs.Step.{is_enabled_by}
use Rattle.machine_state.specs.declared.answers.MachineException.TheVariants as exception
use Rattle.machine_state.specs.declared.answers.Effect.TheVariants as effect
use Rattle.machine_instructions.proofs.called_methods.Receivers.{virtual_null, virtual_some, virtual_event, virtual_invoking, chosen_virtual}
use Rattle.machine_threads.proofs.waiting_instructions.Enabled.{stands_same}
use Rattle.machine_threads.proofs.waiting_instructions.calls.virtual_standing.Goals as goal

pub returns-in_default : goal.returns-in_default
returns-in_default c = λ trees bounds inflated state frame rest code site meaning is.
    ap is_enabled_by (virtual_null trees c.args.program.now bounds inflated c.args.thread c.args.shared.now c.args.stack.now state frame rest code site meaning c.args.parameters c.args.place is c.in_default.ensures c.args.frames 0 (effect.Raises exception.NullPointer) refl).0

pub returns-in_default-virtual_method : goal.returns-in_default-virtual_method
returns-in_default-virtual_method c = λ trees bounds inflated state frame rest code site meaning is.
    absurd (virtual_some trees c.args.program.now bounds inflated c.args.thread c.args.shared.now c.args.stack.now state frame rest code site meaning c.args.parameters c.args.place is c.in-Some.object c.in-Some.ensures c.in_default-virtual_method.ensures)

pub returns : goal.returns
returns c = λ trees bounds inflated state frame rest code site meaning is.
    let p = c.args.program.now in
    let t = c.args.thread in
    let old = c.args.shared.now in
    let from = c.args.stack.now in
    stands_same c.call_standing.result c.args.frames _ _
    (λ n. sym (virtual_event trees p bounds inflated t old from state frame rest code site meaning c.args.parameters c.args.place is c.in-Some.object c.in-Some.ensures (c.args.parameters + 1) refl n 0))
    (c.call_standing.ensures trees bounds inflated state frame rest site
    (chosen_virtual trees p bounds inflated t old from state frame rest code site meaning c.args.parameters c.args.place is c.in-Some.object) (c.args.parameters + 1)
    (virtual_invoking trees p bounds inflated t old from state frame rest code site meaning c.args.parameters c.args.place is c.in-Some.object c.in-Some.ensures c.in-Some-virtual_method.method c.in-Some-virtual_method.ensures (c.args.parameters + 1) refl))
