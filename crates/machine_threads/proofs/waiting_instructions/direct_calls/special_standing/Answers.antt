use Rattle.std.proofs.Common.{◌+◌, refl, sym, ap}
use Rattle.model.specs.Step.{is_enabled_by}
use Rattle.machine_state.specs.declared.answers.MachineException.TheVariants as exception
use Rattle.machine_state.specs.declared.answers.Effect.TheVariants as effect
use Rattle.machine_instructions.proofs.called_methods.Directs.{direct}
use Rattle.machine_threads.proofs.waiting_instructions.Enabled.{stands_same}
use Rattle.machine_threads.proofs.waiting_instructions.direct_calls.special_standing.Goals as goal

pub returns-in_default : goal.returns-in_default
returns-in_default c = λ trees bounds inflated state frame rest code site meaning is.
    ap is_enabled_by ((direct trees c.args.program.now bounds inflated c.args.thread c.args.shared.now c.args.stack.now state frame rest code site meaning c.args.parameters c.args.method is).null c.in_default.ensures c.args.frames 0 (effect.Raises exception.NullPointer) refl).0

pub returns : goal.returns
returns c = λ trees bounds inflated state frame rest code site meaning is.
    let d = direct trees c.args.program.now bounds inflated c.args.thread c.args.shared.now c.args.stack.now state frame rest code site meaning c.args.parameters c.args.method is in
    stands_same c.call_standing.result c.args.frames _ _
    (λ n. sym (d.event c.in-Some.object c.in-Some.ensures (c.args.parameters + 1) refl n 0))
    (c.call_standing.ensures trees bounds inflated state frame rest site (d.chosen c.in-Some.object) (c.args.parameters + 1) (d.invokes c.in-Some.object c.in-Some.ensures (c.args.parameters + 1) refl))
