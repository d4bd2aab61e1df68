use Rattle.std.proofs.Common.{ap, sym, subst, take, drop, ◌∙◌}
use Rattle.model.specs.BuiltInMethods.{built_in_does}
use Rattle.model.specs.Operands.{words}
use Rattle.model.specs.Step.{is_enabled_by, enabled_if, become}
use Rattle.linked_code.specs.Methods.{built_in_of}
use Rattle.machine_state.specs.linked_frames.Frames.{event_of}
use Rattle.machine_threads.specs.waiting_instructions.Held.{StandsInBuiltIn}
use Rattle.machine_threads.proofs.waiting_instructions.Quick.{stays_enabled}
use Rattle.machine_threads.proofs.waiting_instructions.BuiltIns.{built_in_stays, built_in_allowed}
use Rattle.machine_threads.proofs.waiting_instructions.methods.built_in_standing.Goals as goal

pub returns-in-ThreadJoin : goal.returns-in-ThreadJoin
returns-in-ThreadJoin c = subst (λ m. StandsInBuiltIn m c.args.thread c.join_standing.result c.args.shared.now c.args.stack.now) (sym c.in-ThreadJoin.is) c.join_standing.ensures

pub returns-in_default : goal.returns-in_default
returns-in_default c = λ trees p bounds inflated state frame rest count next offset frames is.
    let ops = take count frame.place.slots.stack in
    let does = built_in_does words trees (built_in_of c.args.method) offset (event_of c.args.thread) state.world frame.place.slots ops (drop count frame.place.slots.stack) in
    ap (λ b. is_enabled_by (enabled_if b (become words trees frames c.args.thread state.world frame rest does))) (built_in_allowed c.args.method c.in_default.not-ThreadJoin c.args.thread state.world ops)
    ∙ stays_enabled trees frames c.args.thread state.world frame rest does (built_in_stays trees (built_in_of c.args.method) offset c.args.thread state.world frame.place.slots ops (drop count frame.place.slots.stack))
