use Rattle.std.proofs.Common.{refl, sym}
use Rattle.model.specs.Calls.{Runs}
use Rattle.machine_instructions.proofs.called_methods.Statics.{callee, invoking, static_event}
use Rattle.machine_threads.proofs.waiting_instructions.Enabled.{stands_same}
use Rattle.machine_threads.proofs.waiting_instructions.direct_calls.static_standing.Goals as goal

pub returns : goal.returns
returns c = λ parameters class trees bounds inflated state frame rest code site meaning is.
    let p = c.args.program.now in
    let t = c.args.thread in
    let old = c.args.shared.now in
    let from = c.args.stack.now in
    stands_same c.call_standing.result c.args.frames _ _
    (λ n. sym (static_event trees p bounds inflated t old from state frame rest code site meaning parameters class c.args.method is c.class_object-object.result c.class_object-object.ensures parameters refl n 0))
    (c.call_standing.ensures trees bounds inflated state frame rest site (Runs (callee trees p bounds inflated t old from state frame rest code site meaning parameters class c.args.method is)) parameters
    (invoking trees p bounds inflated t old from state frame rest code site meaning parameters class c.args.method is c.class_object-object.result c.class_object-object.ensures parameters refl))
