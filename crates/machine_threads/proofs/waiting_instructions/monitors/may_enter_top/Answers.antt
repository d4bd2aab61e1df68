use Rattle.std.proofs.Common.{Some, None, sym, ◌∙◌}
use Rattle.machine_threads.proofs.waiting_instructions.Tops.{may_top, top_there, says_top}
use Rattle.machine_threads.proofs.waiting_instructions.monitors.may_enter_top.Goals as goal

pub returns-in-Some : goal.returns-in-Some
returns-in-Some c = λ trees p bounds inflated state frame rest code site meaning is.
    let found = sym c.in-Some.is ∙ c.receiver.ensures in
    may_top trees p bounds inflated c.args.thread c.args.shared.now c.args.stack.now state frame rest code site meaning is (Some c.in-Some.object) found
    ∙ says_top trees p bounds inflated c.args.thread c.args.shared.now c.args.stack.now state frame rest code site meaning is c.in-Some.object c.may_enter_there.result
    (c.may_enter_there.ensures (top_there trees p bounds inflated c.args.thread c.args.shared.now c.args.stack.now state frame rest code site meaning is c.in-Some.object found))

pub returns-in-None : goal.returns-in-None
returns-in-None c = λ trees p bounds inflated state frame rest code site meaning is.
    may_top trees p bounds inflated c.args.thread c.args.shared.now c.args.stack.now state frame rest code site meaning is None (sym c.in-None.is ∙ c.receiver.ensures)
