use Rattle.machine_instructions.proofs.called_methods.Receivers.{virtual_some}
use Rattle.waiting_circles.proofs.needs.Receivers.{virtual_null, virtual_needs}
use Rattle.waiting_circles.proofs.needs.calls.virtual_need.Goals as goal

pub returns-in_default : goal.returns-in_default
returns-in_default c = λ trees bounds inflated t state frame rest code site meaning is.
    virtual_null trees c.args.program.now bounds inflated t c.args.shared.now c.args.stack.now state frame rest code site meaning c.args.parameters c.args.frames c.args.place is c.in_default.ensures

pub returns-in_default-virtual_method : goal.returns-in_default-virtual_method
returns-in_default-virtual_method c = λ trees bounds inflated t state frame rest code site meaning is.
    absurd (virtual_some trees c.args.program.now bounds inflated t c.args.shared.now c.args.stack.now state frame rest code site meaning c.args.parameters c.args.place is c.in-Some.object c.in-Some.ensures c.in_default-virtual_method.ensures)

pub returns : goal.returns
returns c = λ trees bounds inflated t state frame rest code site meaning is.
    virtual_needs trees c.args.program.now bounds inflated t c.args.shared.now c.args.stack.now state frame rest code site meaning c.args.parameters c.args.frames c.args.place is
    c.in-Some.object c.in-Some.ensures c.in-Some-virtual_method.method c.in-Some-virtual_method.ensures c.call_need.result c.call_need.ensures
