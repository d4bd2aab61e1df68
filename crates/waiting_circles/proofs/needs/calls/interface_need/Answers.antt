use Rattle.waiting_circles.proofs.needs.Receivers.{interface_null, interface_missing, interface_needs}
use Rattle.waiting_circles.proofs.needs.calls.interface_need.Goals as goal

pub returns-in_default : goal.returns-in_default
returns-in_default c = λ trees bounds inflated t state frame rest code site meaning is.
    interface_null trees c.args.program.now bounds inflated t c.args.shared.now c.args.stack.now state frame rest code site meaning c.args.parameters c.args.frames c.args.selector is c.in_default.ensures

pub returns-in_default-interface_method : goal.returns-in_default-interface_method
returns-in_default-interface_method c = λ trees bounds inflated t state frame rest code site meaning is.
    interface_missing trees c.args.program.now bounds inflated t c.args.shared.now c.args.stack.now state frame rest code site meaning c.args.parameters c.args.frames c.args.selector is
    c.in-Some.object c.in-Some.ensures c.in_default-interface_method.ensures

pub returns : goal.returns
returns c = λ trees bounds inflated t state frame rest code site meaning is.
    interface_needs trees c.args.program.now bounds inflated t c.args.shared.now c.args.stack.now state frame rest code site meaning c.args.parameters c.args.frames c.args.selector is
    c.in-Some.object c.in-Some.ensures c.in-Some-interface_method.method c.in-Some-interface_method.ensures c.call_need.result c.call_need.ensures
