use Rattle.waiting_circles.proofs.needs.Directs.{special_null, special_needs}
use Rattle.waiting_circles.proofs.needs.direct_calls.special_need.Goals as goal

pub returns-in_default : goal.returns-in_default
returns-in_default c = λ shared trees bounds inflated t state frame rest code site meaning is.
    special_null trees c.args.program.now bounds inflated t shared c.args.stack.now state frame rest code site meaning c.args.parameters c.args.method c.args.frames is c.in_default.ensures

pub returns : goal.returns
returns c = λ shared trees bounds inflated t state frame rest code site meaning is.
    special_needs trees c.args.program.now bounds inflated t shared c.args.stack.now state frame rest code site meaning c.args.parameters c.args.method c.args.frames is
    c.in-Some.object c.in-Some.ensures c.call_need.result c.call_need.ensures
